use Rattle.std.proofs.lemmas.Grind.{common_steps}
use Rattle.std.proofs.Common.{◌≡◌, ◌+◌, ◌||◌, ◌∙◌, ℕ, Bool, true, false, List, refl, ap, arith, length}
use Rattle.std.proofs.lemmas.Bool.{leb-true}
use Rattle.std.specs.Prelude.{MatchOption, ⊤}
use Rattle.std.specs.Bool.{then_some}
use Rattle.ballot_base.specs.CandSet.{common_members, either_members, has_member}
use Rattle.ballot_base.specs.Lists.{IsIncreasing}
use Rattle.ballot_base.proofs.Increasing.{IsIncreasing-either, IsIncreasing-filter, has_member-either, has_member-filter}
use Rattle.row_multipliers.specs.Completions.{IsCompletion, IsNode, IsReaching}
use Rattle.tie_walk.specs.Values.{closeness}
use Rattle.minimax_search.proofs.minimax.MinimaxSearch.reached.Goals as goal

if-true : (P : List ℕ → Type 0) (holds : Bool) (set : List ℕ) → (holds ≡ true → P set) → MatchOption (then_some holds set) ⊤ P
if-true P true set is = is refl
if-true P false set is = tt

-- a set, and some of the free candidates
module _ (m : ℕ) (set free members : List ℕ) (is_node : IsNode m set free) where
  abbrev joined : List ℕ
  joined = common_members free members

  joined-rises : IsIncreasing 1 m (either_members set joined)
  joined-rises = IsIncreasing-either 1 m set joined is_node.set_within (IsIncreasing-filter (has_member members) 1 m free is_node.free_within)

  joined-completes : (left : ℕ) → length (either_members set joined) ≡ length set + left → IsCompletion m set free left (either_members set joined)
  joined-completes left size = record {
    candidates = joined-rises;
    whole = λ n is. has_member-either set joined n ∙ ap (λ b. b || has_member joined n) is;
    within = λ n is. grind (arith, common_steps, is, has_member-either set joined n, has_member-filter (has_member members) free n);
    size = size;
  }

pub value-requires : goal.value-requires
value-requires g c =
    rw (c.union-committee.ensures, c.common.ensures) (joined-rises c.args.self.now.m c.args.node.now.set c.args.node.now.free c.in_ok-members.members c.requires.is_node)

pub returns : goal.returns
returns g c =
    let e = c.args.self.now in
    let node = c.args.node.now in
    let committee = c.union-committee.result in
    let joins : committee ≡ either_members node.set (common_members node.free c.in_ok-members.members) = c.union-committee.ensures ∙ ap (either_members node.set) c.common.ensures in
    let size : length committee ≡ length node.set + node.left =
    omega (arith, c.if-from-size.false, c.len.ensures.count, c.len-2.ensures.count, c.from-2.ensures, c.from-3.ensures, c.from-4.ensures) in
    rw c.then_some.ensures (if-true (IsReaching (closeness e.m e.rows) e.m node.set node.free node.left c.args.least) _ committee (λ is. record {
      completes = rw joins (joined-completes e.m node.set node.free c.in_ok-members.members c.requires.is_node node.left (rw joins at size));
      reaches = omega (arith, leb-true c.args.least c.value.result is, c.value.ensures);
    }))
