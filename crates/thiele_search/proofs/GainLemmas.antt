-- The bound of a node by gains, under a Thiele rule.
use Rattle.std.proofs.Common.{◌≡◌, ℕ, ◌+◌, ◌-◌, ◌≤◌, ◌==◌, ◌||◌, ◌∙◌, true, List, Option, [], ◌∷◌, ◌++◌, sym, ap, arith, get_or, sum_by}
use Rattle.std.proofs.lemmas.List.{append-nil}
use Rattle.std.proofs.Math.Bool.{or-false, or_comm}
use Rattle.std.proofs.lemmas.List.Folds.{list_any-append}
use Rattle.ballot_base.specs.Limits.{most_members, most_thiele_value, most_increments}
use Rattle.std.specs.Prelude.{MatchOption}
use Rattle.ballot_base.specs.CandSet.{common_members, has_member, with_member}
use Rattle.ballot_base.specs.Worths.{AreTooLow, AreWanted}
use Rattle.ballot_base.proofs.Increasing.{has_member-with_member}
use Rattle.tie_walk.specs.Ceilings.{IsSubmodular, gain_at}
use Rattle.ballot_base.specs.Ballots.{IsElection}
use Rattle.ballot_base.specs.Increments.{increments}
use Rattle.tie_walk.specs.Sequences.{gain}
use Rattle.tie_walk.specs.Values.{Thiele, tally_value}
use Rattle.tie_walk.proofs.Gains.{thiele-gain, thiele-most}
use Rattle.tie_walk.proofs.TableLemmas.{increments_sum-most, sum-take-le}
use Rattle.tie_walk.proofs.Submodular.{gains-bound, thiele_rule-submodular}
use Rattle.row_multipliers.specs.Completions.{IsCompletion, IsNode, IsOutOfReach}
use Rattle.row_multipliers.specs.Steps.Narrowed.{IsNarrowed}
use Rattle.row_multipliers.proofs.NarrowedLemmas.{narrowed-members}
use Rattle.row_multipliers.proofs.CompletionLemmas.{added, added-free, completion-members}
use Rattle.thiele_search.specs.Steps.Aided.{IsValued}
use Rattle.thiele_bounds.proofs.PairBounds.PairLemmas.{sum-less}
use Rattle.thiele_search.proofs.WholeLemmas.{thiele-same, value-with}

-- no value is too large to add to
value-most : (tally : Thiele) (set : List ℕ) → IsElection tally.election → tally.k ≤ most_members → tally_value tally set ≤ most_thiele_value
value-most tally set valid size =
    omega (
      arith,
      thiele-most tally.election (increments tally.rule tally.k) set most_increments valid
          (λ x. omega (arith, sum-take-le (increments tally.rule tally.k) x, increments_sum-most tally.rule tally.k size)),
    )

pub valued-small : (tally : Thiele) (set : List ℕ) (value : ℕ) → IsValued tally set value → value ≤ most_thiele_value
valued-small tally set value is = omega (arith, is.value_is, value-most tally set is.election is.size)

-- the value and a gain are the value of a larger set
pub valued-more : (tally : Thiele) (set free gains : List ℕ) (value n x : ℕ) → IsValued tally set value → IsNode tally.election.m set free → has_member free n ≡ true
    → ((y : ℕ) → has_member free y ≡ true → get_or gains y 0 ≡ gain (increments tally.rule tally.k) tally.election.rows set y) → x ≡ get_or gains n 0
    → IsValued tally (with_member set n) (value + x)
valued-more tally set free gains value n x is is_node here are same = record {
  election = is.election;
  size = is.size;
  value_is = omega (arith, is.value_is, same, are n here, value-with tally set n is.election (is_node.apart n here));
}

module _ (value : List ℕ → ℕ) (falls : IsSubmodular value) (same : (xs ys : List ℕ) → ((n : ℕ) → has_member xs n ≡ has_member ys n) → value xs ≡ value ys) where
  push-same : (set : List ℕ) (n : ℕ) → value (set ++ n ∷ []) ≡ value (with_member set n)
  push-same set n = same (set ++ n ∷ []) (with_member set n) (λ x.
      list_any-append (λ y. y == x) set (n ∷ []) ∙ ap (λ b. has_member set x || b) (or-false (n == x)) ∙ or_comm (has_member set x) (n == x) ∙ sym (has_member-with_member set n x))

  -- each member that is added brings its gain at most
  pub node-gains : (m : ℕ) (set free : List ℕ) (left : ℕ) (committee : List ℕ) → IsNode m set free → IsCompletion m set free left committee
      → value committee ≤ value set + sum_by (gain_at value set) (common_members free committee)
  node-gains m set free left committee is_node whole =
      let more = added m set free left committee is_node whole in
      let is : value committee ≡ value (set ++ more) = same committee (set ++ more) (completion-members m set free left committee is_node whole) in
      let none : set ++ [] ≡ set = append-nil set in
      let step : value (set ++ more) ≤ value set + sum_by (λ n. value (set ++ n ∷ []) - value set) more = rw none at (gains-bound value falls set [] more) in
      omega (arith, is, step, sum-less (λ n. value (set ++ n ∷ []) - value set) (gain_at value set) more (λ n in_. omega (arith, push-same set n)))

-- the gains at a set are those of the rule
pub gain-same : (tally : Thiele) (set free gains : List ℕ) → IsElection tally.election → IsNode tally.election.m set free
    → ((n : ℕ) → has_member free n ≡ true → get_or gains n 0 ≡ gain (increments tally.rule tally.k) tally.election.rows set n)
    → (n : ℕ) → has_member free n ≡ true → gain_at (tally_value tally) set n ≤ get_or gains n 0
gain-same tally set free gains valid is_node are n here =
    omega (arith, are n here, thiele-gain tally.election.m (increments tally.rule tally.k) tally.election.rows set n valid.ballots (is_node.apart n here))

-- who completes a set to a committee that reaches the value makes up what is missing
pub gains-pay : (tally : Thiele) (set free : List ℕ) (left least value : ℕ) (gains committee : List ℕ) → tally.k ≤ most_members → IsNode tally.election.m set free → value ≡ tally_value tally set
    → ((n : ℕ) → has_member free n ≡ true → gain_at (tally_value tally) set n ≤ get_or gains n 0)
    → IsCompletion tally.election.m set free left committee → least ≤ tally_value tally committee → least - value ≤ sum_by (λ n. get_or gains n 0) (common_members free committee)
gains-pay tally set free left least value gains committee size is_node is high whole reaches =
    let V = tally_value tally in
    let more = common_members free committee in
    omega (
      arith,
      is,
      reaches,
      node-gains V (thiele_rule-submodular tally.rule tally.k tally.election.rows size) (thiele-same (increments tally.rule tally.k) tally.election.rows) tally.election.m set free left committee is_node whole,
      sum-less (gain_at V set) (λ n. get_or gains n 0) more (λ n in_. high n (added-free tally.election.m set free left committee is_node whole n in_)),
    )

-- who can be among the candidates that make up what is missing
pub gains-narrow : (tally : Thiele) (set free : List ℕ) (left least value : ℕ) (gains : List ℕ) → IsValued tally set value → IsNode tally.election.m set free
    → ((n : ℕ) → has_member free n ≡ true → gain_at (tally_value tally) set n ≤ get_or gains n 0) → (due : ℕ) → due ≡ least - value → (answer : Option (List ℕ))
    → MatchOption answer (AreTooLow (λ n. get_or gains n 0) free left due) (AreWanted (λ n. get_or gains n 0) free left due)
    → MatchOption answer (IsOutOfReach (tally_value tally) tally.election.m set free left least) (IsNarrowed (tally_value tally) tally.election.m set free left least)
gains-narrow tally set free left least value gains valued is_node high due same answer are =
    narrowed-members (tally_value tally) tally.election.m set free left least (λ n. get_or gains n 0) due valued.election.most is_node
    (λ committee whole reaches. rw same (gains-pay tally set free left least value gains committee valued.size is_node valued.value_is high whole reaches))
    answer are
