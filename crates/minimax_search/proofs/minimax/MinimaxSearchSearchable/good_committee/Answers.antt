use Rattle.std.proofs.Common.{◌≡◌, ◌==◌, ℕ, Bool, true, false, List, refl, arith, subst, length}
use Rattle.std.proofs.lemmas.Bool.{eqb-true}
use Rattle.std.specs.Prelude.{MatchOption, ⊤}
use Rattle.std.specs.Bool.{then_some}
use Rattle.ballot_base.specs.Lists.{IsIncreasing}
use Rattle.row_multipliers.proofs.CompletionLemmas.{candidates-among}
use Rattle.minimax_search.proofs.minimax.MinimaxSearchSearchable.good_committee.Goals as goal

if-true : (P : List ℕ → Type 0) (holds : Bool) (set : List ℕ) → (holds ≡ true → P set) → MatchOption (then_some holds set) ⊤ P
if-true P true set is = is refl
if-true P false set is = tt

pub returns : goal.returns
returns g c =
    let m = c.args.self.now.m in
    rw c.then_some.ensures
    (if-true (λ set. IsIncreasing 1 m set × (length set ≡ c.args.k)) (c.len.result == c.args.k) c.common-committee.result (λ is. (
      subst (λ n. IsIncreasing 1 n c.common-committee.result) c.m.ensures.value
          (candidates-among c.m.result c.all.result _ c.common-committee.result c.all.ensures c.common-committee.ensures),
      omega (arith, c.len.ensures.count, eqb-true c.len.result c.args.k is),
    )))
