use Rattle.std.proofs.Common.{◌≡◌, ℕ, ◌∙◌, ap, sym, subst}
use Rattle.ballot_base.specs.Ballots.{Election}
use Rattle.tie_walk.specs.Ceilings.{IsTight, ceiling}
use Rattle.tie_walk.specs.Values.{satisfaction_value}
use Rattle.answer_tests.proofs.tests.walks.waits.bounds_of_satisfaction.Goals as goal

abbrev tight_at : Election → ℕ → ℕ → Type 0
tight_at e m k =
    IsTight (λ set. satisfaction_value e.m e.rows set) (λ n set left. ceiling (satisfaction_value e.m e.rows) e.m n set left) m k

pub bounds_to_the_next-requires : goal.bounds_to_the_next-requires
bounds_to_the_next-requires c =
    let e : Election = c.new-tally.result in
    let w = c.new-winners.result in
    let m : w.m ≡ e.m = c.new-winners.ensures.m ∙ c.m.ensures.value ∙ sym (ap (λ (x : Election). x.m) c.new-tally.ensures.tally) in
    subst (λ x. tight_at x w.m w.k) (sym c.new-winners.ensures.tally) (subst (λ n. tight_at e n w.k) (sym m) (c.new-tally.ensures.tight w.k))
