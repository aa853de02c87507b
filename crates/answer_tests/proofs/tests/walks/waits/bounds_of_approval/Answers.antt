use Rattle.std.proofs.Common.{◌≡◌, ℕ, ◌∙◌, ap, sym, subst}
use Rattle.ballot_base.specs.Increments.{increments}
use Rattle.tie_walk.specs.Ceilings.{IsTight, ceiling}
use Rattle.tie_walk.specs.Values.{Thiele, thiele_value}
use Rattle.answer_tests.proofs.tests.walks.waits.bounds_of_approval.Goals as goal

abbrev tight_at : Thiele → ℕ → ℕ → Type 0
tight_at t m k =
    IsTight (λ set. thiele_value (increments t.rule t.k) t.election.rows set) (λ n set left. ceiling (thiele_value (increments t.rule t.k) t.election.rows) t.election.m n set left) m k

pub bounds_to_the_next-requires : goal.bounds_to_the_next-requires
bounds_to_the_next-requires c =
    let t : Thiele = c.new-tally.result in
    let w = c.new-winners.result in
    let made = c.new-tally.ensures.tally in
    let m : w.m ≡ t.election.m = c.new-winners.ensures.m ∙ c.m.ensures.value ∙ sym (ap (λ (x : Thiele). x.election.m) made) in
    let k : w.k ≡ t.k = c.new-winners.ensures.k ∙ sym (ap (λ (x : Thiele). x.k) made) in
    let tight : tight_at t t.election.m t.k = c.new-tally.ensures.tight in
    subst (λ x. tight_at x w.m w.k) (sym c.new-winners.ensures.tally) (subst (λ n. tight_at t n w.k) (sym m) (subst (λ n. tight_at t t.election.m n) (sym k) tight))
