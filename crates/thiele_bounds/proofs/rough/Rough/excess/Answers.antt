use Rattle.std.proofs.Common.{◌≡◌, ℕ, ◌-◌, ◌<◌, true, ap, arith, get_or}
use lib.Dec.{ltb}
use Rattle.ballot_base.specs.CandSet.{has_member}
use Rattle.ballot_base.specs.Limits.{most_candidates}
use Rattle.row_multipliers.proofs.CompletionLemmas.{member-high}
use Rattle.thiele_bounds.proofs.PairBounds.PartLemmas.{byte-few, next-covered, none-covered}
use Rattle.thiele_bounds.proofs.rough.Rough.excess.Goals as goal

pub loop-candidate-init : goal.loop-candidate-init
loop-candidate-init c = record {
  some = omega arith;
  covered = none-covered (λ n. get_or c.args.self.now n 0 - c.args.threshold);
  small = omega arith;
  few = omega arith;
}

pub overflow_add-more : goal.overflow_add-more
overflow_add-more c = omega (arith, c.saturating_sub-more.ensures, c.loop-candidate.invariant.small, c.loop-candidate-test.true, c.self.invariant c.loop-candidate.candidate)

pub loop-candidate-preserved : goal.loop-candidate-preserved
loop-candidate-preserved c =
    let f : ℕ → ℕ = λ n. get_or c.args.self.now n 0 - c.args.threshold in
    let inv = c.loop-candidate.invariant in
    let is : c.saturating_sub-more.result ≡ f c.loop-candidate.candidate = omega (arith, c.saturating_sub-more.ensures, ap (λ w. get_or w c.loop-candidate.candidate 0) c.self.view_is) in
    record {
      some = omega arith;
      covered = λ xs up below. omega (arith, next-covered f c.loop-candidate.candidate c.loop-candidate.more inv.covered xs up below, is);
      small = omega (arith, inv.small, inv.some, c.saturating_sub-more.ensures, c.self.invariant c.loop-candidate.candidate);
      few = omega (arith, inv.few, c.from-above.ensures, byte-few (ltb c.args.threshold (get_or c.self.inside.each c.loop-candidate.candidate 0)));
    }

pub returns-clause-more : goal.returns-clause-more
returns-clause-more c xs up =
    let below : (x : ℕ) → has_member xs x ≡ true → x < c.loop-candidate.candidate = λ x in_. omega (arith, member-high 1 most_candidates xs x up in_, c.loop-candidate-test.false) in
    c.loop-candidate.invariant.covered xs up below
