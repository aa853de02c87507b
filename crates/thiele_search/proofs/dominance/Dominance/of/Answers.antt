use Rattle.std.proofs.Common.{◌-◌, arith, refl, ap}
use Rattle.std.specs.Prelude.{slice_index}
use Rattle.thiele_search.proofs.DominanceLemmas.{hits-add}
use Rattle.thiele_search.proofs.dominance.Dominance.of.Goals as goal

pub returns : goal.returns
returns g c = record {
  k_is = refl;
  adds = hits-add c.args.rule c.args.k c.requires.size c.requires.some
      (omega (
        arith,
        c.if-of-from-eq0.false,
        ap (λ i. slice_index c.of.result.w (i - 1)) c.from.ensures,
        ap (λ w. slice_index w (c.args.k - 1)) c.of.ensures.weights,
      ));
  followers = λ e d low high is. c.loop-c.invariant.made e d low (omega (arith, high, c.loop-c-test.false, c.m-c-end.ensures.value)) is;
}
