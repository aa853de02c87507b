use Rattle.std.proofs.Common.{◌≡◌, ◌/◌, ◌∙◌, ap, arith}
use Rattle.std.proofs.lemmas.List.{length-set}
use Rattle.thiele_bounds.specs.Steps.Cubics.{bend_at}
use Rattle.thiele_bounds.proofs.PairBounds.CubicLemmas.{set-made}
use Rattle.thiele_bounds.proofs.triples.triples_of.Goals as goal

pub loop-n-preserved : goal.loop-n-preserved
loop-n-preserved c =
    let inv = c.loop-n.invariant in
    record {
      long = length-set c.loop-n.triples c.loop-n.n _ ∙ inv.long;
      made = set-made (λ x n. n ≡ bend_at c.args.sums.now x / 6) c.loop-n.triples c.loop-n.n (c.bend_of.result / 6) (omega (arith, inv.long, c.loop-n-test.true)) inv.made (ap (λ n. n / 6) c.bend_of.ensures);
    }
