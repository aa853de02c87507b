use Rattle.std.proofs.Common.{◌≡◌, ◌∙◌, arith, length}
use Rattle.std.proofs.lemmas.List.{length-set}
use Rattle.thiele_bounds.specs.Steps.Cubics.{touch_of}
use Rattle.thiele_bounds.proofs.PairBounds.CubicLemmas.{set-made}
use Rattle.thiele_bounds.proofs.triples.touches_at.Goals as goal

pub loop-approved-preserved : goal.loop-approved-preserved
loop-approved-preserved c =
    let inv = c.loop-approved.invariant in
    let node = c.args.node.now in
    rw c.from.ensures record {
      long = length-set c.loop-approved.touches c.loop-approved.approved _ ∙ inv.long;
      made = set-made (λ x n. n ≡ touch_of c.args.shift node.left (length node.free) x) c.loop-approved.touches c.loop-approved.approved c.touch_at.result (omega (arith, inv.long, c.loop-approved-test.true)) inv.made c.touch_at.ensures.value;
    }
