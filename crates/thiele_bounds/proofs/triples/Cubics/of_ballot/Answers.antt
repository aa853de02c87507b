use Rattle.std.proofs.Common.{◌+◌, ◌*◌, arith, length, subst, sym}
use Rattle.thiele_bounds.specs.Steps.Cubics.{Cubed, IsCubicOf}
use Rattle.thiele_bounds.specs.Steps.Majorants.{places_open}
use Rattle.thiele_bounds.proofs.PairBounds.MajorantLemmas.{cubics-more}
use Rattle.thiele_bounds.proofs.triples.Cubics.of_ballot.Goals as goal

pub invariant_of-self : goal.invariant_of-self
invariant_of-self c =
    let inside = c.self.inside in (
      c.self.invariant.0,
      c.self.invariant.1,
      cubics-more (record { sums = inside.sums.now; shift = inside.shift; left = inside.node.now.left; free = length inside.node.now.free }) inside.table c.args.before c.args.approved (places_open * c.from-row.result + c.from-column.result) c.made-cubic.result
          (omega (arith, c.from-row.ensures, c.from-column.ensures)) (omega (arith, c.from-row.ensures, c.if-row-ge-PLACES_BEFORE.false)) (omega (arith, c.from-column.ensures, c.if-column-ge-PLACES_OPEN.false))
          (omega (arith, c.if-row-ge-PLACES_BEFORE.false, c.if-column-ge-PLACES_OPEN.false)) c.self.invariant.2 (subst (λ (x : Cubed). IsCubicOf x c.args.before c.args.approved c.made-cubic.result) (sym c.self.view_is) c.made-cubic.ensures),
    )
