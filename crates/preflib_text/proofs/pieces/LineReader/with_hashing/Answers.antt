use Rattle.std.proofs.Common.{refl, sym, subst, arith, ap, length}
use Rattle.preflib_text.specs.Steps.Pieces.{IsFed}
use Rattle.preflib_text.proofs.PieceLemmas.{agrees_none, nothing_fed}
use Rattle.preflib_text.proofs.pieces.LineReader.with_hashing.Goals as goal

pub invariant_of-result : goal.invariant_of-result
invariant_of-result g c =
    let none = ap length c.new.ensures in (
      c.requires,
      omega (arith, none),
      agrees_none _ _ _ _ _ _ (subst (λ l. IsFed c.args.pick l c.new-notes.result c.in-Ok.builder 0 c.in-Ok-with_capacity.held.items) (sym c.new.ensures)
          (nothing_fed c.args.pick c.new-notes.result c.in-Ok.builder 0 c.in-Ok-with_capacity.held.items c.new-notes.ensures c.in-Ok.ensures refl c.in-Ok-with_capacity.ensures.items)),
    )
