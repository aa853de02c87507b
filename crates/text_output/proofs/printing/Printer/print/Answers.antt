use Rattle.std.proofs.Common.{refl, sym, ap, true≢false}
use Rattle.std.proofs.Math.Nat.{lt_of_not-le}
use Rattle.text_output.proofs.PrintingLemmas.{breaks_off, goes_on, Prints-pending, Prints-straight}
use Rattle.text_output.proofs.printing.Printer.print.Goals as goal

pub returns-in_err-make_room : goal.returns-in_err-make_room
returns-in_err-make_room g c = breaks_off c.args.bytes.now c.make_room.result _ c.from_residual.result c.in_err-make_room.was c.from_residual.ensures.0 refl c.make_room.ensures.printed

pub returns-in-Ok : goal.returns-in-Ok
returns-in-Ok g c = goes_on c.make_room.result _ c.in_ok-make_room.was refl c.make_room.ensures.printed (Prints-pending c.args.bytes.now refl c.in-Ok.ensures.ok)

pub returns-in-Err : goal.returns-in-Err
returns-in-Err g c =
    let many = lt_of_not-le (λ few. true≢false (sym (c.in-Err.ensures.variant.1 (c.in_ok-make_room.ensures.room refl few)))) in
    goes_on c.make_room.result _ c.in_ok-make_room.was refl c.make_room.ensures.printed
    (Prints-straight refl (c.in_ok-make_room.ensures.nothing refl many) (ap (λ v. v.items) c.in-Err.ensures.err) c.write_whole.ensures)
