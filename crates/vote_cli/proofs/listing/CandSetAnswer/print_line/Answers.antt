use Rattle.std.proofs.Common.{refl, [], ◌∷◌}
use Rattle.text_output.proofs.PrintingLemmas.{breaks_off, goes_on}
use Rattle.vote_cli.proofs.listing.CandSetAnswer.print_line.Goals as goal

pub returns-in_err-print_candidates : goal.returns-in_err-print_candidates
returns-in_err-print_candidates g c =
    breaks_off (10 ∷ []) c.print_candidates.result _ c.from_residual.result c.in_err-print_candidates.was c.from_residual.ensures.0 refl c.print_candidates.ensures

pub returns : goal.returns
returns g c = goes_on c.print_candidates.result _ c.in_ok-print_candidates.was refl c.print_candidates.ensures c.print.ensures
