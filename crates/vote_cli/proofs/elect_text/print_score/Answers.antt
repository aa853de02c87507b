use Rattle.std.proofs.Common.{◌∙◌}
use Rattle.text_output.proofs.PrintingLemmas.{Prints-as}
use Rattle.vote_cli.proofs.TextLemmas.{score_line}
use Rattle.vote_cli.proofs.elect_text.print_score.Goals as goal

pub returns : goal.returns
returns g c =
    Prints-as (score_line c.args.score c.args.denominator _ _ _ c.as_slice.ensures (c.as_bytes.ensures.value ∙ c.format.ensures.text) (c.as_bytes-2.ensures.value ∙ c.format-2.ensures.text))
    c.print_all.ensures
