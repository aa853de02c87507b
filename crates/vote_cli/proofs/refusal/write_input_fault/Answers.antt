use Rattle.std.proofs.Common.{◌∙◌, is_ok, subst}
use Rattle.text_output.specs.Steps.Printing.{Sends, calls_of}
use Rattle.vote_cli.proofs.TextLemmas.{fault_line}
use Rattle.vote_cli.proofs.refusal.write_input_fault.Goals as goal

pub returns : goal.returns
returns g c =
    subst (Sends g.E.Sink.contents (calls_of g.E.Device.has_failed g.E.Sink.flushes) c.args.err.now c.write_pieces-2.new.out (is_ok c.write_pieces-2.result))
    (fault_line c.args.fault c.in-Some.number _ _ _ c.in-Some.is c.as_slice.ensures (c.as_bytes.ensures.value ∙ c.format.ensures.text) (c.as_bytes-word.ensures.value ∙ c.name.ensures))
    c.write_pieces-2.ensures
