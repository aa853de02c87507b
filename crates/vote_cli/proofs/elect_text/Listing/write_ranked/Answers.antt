use Rattle.std.proofs.Common.{◌∙◌, subst, sym}
use Rattle.std.specs.Prelude.{is_ok}
use Rattle.text_output.specs.Steps.Printing.{SendsAll, calls_of}
use Rattle.vote_cli.proofs.TextLemmas.{winners_parts}
use Rattle.vote_cli.proofs.elect_text.Listing.write_ranked.Goals as goal

pub returns : goal.returns
returns g c =
    let s = c.args.self.now in
    let parts = winners_parts s.names (g.T.Tally.value_of c.args.tally.now) c.args.rule s.profile.now.m c.m.result s.size c.best.result s.after s.limit c.new-winners.result.left
    c.m.ensures.value (c.best.ensures ∙ c.new-winners.ensures.best) c.new-winners.ensures.left in
    subst (SendsAll g.W.Sink.contents (calls_of g.W.Device.has_failed g.W.Sink.flushes) c.args.out.now c.write_best.new.out (is_ok c.write_best.result)) (sym parts) c.write_best.ensures
