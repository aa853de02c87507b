use Rattle.std.proofs.Common.{subst, sym}
use Rattle.std.specs.Prelude.{is_ok}
use Rattle.text_output.specs.Steps.Printing.{SendsAll, calls_of}
use Rattle.vote_cli.proofs.TextLemmas.{searched_parts}
use Rattle.vote_cli.proofs.elect_text.Listing.write_searched.Goals as goal

pub returns : goal.returns
returns g c =
    let s = c.args.self.now in
    let parts = searched_parts s.names g.S.Tally.value_of g.S.Tally.candidates c.args.rule s.profile.now.m c.args.search s.size s.after s.limit c.new-winners.result.search c.new-winners.result.k c.best.result
    c.new-winners.result.left c.requires c.new-winners.ensures.search c.new-winners.ensures.k c.best.ensures c.new-winners.ensures.left in
    subst (SendsAll g.W.Sink.contents (calls_of g.W.Device.has_failed g.W.Sink.flushes) c.args.out.now c.write_best.new.out (is_ok c.write_best.result)) (sym parts) c.write_best.ensures
