use Rattle.std.proofs.Common.{◌∙◌}
use Rattle.thiele_search.specs.Steps.Columns.{AreColumnsOf, voters_of}
use Rattle.thiele_search.proofs.ColumnLemmas.{columns-gain, voters-rising}
use Rattle.thiele_search.proofs.counts.Counts.gains.Goals as goal

pub returns-in-Some : goal.returns-in-Some
returns-in-Some g c n here =
    let tally = c.args.self.now.tally in
    let sound = c.args.self.now.sound in
    let kept : AreColumnsOf tally c.in-Some.columns.blocks.items c.in-Some.columns.weights = rw c.in-Some.is at sound.columns_are in
    c.gains_of.ensures (voters_of tally.election.rows) kept.columns (voters-rising tally.election.m tally.election.rows sound.election.most sound.election.ballots)
    n here
    ∙ columns-gain tally c.in-Some.columns.blocks.items c.in-Some.columns.weights c.args.set n kept
