use Rattle.std.proofs.Common.{rules, ◌≡◌, arith}
use Rattle.ballot_base.specs.declared.increments.ThieleRule.TheVariants.{Cc}
use Rattle.thiele_search.specs.Steps.Columns.{AreColumnsOf, voters_of}
use Rattle.thiele_search.proofs.ColumnLemmas.{voters-rising}
use Rattle.thiele_search.proofs.CoverLemmas.{columns-cover}
use Rattle.thiele_search.proofs.counts.Counts.value.Goals as goal

pub returns-in-Some : goal.returns-in-Some
returns-in-Some g c =
    let tally = c.args.self.now.tally in
    let columns = c.in-Some.columns in
    let sound = c.args.self.now.sound in
    let kept : AreColumnsOf tally columns.blocks.items columns.weights = rw c.in-Some.is at sound.columns_are in
    let rule : tally.rule ≡ Cc = search rules in
    record {
      election = sound.election;
      size = sound.size;
      value_is = omega (
        arith,
        columns-cover tally columns.blocks.items columns.weights c.args.set kept sound.some sound.size rule,
        c.covered.ensures (voters_of tally.election.rows) kept.columns (voters-rising tally.election.m tally.election.rows sound.election.most sound.election.ballots),
      );
    }
