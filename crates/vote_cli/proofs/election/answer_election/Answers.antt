use Rattle.std.proofs.Common.{◌∙◌, ap, subst, sym}
use Rattle.request_words.specs.declared.request.Rule.TheVariants.{Scored}
use Rattle.text_output.specs.Steps.Printing.{calls_of}
use Rattle.vote_cli.specs.Steps.Listed.{listed_text}
use Rattle.vote_cli.specs.Steps.Refusals.{WritesText}
use Rattle.vote_cli.proofs.election.answer_election.Goals as goal

pub returns-in-Scored-Thiele : goal.returns-in-Scored-Thiele
returns-in-Scored-Thiele g c =
    subst (λ r. WritesText g.W.Sink.contents (calls_of g.W.Device.has_failed g.W.Sink.flushes) c.args.out.now c.answer_thiele.new.out c.answer_thiele.result (listed_text c.args.listing.now r))
    (sym (c.in-Scored-Thiele.is ∙ ap Scored (rw c.in-Scored-Thiele.is at c.in-Scored-Thiele.field-0-is))) c.answer_thiele.ensures

pub returns-in-Scored-Satisfaction : goal.returns-in-Scored-Satisfaction
returns-in-Scored-Satisfaction g c =
    subst (λ r. WritesText g.W.Sink.contents (calls_of g.W.Device.has_failed g.W.Sink.flushes) c.args.out.now c.answer_satisfaction.new.out c.answer_satisfaction.result (listed_text c.args.listing.now r))
    (sym (c.in-Scored-Satisfaction.is ∙ ap Scored (rw c.in-Scored-Satisfaction.is at c.in-Scored-Satisfaction.field-0-is))) c.answer_satisfaction.ensures

pub returns-in-Scored-Minimax : goal.returns-in-Scored-Minimax
returns-in-Scored-Minimax g c =
    subst (λ r. WritesText g.W.Sink.contents (calls_of g.W.Device.has_failed g.W.Sink.flushes) c.args.out.now c.answer_minimax.new.out c.answer_minimax.result (listed_text c.args.listing.now r))
    (sym (c.in-Scored-Minimax.is ∙ ap Scored (rw c.in-Scored-Minimax.is at c.in-Scored-Minimax.field-0-is))) c.answer_minimax.ensures

pub returns-in-Sequential : goal.returns-in-Sequential
returns-in-Sequential g c =
    subst (λ r. WritesText g.W.Sink.contents (calls_of g.W.Device.has_failed g.W.Sink.flushes) c.args.out.now c.answer_sequential.new.out c.answer_sequential.result (listed_text c.args.listing.now r))
    (sym c.in-Sequential.is) c.answer_sequential.ensures
