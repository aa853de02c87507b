use Rattle.std.proofs.Common.{rules, subst, sym}
use Rattle.request_words.specs.Request.{question_of}
use Rattle.text_output.specs.Steps.Printing.{calls_of}
use Rattle.vote_cli.specs.Answer.{IsAnswerAbout, IsCheckAnswer}
use Rattle.vote_cli.specs.Steps.Refusals.{Writes}
use Rattle.vote_cli.proofs.RunLemmas.{writes_as}
use Rattle.vote_cli.proofs.answers.Ballots.answer.Goals as goal

pub returns-in-Check : goal.returns-in-Check
returns-in-Check g c =
    let writes = Writes g.W.Sink.contents (calls_of g.W.Device.has_failed g.W.Sink.flushes) c.args.out.now c.answer_check.new.out c.answer_check.result in
    subst (λ question. writes (IsAnswerAbout c.args.self.now.with_names (question_of question) c.args.self.now.profile.now)) (sym c.in-Check.is)
    (subst (λ list. writes (IsCheckAnswer c.in-Check.property list c.args.self.now.with_names c.args.self.now.profile.now)) c.as_slice.ensures.value c.answer_check.ensures.wrote)

pub returns-in_err-listing-in-Elect : goal.returns-in_err-listing-in-Elect
returns-in_err-listing-in-Elect g c = search rules

pub returns-in_ok-listing-in-Elect : goal.returns-in_ok-listing-in-Elect
returns-in_ok-listing-in-Elect g c =
    let writes = Writes g.W.Sink.contents (calls_of g.W.Device.has_failed g.W.Sink.flushes) c.args.out.now c.answer_election.new.out c.answer_election.result in
    subst (λ question. writes (IsAnswerAbout c.args.self.now.with_names (question_of question) c.args.self.now.profile.now)) (sym c.in-Elect.is)
    (writes_as (sym c.in_ok-listing-in-Elect.ensures.ok) c.answer_election.ensures)

pub returns-in-Share : goal.returns-in-Share
returns-in-Share g c =
    let writes = Writes g.W.Sink.contents (calls_of g.W.Device.has_failed g.W.Sink.flushes) c.args.out.now c.answer_share.new.out c.answer_share.result in
    subst (λ question. writes (IsAnswerAbout c.args.self.now.with_names (question_of question) c.args.self.now.profile.now)) (sym c.in-Share.is) c.answer_share.ensures.wrote
