use Rattle.std.proofs.Common.{◌∙◌, ap, refl, sym}
use Rattle.std.proofs.KnownBytes.{Appends-nil}
use Rattle.request_words.specs.Request.{task_of, question_of}
use Rattle.text_output.specs.Device.{reader_state}
use Rattle.vote_cli.proofs.RunLemmas.{writes_over, writes_unread}
use Rattle.vote_cli.proofs.run_request.answer.Goals as goal

pub returns-in_err-profile-in-OfBallots-clause-answer :
    goal.returns-in_err-profile-in-OfBallots-clause-answer
returns-in_err-profile-in-OfBallots-clause-answer g c =
    writes_unread c.args.request.now (question_of c.in-OfBallots.question) (ap task_of (sym c.in-OfBallots.is) ∙ c.task.ensures.value) c.pick.result c.pick.ensures.value
    c.args.request.now.names refl (reader_state g.R.Source.remaining g.R.Device.has_failed g.R.Source.given c.args.reader.now) _ _ c.read_ballots.result c.from_residual.result c.read_ballots.ensures.input
    c.in_err-profile-in-OfBallots.field-0.0 c.in_err-profile-in-OfBallots.was c.from_residual.ensures (Appends-nil _)

pub returns-in_ok-profile-in-OfBallots-clause-answer :
    goal.returns-in_ok-profile-in-OfBallots-clause-answer
returns-in_ok-profile-in-OfBallots-clause-answer g c =
    writes_over c.args.request.now (question_of c.in-OfBallots.question) (ap task_of (sym c.in-OfBallots.is) ∙ c.task.ensures.value) c.pick.result c.pick.ensures.value
    c.names-in-OfBallots.result c.names-in-OfBallots.ensures (reader_state g.R.Source.remaining g.R.Device.has_failed g.R.Source.given c.args.reader.now) _ _ c.read_ballots.result c.answer.result c.read_ballots.ensures.input
    c.in_ok-profile-in-OfBallots.profile c.in_ok-profile-in-OfBallots.was c.answer.ensures.answer
