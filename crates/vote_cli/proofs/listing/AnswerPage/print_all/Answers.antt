use Rattle.std.proofs.Common.{ap, sym, refl, ◌∙◌, ◌++◌}
use Rattle.vote_cli.specs.Listing.{answers_text}
use Rattle.text_output.proofs.PrintingLemmas.{ends_with, next, passes_on, starts, stops}
use Rattle.vote_cli.proofs.TextLemmas.{none_listed, one_listed, last_listed}
use Rattle.vote_cli.proofs.listing.AnswerPage.print_all.Goals as goal

pub loop-room-init : goal.loop-room-init
loop-room-init g c = starts _ refl

pub returns-in_default : goal.returns-in_default
returns-in_default g c =
    ends_with (passes_on (none_listed (g.A.Answer.Answer.line_of c.args.self.now.names.now) c.loop-room.room (g.A.Answers.left c.loop-room.answers) c.in_default.ensures.0) c.loop-room.invariant)
    c.print.ensures

pub returns-in_err-print_one : goal.returns-in_err-print_one
returns-in_err-print_one g c =
    let line_of = g.A.Answer.Answer.line_of c.args.self.now.names.now in
    stops _ c.loop-room.invariant
    (ap (answers_text line_of c.loop-room.room) c.in-Some.ensures
    ∙ one_listed line_of c.loop-room.room (g.A.Answer.Answer.numbers c.in-Some.answer) (g.A.Answers.left c.next_answer.new.self) (c.has_room.ensures.some c.loop-room-test.true))
    c.print_one.result _ c.from_residual.result c.in_err-print_one.was c.from_residual.ensures.0 c.print_one.ensures

pub loop-room-preserved : goal.loop-room-preserved
loop-room-preserved g c =
    let line_of = g.A.Answer.Answer.line_of c.args.self.now.names.now in
    let left = g.A.Answers.left c.next_answer.new.self in
    next c.loop-room.invariant
    (ap (answers_text line_of c.loop-room.room) c.in-Some.ensures
    ∙ one_listed line_of c.loop-room.room (g.A.Answer.Answer.numbers c.in-Some.answer) left (c.has_room.ensures.some c.loop-room-test.true)
    ∙ ap (λ r. line_of (g.A.Answer.Answer.numbers c.in-Some.answer) ++ answers_text line_of r left) (sym c.one_less-room.ensures))
    c.print_one.result _ c.in_ok-print_one.was c.print_one.ensures

pub returns : goal.returns
returns g c =
    ends_with (passes_on (last_listed (g.A.Answer.Answer.line_of c.args.self.now.names.now) c.loop-room.room (g.A.Answers.left c.loop-room.answers) (c.has_room.ensures.none c.loop-room-test.false)) c.loop-room.invariant)
    c.print_last.ensures
