use Rattle.std.proofs.Common.{length}
use Rattle.text_output.specs.Steps.Printing.{calls_of}
use Rattle.vote_cli.specs.Listing.{answers_text}
use Rattle.text_output.proofs.PrintingLemmas.{Underway}
use Rattle.vote_cli.proofs.listing.AnswerPage.print_all.Given as goal

-- the answers so far were printed, and the others are left
abbrev pub invariant-loop-room : goal.invariant-loop-room
invariant-loop-room g l = Underway g.W.Sink.contents (calls_of g.W.Device.has_failed g.W.Sink.flushes) l.initial.printer l.printer
    (answers_text (g.A.Answer.Answer.line_of l.fn.self.names.now) l.room (g.A.Answers.left l.answers))
    (answers_text (g.A.Answer.Answer.line_of l.fn.self.names.now) l.fn.self.limit (g.A.Answers.left l.initial.answers))

abbrev pub decreases-loop-room : goal.decreases-loop-room
decreases-loop-room g l = length (g.A.Answers.left l.answers)
