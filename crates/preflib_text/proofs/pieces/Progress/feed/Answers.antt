use Rattle.std.proofs.Common.{ℕ, List, Result, Ok, Err, Some, ◌++◌}
use Rattle.std.specs.Result.{OnOk, IfErr, result_err}
use Rattle.ballot_base.specs.Ballots.{Election}
use Rattle.preflib_text.specs.declared.fault.ReadFault.{ReadFault}
use Rattle.preflib_text.specs.declared.notes.Notes.{Notes}
use Rattle.preflib_text.specs.declared.pick.Pick.{Pick}
use Rattle.preflib_text.specs.Pieces.{IsTrue, feeding}
use Rattle.preflib_text.specs.Steps.Pieces.{Agrees, IsFed}
use Rattle.preflib_text.proofs.PieceLemmas.{agrees_more}
use Rattle.preflib_text.proofs.pieces.Progress.feed.Goals as goal

pub returns-in-Some-clause-agrees : goal.returns-in-Some-clause-agrees
returns-in-Some-clause-agrees g c = agrees_more _ _ _ _ _ _ _ _ _ _ _ _ _ c.in-Some.is c.requires.fed

agrees_by : (pick : Pick) (bytes : List ℕ) (read : Result Unit ReadFault) (notes : Notes) (e : Election) (number : ℕ) (held : List ℕ)
    → OnOk read (IsFed pick bytes notes e number held) → IfErr read (λ fault. IsTrue (feeding pick bytes (Some fault)))
    → Agrees pick bytes (result_err read) notes e number held
unfolding Agrees
agrees_by pick bytes (Ok _) notes e number held ok err = ok
agrees_by pick bytes (Err fault) notes e number held ok err = err

pub returns-clause-agrees : goal.returns-clause-agrees
returns-clause-agrees g c =
    rw c.err-self.ensures.value (agrees_by c.args.pick.now (c.args.fed.now.bytes ++ c.args.bytes.now) c.feed_lines-read.result _ _ _ _ c.feed_lines-read.ensures.ok c.feed_lines-read.ensures.err)
