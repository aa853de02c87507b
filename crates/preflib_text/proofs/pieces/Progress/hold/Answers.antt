use Rattle.std.proofs.Common.{◌++◌, arith}
use Rattle.std.proofs.lemmas.List.{length-append}
use Rattle.preflib_text.proofs.PieceLemmas.{too_long}
use Rattle.preflib_text.proofs.pieces.Progress.hold.Goals as goal

pub returns-then-bytes-len-clause-err : goal.returns-then-bytes-len-clause-err
returns-then-bytes-len-clause-err g c =
    let all = length-append c.args.self.now.held.items c.args.bytes.now in
    (too_long c.args.self.now.ended.number (c.args.self.now.held.items ++ c.args.bytes.now) (omega (arith, all, c.if-bytes-len.true, c.len.ensures, c.args.self.now.held.ok.0)), c.fault_of_line.ensures)
