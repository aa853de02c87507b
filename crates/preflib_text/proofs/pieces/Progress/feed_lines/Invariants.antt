use Rattle.std.proofs.Common.{◌≡◌, ℕ, ◌≤◌, List, ◌++◌, length}
use Rattle.preflib_text.specs.Steps.Pieces.{IsFed}
use Rattle.preflib_text.proofs.pieces.Progress.feed_lines.Given as goal

-- what was fed and what is left of the piece
abbrev pub invariant-loop-at : goal.invariant-loop-at
invariant-loop-at g l =
    ((pre : List ℕ) × (pre ++ l.rest ≡ l.fn._fed.bytes ++ l.fn.bytes) × IsFed l.fn.pick pre l.self.ended.notes l.self.ended.builder l.self.ended.number l.self.held.items)
    × (l.fn.self.ended.number ≤ l.self.ended.number)

abbrev pub decreases-loop-at : goal.decreases-loop-at
decreases-loop-at g l = length l.rest
