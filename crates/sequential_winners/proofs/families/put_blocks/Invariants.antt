use Rattle.std.proofs.Common.{◌≡◌, ◌<◌, ◌*◌, ℕ, length, get_or}
use Rattle.sequential_winners.specs.Steps.Families.{IsBlock, no_block}
use Rattle.sequential_winners.proofs.families.put_blocks.Given as goal

-- the blocks so far
abbrev pub invariant-loop-block : goal.invariant-loop-block
invariant-loop-block g l = record {
  size : length l.blocks.items ≡ l.block;
  each : (b : ℕ) → b < length l.blocks.items → IsBlock l.fn.leasts l.fn.mosts (b * 64) (get_or l.blocks.items b no_block);
}
