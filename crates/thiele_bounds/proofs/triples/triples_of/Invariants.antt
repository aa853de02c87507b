use Rattle.std.proofs.Common.{◌≡◌, ℕ, ◌/◌, ◌<◌, length, get_or}
use Rattle.thiele_bounds.specs.Steps.Cubics.{bend_at}
use Rattle.thiele_bounds.proofs.triples.triples_of.Given as goal

-- the first ones are made
abbrev pub invariant-loop-n : goal.invariant-loop-n
invariant-loop-n l = record {
  long : length l.triples ≡ 65;
  made : (x : ℕ) → x < l.n → get_or l.triples x 0 ≡ bend_at l.sums x / 6;
}
