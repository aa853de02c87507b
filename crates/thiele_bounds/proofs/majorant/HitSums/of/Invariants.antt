use Rattle.std.proofs.Common.{◌≡◌, ◌*◌, get_or}
use Rattle.thiele_bounds.proofs.PairBounds.SumLemmas.{AreMade}
use Rattle.thiele_bounds.proofs.majorant.HitSums.of.Given as goal

-- the sums so far are made of rounded increments, and what was given so far is the last of them
abbrev pub invariant-loop-hits : goal.invariant-loop-hits
invariant-loop-hits l = record {
  made : AreMade l.weights l.scale l.unit (64 * l.units) l.sums l.hits l.last;
  given_is : l.given ≡ get_or l.sums l.hits 0;
}
