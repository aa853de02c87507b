use Rattle.std.proofs.Common.{◌/◌, refl, arith, rules}
use Rattle.std.proofs.Math.Nat.{div-le_self}
use Rattle.ballot_base.proofs.Sums.{replicate-most, set-most}
use Rattle.minimax_search.proofs.weights.Shares.equal.Goals as goal

pub loop-n-init : goal.loop-n-init
loop-n-init c = record {
  long = refl;
  small = λ i. replicate-most 65 i 1024 1024 (omega arith);
}

pub loop-n-preserved : goal.loop-n-preserved
loop-n-preserved c = record {
  long = search rules;
  small = set-most c.loop-n.of_one c.loop-n.n (1024 / c.loop-n.n) 1024 (omega (arith, c.loop-n-test.true, c.loop-n.invariant.long)) c.loop-n.invariant.small
      (let less = div-le_self 1024 c.loop-n.n in omega (arith, less));
}
