use Rattle.std.proofs.Common.{arith}
use Rattle.tie_walk.proofs.Distances.{greatest_distance-most}
use Rattle.tie_walk.proofs.laws.distances.Goals as goal

pub returns : goal.returns
returns c m rows committee all j = omega (arith, greatest_distance-most m rows committee all j)
