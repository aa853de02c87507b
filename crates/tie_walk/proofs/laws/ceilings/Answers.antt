use Rattle.tie_walk.proofs.Closeness.{closeness-bounds}
use Rattle.tie_walk.proofs.Submodular.{ceiling-bounds}
use Rattle.tie_walk.proofs.laws.ceilings.Goals as goal

pub returns : goal.returns
returns c = record {
  gains = λ value m k set left falls up. ceiling-bounds value falls m k set left up;
  distances = closeness-bounds;
}
