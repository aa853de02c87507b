use Rattle.tie_walk.proofs.WaitLemmas.{tight-exact}
use Rattle.tie_walk.proofs.laws.tight_bounds.Goals as goal

pub returns : goal.returns
returns c = tight-exact
