use Rattle.tie_walk.proofs.LivePrefixes.{live-counted, counted-live}
use Rattle.tie_walk.proofs.laws.live_prefixes.Goals as goal

pub returns : goal.returns
returns c =
    λ bound m k best after prefix up inside. (
      live-counted bound m k best after prefix,
      counted-live bound m k best after prefix up inside,
    )
