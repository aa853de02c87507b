use Rattle.std.proofs.Common.{◌≡◌, ◌∙◌, refl, ap, take}
use Rattle.tie_walk.specs.Sequences.{hit_weights}
use Rattle.tie_walk.proofs.RowSums.{length-common}
use Rattle.sequential_winners.proofs.levels.Levels.next_hit.Goals as goal

pub returns : goal.returns
returns g c =
    let s = c.args.self.now.choices in
    let are : take c.from.result s.weights ≡ hit_weights s.rule s.profile.now.m = ap (λ n. take n s.weights) (c.from.ensures ∙ c.m.ensures.value) ∙ s.weights_are in
    rw (c.weight.ensures, are, c.step.ensures, c.len.ensures.count, c.common.ensures, length-common c.args.ballot c.args.set) refl
