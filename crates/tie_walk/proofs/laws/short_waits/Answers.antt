use Rattle.std.proofs.Common.{sym, subst, arith}
use Rattle.tie_walk.specs.Ceilings.{IsExactAtBest}
use Rattle.tie_walk.proofs.WaitLemmas.{tight-exact}
use Rattle.tie_walk.proofs.laws.short_waits.Goals as goal

pub returns : goal.returns
returns g c from winner to tight next =
    let exact = tight-exact (g.T.Tally.value_of from.tally) (g.T.Tally.bound_of from.tally) from.m from.k to.best tight in
    let there : IsExactAtBest (g.T.Tally.value_of to.tally) (g.T.Tally.bound_of to.tally) to.m to.k to.best =
    subst (λ t. IsExactAtBest (g.T.Tally.value_of t) (g.T.Tally.bound_of t) to.m to.k to.best) (sym next.same_tally)
    (subst (λ m. IsExactAtBest (g.T.Tally.value_of from.tally) (g.T.Tally.bound_of from.tally) m to.k to.best) (sym next.same_m)
    (subst (λ k. IsExactAtBest (g.T.Tally.value_of from.tally) (g.T.Tally.bound_of from.tally) from.m k to.best) (sym next.same_k) exact)) in
    omega (arith, next.short_wait there, next.same_m)
