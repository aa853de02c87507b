use Rattle.std.proofs.lemmas.Grind.{common_steps}
use Rattle.std.proofs.Common.{◌≡◌, ◌-◌, ap, sym, subst, arith, length}
use Rattle.tie_walk.specs.Ceilings.{IsBound}
use Rattle.tie_walk.proofs.OpenLemmas.{reaching-short, reaching-bound, shut-short, shut-low, open-is}
use Rattle.tie_walk.proofs.walk.Walk.enter.Goals as goal

pub returns-then-left-self-clause-open : goal.returns-then-left-self-clause-open
returns-then-left-self-clause-open g c = grind (arith, common_steps, shut-short)

pub returns-then-left-self-clause-none : goal.returns-then-left-self-clause-none
returns-then-left-self-clause-none g c none = grind (arith, common_steps, reaching-short)

pub returns-then-bound-self-clause-open : goal.returns-then-bound-self-clause-open
returns-then-bound-self-clause-open g c = grind (arith, common_steps, shut-low)

pub returns-then-bound-self-clause-none : goal.returns-then-bound-self-clause-none
returns-then-bound-self-clause-none g c none =
    let p = c.args.prefix.now in
    let w = c.args.self.now in
    let bound = g.T.Tally.bound_of w.tally.now in
    let left : w.k - c.len.result ≡ w.k - length p.set = ap (λ n. w.k - n) c.len.ensures.count in
    let value = g.T.Tally.value_of w.tally.now in
    let law : IsBound value w.m p.c p.set (w.k - length p.set) c.bound.result =
    subst (λ n. IsBound value n p.c p.set (w.k - length p.set) c.bound.result) (sym c.requires.walk.m_is)
    (subst (λ n. IsBound value (g.T.Tally.candidates w.tally.now) p.c p.set n c.bound.result) left c.bound.ensures.law) in
    reaching-bound value w.best w.m w.k p.c p.set c.bound.result law c.if-bound-self.true

pub returns-clause-open : goal.returns-clause-open
returns-clause-open g c = grind (arith, common_steps, open-is)
