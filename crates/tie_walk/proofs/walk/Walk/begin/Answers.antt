use Rattle.std.proofs.lemmas.Grind.{common_steps}
use Rattle.std.proofs.Common.{◌≡◌, ◌-◌, ◌≤◌, ◌∙◌, cond, ℕ, [], Option, Some, List, sym, ap, subst, arith}
use Rattle.ballot_base.specs.CandSet.{members_upto}
use Rattle.tie_walk.specs.Ceilings.{is_open}
use Rattle.tie_walk.specs.Winners.{IsStart}
use Rattle.tie_walk.specs.Steps.Walks.{committees_below, IsBegun, IsPlace, Aim, progress, those_reaching}
use Rattle.tie_walk.proofs.WaitLemmas.{work-most}
use Rattle.tie_walk.proofs.WalkLemmas.{at_root, prefix_at, place-past, after-start}
use Rattle.tie_walk.proofs.CountLemmas.{ahead-whole, begun, down-all}
use Rattle.tie_walk.proofs.LiveLemmas.{all-live, upto-all, upto-none, place-upto, left-early, live-past, live-shut, down-step}
use Rattle.tie_walk.proofs.walk.Walk.begin.Goals as goal
use Rattle.tie_walk.proofs.walk.Walk.begin.Goals.{After-upto-set, After-enter}

-- ---- with no start

pub visit-requires-clause-asks : goal.visit-requires-clause-asks
visit-requires-clause-asks g c =
    let m = g.T.Tally.candidates c.args.tally.now in
    let root = at_root m c.args.k (prefix_at 0 c.empty-set.result) (omega arith) c.empty-set.ensures in
    grind (arith, common_steps, work-most m c.args.k (Some (prefix_at 0 c.empty-set.result)) (omega (arith, c.m-m.ensures.value, c.m-m.ensures.most)) root.1)

pub returns-in_default-clause-begun : goal.returns-in_default-clause-begun
returns-in_default-clause-begun g c =
    let m = g.T.Tally.candidates c.args.tally.now in
    let root = at_root m c.args.k (prefix_at 0 c.empty-set.result) (omega arith) c.empty-set.ensures in
    subst (λ (o : Option (List ℕ)). IsBegun (g.T.Tally.value_of c.args.tally.now) (g.T.Tally.bound_of c.args.tally.now) m c.args.k c.args.best o (progress c.visit.new.self)) (sym c.in_default.is)
    (record {
      next = grind (arith, common_steps, root);
      counted = record {
        all = grind (arith, common_steps, all-live);
        few = grind (arith, common_steps, all-live);
        exact = λ e. grind (arith, common_steps, all-live);
        fits = grind (arith, common_steps, work-most m c.args.k (Some (prefix_at 0 c.empty-set.result)) (omega (arith, c.m-m.ensures.value, c.m-m.ensures.most)) root.1);
      };
    })

-- ---- down to the start

-- the beginning of the start is a place
here : (g : _) (c : After-upto-set g) → IsPlace (g.T.Tally.candidates c.args.tally.now) c.args.k (Some (prefix_at c.loop-c.c c.upto-set.result))
here g c =
    let start = subst (IsStart (g.T.Tally.candidates c.args.tally.now) c.args.k) c.in-Some.is c.requires.start in
    place-upto (g.T.Tally.candidates c.args.tally.now) c.args.k c.loop-c.c c.in-Some.start c.upto-set.result
    (omega (arith, c.loop-c-test.true, c.m-m.ensures.value)) start.0 start.1 c.upto-set.ensures

-- whether it is open
opened : (g : _) (c : After-enter g) → c.enter.result
    ≡ is_open (g.T.Tally.bound_of c.args.tally.now) (g.T.Tally.candidates c.args.tally.now) c.args.k c.args.best c.loop-c.c (members_upto c.in-Some.start c.loop-c.c)
opened g c =
    subst (λ s. c.enter.result ≡ is_open (g.T.Tally.bound_of c.args.tally.now) (g.T.Tally.candidates c.args.tally.now) c.args.k c.args.best c.loop-c.c s) c.upto-set.ensures
    (subst (λ (x : Aim g.row.T.Denot). c.enter.result ≡ is_open (g.T.Tally.bound_of x.tally) x.m x.k x.best c.loop-c.c c.upto-set.result) c.loop-c.invariant.same c.enter.ensures.open)

pub loop-c-init : goal.loop-c-init
loop-c-init g c =
    let chosen = subst (IsStart (g.T.Tally.candidates c.args.tally.now) c.args.k) c.in-Some.is c.requires.start in
    grind (arith, common_steps, upto-none)

pub enter-requires-clause-place : goal.enter-requires-clause-place
enter-requires-clause-place g c =
    subst (λ (x : Aim g.row.T.Denot). IsPlace x.m x.k (Some (prefix_at c.loop-c.c c.upto-set.result))) (sym c.loop-c.invariant.same)
    (here g (goal.at.enter-requires-clause-place g c).After-upto-set)

pub past-walk-requires-clause-candidates : goal.past-walk-requires-clause-candidates
past-walk-requires-clause-candidates g c = (here g (goal.at.past-walk-requires-clause-candidates g c).After-upto-set).1

pub returns-then-not-enter-clause-walk : goal.returns-then-not-enter-clause-walk
returns-then-not-enter-clause-walk g c =
    grind (arith, common_steps, prefix_at, here, place-past)

pub returns-then-not-enter-clause-begun : goal.returns-then-not-enter-clause-begun
returns-then-not-enter-clause-begun g c =
    let at = goal.at.returns-then-not-enter-clause-begun g c in
    let m = g.T.Tally.candidates c.args.tally.now in
    let k = c.args.k in
    let value = g.T.Tally.value_of c.args.tally.now in
    let bound = g.T.Tally.bound_of c.args.tally.now in
    let start = c.in-Some.start in
    let chosen = subst (IsStart m k) c.in-Some.is c.requires.start in
    let n = c.loop-c.c in
    let low : n ≤ m = (here g at.After-upto-set).0 in
    let none : those_reaching value c.args.best (committees_below m k n (members_upto start n)) ≡ [] =
    subst (λ s. those_reaching value c.args.best (committees_below m k n s) ≡ []) c.upto-set.ensures
    (subst (λ (x : Aim g.row.T.Denot). those_reaching (g.T.Tally.value_of x.tally) x.best (committees_below x.m x.k n c.upto-set.result) ≡ []) c.loop-c.invariant.same (c.enter.ensures.none c.if-not-enter.true)) in
    let entered = ap {B = ℕ} (λ b. cond b 1 0) c.if-not-enter.true in
    subst (λ (o : Option (List ℕ)). IsBegun value bound m k c.args.best o (record { place = c.past-walk.result; entered = c.enter.new.self.entered; ceilings = c.enter.new.self.ceilings })) (sym c.in-Some.is)
    (begun m k start chosen.0 chosen.1 value bound c.args.best n c.past-walk.result c.enter.new.self.entered c.enter.new.self.ceilings
    (omega (arith, c.m-m.ensures.value, c.m-m.ensures.most)) low (rw c.upto-set.ensures at c.past-walk.ensures)
    (left-early m k value c.args.best n start low chosen.0 chosen.1 none)
    (live-shut m k (Some start) bound c.args.best (m - n) n (members_upto start n) (sym (opened g at.After-enter) ∙ c.if-not-enter.true))
    c.loop-c.invariant.all c.loop-c.invariant.few (omega (arith, c.enter.ensures.entered, entered, c.loop-c.invariant.entered))
    (omega (arith, c.enter.ensures.once, c.loop-c.invariant.ceilings)))

pub loop-c-preserved : goal.loop-c-preserved
loop-c-preserved g c =
    let chosen = subst (IsStart (g.T.Tally.candidates c.args.tally.now) c.args.k) c.in-Some.is c.requires.start in
    grind (arith, common_steps, opened, down-all, down-step)

pub returns-clause-begun : goal.returns-clause-begun
returns-clause-begun g c =
    let m = g.T.Tally.candidates c.args.tally.now in
    let k = c.args.k in
    let value = g.T.Tally.value_of c.args.tally.now in
    let bound = g.T.Tally.bound_of c.args.tally.now in
    let start = c.in-Some.start in
    let chosen = subst (IsStart m k) c.in-Some.is c.requires.start in
    let n = c.loop-c.c in
    let last : n ≡ m = omega (arith, c.loop-c-test.false, c.loop-c.auto.c-end, c.m-m.ensures.value) in
    let whole : members_upto start n ≡ start = ap (members_upto start) last ∙ upto-all 1 m start chosen.0 in
    subst (λ (o : Option (List ℕ)). IsBegun value bound m k c.args.best o (record { place = c.past-walk-2.result; entered = c.loop-c.walk.entered; ceilings = c.loop-c.walk.ceilings })) (sym c.in-Some.is)
    (begun m k start chosen.0 chosen.1 value bound c.args.best n c.past-walk-2.result c.loop-c.walk.entered c.loop-c.walk.ceilings
    (omega (arith, c.m-m.ensures.value, c.m-m.ensures.most)) (omega (arith, last)) (rw (whole, last, ← c.m-m.ensures.value) c.past-walk-2.ensures)
    (rw whole (ap (those_reaching value c.args.best) (after-start m k start chosen.0 chosen.1)))
    (live-past m k (Some start) bound c.args.best (m - n) n (members_upto start n) (rw (whole, last) (ahead-whole m k start chosen.0 chosen.1)))
    c.loop-c.invariant.all c.loop-c.invariant.few c.loop-c.invariant.entered (omega (arith, c.loop-c.invariant.ceilings)))
