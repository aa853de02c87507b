use Rattle.std.proofs.Common.{◌≡◌, ℕ, ◌+◌, ◌<◌, ◌≤◌, ◌∙◌, Bool, true, false, cond, List, [], ◌∷◌, ◌++◌, Option, refl, sym, ap, arith, length}
use Rattle.std.proofs.lemmas.Grind.{common_steps}
use Rattle.std.specs.Bool.{then_some}
use Rattle.std.specs.Prelude.{option_to_list}
use Rattle.std.proofs.lemmas.Bool.{leb-false}
use Rattle.ballot_base.proofs.Increasing.{with_member-above}
use Rattle.tie_walk.specs.declared.walk.Prefix.{Prefix}
use Rattle.tie_walk.specs.Steps.Walks.{Progress, IsWait, those_reaching, waits_from}
use Rattle.tie_walk.proofs.WalkLemmas.{work-past}
use Rattle.tie_walk.proofs.OpenLemmas.{place-first, reaching-past, reaching-whole, from-first, open-sizes, passed, entered-first, entered-last}
use Rattle.tie_walk.proofs.WaitLemmas.{alive-none, alive-open, alive-whole, waits-some, wait-past, wait-first}
use Rattle.tie_walk.proofs.walk.Walk.visit.Goals as goal
use Rattle.tie_walk.proofs.walk.Walk.visit.Goals.{then-len-k, else-len-k}

found_by : (b : Bool) (set : List ℕ) → option_to_list (then_some b set) ≡ cond b (set ∷ []) []
found_by true set = refl
found_by false set = refl

wait_by : (value : List ℕ → ℕ) (m k best : ℕ) (from : Option Prefix) (before : Progress) (rest : Progress) (set : List ℕ) (b : Bool)
    → (b ≡ true → rest.ceilings ≤ before.ceilings + waits_from value m k best from) → (b ≡ false → ⊥) → IsWait value m k best from before (then_some b set) rest
wait_by value m k best from before rest set true some none = some refl
wait_by value m k best from before rest set false some none = absurd (none refl)

pub returns-then-not-enter-clause-stride : goal.returns-then-not-enter-clause-stride
returns-then-not-enter-clause-stride g c = record {
  same = c.enter.ensures.aim;
  next = grind (arith, common_steps, reaching-past);
  count = grind (arith, common_steps, passed);
  entered = grind (arith, common_steps);
  asked = c.enter.ensures.asked;
  work = grind (arith, common_steps, work-past);
  wait = λ exact. grind (arith, common_steps, alive-none, wait-past);
}

pub returns-then-not-enter-clause-work : goal.returns-then-not-enter-clause-work
returns-then-not-enter-clause-work g c = work-past c.args.self.now.m c.args.self.now.k c.args.prefix.now c.past-self.result c.past-self.ensures

-- the first prefix below: with the next candidate, if there is room for one
pub returns-then-c-m : goal.returns-then-c-m
returns-then-c-m g c =
    let w = c.args.self.now in
    let p = c.args.prefix.now in
    let next : Prefix = record { c = p.c + 1; set = c.if-len-k.set } in
    let grown : length p.set < w.k → next.set ≡ p.set ++ (p.c + 1) ∷ [] = λ few. elim c.if-len-k.branch [
      | then-len-k b ↦ b.set-is ∙ b.with-set.ensures ∙ with_member-above 1 p.c p.set (p.c + 1) c.requires.place.1 (omega arith)
      | else-len-k b ↦ absurd (omega (arith, b.if-len-k.false, c.len.ensures.count, few))
    ] in
    let full : length p.set ≡ w.k → next.set ≡ p.set = λ full. elim c.if-len-k.branch [
      | then-len-k b ↦ absurd (omega (arith, b.if-len-k.true, c.len.ensures.count, full))
      | else-len-k b ↦ b.set-is
    ] in
    let first = from-first w.m w.k p next c.if-c-m.true c.requires.place refl grown full in
    let place = place-first w.m w.k p next c.if-c-m.true c.requires.place refl grown full in
    let asked = c.enter.ensures in
    let value = g.T.Tally.value_of w.tally.now in
    let bound = g.T.Tally.bound_of w.tally.now in
    let open-is = sym asked.open ∙ c.if-not-enter.false in
    record {
      walk = grind (arith, common_steps);
      stride = record {
        same = asked.aim;
        next = ap (those_reaching value w.best) (sym first.0);
        count = omega (
          arith,
          entered-first bound w.m w.k w.best p next c.if-c-m.true c.requires.place refl grown full open-is,
          asked.entered,
          ap {B = ℕ} (λ b. cond b 1 0) c.if-not-enter.false,
        );
        entered = omega (arith, asked.entered);
        asked = asked.asked;
        work = omega (arith, asked.once, first.1);
        wait = λ exact. omega (
          arith,
          asked.once,
          wait-first value w.m w.k w.best p next c.if-c-m.true c.requires.place refl grown full
              (alive-open value w.m w.k w.best bound p.c p.set exact c.requires.place.0 c.requires.place.1 open-is),
        );
      };
      work = first.1;
      early = λ more. refl;
    }

pub returns-clause-stride : goal.returns-clause-stride
returns-clause-stride g c = record {
  same = c.enter.ensures.aim;
  next = grind (arith, common_steps, open-sizes, found_by, reaching-whole);
  count = grind (arith, common_steps, entered-last);
  entered = grind (arith, common_steps);
  asked = c.enter.ensures.asked;
  work = grind (arith, common_steps, work-past);
  wait = λ exact. grind (arith, common_steps, open-sizes, alive-open, alive-whole, waits-some, wait_by, leb-false);
}

pub returns-then-not-enter-clause-walk : goal.returns-then-not-enter-clause-walk
returns-then-not-enter-clause-walk g c = grind (arith, common_steps)

pub returns-clause-walk : goal.returns-clause-walk
returns-clause-walk g c = grind (arith, common_steps)

pub returns-clause-work : goal.returns-clause-work
returns-clause-work g c = grind (arith, common_steps)
