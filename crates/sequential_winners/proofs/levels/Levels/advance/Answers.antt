use Rattle.std.proofs.Common.{◌≡◌, ◌++◌, ◌∷◌, [], ◌∙◌, cond, sym, ap, subst, arith}
use Rattle.std.specs.List.{AllByRecursion}
use Rattle.std.proofs.lemmas.Bool.{eq-eqb, ne_eqb}
use Rattle.std.proofs.lemmas.List.Elements.{All-from_recursion}
use Rattle.ballot_base.specs.Lists.{IsIncreasing}
use Rattle.tie_walk.specs.Sequences.{hit_weights}
use Rattle.tie_walk.specs.Steps.Choices.{step_of, choices_of, HasSetsOf}
use Rattle.tie_walk.proofs.FoundLemmas.{found-inserted, found-next, found-in_order}
use Rattle.sequential_winners.specs.Steps.Levels.{chosen, followers, family_changes, IsNextFamilies}
use Rattle.sequential_winners.proofs.LevelLemmas.{level-next, level-candidates}
use Rattle.sequential_winners.proofs.WinnerLemmas.{set-size, hit_weights-fall, hit_weights-count}
use Rattle.sequential_winners.proofs.levels.Levels.advance.Goals as goal
use Rattle.sequential_winners.proofs.levels.Levels.advance.Goals.{After-set-item, then-choices-size+in_ok-follow, else-choices-size+in_ok-insert}

set-up : (g : _) (c : After-set-item g) → IsIncreasing 1 c.args.self.now.choices.profile.now.m c.set-item.result
set-up g c =
    let e = c.args.self.now.choices.profile.now in
    let rule = c.args.self.now.choices.rule in
    let level = c.args.level.now in
    let all : AllByRecursion (λ s. IsIncreasing 1 e.m s) level.sets.items =
    level-candidates (step_of rule) (hit_weights rule e.m) e.m e.rows c.args.total level.size level.sets.items c.requires.level in
    subst (IsIncreasing 1 e.m) (sym c.set-item.is) (All-from_recursion (λ s. IsIncreasing 1 e.m s) c.deref-set-items.result.now (subst (AllByRecursion (λ s. IsIncreasing 1 e.m s)) (sym c.deref-set-items.ensures.value) all)
    c.loop-set.set-index c.set-item.result c.loop-set-test.true)

pub choices-requires : goal.choices-requires
choices-requires g c =
    let s = c.args.self.now.choices in
    let size = set-size s.rule s.profile.now.m c.set-item.result (set-up g (goal.at.choices-requires g c).After-set-item) in
    omega (arith, size.0, c.len.ensures.count, c.m-m.ensures.value)

pub follow-requires : goal.follow-requires
follow-requires g c = set-up g (goal.at.follow-requires g c).After-set-item

pub loop-set-preserved : goal.loop-set-preserved
loop-set-preserved g c =
    let s = c.args.self.now.choices in
    let e = s.profile.now in
    let step = step_of s.rule in
    let set = c.set-item.result in
    let old = c.loop-set.found.keys in
    let weights = hit_weights s.rule e.m in
    let make = family_changes step weights e.m e.rows c.args.total c.args.level.now.size in
    let one = followers step weights e.m e.rows c.args.total set in
    let size = set-size s.rule e.m set (set-up g (goal.at.loop-set-preserved g c).After-set-item) in
    let many : c.choices.result ≡ chosen step e.m set = c.choices.ensures ∙ ap (λ n. choices_of s.rule n c.len.result) c.m-m.ensures.value ∙ ap (choices_of s.rule e.m) c.len.ensures.count ∙ sym size.1 in
    let made : HasSetsOf (old ++ make set) c.if-choices-size.found.keys = elim c.if-choices-size.branch [
      | then-choices-size+in_ok-follow w ↦
          let is = eq-eqb (chosen step e.m set) c.args.level.now.size (sym many ∙ w.if-choices-size.true) in
          rw w.found-is (subst (λ b. HasSetsOf (old ++ cond b one (set ∷ [])) w.follow.new.found.keys) (sym is) w.in_ok-follow.ensures)
      | else-choices-size+in_ok-insert w ↦
          let other = ne_eqb (chosen step e.m set) c.args.level.now.size (λ same. w.if-choices-size.false (many ∙ same)) in
          rw w.found-is (subst (λ b. HasSetsOf (old ++ cond b one (set ∷ [])) w.insert.new.self.keys) (sym other) (found-inserted old w.insert.new.self.keys set w.in_ok-insert.ensures.updates.0))
    ] in
    found-next make c.deref-set-items.result.now c.loop-set.set-index set old c.if-choices-size.found.keys (omega arith) c.set-item.is c.loop-set.invariant made

pub returns : goal.returns
returns g c =
    let e = c.args.self.now.choices.profile.now in
    let rule = c.args.self.now.choices.rule in
    let level = c.args.level.now in
    let next = c.put_in_order.new.sets.items in
    let weights = hit_weights rule e.m in
    let make = family_changes (step_of rule) weights e.m e.rows c.args.total level.size in
    let made : IsNextFamilies (step_of rule) weights e.m e.rows c.args.total level.size c.deref-set-items.result.now next =
    found-in_order make c.deref-set-items.result.now c.loop-set.set-index c.loop-set.found.keys next (omega arith) c.loop-set.invariant c.in_ok-put_in_order.ensures in
    level-next (step_of rule) weights e.m e.rows c.m-m.ensures.valid.ballots (hit_weights-fall rule e.m) c.m-m.ensures.valid.counts (hit_weights-count rule e.m) c.args.total level.size (omega arith) c.requires.total level.sets.items next
    c.requires.level (subst (λ l. IsNextFamilies (step_of rule) weights e.m e.rows c.args.total level.size l next) c.deref-set-items.ensures.value made)
