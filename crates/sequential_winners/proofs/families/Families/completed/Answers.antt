use Rattle.std.proofs.Common.{◌≡◌, ◌+◌, ◌-◌, ◌≤◌, ◌∷◌, ◌∙◌, sym, ap, subst, arith}
use Rattle.std.specs.Prelude.{fold}
use Rattle.std.specs.List.{range_with_len}
use Rattle.ballot_base.specs.CandSet.{has_member, common_members}
use Rattle.ballot_base.specs.Lists.{IsIncreasing}
use Rattle.ballot_base.proofs.Increasing.{IsIncreasing-either, IsIncreasing-filter, IsIncreasing-higher, IsIncreasing-lower, IsIncreasing-with_member}
use Rattle.tie_walk.proofs.LawLemmas.{IsIncreasing-range}
use Rattle.sequential_winners.specs.Clones.{without_clones}
use Rattle.sequential_winners.specs.Families.{Sequential}
use Rattle.sequential_winners.specs.Steps.Tables.{completed_by}
use Rattle.sequential_winners.proofs.AloneLemmas.{completed-parts}
use Rattle.sequential_winners.proofs.TableLemmas.{completed-with, completed-same}
use Rattle.sequential_winners.proofs.families.Families.completed.Goals as goal
use Rattle.sequential_winners.proofs.families.Families.completed.Goals.{After-count}

pub loop-x-init : goal.loop-x-init
loop-x-init g c =
    let e = c.args.self.now.election in
    let after = range_with_len (c.args.c + 1) (e.m - c.args.c) in
    let after-is : c.after-after.result ≡ after = c.after-after.ensures ∙ ap (λ n. range_with_len (c.args.c + 1) (n - c.args.c)) c.m.ensures.value in
    let alone-is : c.self.inside.alone ≡ without_clones e.m e.rows = c.self.invariant.2 ∙ ap (λ (s : Sequential). without_clones s.election.m s.election.rows) c.self.view_is in
    let after-up : IsIncreasing (c.args.c + 1) e.m after = IsIncreasing-range (c.args.c + 1) (e.m - c.args.c) e.m (omega (arith, c.requires.within)) in
    rw (c.into_iter-x-iterator.ensures.into_iter_gives, c.members-x-items.ensures.items, c.minus.ensures, c.union-all.ensures, c.common-2.ensures, c.common.ensures, after-is, alone-is) record {
      rises = IsIncreasing-filter _ (c.args.c + 1) e.m after after-up;
      candidates = IsIncreasing-either 1 e.m c.args.set _ (IsIncreasing-higher 1 c.args.c e.m c.args.set c.requires.within c.requires.set)
          (IsIncreasing-filter (has_member (without_clones e.m e.rows)) 1 e.m (common_members c.args.other after) (IsIncreasing-filter (has_member after) 1 e.m c.args.other c.requires.other));
      made = sym (completed-parts e.m e.rows c.args.other c.requires.other c.args.c c.args.set c.requires.within c.requires.set);
    }

-- the next candidate, and those after it
turn : (g : _) (c : After-count g) → ((c.args.c + 1 ≤ c.in-Some.x) × (c.in-Some.x ≤ c.args.self.now.election.m)) × IsIncreasing (c.args.c + 1) c.args.self.now.election.m c.next.new.self
turn g c =
    let e = c.args.self.now.election in
    let old : IsIncreasing (c.args.c + 1) e.m (c.in-Some.x ∷ c.next.new.self) = subst (IsIncreasing (c.args.c + 1) e.m) c.in-Some.ensures.steps c.loop-x.invariant.rises in
    ((old.0, old.1), IsIncreasing-lower (c.args.c + 1) (c.in-Some.x + 1) e.m c.next.new.self (omega (arith, old.0)) old.2)

pub count-requires-clause-low : goal.count-requires-clause-low
count-requires-clause-low g c =
    let e = c.args.self.now.election in
    let old : IsIncreasing (c.args.c + 1) e.m (c.in-Some.x ∷ c.next.new.self) = subst (IsIncreasing (c.args.c + 1) e.m) c.in-Some.ensures.steps c.loop-x.invariant.rises in
    omega (arith, old.0)

pub count-requires-clause-high : goal.count-requires-clause-high
count-requires-clause-high g c =
    let e = c.args.self.now.election in
    let old : IsIncreasing (c.args.c + 1) e.m (c.in-Some.x ∷ c.next.new.self) = subst (IsIncreasing (c.args.c + 1) e.m) c.in-Some.ensures.steps c.loop-x.invariant.rises in
    old.1

pub loop-x-preserved-then-count : goal.loop-x-preserved-then-count
loop-x-preserved-then-count g c =
    let e = c.args.self.now.election in
    let x = c.in-Some.x in
    let all = c.loop-x.all in
    let t = turn g (goal.at.loop-x-preserved-then-count g c).After-count in
    rw c.with-all.ensures record {
      rises = t.1;
      candidates = IsIncreasing-with_member 1 e.m all x (omega (arith, t.0.0)) t.0.1 c.loop-x.invariant.candidates;
      made = ap (λ s. fold (completed_by e.rows c.args.other) s c.next.new.self)
          (sym (completed-with e.rows c.args.other all x (omega (arith, c.count.ensures, c.count-in-loop-x.ensures, c.if-count.true))))
          ∙ ap (fold (completed_by e.rows c.args.other) all) (sym c.in-Some.ensures.steps) ∙ c.loop-x.invariant.made;
    }

pub loop-x-preserved : goal.loop-x-preserved
loop-x-preserved g c =
    let e = c.args.self.now.election in
    let x = c.in-Some.x in
    let all = c.loop-x.all in
    let t = turn g (goal.at.loop-x-preserved g c).After-count in
    record {
      rises = t.1;
      candidates = c.loop-x.invariant.candidates;
      made = ap (λ s. fold (completed_by e.rows c.args.other) s c.next.new.self)
          (sym (completed-same e.rows c.args.other all x (omega (arith, c.count.ensures, c.count-in-loop-x.ensures, c.if-count.false))))
          ∙ ap (fold (completed_by e.rows c.args.other) all) (sym c.in-Some.ensures.steps) ∙ c.loop-x.invariant.made;
    }

pub returns-clause-made : goal.returns-clause-made
returns-clause-made g c =
    let e = c.args.self.now.election in
    sym (ap (fold (completed_by e.rows c.args.other) c.loop-x.all) c.in-None.ensures.steps.0) ∙ c.loop-x.invariant.made
