use Rattle.std.proofs.Common.{rules, ◌≡◌, ◌+◌, [], ◌∷◌, ap, append-nil, arith, length, length-append, refl, subst, sym, ◌∙◌}
use Rattle.tie_search.specs.Steps.Branches.{AreStacked, IsAskingIn, IsBranch, IsStep, IsStepIn}
use Rattle.tie_search.proofs.BranchLemmas.{free-most}
use Rattle.tie_search.proofs.EnteredLemmas.{barren-step}
use Rattle.tie_search.proofs.StackLemmas.{stack-pop, then-step}
use Rattle.tie_search.proofs.asking.Asking.next.Goals as goal
use Rattle.tie_search.proofs.asking.Asking.next.Goals.{In-Some, In_default, After-pop, After-first_of}

-- what was true before the last branch was taken off the stack
before : (g : _) (c : After-pop g) → IsAskingIn g.S.Tally.value_of g.S.Tally.candidates c.args.oracle.now c.loop-branch.self
before g c = c.loop-branch.invariant.asking

so-far : (g : _) (c : After-pop g) → IsStepIn g.S.Tally.value_of g.S.Tally.candidates c.args.oracle.now c.args.self.now [] c.loop-branch.self
so-far g c = c.loop-branch.invariant.step

popped : (g : _) (c : In-Some g)
    → let oracle = c.args.oracle.now in let m = g.S.Tally.candidates oracle.search in let branches = c.pop.new.self.items in
    AreStacked m oracle.k 0 branches × IsBranch m oracle.k c.in-Some.branch × (length c.in-Some.branch.set ≡ 0 + length branches)
popped g c =
    let oracle = c.args.oracle.now in
    let m = g.S.Tally.candidates oracle.search in
    stack-pop (g.S.Tally.value_of oracle.search) m oracle.k 0 c.pop.new.self.items c.in-Some.branch (subst (AreStacked m oracle.k 0) c.in-Some.ensures.items (before g (goal.at.In-Some g c).After-pop).stacked)

pub loop-branch-init : goal.loop-branch-init
loop-branch-init g c = record {
  listed = c.requires.listed;
  asking = c.requires.asking;
  step = record { left = refl; rises = omega arith; counted = refl };
  rises = omega arith;
  asked = omega arith;
}

pub ask-requires-clause-branch : goal.ask-requires-clause-branch
ask-requires-clause-branch g c = (popped g (goal.at.ask-requires-clause-branch g c).In-Some).1

pub ask-requires-clause-found : goal.ask-requires-clause-found
ask-requires-clause-found g c = (before g (goal.at.ask-requires-clause-found g c).After-pop).found_is

pub first_of-requires-clause-way : goal.first_of-requires-clause-way
first_of-requires-clause-way g c =
    let parts = popped g (goal.at.first_of-requires-clause-way g c).In-Some in
    record {
      stacked = parts.0;
      branch_is = parts.1;
      size_is = omega (arith, parts.2);
      reached = c.in-Some-ask.ensures.answer;
      fits = rw c.in-Some.ensures.items at (before g (goal.at.first_of-requires-clause-way g c).After-pop).fits;
    }

-- the way down to the first winner
found : (g : _) (c : After-first_of g) → IsStepIn g.S.Tally.value_of g.S.Tally.candidates c.args.oracle.now c.args.self.now (c.first_of.result ∷ []) c.first_of.new.self
found g c =
    let oracle = c.args.oracle.now in
    let was = c.args.self.now in
    let now = c.loop-branch.self in
    let new = c.first_of.new.self in
    then-step (g.S.Tally.value_of oracle.search) (g.S.Tally.candidates oracle.search) oracle.k was.branches.items now.branches.items new.branches.items was.entered now.entered new.entered [] (c.first_of.result ∷ [])
    (so-far g (goal.at.After-first_of g c).After-pop) (rw c.in-Some.ensures.items c.first_of.ensures.step)

pub returns-in-Some-ask-clause-step : goal.returns-in-Some-ask-clause-step
returns-in-Some-ask-clause-step g c = found g (goal.at.returns-in-Some-ask-clause-step g c).After-first_of

pub returns-in-Some-ask-clause-asked : goal.returns-in-Some-ask-clause-asked
returns-in-Some-ask-clause-asked g c =
    let oracle = c.args.oracle.now in
    let value = g.S.Tally.value_of oracle.search in
    let m = g.S.Tally.candidates oracle.search in
    let free = free-most value m oracle.k c.in-Some.branch (popped g (goal.at.returns-in-Some-ask-clause-asked g c).In-Some).1 in
    let size = length-append c.pop.new.self.items (c.in-Some.branch ∷ []) in
    let items = ap length c.in-Some.ensures.items in
    record {
      rise = omega (arith, c.first_of.ensures.rises, c.ask.ensures.rises, c.loop-branch.invariant.rises);
      few = omega (arith, c.first_of.ensures.asked, c.ask.ensures.asked, c.loop-branch.invariant.asked, c.requires.asking.few, free, items, size);
      spread = omega (arith, c.first_of.ensures.asked, c.first_of.ensures.asking.few, c.ask.ensures.asked, c.loop-branch.invariant.asked, free, items, size);
    }

pub loop-branch-smaller : goal.loop-branch-smaller
loop-branch-smaller g c = omega (arith, ap length c.in-Some.ensures.items, length-append c.pop.new.self.items (c.in-Some.branch ∷ []))

pub loop-branch-preserved : goal.loop-branch-preserved
loop-branch-preserved g c =
    let oracle = c.args.oracle.now in
    let value = g.S.Tally.value_of oracle.search in
    let m = g.S.Tally.candidates oracle.search in
    let was = c.args.self.now in
    let now = c.loop-branch.self in
    let rest = c.pop.new.self.items in
    let parts = popped g (goal.at.loop-branch-preserved g c).In-Some in
    let is = before g (goal.at.loop-branch-preserved g c).After-pop in
    let size = length-append rest (c.in-Some.branch ∷ []) in
    let step : IsStep value m oracle.k now.branches.items now.entered [] rest now.entered =
    rw c.in-Some.ensures.items (barren-step value m oracle.k rest c.in-Some.branch now.entered c.in_default-ask.ensures.answer) in
    record {
      listed = c.ask.ensures.listed;
      asking = record {
        found_is = is.found_is;
        stacked = parts.0;
        few = omega (arith, is.few, ap length c.in-Some.ensures.items, size);
        fits = omega (arith, is.fits, step.counted);
      };
      step = then-step value m oracle.k was.branches.items now.branches.items rest was.entered now.entered now.entered [] [] (so-far g (goal.at.loop-branch-preserved g c).After-pop) step;
      rises = omega (arith, c.ask.ensures.rises, c.loop-branch.invariant.rises);
      asked = omega (arith, c.ask.ensures.asked, c.loop-branch.invariant.asked, ap length c.in-Some.ensures.items, size);
    }

-- nothing was left on the stack
same : (g : _) (c : In_default g) → c.pop.new.self.items ≡ c.loop-branch.self.branches.items
same g c = sym (c.in_default.ensures.items ∙ append-nil c.pop.new.self.items)

pub returns-clause-asking : goal.returns-clause-asking
returns-clause-asking g c =
    let at = (goal.at.returns-clause-asking g c).In_default in
    let is = before g (goal.at.In_default g at).After-pop in
    let same = same g at in
    record { found_is = is.found_is; stacked = rw same is.stacked; few = rw same is.few; fits = rw same is.fits }

pub returns-clause-step : goal.returns-clause-step
returns-clause-step g c =
    let at = (goal.at.returns-clause-step g c).In_default in
    rw (same g at) (so-far g (goal.at.In_default g at).After-pop)

pub returns-clause-end : goal.returns-clause-end
returns-clause-end g c _ =
    let none : c.loop-branch.self.branches.items ≡ [] = search rules in
    same g (goal.at.returns-clause-end g c).In_default ∙ none

pub returns-clause-asked : goal.returns-clause-asked
returns-clause-asked g c =
    let left = ap length (same g (goal.at.returns-clause-asked g c).In_default) in
    record {
      rise = omega (arith, c.loop-branch.invariant.rises);
      few = omega (arith, c.loop-branch.invariant.asked, c.requires.asking.few);
      spread = omega (arith, c.loop-branch.invariant.asked, left);
    }
