use Rattle.std.proofs.Common.{◌≡◌, ℕ, ◌+◌, ◌<◌, ◌≤◌, ◌++◌, ◌∷◌, [], List, ap, arith, sym, ◌∙◌, length, length-append}
use Rattle.std.specs.Prelude.{slice_index_or}
use Rattle.ballot_base.specs.CandSet.{other_members}
use Rattle.tie_search.specs.Alike.{AreAlike}
use Rattle.tie_search.specs.Steps.Branches.{IsBarren, IsOnTheWay, IsStep, IsWinnerOf}
use Rattle.tie_search.specs.declared.asking.Asking.{Asking}
use Rattle.row_multipliers.specs.declared.node.Node.{Node}
use Rattle.tie_search.proofs.BranchLemmas.{few-barren, grown-size, joined, left-branch, left-completes, passed, with-branch, without-branch}
use Rattle.tie_search.proofs.CloneLemmas.{alike-table, minus-most}
use Rattle.tie_search.proofs.EnteredLemmas.{joined-step, left-step, whole-step}
use Rattle.tie_search.proofs.StackLemmas.{same-winners, stack-push, then-step}
use Rattle.tie_search.proofs.asking.Asking.first_of.Goals as goal

-- a winner goes on with a free candidate
stuck : (value : List ℕ → ℕ) (m k : ℕ) (asking : Asking) (branch : Node) → IsOnTheWay value m k asking branch → 1 ≤ branch.left → branch.free ≡ [] → ⊥
stuck value m k asking branch way short none = few-barren value m k branch way.branch_is (omega (arith, short, ap length none)) asking.found way.reached

pub returns-in_default-clause-asking : goal.returns-in_default-clause-asking
returns-in_default-clause-asking g c = absurd (stuck _ _ _ _ _ c.loop-branch.invariant.way (omega (arith, c.loop-branch-test.true)) c.in_default.ensures)

pub returns-in_default-clause-step : goal.returns-in_default-clause-step
returns-in_default-clause-step g c = absurd (stuck _ _ _ _ _ c.loop-branch.invariant.way (omega (arith, c.loop-branch-test.true)) c.in_default.ensures)

pub ask-requires-clause-branch : goal.ask-requires-clause-branch
ask-requires-clause-branch g c =
    let oracle = c.args.oracle.now in
    rw c.with.ensures
    (with-branch (g.S.Tally.value_of oracle.search) (g.S.Tally.candidates oracle.search) oracle.k c.loop-branch.branch c.loop-branch.invariant.way.branch_is (omega (arith, c.loop-branch-test.true))
    c.in-Some.parts.0 c.in-Some.parts.1 c.in-Some.ensures)

pub push-requires : goal.push-requires
push-requires g c =
    let room : length c.loop-branch.self.branches.items < 65 =
    omega (arith, c.loop-branch.invariant.way.size_is, c.loop-branch.invariant.way.branch_is.size, c.loop-branch-test.true, c.requires.knows.fits, c.requires.knows.most) in
    (omega arith, room)

pub loop-branch-smaller-in-Some-ask : goal.loop-branch-smaller-in-Some-ask
loop-branch-smaller-in-Some-ask g c = omega (arith, ap length c.in-Some.ensures)

pub loop-branch-preserved-in-Some-ask : goal.loop-branch-preserved-in-Some-ask
loop-branch-preserved-in-Some-ask g c =
    let oracle = c.args.oracle.now in
    let value = g.S.Tally.value_of oracle.search in
    let m = g.S.Tally.candidates oracle.search in
    let branch = c.loop-branch.branch in
    let was = c.loop-branch.self in
    let items = was.branches.items in
    let way = c.loop-branch.invariant.way in
    let next = c.in-Some.parts.0 in
    let rest = c.in-Some.parts.1 in
    let short : 1 ≤ branch.left = omega (arith, c.loop-branch-test.true) in
    let wins : IsWinnerOf value m oracle.k (joined branch next rest) c.in-Some-ask.winner = rw c.with.ensures at c.in-Some-ask.ensures.answer in
    let step = joined-step value m oracle.k items branch was.entered way.branch_is short next rest c.in-Some.ensures c.in-Some-ask.winner wins in
    rw (c.with.ensures, c.push.ensures.items) record {
      listed = c.ask.ensures.listed;
      way = record {
        stacked = stack-push value m oracle.k 0 items (passed branch rest) way.stacked (without-branch value m oracle.k branch way.branch_is short next rest c.in-Some.ensures) (omega (arith, way.size_is));
        branch_is = with-branch value m oracle.k branch way.branch_is short next rest c.in-Some.ensures;
        size_is = omega (
          arith,
          grown-size value m oracle.k branch way.branch_is short next rest c.in-Some.ensures,
          way.size_is,
          length-append items (passed branch rest ∷ []),
        );
        reached = wins;
        fits = omega (arith, way.fits, step.counted);
      };
      step = then-step value m oracle.k (c.args.self.now.branches.items ++ c.args.branch ∷ []) (items ++ branch ∷ []) ((items ++ passed branch rest ∷ []) ++ joined branch next rest ∷ [])
          c.args.self.now.entered was.entered (was.entered + 1) [] [] c.loop-branch.invariant.step step;
      rises = omega (arith, c.loop-branch.invariant.rises, c.ask.ensures.rises);
      asked = omega (arith, c.loop-branch.invariant.asked, c.ask.ensures.asked, ap length c.in-Some.ensures);
    }

pub loop-branch-smaller : goal.loop-branch-smaller
loop-branch-smaller g c = omega (arith, ap length c.minus-branch.ensures, minus-most c.in-Some.parts.1 c.class.result, ap length c.in-Some.ensures)

pub loop-branch-preserved : goal.loop-branch-preserved
loop-branch-preserved g c =
    let oracle = c.args.oracle.now in
    let value = g.S.Tally.value_of oracle.search in
    let m = g.S.Tally.candidates oracle.search in
    let branch = c.loop-branch.branch in
    let was = c.loop-branch.self in
    let way = c.loop-branch.invariant.way in
    let next = c.in-Some.parts.0 in
    let rest = c.in-Some.parts.1 in
    let table = c.clones.result.now in
    let other = passed branch (other_members rest (slice_index_or table next [])) in
    let short : 1 ≤ branch.left = omega (arith, c.loop-branch-test.true) in
    let alike : AreAlike value m (λ n. slice_index_or table n []) = alike-table value m (g.S.WithClones.class_of oracle.search) table c.clones.ensures.table c.clones.ensures.alike in
    let none : IsBarren value m oracle.k (joined branch next rest) = rw c.with.ensures at c.in_default-ask.ensures.answer in
    let same = left-completes value m oracle.k branch way.branch_is short next rest c.in-Some.ensures table alike none in
    let step = left-step value m oracle.k was.branches.items branch was.entered other (λ i. branch.set) (same-winners value m oracle.k branch other same) in
    rw (c.minus-branch.ensures ∙ ap (other_members rest) c.class.ensures) record {
      listed = c.ask.ensures.listed;
      way = record {
        stacked = way.stacked;
        branch_is = left-branch value m oracle.k branch way.branch_is short next rest c.in-Some.ensures table alike none;
        size_is = way.size_is;
        reached = record {
          best = way.reached.best;
          whole = sym (same was.found way.reached.best) ∙ way.reached.whole;
        };
        fits = omega (arith, way.fits, step.counted);
      };
      step = then-step value m oracle.k (c.args.self.now.branches.items ++ c.args.branch ∷ []) (was.branches.items ++ branch ∷ []) (was.branches.items ++ other ∷ [])
          c.args.self.now.entered was.entered was.entered [] [] c.loop-branch.invariant.step step;
      rises = omega (arith, c.loop-branch.invariant.rises, c.ask.ensures.rises);
      asked = omega (arith, c.loop-branch.invariant.asked, c.ask.ensures.asked, minus-most rest (slice_index_or table next []), ap length c.in-Some.ensures);
    }

-- the set is a winner
whole : (value : List ℕ → ℕ) (m k : ℕ) (asking : Asking) (branch : Node) → IsOnTheWay value m k asking branch → branch.left ≡ 0
    → IsStep value m k (asking.branches.items ++ branch ∷ []) asking.entered (branch.set ∷ []) asking.branches.items asking.entered
whole value m k asking branch way long =
    whole-step value m k asking.branches.items branch asking.entered asking.found way.branch_is long way.reached

pub returns-clause-asking : goal.returns-clause-asking
returns-clause-asking g c =
    let way = c.loop-branch.invariant.way in
    let step = whole _ _ _ c.loop-branch.self c.loop-branch.branch way (omega (arith, c.loop-branch-test.false)) in
    record { found_is = way.reached.best; stacked = way.stacked; few = omega (arith, way.size_is, way.branch_is.size); fits = omega (arith, way.fits, step.counted) }

pub returns-clause-step : goal.returns-clause-step
returns-clause-step g c =
    let asking = c.loop-branch.self in
    let branch = c.loop-branch.branch in
    then-step _ _ c.args.oracle.now.k (c.args.self.now.branches.items ++ c.args.branch ∷ []) (asking.branches.items ++ branch ∷ []) asking.branches.items
    c.args.self.now.entered asking.entered asking.entered [] (branch.set ∷ []) c.loop-branch.invariant.step
    (whole _ _ _ asking branch c.loop-branch.invariant.way (omega (arith, c.loop-branch-test.false)))
