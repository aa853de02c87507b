use Rattle.std.proofs.Common.{◌≡◌, ℕ, ◌+◌, ◌*◌, ◌≤◌, List, [], ◌++◌, Option, None, Some, ap, arith, length, length-append, option_to_list, refl, subst, ◌∙◌}
use Rattle.std.proofs.Math.Nat.{mul-add}
use Rattle.std.specs.Iterator.{YieldsFirst}
use Rattle.tie_search.specs.Asked.{Asked, IsNextAsked}
use Rattle.tie_search.specs.Steps.Branches.{AreAskedIn, AreListedIn, IsAskingIn, IsListing, IsStepIn, left_by, to_enter}
use Rattle.tie_search.specs.declared.asking.Asking.{Asking}
use Rattle.tie_search.specs.declared.oracle.Oracle.{Oracle}
use Rattle.tie_search.specs.declared.branch_list.BranchList.{BranchList}
use Rattle.row_multipliers.specs.declared.node.Node.{Node}
use Rattle.tie_search.proofs.winners.SearchWinnersIterator.next.Goals as goal

-- the first of two lists, or none where both are empty
first-of : {S : Type 0} (from : Asked S) (winner : Option (List ℕ)) (to : Asked S) → from.left ≡ option_to_list winner ++ to.left → (winner ≡ None → to.left ≡ [])
    → YieldsFirst (λ (a : Asked S). a.left) from winner to
first-of from None to is end = (is ∙ end refl, end refl)
first-of from (Some set) to is end = is

-- no branches leave nothing
nothing-left : (value : List ℕ → ℕ) (m k : ℕ) (branches : List Node) → branches ≡ [] → (left_by value m k branches ≡ []) × (to_enter value m k branches ≡ 0)
unfolding left_by to_enter
nothing-left value m k branches none = rw none (refl, refl)

-- what is found and what is left are what was left
still-few : (each : ℕ) (was now : Asking) (before found after : List (List ℕ)) (most : ℕ) → before ≡ found ++ after
    → now.asked + length now.branches.items ≤ was.asked + length was.branches.items + each * length found
    → was.asked + length was.branches.items + each * length before ≤ most → now.asked + length now.branches.items + each * length after ≤ most
still-few each was now before found after most is spread few =
    let parts : each * length before ≡ each * length found + each * length after =
    ap (λ l. each * length l) is ∙ ap (λ n. each * n) (length-append found after) ∙ mul-add each (length found) (length after) in
    omega (arith, spread, few, parts)

module _ {S : Type 0} (value : S → List ℕ → ℕ) (class : S → ℕ → List ℕ) (candidates : S → ℕ) where
  abbrev view : Oracle S → Option (List ℕ) → Asking → Asked S
  view oracle after asking = record {
    search = oracle.search;
    k = oracle.k;
    after = after;
    left = left_by (value oracle.search) (candidates oracle.search) oracle.k asking.branches.items;
    entered = asking.entered;
    questions = asking.asked;
  }

  -- winners are listed on after a step
  still-listing : (oracle : Oracle S) (after : Option (List ℕ)) (was now : Asking) (before list : BranchList) (found : List (List ℕ)) → IsListing value class candidates oracle after was before → IsStepIn value candidates oracle was found now
      → IsAskingIn value candidates oracle now → AreListedIn value class candidates oracle list → AreAskedIn candidates oracle was found now → IsListing value class candidates oracle after now list
  still-listing oracle after was now before list found is step asks listed asked = record {
    listed = listed;
    knows = is.knows;
    asking_is = asks;
    counted = record {
      most = omega (arith, is.counted.most, step.counted);
      all = λ start. step.counted ∙ is.counted.all start;
      few = still-few (candidates oracle.search + oracle.k) was now (left_by (value oracle.search) (candidates oracle.search) oracle.k was.branches.items) found (left_by (value oracle.search) (candidates oracle.search) oracle.k now.branches.items) _ step.left asked.spread is.counted.few;
    };
  }

  next-asked : (oracle : Oracle S) (after : Option (List ℕ)) (was now : Asking) (list : BranchList) (winner : Option (List ℕ)) → IsListing value class candidates oracle after now list → IsStepIn value candidates oracle was (option_to_list winner) now
      → (winner ≡ None → now.branches.items ≡ []) → AreAskedIn candidates oracle was (option_to_list winner) now → IsNextAsked S value candidates (view oracle after was) winner (view oracle after now)
  next-asked oracle after was now list winner is step end asked = record {
    first = first-of (view oracle after was) winner (view oracle after now) step.left (λ none. (nothing-left (value oracle.search) (candidates oracle.search) oracle.k now.branches.items (end none)).0);
    same_search = refl;
    same_k = refl;
    same_start = refl;
    entered_rises = step.rises;
    all_entered = λ none start. omega (arith, is.counted.all start, (nothing-left (value oracle.search) (candidates oracle.search) oracle.k now.branches.items (end none)).1);
    questions_rise = asked.rise;
    short_wait = asked.few;
  }

pub invariant_of-self : goal.invariant_of-self
invariant_of-self g c =
    let was = c.self.inside in
    still-listing g.S.Tally.value_of g.S.WithClones.class_of g.S.Tally.candidates was.oracle was.after was.asking c.next.new.self was.list c.next.new.list (option_to_list c.next.result) c.self.invariant c.next.ensures.step
    c.next.ensures.asking c.next.ensures.listed c.next.ensures.asked

pub returns-clause-steps : goal.returns-clause-steps
returns-clause-steps g c =
    let V = g.S.Tally.value_of in
    let M = g.S.Tally.candidates in
    let was = c.self.inside in
    let listing = still-listing V g.S.WithClones.class_of M was.oracle was.after was.asking c.next.new.self was.list c.next.new.list (option_to_list c.next.result) c.self.invariant c.next.ensures.step c.next.ensures.asking c.next.ensures.listed c.next.ensures.asked in
    subst (λ from. IsNextAsked g.row.S.Denot V M from c.next.result (view V g.S.WithClones.class_of M was.oracle was.after c.next.new.self)) c.self.view_is
    (next-asked V g.S.WithClones.class_of M was.oracle was.after was.asking c.next.new.self c.next.new.list c.next.result listing c.next.ensures.step c.next.ensures.end c.next.ensures.asked)
