-- Each definition of the walk, computed on a small example: the pairs of three candidates, where the value of a committee
-- is the sum of its members.
use Rattle.std.specs.Borrow.{Bor}
use Rattle.std.proofs.Common.{sym, ◌≡◌, ℕ, ◌+◌, ◌*◌, List, [], ◌∷◌, true, false, refl, lit≤, lit<, Some, None, sum}
use Rattle.ballot_base.specs.Lists.{lists_of}
use Rattle.tie_walk.specs.Steps.Walks.{committees_below, committees_after, committees_from, IsPlace, IsPast, work_left, those_reaching, open_below, open_after, open_from, Progress, IsStride, is_alive, waits_at, waits_after, waits_from, IsWait, IsBegun, IsCounted, IsWalk, IsWinning, aim, aim_at, asks, progress}
use Rattle.tie_walk.specs.declared.walk.Prefix.{Prefix}
use Rattle.tie_walk.specs.declared.walk.Walk.{Walk}

with_one : Prefix
with_one = record { c = 1; set = 1 ∷ [] }

without_one : Prefix
without_one = record { c = 1; set = [] }

one_and_two : Prefix
one_and_two = record { c = 2; set = 1 ∷ 2 ∷ [] }

one_without_two : Prefix
one_without_two = record { c = 2; set = 1 ∷ [] }

two_below_one : committees_below 3 2 1 (1 ∷ []) ≡ (1 ∷ 2 ∷ []) ∷ (1 ∷ 3 ∷ []) ∷ []
unfolding lists_of
two_below_one = refl

-- without 2, and then without 1
two_after_one_and_two : committees_after 3 2 [] (1 ∷ 2 ∷ []) ≡ (1 ∷ 3 ∷ []) ∷ (2 ∷ 3 ∷ []) ∷ []
unfolding lists_of
two_after_one_and_two = refl

all_from_one : committees_from 3 2 (Some with_one) ≡ (1 ∷ 2 ∷ []) ∷ (1 ∷ 3 ∷ []) ∷ (2 ∷ 3 ∷ []) ∷ []
unfolding lists_of with_one
all_from_one = refl

none_from_the_end : committees_from 3 2 None ≡ []
none_from_the_end = refl

place_of_one : IsPlace 3 2 (Some with_one)
unfolding with_one
place_of_one = (lit≤ tt, (lit≤ tt, lit≤ tt, tt), lit≤ tt)

past_one : IsPast with_one (Some without_one)
unfolding with_one without_one
past_one = (refl, lit≤ tt, tt)

past_none : IsPast without_one None
unfolding without_one
past_none = refl

-- 9 for what is below, and 9 for what is without 1
work_of_one : work_left 3 (Some with_one) ≡ 18
unfolding with_one
work_of_one = refl

-- ---- the walk over the winners, where a bound takes 3 for each open seat and the best value is 5
bound_of_three : ℕ → List ℕ → ℕ → ℕ
bound_of_three c set left = sum set + 3 * left

first_with_one : Progress
first_with_one = record { place = Some with_one; entered = 1; ceilings = 1 }

first_without_one : Progress
first_without_one = record { place = Some without_one; entered = 1; ceilings = 2 }

one_reaches_five : those_reaching sum 5 ((1 ∷ 2 ∷ []) ∷ (1 ∷ 3 ∷ []) ∷ (2 ∷ 3 ∷ []) ∷ []) ≡ (2 ∷ 3 ∷ []) ∷ []
one_reaches_five = refl

-- no decision, without 1, then with 2, then with 3
four_are_open : open_below bound_of_three 3 2 5 3 0 [] ≡ 4
unfolding bound_of_three
four_are_open = refl

three_open_after_one : open_after bound_of_three 3 2 5 [] (1 ∷ []) ≡ 3
unfolding bound_of_three
three_open_after_one = refl

three_open_from_one : open_from bound_of_three 3 2 5 (Some with_one) ≡ 3
unfolding bound_of_three with_one
three_open_from_one = refl

-- ---- how many bounds are asked for at most until 2 and 3 is found
none_with_one : is_alive sum 3 2 5 1 (1 ∷ []) ≡ false
unfolding lists_of
none_with_one = refl

some_without_one : is_alive sum 3 2 5 1 [] ≡ true
unfolding lists_of
some_without_one = refl

-- two for each of 2 and 3, and one without 1
five_without_one : waits_at sum 3 2 5 0 1 [] ≡ 5
unfolding lists_of
five_without_one = refl

five_after_one : waits_after sum 3 2 5 0 [] (1 ∷ []) ≡ 5
unfolding lists_of
five_after_one = refl

six_from_one : waits_from sum 3 2 5 (Some with_one) ≡ 6
unfolding lists_of with_one
six_from_one = refl

wait_past_one : IsWait sum 3 2 5 (Some with_one) first_with_one None first_without_one
unfolding lists_of with_one without_one first_with_one first_without_one
wait_past_one = lit≤ tt

counted_with_one : IsCounted bound_of_three 3 2 5 None first_with_one
unfolding lists_of bound_of_three with_one first_with_one
counted_with_one = record { all = lit≤ tt; few = lit≤ tt; exact = λ e. refl; fits = lit< tt }

begun_with_one : IsBegun sum bound_of_three 3 2 5 None first_with_one
unfolding lists_of bound_of_three with_one first_with_one
begun_with_one = record { next = refl; counted = counted_with_one }

-- a walk of a tally that shows its number of candidates
module _ (three : Bor ℕ) (is : three.now ≡ 3) where
  first_walk : Walk ℕ
  first_walk = record { tally = three; m = 3; k = 2; best = 5; place = Some with_one; entered = 1; ceilings = 1 }

  pairs_of_five : aim first_walk ≡ aim_at three.now 3 2 5
  unfolding first_walk
  pairs_of_five = refl

  first_progress : progress first_walk ≡ first_with_one
  unfolding first_walk first_with_one
  first_progress = refl

  walk_of_pairs : IsWalk (λ m. m) first_walk
  unfolding first_walk with_one
  walk_of_pairs = record {
    m_is = sym is;
    most = lit≤ tt;
    some = lit≤ tt;
    fits = lit≤ tt;
    place_is = (lit≤ tt, (lit≤ tt, lit≤ tt, tt), lit≤ tt);
    asked = lit≤ tt;
  }

  winning_pairs : IsWinning (λ m. m) (λ m. bound_of_three) None first_walk
  unfolding first_walk first_with_one
  winning_pairs = record { walk_is = walk_of_pairs; counted = counted_with_one }

  -- of three candidates two can join the empty set, but none of those after 2 makes two
  asks_at_root : asks first_walk (record { c = 0; set = [] }) ≡ true
  unfolding first_walk
  asks_at_root = refl

  asks_nobody : asks first_walk (record { c = 2; set = [] }) ≡ false
  unfolding first_walk
  asks_nobody = refl

  second_walk : Walk ℕ
  second_walk = record first_walk { place = Some without_one; ceilings = 2 }

  -- with 1 the bound is 4: a bound was asked for, which did not let the walk in; of 18 places 9 are left
  past_one_is_a_stride : IsStride (λ m. sum) (λ m. bound_of_three) first_walk (Some with_one) None second_walk
  unfolding lists_of bound_of_three with_one without_one first_walk second_walk
  past_one_is_a_stride = record {
    same = refl;
    next = refl;
    count = refl;
    entered = lit≤ tt;
    asked = lit≤ tt;
    work = lit≤ tt;
    wait = λ exact. lit≤ tt;
  }
