-- The definitions of the search, worked out by hand. The value of a set is the sum of its numbers; of committees of two
-- of the candidates 1 to 3 the best has 2 and 3.
use Rattle.std.proofs.Common.{◌≡◌, ◌+◌, ◌<◌, ◌≤◌, ◌∙◌, ℕ, zero, suc, true, false, List, [], ◌∷◌, None, Some, refl, sym, ap, subst, sum, lit≤, lit<, arith}
use Rattle.std.specs.Prelude.{slice_index_or}
use Rattle.ballot_base.specs.CandSet.{has_member}
use Rattle.ballot_base.specs.Lists.{lists_of}
use Rattle.tie_walk.specs.Values.{closeness}
use Rattle.tie_walk.specs.Winners.{best_value, winners}
use Rattle.tie_search.specs.Alike.{AreClasses, Becomes, done, step}
use Rattle.tie_search.specs.Asked.{Asked, IsNextAsked, beginnings, begins_some, most_questions}
use Rattle.tie_search.specs.Steps.Branches.{AreStacked, IsBranch, branches_after, completes, entries, first_branches, left_by, longer_beginnings, to_enter, winners_of}
use Rattle.row_multipliers.specs.declared.node.Node.{Node}
use Rattle.tie_search.specs.Tied.{AreAllBest, AreDistinct, AreTooMany, IsAmong, IsBest}

-- ---- values of two of three candidates, where one voter approves 1 and 2, and one approves 3: with 1 and 2 the second
-- voter is at the distance 3, with 3 in the committee no voter is farther than 2

abbrev two_of_three : List ℕ → ℕ
two_of_three set = closeness 3 ((1 ∷ 2 ∷ [], 1) ∷ (3 ∷ [], 1) ∷ []) set

value-with_three : two_of_three (1 ∷ 3 ∷ []) ≡ 1
value-with_three = refl

value-without_three : two_of_three (1 ∷ 2 ∷ []) ≡ 0
value-without_three = refl

best-of_two : best_value two_of_three 3 2 ≡ 1
unfolding lists_of
best-of_two = refl

-- ---- committees that tie

three_is_best : IsBest sum 3 1 (3 ∷ [])
unfolding lists_of
three_is_best = record {
  candidates = (lit≤ tt, lit≤ tt, tt);
  size = refl;
  best = refl;
}

-- of the committees of one, only that of 3 has the greatest value
only_three : (committee : List ℕ) → IsBest sum 3 1 committee → committee ≡ 3 ∷ []
unfolding lists_of
only_three [] best = absurd (omega (arith, best.size))
only_three (x ∷ []) best = let value : 0 + x ≡ 3 = best.best in ap (λ n. n ∷ []) (omega (arith, value))
only_three (x ∷ y ∷ committee) best = absurd (omega (arith, best.size))

-- no candidate has a clone
abbrev alone : ℕ → List ℕ
alone c = c ∷ []

three_is_listed : AreAllBest sum alone 3 1 ((3 ∷ []) ∷ [])
unfolding lists_of
three_is_listed = record {
  some = lit≤ tt;
  each = λ committee among. listed committee among.0 among.1 among.2;
  all = λ committee best. (3 ∷ [], (0, lit< tt, refl), subst (Becomes 3 alone (3 ∷ [])) (sym (only_three committee best)) done);
}
  where
    listed : (committee : List ℕ) (i : ℕ) → i < 1 → slice_index_or ((3 ∷ []) ∷ []) i [] ≡ committee → IsBest sum 3 1 committee
    listed committee zero inside is = subst (IsBest sum 3 1) is three_is_best
    listed committee (suc i) inside is = absurd (omega (arith, inside))

-- the list has each committee that ties, and none twice
three_has_no_equal : AreDistinct ((3 ∷ []) ∷ [])
three_has_no_equal i j before inside same = omega (arith, before, inside)

-- a committee is listed twice
three_is_twice : AreDistinct ((3 ∷ []) ∷ (3 ∷ []) ∷ []) → ⊥
three_is_twice distinct = distinct 0 1 (lit< tt) (lit< tt) refl

-- only the committee of 3 is the best, so there are not too many
three_is_all : AreTooMany sum 3 1 → ⊥
three_is_all many =
    let same : (i : ℕ) → i < 256 → slice_index_or many.committees i [] ≡ 3 ∷ [] =
    λ i inside. only_three (slice_index_or many.committees i []) (many.each (slice_index_or many.committees i []) (i, subst (λ n. i < n) (sym many.full) inside, refl)) in
    many.distinct 0 1 (lit< tt) (subst (λ n. 1 < n) (sym many.full) (lit< tt)) (same 0 (lit< tt) ∙ sym (same 1 (lit< tt)))

abbrev one_and_two : List (List ℕ)
one_and_two = (1 ∷ []) ∷ (2 ∷ []) ∷ []

-- two candidates have two committees of one
of_two : (P : List ℕ → Type 0) → P (1 ∷ []) → P (2 ∷ []) → (committee : List ℕ) → IsBest (λ set. 0) 2 1 committee → P committee
of_two P one two [] best = absurd (omega (arith, best.size))
of_two P one two (zero ∷ []) best = absurd (omega (arith, best.candidates.0))
of_two P one two (suc zero ∷ []) best = one
of_two P one two (suc (suc zero) ∷ []) best = two
of_two P one two (suc (suc (suc x)) ∷ []) best = absurd (omega (arith, best.candidates.1))
of_two P one two (x ∷ y ∷ committee) best = absurd (omega (arith, best.size))

-- where all values are the same, both committees of one tie
two_tie : AreAllBest (λ set. 0) alone 2 1 one_and_two × AreDistinct one_and_two
unfolding lists_of
two_tie = (
  record {
    some = lit≤ tt;
    each = λ committee among. listed committee among.0 among.1 among.2;
    all = λ committee best. (committee, of_two (IsAmong one_and_two) (0, lit< tt, refl) (1, lit< tt, refl) committee best, done);
  },
  apart,
)
  where
    one : IsBest (λ set. 0) 2 1 (1 ∷ [])
    one = record { candidates = (lit≤ tt, lit≤ tt, tt); size = refl; best = refl }

    two : IsBest (λ set. 0) 2 1 (2 ∷ [])
    two = record { candidates = (lit≤ tt, lit≤ tt, tt); size = refl; best = refl }

    listed : (committee : List ℕ) (i : ℕ) → i < 2 → slice_index_or one_and_two i [] ≡ committee → IsBest (λ set. 0) 2 1 committee
    listed committee zero inside is = subst (IsBest (λ set. 0) 2 1) is one
    listed committee (suc zero) inside is = subst (IsBest (λ set. 0) 2 1) is two
    listed committee (suc (suc i)) inside is = absurd (omega (arith, inside))

    apart : (i j : ℕ) → i < j → j < 2 → slice_index_or one_and_two i [] ≡ slice_index_or one_and_two j [] → ⊥
    apart i zero before inside same = omega (arith, before)
    apart zero (suc zero) before inside same = let heads : 1 ≡ 2 = ap sum same in omega (arith, heads)
    apart (suc i) (suc zero) before inside same = omega (arith, before)
    apart i (suc (suc j)) before inside same = omega (arith, inside)

-- ---- clones

-- 1 and 2 are clones
abbrev both : ℕ → List ℕ
both c = 1 ∷ 2 ∷ []

in_both : (c : ℕ) → 1 ≤ c → c ≤ 2 → has_member (both 1) c ≡ true
in_both zero low high = absurd (omega (arith, low))
in_both (suc zero) low high = refl
in_both (suc (suc zero)) low high = refl
in_both (suc (suc (suc c))) low high = absurd (omega (arith, high))

both_are_classes : AreClasses 2 both
both_are_classes e c d e_low e_high low high is = in_both c low high ∙ sym is

-- the committee of 2 becomes that of 1
two_becomes_one : Becomes 2 both (1 ∷ []) (2 ∷ [])
two_becomes_one = step (2 ∷ []) 1 2 (lit≤ tt, lit≤ tt, tt) (lit≤ tt) (lit≤ tt) refl refl refl done

-- so a list of the committee of 1 alone has all that tie
one_has_all : AreAllBest (λ set. 0) both 2 1 ((1 ∷ []) ∷ [])
unfolding lists_of
one_has_all = record {
  some = lit≤ tt;
  each = λ committee among. listed committee among.0 among.1 among.2;
  all = λ committee best. (1 ∷ [], (0, lit< tt, refl), of_two (Becomes 2 both (1 ∷ [])) done two_becomes_one committee best);
}
  where
    listed : (committee : List ℕ) (i : ℕ) → i < 1 → slice_index_or ((1 ∷ []) ∷ []) i [] ≡ committee → IsBest (λ set. 0) 2 1 committee
    listed committee zero inside is = subst (IsBest (λ set. 0) 2 1) is record { candidates = (lit≤ tt, lit≤ tt, tt); size = refl; best = refl }
    listed committee (suc i) inside is = absurd (omega (arith, inside))

-- ---- branches: of two of the candidates 1 to 3, the committee of 2 and 3 wins

from_one : Node
from_one = record { set = 1 ∷ []; free = 2 ∷ 3 ∷ []; left = 1 }

without_one : Node
without_one = record { set = []; free = 2 ∷ 3 ∷ []; left = 2 }

one_and_three : completes from_one (1 ∷ 3 ∷ []) ≡ true
unfolding from_one
one_and_three = refl

two_and_three : completes from_one (2 ∷ 3 ∷ []) ≡ false
unfolding from_one
two_and_three = refl

none_has_one : winners_of sum 3 2 from_one ≡ []
unfolding from_one lists_of
none_has_one = refl

one_without_one : left_by sum 3 2 (without_one ∷ from_one ∷ []) ≡ (2 ∷ 3 ∷ []) ∷ []
unfolding from_one without_one left_by lists_of
one_without_one = refl

from_one-is : IsBranch 3 2 from_one
unfolding from_one
from_one-is = record {
  last = 1;
  within = lit≤ tt;
  set_upto = (lit≤ tt, lit≤ tt, tt);
  free_after = (lit≤ tt, lit≤ tt, (lit≤ tt, lit≤ tt, tt));
  size = refl;
}

without_one-is : IsBranch 3 2 without_one
unfolding without_one
without_one-is = record {
  last = 1;
  within = lit≤ tt;
  set_upto = tt;
  free_after = (lit≤ tt, lit≤ tt, (lit≤ tt, lit≤ tt, tt));
  size = refl;
}

-- the set of 1 has one member more than the empty set
one_stacked : AreStacked 3 2 0 (without_one ∷ from_one ∷ [])
unfolding from_one without_one
one_stacked = (without_one-is, refl, (from_one-is, refl, tt))

all_first : first_branches 3 2 None ≡ record { set = []; free = 1 ∷ 2 ∷ 3 ∷ []; left = 2 } ∷ []
all_first = refl

-- after 1 and 2 come the committees without 1, and those of 1 and 3
after_one_and_two : branches_after 3 2 [] (1 ∷ 2 ∷ []) ≡ record { set = []; free = 2 ∷ 3 ∷ []; left = 2 } ∷ record { set = 1 ∷ []; free = 3 ∷ []; left = 1 } ∷ []
unfolding branches_after
after_one_and_two = refl

-- ---- a winner that is asked for: a search in whose place a number stands, three questions, and nothing after it

before_winner : Asked ℕ
before_winner = record { search = 3; k = 2; after = None; left = (2 ∷ 3 ∷ []) ∷ []; entered = 0; questions = 0 }

after_winner : Asked ℕ
after_winner = record { search = 3; k = 2; after = None; left = []; entered = 2; questions = 3 }

winner_asked : IsNextAsked ℕ (λ m set. sum set) (λ m. m) before_winner (Some (2 ∷ 3 ∷ [])) after_winner
unfolding before_winner after_winner
winner_asked = record { first = refl; same_search = refl; same_k = refl; same_start = refl; entered_rises = lit≤ tt; all_entered = λ none. absurd cc; questions_rise = lit≤ tt; short_wait = lit≤ tt }

-- at most five questions for the winner, and two more at the end
seven_questions : most_questions 3 2 (winners sum 3 2) ≡ 7
unfolding lists_of
seven_questions = refl

-- 2, and 2 and 3, begin the winner
two_begin : beginnings 3 2 (winners sum 3 2) ≡ 2
unfolding lists_of
two_begin = refl

two_begins : begins_some ((2 ∷ 3 ∷ []) ∷ []) (2 ∷ []) ≡ true
two_begins = refl

three_begins_none : begins_some ((2 ∷ 3 ∷ []) ∷ []) (3 ∷ []) ≡ false
three_begins_none = refl

-- only the second is longer than 1
one_is_longer : longer_beginnings 3 2 1 (winners sum 3 2) ≡ 1
unfolding lists_of
one_is_longer = refl

-- both are still to be entered if nothing was, and none below the set of 1
two_to_enter : to_enter sum 3 2 (without_one ∷ from_one ∷ []) ≡ 2
unfolding from_one without_one to_enter entries lists_of
two_to_enter = refl
