-- Each definition, computed on a small example.
use Rattle.std.proofs.Common.{◌≡◌, ℕ, ◌+◌, ◌*◌, ◌^◌, ◌<◌, ◌≤◌, ◌==◌, ◌||◌, ◌∙◌, Bool, List, [], ◌∷◌, true, false, refl, ap, inl, inr, lit≤, lit<, Some, None, get_or, replicate, sum_by, arith}
use Rattle.std.proofs.lemmas.Bool.{cases_eq, ne_eqb}
use Rattle.ballot_base.specs.Lists.{IsIncreasing, lists_of, increasing_lists, is_committee, is_later, IsLater, AreInOrder, later_than}
use Rattle.ballot_base.specs.CandSet.{has_member, with_member, without_member, common_members, either_members, other_members, members_upto, includes}
use Rattle.ballot_base.specs.Steps.Bits.{members_among, members, bits_of}
use Rattle.ballot_base.specs.Steps.Subsets.{lists_from, sets_from, MayComeNext, IsLastSet, IsNextSet}
use Rattle.ballot_base.specs.Ballots.{Row, IsElection, election, ballots_of, name_of, some_name, hits, voter_count, has_ballot, with_votes}
use Rattle.ballot_base.specs.CommonMultiple.{least_multiple, common_multiple, AllDivide}
use Rattle.ballot_base.specs.Increments.{increment, denominator, increments}
use Rattle.ballot_base.specs.Worths.{AreChosen, AreTooLow, AreWanted, IsRanked}
use Rattle.ballot_base.specs.Hashing.{word_of_bytes, begun, with_word, upper_half}
use Rattle.ballot_base.specs.declared.increments.ThieleRule.TheVariants.{Av, Pav, Cc, Geom2, Geom3, Geom4}
use Rattle.ballot_base.proofs.Committees.{increasing_lists-order}
use Rattle.ballot_base.proofs.LeastMultiples.{common_multiple_divides}
use Rattle.ballot_base.proofs.RowLemmas.{distinct-with_votes}
use Rattle.ballot_base.proofs.Sums.{chosen-bound, chosen-with}

-- ---- lists
increasing : IsIncreasing 1 4 (1 ∷ 3 ∷ [])
increasing = (lit≤ tt, lit≤ tt, (lit≤ tt, lit≤ tt, tt))

lists_of_two : lists_of 3 2 2 ≡ (2 ∷ 3 ∷ []) ∷ (2 ∷ 4 ∷ []) ∷ (3 ∷ 4 ∷ []) ∷ []
unfolding lists_of
lists_of_two = refl

pairs_of_four : increasing_lists 1 4 2 ≡ (1 ∷ 2 ∷ []) ∷ (1 ∷ 3 ∷ []) ∷ (1 ∷ 4 ∷ []) ∷ (2 ∷ 3 ∷ []) ∷ (2 ∷ 4 ∷ []) ∷ (3 ∷ 4 ∷ []) ∷ []
unfolding lists_of
pairs_of_four = refl

no_pair_of_one : increasing_lists 4 4 2 ≡ []
unfolding lists_of
no_pair_of_one = refl

pair_of_three : is_committee 3 2 (1 ∷ 3 ∷ []) ≡ true
unfolding lists_of
pair_of_three = refl

unordered_pair : is_committee 3 2 (3 ∷ 1 ∷ []) ≡ false
unfolding lists_of
unordered_pair = refl

pair_with_a_stranger : is_committee 3 2 (1 ∷ 4 ∷ []) ≡ false
unfolding lists_of
pair_with_a_stranger = refl

too_few_members : is_committee 3 2 (1 ∷ []) ≡ false
unfolding lists_of
too_few_members = refl

later : is_later (1 ∷ 3 ∷ []) (1 ∷ 2 ∷ []) ≡ true
later = refl

earlier : is_later (1 ∷ 2 ∷ []) (1 ∷ 3 ∷ []) ≡ false
earlier = refl

not_later_than_itself : is_later (1 ∷ 2 ∷ []) (1 ∷ 2 ∷ []) ≡ false
not_later_than_itself = refl

not_later_than_a_shorter_one : is_later (1 ∷ 2 ∷ []) (1 ∷ []) ≡ false
not_later_than_a_shorter_one = refl

is_later_list : IsLater (2 ∷ 3 ∷ []) (1 ∷ 4 ∷ [])
is_later_list = refl

in_order : AreInOrder ((1 ∷ []) ∷ (2 ∷ []) ∷ [])
unfolding lists_of
in_order = increasing_lists-order 1 2 1

pairs_later : later_than (Some (1 ∷ 4 ∷ [])) (increasing_lists 1 4 2) ≡ (2 ∷ 3 ∷ []) ∷ (2 ∷ 4 ∷ []) ∷ (3 ∷ 4 ∷ []) ∷ []
unfolding lists_of
pairs_later = refl

none_later : later_than (Some (3 ∷ 4 ∷ [])) (increasing_lists 1 4 2) ≡ []
unfolding lists_of
none_later = refl

all_without_a_start : later_than None ((1 ∷ []) ∷ (2 ∷ []) ∷ []) ≡ (1 ∷ []) ∷ (2 ∷ []) ∷ []
all_without_a_start = refl

-- ---- sets
members_of_13 : members 13 ≡ 1 ∷ 3 ∷ 4 ∷ []
unfolding members members_among
members_of_13 = refl

members_of_the_highest_bit : members (2 ^ 63) ≡ 64 ∷ []
unfolding members members_among
members_of_the_highest_bit = refl

members_of_13_from_2 : members_among 2 2 13 ≡ 3 ∷ []
unfolding members_among
members_of_13_from_2 = refl

word : bits_of (1 ∷ 3 ∷ 4 ∷ []) ≡ 13
word = refl

is_member : has_member (1 ∷ 3 ∷ []) 3 ≡ true
is_member = refl

is_no_member : has_member (1 ∷ 3 ∷ []) 2 ≡ false
is_no_member = refl

with_a_new_one : with_member (1 ∷ 3 ∷ []) 2 ≡ 1 ∷ 2 ∷ 3 ∷ []
with_a_new_one = refl

with_a_member : with_member (1 ∷ 3 ∷ []) 3 ≡ 1 ∷ 3 ∷ []
with_a_member = refl

without_a_member : without_member (1 ∷ 3 ∷ []) 1 ≡ 3 ∷ []
without_a_member = refl

without_another : without_member (1 ∷ 3 ∷ []) 2 ≡ 1 ∷ 3 ∷ []
without_another = refl

common : common_members (1 ∷ 3 ∷ 4 ∷ []) (2 ∷ 3 ∷ 4 ∷ []) ≡ 3 ∷ 4 ∷ []
common = refl

either : either_members (1 ∷ 3 ∷ 4 ∷ []) (2 ∷ 3 ∷ 5 ∷ []) ≡ 1 ∷ 2 ∷ 3 ∷ 4 ∷ 5 ∷ []
either = refl

other : other_members (1 ∷ 3 ∷ 4 ∷ []) (2 ∷ 3 ∷ 5 ∷ []) ≡ 1 ∷ 4 ∷ []
other = refl

included : includes (1 ∷ 2 ∷ 3 ∷ []) (1 ∷ 3 ∷ []) ≡ true
included = refl

not_included : includes (1 ∷ 2 ∷ []) (1 ∷ 3 ∷ []) ≡ false
not_included = refl

upto_two : members_upto (1 ∷ 2 ∷ 4 ∷ []) 2 ≡ 1 ∷ 2 ∷ []
upto_two = refl

-- ---- what is still to come
from_a_list : lists_from 4 1 (2 ∷ 3 ∷ []) ≡ (2 ∷ 3 ∷ []) ∷ (2 ∷ 4 ∷ []) ∷ (3 ∷ 4 ∷ []) ∷ []
unfolding lists_from lists_of
from_a_list = refl

sets_from_a_place : sets_from 3 (Some (1 ∷ 3 ∷ [])) ≡ (1 ∷ 3 ∷ []) ∷ (2 ∷ 3 ∷ []) ∷ []
unfolding lists_from lists_of
sets_from_a_place = refl

sets_from_the_end : sets_from 3 None ≡ []
sets_from_the_end = refl

place : MayComeNext 3 (Some (1 ∷ 3 ∷ []))
place = (lit≤ tt, (lit≤ tt, lit≤ tt, (lit≤ tt, lit≤ tt, tt)))

last_set : IsLastSet 4 (3 ∷ 4 ∷ [])
last_set = refl

-- after 1 stand the greatest numbers 4 and 5
next_set : IsNextSet 5 (1 ∷ 4 ∷ 5 ∷ []) (2 ∷ 3 ∷ 4 ∷ [])
next_set = ([], 1, 2, lit≤ tt, refl, refl)

-- ---- ballots
two_hits : hits (1 ∷ 3 ∷ 4 ∷ []) (3 ∷ 4 ∷ 5 ∷ []) ≡ 2
two_hits = refl

-- two voters approve 1 and 3, and one voter nobody
rows : List Row
rows = (1 ∷ 3 ∷ [], 2) ∷ ([], 1) ∷ []

three_voters : voter_count rows ≡ 3
unfolding rows
three_voters = refl

is_cast : has_ballot rows [] ≡ true
unfolding rows
is_cast = refl

is_not_cast : has_ballot rows (1 ∷ []) ≡ false
unfolding rows
is_not_cast = refl

two_ballots : ballots_of rows ≡ (1 ∷ 3 ∷ []) ∷ [] ∷ []
unfolding rows
two_ballots = refl

votes_for_an_old_ballot : with_votes rows (1 ∷ 3 ∷ []) 5 ≡ (1 ∷ 3 ∷ [], 7) ∷ ([], 1) ∷ []
unfolding rows
votes_for_an_old_ballot = refl

votes_for_a_new_ballot : with_votes rows (2 ∷ []) 5 ≡ (1 ∷ 3 ∷ [], 2) ∷ ([], 1) ∷ (2 ∷ [], 5) ∷ []
unfolding rows
votes_for_a_new_ballot = refl

example_election : election 3 ([] ∷ [] ∷ [] ∷ []) rows ≡ record { m = 3; names = [] ∷ [] ∷ [] ∷ []; rows = rows }
example_election = refl

-- candidate 1 has a name and candidate 2 has none
first_name : name_of (election 2 ((82 ∷ []) ∷ [] ∷ []) rows) 1 ≡ Some (82 ∷ [])
first_name = refl

second_name : name_of (election 2 ((82 ∷ []) ∷ [] ∷ []) rows) 2 ≡ None
second_name = refl

name_of_zero : name_of (election 2 ((82 ∷ []) ∷ [] ∷ []) rows) 0 ≡ None
name_of_zero = refl

name_above_m : name_of (election 2 ((82 ∷ []) ∷ (83 ∷ []) ∷ []) rows) 3 ≡ None
name_above_m = refl

no_name : some_name [] ≡ None
no_name = refl

is_election : IsElection (election 3 ([] ∷ [] ∷ [] ∷ []) rows)
unfolding rows
is_election = record {
  least = lit≤ tt;
  most = lit≤ tt;
  names = refl;
  ballots = ((lit≤ tt, lit≤ tt, (lit≤ tt, lit≤ tt, tt)), (tt, tt));
  distinct = distinct-with_votes (with_votes [] (1 ∷ 3 ∷ []) 2) [] 1 (distinct-with_votes [] (1 ∷ 3 ∷ []) 2 (λ i j d l h. absurd (omega arith)));
  counts = (lit≤ tt, (lit≤ tt, tt));
  voters = lit≤ tt;
}

-- ---- multiples
multiple_of_4_and_6 : least_multiple 4 6 ≡ 12
multiple_of_4_and_6 = refl

multiple_of_none : common_multiple 0 ≡ 1
unfolding common_multiple
multiple_of_none = refl

multiple_of_10 : common_multiple 10 ≡ 2520
unfolding common_multiple
multiple_of_10 = refl

multiple_of_20 : common_multiple 20 ≡ 232792560
unfolding common_multiple
multiple_of_20 = refl

multiple_of_40 : common_multiple 40 ≡ 5342931457063200
unfolding common_multiple
multiple_of_40 = refl

all_divide_6 : AllDivide 3 6
unfolding common_multiple
all_divide_6 = common_multiple_divides 3

multiple_of_64 : common_multiple 64 ≡ 1182266884102822267511361600
unfolding common_multiple
multiple_of_64 = refl

-- ---- increments
quarter : increment Geom4 3 2 ≡ 4
quarter = refl

av_of_2 : increments Av 2 ≡ 1 ∷ 1 ∷ replicate 38 0
unfolding increments
av_of_2 = refl

av_denominator : denominator Av 2 ≡ 1
av_denominator = refl

pav_of_3 : increments Pav 3 ≡ 6 ∷ 3 ∷ 2 ∷ replicate 37 0
unfolding increments common_multiple
pav_of_3 = refl

pav_denominator : denominator Pav 3 ≡ 6
unfolding common_multiple
pav_denominator = refl

cc_of_3 : increments Cc 3 ≡ 1 ∷ replicate 39 0
unfolding increments
cc_of_3 = refl

cc_denominator : denominator Cc 3 ≡ 1
cc_denominator = refl

geom2_of_3 : increments Geom2 3 ≡ 4 ∷ 2 ∷ 1 ∷ replicate 37 0
unfolding increments
geom2_of_3 = refl

geom2_denominator : denominator Geom2 3 ≡ 4
geom2_denominator = refl

geom3_of_3 : increments Geom3 3 ≡ 9 ∷ 3 ∷ 1 ∷ replicate 37 0
unfolding increments
geom3_of_3 = refl

geom3_denominator : denominator Geom3 3 ≡ 9
geom3_denominator = refl

geom4_of_2 : increments Geom4 2 ≡ 4 ∷ 1 ∷ replicate 38 0
unfolding increments
geom4_of_2 = refl

-- ---- hashing
bytes_as_a_word : word_of_bytes 0 (1 ∷ 2 ∷ 3 ∷ []) ≡ 66051
unfolding word_of_bytes
bytes_as_a_word = refl

hash_of_a_word : upper_half (with_word (begun (record { factor = 3 * 2 ^ 64 + 5; term = 7 * 2 ^ 64 })) (2 ∷ [])) ≡ 13
unfolding word_of_bytes
hash_of_a_word = refl

-- ---- worths: three candidates who are worth 5, 3 and 1

-- what a candidate is worth
abbrev worth : ℕ → ℕ
worth n = get_or (0 ∷ 5 ∷ 3 ∷ 1 ∷ []) n 0

abbrev three : List ℕ
three = 1 ∷ 2 ∷ 3 ∷ []

increasing-three : IsIncreasing 1 64 three
increasing-three = (lit≤ tt, lit≤ tt, (lit≤ tt, lit≤ tt, (lit≤ tt, lit≤ tt, tt)))

-- the second highest worth is 3, and neither 5 nor 2
second-is-three : IsRanked worth three 2 3
second-is-three = (lit< tt, lit≤ tt)

second-is-not-five : IsRanked worth three 2 5 → ⊥
second-is-not-five is = let two : 2 ≤ 1 = is.1 in omega (arith, two)

second-is-not-two : IsRanked worth three 2 2 → ⊥
second-is-not-two is = let fewer : 2 < 2 = is.0 in omega (arith, fewer)

-- any two of them are worth at most 8
two-at-most : AreTooLow worth three 2 9
two-at-most chosen are = omega (arith, chosen-bound worth 3 three 2 chosen increasing-three are)

-- and the third is not among two who are worth 7
without-third : (chosen : List ℕ) → AreChosen three 2 chosen → 7 ≤ sum_by worth chosen → has_member chosen 3 ≡ true → ⊥
without-third chosen are high is = omega (arith, high, chosen-with worth 3 three 2 chosen increasing-three are 3 is)

who-makes-seven : AreWanted worth three 2 7 (1 ∷ 2 ∷ [])
who-makes-seven = record {
  rises = λ m up. (up.0, up.1, (up.2.0, up.2.1, tt));
  among = λ n is. more (1 == n) (2 == n) (3 == n) is;
  all = λ chosen are high n is. elim (cases_eq 3 n) [
    | inl third ↦ absurd (without-third chosen are high (ap (has_member chosen) third ∙ is))
    | inr other ↦ fewer (1 == n) (2 == n) (3 == n) (ne_eqb 3 n other) (are.among n is)
  ];
}
  where
    more : (p q r : Bool) → (p || (q || false)) ≡ true → (p || (q || (r || false))) ≡ true
    more true q r is = refl
    more false true r is = refl
    more false false r is = absurd cc

    fewer : (p q r : Bool) → r ≡ false → (p || (q || (r || false))) ≡ true → (p || (q || false)) ≡ true
    fewer true q r out is = refl
    fewer false true r out is = refl
    fewer false false true out is = absurd cc
    fewer false false false out is = absurd cc
