-- Each definition, computed on a small example.
use Rattle.std.proofs.Common.{◌≡◌, ◌-◌, List, [], ◌∷◌, refl, lit≤, replicate, arith}
use Rattle.ballot_base.specs.Limits.{most_candidates, most_members}
use Rattle.ballot_base.specs.Ballots.{Row, election}
use Rattle.ballot_base.specs.CommonMultiple.{common_multiple}
use Rattle.ballot_base.specs.Increments.{increments}
use Rattle.ballot_base.specs.declared.increments.ThieleRule.TheVariants.{Pav, Cc, Geom2}
use Rattle.tie_walk.specs.Values.{thiele_value, satisfaction_value, distance, greatest_distance, closeness}
use Rattle.tie_walk.specs.Values.{Thiele, thiele_of}
use Rattle.tie_walk.specs.Steps.Tables.{prefix_sums, parts, IsThiele, score, IsSatisfaction}

-- of the candidates 1 to 3, two voters approve 1 and 2, and one voter 3
two_and_one : List Row
two_and_one = (1 ∷ 2 ∷ [], 2) ∷ (3 ∷ [], 1) ∷ []

-- of the candidates 1 to 4, three voters approve 1 and 2, and one voter 3 and 4
three_and_one : List Row
three_and_one = (1 ∷ 2 ∷ [], 3) ∷ (3 ∷ 4 ∷ [], 1) ∷ []

-- ---- Thiele rules
pav_of_a_pair : thiele_value (increments Pav 2) three_and_one (1 ∷ 2 ∷ []) ≡ 9
unfolding three_and_one increments common_multiple
pav_of_a_pair = refl

pav_of_a_mixed_pair : thiele_value (increments Pav 2) three_and_one (1 ∷ 3 ∷ []) ≡ 8
unfolding three_and_one increments common_multiple
pav_of_a_mixed_pair = refl

cc_of_a_mixed_pair : thiele_value (increments Cc 2) three_and_one (1 ∷ 3 ∷ []) ≡ 4
unfolding three_and_one increments
cc_of_a_mixed_pair = refl

cc_of_two_and_one : thiele_value (increments Cc 2) two_and_one (1 ∷ 3 ∷ []) ≡ 3
unfolding two_and_one increments
cc_of_two_and_one = refl

geometric_of_a_pair : thiele_value (increments Geom2 2) three_and_one (1 ∷ 2 ∷ []) ≡ 9
unfolding three_and_one increments
geometric_of_a_pair = refl

-- a third hit adds nothing for committees of 2
past_the_size : thiele_value (increments Geom2 2) ((1 ∷ 2 ∷ 3 ∷ [], 5) ∷ []) (1 ∷ 2 ∷ 3 ∷ []) ≡ 15
unfolding increments
past_the_size = refl

-- ---- satisfaction approval
satisfaction_of_a_pair : satisfaction_value 4 three_and_one (1 ∷ 2 ∷ []) ≡ 36
unfolding three_and_one common_multiple
satisfaction_of_a_pair = refl

satisfaction_of_one : satisfaction_value 3 two_and_one (3 ∷ []) ≡ 6
unfolding two_and_one common_multiple
satisfaction_of_one = refl

satisfaction_of_an_empty_ballot : satisfaction_value 3 (([], 5) ∷ []) (1 ∷ []) ≡ 0
unfolding common_multiple
satisfaction_of_an_empty_ballot = refl

-- ---- minimax
distance_of_three : distance (3 ∷ []) (1 ∷ 2 ∷ []) ≡ 3
distance_of_three = refl

distance_of_two : distance (1 ∷ 2 ∷ []) (1 ∷ 3 ∷ []) ≡ 2
distance_of_two = refl

greatest_of_one : greatest_distance two_and_one (1 ∷ []) ≡ 2
unfolding two_and_one
greatest_of_one = refl

greatest_of_a_pair : greatest_distance three_and_one (1 ∷ 2 ∷ []) ≡ 4
unfolding three_and_one
greatest_of_a_pair = refl

no_voter : greatest_distance [] (1 ∷ 2 ∷ []) ≡ 0
no_voter = refl

closeness_of_a_pair : closeness 4 three_and_one (1 ∷ 3 ∷ []) ≡ 2
unfolding three_and_one
closeness_of_a_pair = refl

-- ---- tables
tally : Thiele
tally = thiele_of (election 3 ([] ∷ [] ∷ [] ∷ []) two_and_one) Cc 2

size_of_the_tally : tally.k ≡ 2
unfolding tally
size_of_the_tally = refl

sums_of_three : prefix_sums (6 ∷ 3 ∷ 2 ∷ []) ≡ 0 ∷ 6 ∷ 9 ∷ replicate (most_candidates - 2) 11
unfolding prefix_sums
sums_of_three = refl

parts_of_two : parts 2 ≡ 0 ∷ 2 ∷ 1 ∷ replicate (most_candidates - 2) 0
unfolding parts
parts_of_two = refl

is_thiele : IsThiele (election 2 ([] ∷ [] ∷ []) ((1 ∷ [], 3) ∷ [])) 2 Cc 2 (1 ∷ replicate (most_members - 1) 0) (0 ∷ replicate most_candidates 1)
unfolding prefix_sums increments
is_thiele = record {
  election = record {
    least = lit≤ tt;
    most = lit≤ tt;
    names = refl;
    ballots = ((lit≤ tt, lit≤ tt, tt), tt);
    distinct = λ i j d l h. absurd (omega arith);
    counts = (lit≤ tt, tt);
    voters = lit≤ tt;
  };
  m_is = refl;
  size = lit≤ tt;
  weights_are = refl;
  sums_are = refl;
}

-- of a ballot of two, each has half of 6; of a ballot of one, all of it
score_of_two : score (0 ∷ 6 ∷ 3 ∷ []) two_and_one 2 ≡ 6
unfolding two_and_one
score_of_two = refl

-- nobody approves a candidate
is_satisfaction : IsSatisfaction (election 3 ([] ∷ [] ∷ [] ∷ []) (([], 5) ∷ [])) []
unfolding common_multiple
is_satisfaction = record {
  election = record {
    least = lit≤ tt;
    most = lit≤ tt;
    names = refl;
    ballots = (tt, tt);
    distinct = λ i j d l h. absurd (omega arith);
    counts = (lit≤ tt, tt);
    voters = lit≤ tt;
  };
  scores_are = λ c. refl;
}
