-- The definitions of the search for a committee that is near each ballot, worked out by hand.
use Rattle.std.proofs.Common.{◌≡◌, ℕ, zero, suc, List, [], ◌∷◌, refl, length, lit≤, arith}
use Rattle.ballot_base.specs.Ballots.{IsElection, Row, election, hits, with_votes}
use Rattle.ballot_base.specs.Clones.{AreClones, clones_among}
use Rattle.ballot_base.proofs.RowLemmas.{distinct-with_votes}
use Rattle.tie_walk.specs.Values.{closeness, distance}
use Rattle.tie_search.specs.Alike.{AreAlike}
use Rattle.minimax_search.specs.Needs.{hits_needed, weighted_needs, weighted_support}
use Rattle.minimax_search.proofs.NearClones.{alike}

-- ---- hits that ballots need under minimax approval voting

-- a ballot of three needs two hits of a committee of four to be no farther than 3: with 2 and 3 in common, 1, 4 and 5
-- stand on one of the two alone
needed-two : hits_needed 3 4 3 ≡ 2
needed-two = refl

far-three : distance (1 ∷ 2 ∷ 3 ∷ []) (2 ∷ 3 ∷ 4 ∷ 5 ∷ []) ≡ 3
far-three = refl

hits-two : hits (1 ∷ 2 ∷ 3 ∷ []) (2 ∷ 3 ∷ 4 ∷ 5 ∷ []) ≡ 2
hits-two = refl

-- with one hit the distance is 5, so that two are needed for 4 as well
needed-four : hits_needed 3 4 4 ≡ 2
needed-four = refl

needed-five : hits_needed 3 4 5 ≡ 1
needed-five = refl

-- no hit where both together are no more
needed-none : hits_needed 3 4 7 ≡ 0
needed-none = refl

needed-none_more : hits_needed 3 4 9 ≡ 0
needed-none_more = refl

-- one voter approves 1, 2 and 3 and two approve 4 and 5; a row weighs as much as its ballot has candidates. To be no
-- farther than 3 from a committee of three, the first row needs a hit beside the member 1, and the second row one hit
weighted-three : weighted_needs (λ row. length row.0) 3 3 (1 ∷ []) ((1 ∷ 2 ∷ 3 ∷ [], 1) ∷ (4 ∷ 5 ∷ [], 2) ∷ []) ≡ 5
weighted-three = refl

-- nobody is in the set
weighted-none : weighted_needs (λ row. length row.0) 3 3 [] ((1 ∷ 2 ∷ 3 ∷ [], 1) ∷ (4 ∷ 5 ∷ [], 2) ∷ []) ≡ 8
weighted-none = refl

support-three : weighted_support (λ row. length row.0) ((1 ∷ 2 ∷ 3 ∷ [], 1) ∷ (4 ∷ 5 ∷ [], 2) ∷ (3 ∷ [], 1) ∷ []) 3 ≡ 4
support-three = refl

support-nobody : weighted_support (λ row. length row.0) ((1 ∷ 2 ∷ 3 ∷ [], 1) ∷ (4 ∷ 5 ∷ [], 2) ∷ []) 6 ≡ 0
support-nobody = refl

-- ---- clones: one voter approves 1 and 2 of three candidates

approving_two : List Row
approving_two = with_votes [] (1 ∷ 2 ∷ []) 1

approving_two-is_election : IsElection (election 3 ([] ∷ [] ∷ [] ∷ []) approving_two)
unfolding approving_two
approving_two-is_election = record {
  least = lit≤ tt;
  most = lit≤ tt;
  names = refl;
  ballots = ((lit≤ tt, lit≤ tt, (lit≤ tt, lit≤ tt, tt)), tt);
  distinct = distinct-with_votes [] (1 ∷ 2 ∷ []) 1 (λ i j d l h. absurd (omega arith));
  counts = (lit≤ tt, tt);
  voters = lit≤ tt;
}

classes : List (List ℕ)
classes = [] ∷ (1 ∷ 2 ∷ []) ∷ (1 ∷ 2 ∷ []) ∷ (3 ∷ []) ∷ []

are_classes : AreClones 3 approving_two classes
unfolding approving_two classes
are_classes zero low high = absurd (omega (arith, low))
are_classes (suc zero) low high = refl
are_classes (suc (suc zero)) low high = refl
are_classes (suc (suc (suc zero))) low high = refl
are_classes (suc (suc (suc (suc c)))) low high = absurd (omega (arith, high))

-- 1 in the place of 2, or 2 in the place of 1, leaves a committee as close to the voter as it was
are_alike : AreAlike (closeness 3 approving_two) 3 (clones_among 3 approving_two)
are_alike = alike (election 3 ([] ∷ [] ∷ [] ∷ []) approving_two) approving_two-is_election.ballots
