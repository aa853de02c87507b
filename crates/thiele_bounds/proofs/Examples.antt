-- The definitions of prices, of pairs and of triples, worked out by hand.
use Rattle.std.proofs.Common.{◌≡◌, ◌+◌, ◌*◌, ◌/◌, zero, suc, [], ◌∷◌, refl, length, lit≤, arith}
use Rattle.thiele_bounds.specs.Pairs.{IsMajorant, all_constants, all_overlap, all_worth, pair_sum, row_sum, worth_beside}
use Rattle.thiele_bounds.specs.Prices.{IsLinearMajorant}
use Rattle.thiele_bounds.specs.Steps.Places.{tetrahedron, triple_place, word_at, word_of}
use Rattle.thiele_bounds.specs.Triples.{IsCubicMajorant, all_triples, sum_of_one, sum_of_pairs, sum_of_triples, sum_of_two, threshold_sum, worth_of_three}

-- ---- prices: under proportional approval voting, in sixths, a voter gives 6 for a hit, 3 more for a second and 2 more
-- for a third, and each hit costs 4

-- a voter without a hit yet keeps 2, with one hit
constant-first : IsLinearMajorant (6 ∷ 3 ∷ 2 ∷ []) 1 1 0 2 2 4
constant-first zero few = lit≤ tt
constant-first (suc zero) few = lit≤ tt
constant-first (suc (suc zero)) few = lit≤ tt
constant-first (suc (suc (suc h))) few = absurd (omega (arith, few))

-- a voter with a hit keeps the 6 of that
constant-second : IsLinearMajorant (6 ∷ 3 ∷ 2 ∷ []) 1 1 1 2 6 4
constant-second zero few = lit≤ tt
constant-second (suc zero) few = lit≤ tt
constant-second (suc (suc zero)) few = lit≤ tt
constant-second (suc (suc (suc h))) few = absurd (omega (arith, few))

-- the price of 2, if it costs the two voters who approve 1 and 2 3 each, and the one who approves 2 alone 6
price-two : all_worth (λ row. 6 / length row.0) ((1 ∷ 2 ∷ [], 2) ∷ (2 ∷ [], 1) ∷ []) 2 ≡ 12
price-two = refl

-- ---- pairs of members: under proportional approval voting, in sixths, a voter gives 6, 9 and 11 for one, two and three
-- hits

-- 7 h - h * h is 6 at one hit, 10 at two and 12 at three
majorant-three : IsMajorant (6 ∷ 3 ∷ 2 ∷ []) 1 1 0 3 0 7 1
majorant-three zero few = lit≤ tt
majorant-three (suc zero) few = lit≤ tt
majorant-three (suc (suc zero)) few = lit≤ tt
majorant-three (suc (suc (suc zero))) few = lit≤ tt
majorant-three (suc (suc (suc (suc h)))) few = absurd (omega (arith, few))

-- two voters approve 1 and 2, with the worth 7 and the overlap 1, and one voter approves 2
constant-pairs : all_constants (λ row. length row.0) ((1 ∷ 2 ∷ [], 2) ∷ (2 ∷ [], 1) ∷ []) ≡ 5
constant-pairs = refl

worth-pairs : all_worth (λ row. 7) ((1 ∷ 2 ∷ [], 2) ∷ (2 ∷ [], 1) ∷ []) 2 ≡ 21
worth-pairs = refl

overlap-pairs : all_overlap (λ row. 1) ((1 ∷ 2 ∷ [], 2) ∷ (2 ∷ [], 1) ∷ []) 1 2 ≡ 2
overlap-pairs = refl

-- 2 with itself is on all three ballots
overlap-self : all_overlap (λ row. 1) ((1 ∷ 2 ∷ [], 2) ∷ (2 ∷ [], 1) ∷ []) 2 2 ≡ 3
overlap-self = refl

-- 1 with itself 2, 2 with itself 3, and both pairs of the two 2 each
pairs-both : pair_sum (all_overlap (λ row. 1) ((1 ∷ 2 ∷ [], 2) ∷ (2 ∷ [], 1) ∷ [])) (1 ∷ 2 ∷ []) ≡ 9
pairs-both = refl

-- with two seats left, the worth 20 of a candidate, raised by 10, is less by twice an overlap of 3
beside-two : worth_beside (λ n. 20) (λ i j. 3) 2 10 1 2 ≡ 24
beside-two = refl

-- 24 for the candidate itself, the threshold 22 for one of the others, and 2 that each of the two is above it
sum-row : row_sum (λ n. 20) (λ i j. 3) (1 ∷ 2 ∷ 3 ∷ []) 2 10 22 1 ≡ 50
sum-row = refl

-- ---- three members: under proportional approval voting, in twelfths, a voter gives 12, 18 and 22 for one, two and three
-- hits, and 25 for four

-- 12 h - 3 h (h - 1) + h (h - 1) (h - 2) is 12 and 18 at one hit and at two, 24 at three, and 36 at four
cubic-four : IsCubicMajorant (12 ∷ 6 ∷ 4 ∷ 3 ∷ []) 1 1 0 4 0 12 3 1
cubic-four zero few = lit≤ tt
cubic-four (suc zero) few = lit≤ tt
cubic-four (suc (suc zero)) few = lit≤ tt
cubic-four (suc (suc (suc zero))) few = lit≤ tt
cubic-four (suc (suc (suc (suc zero)))) few = lit≤ tt
cubic-four (suc (suc (suc (suc (suc h))))) few = absurd (omega (arith, few))

-- two voters approve 1, 2 and 3, with the triple 5, and one voter approves 2 and 3
triples-three : all_triples (λ row. 5) ((1 ∷ 2 ∷ 3 ∷ [], 2) ∷ (2 ∷ 3 ∷ [], 1) ∷ []) 1 2 3 ≡ 10
triples-three = refl

-- 12 and 21, 13 and 31, 23 and 32
pairs-different : sum_of_pairs (λ i j. 10 * i + j) (1 ∷ 2 ∷ 3 ∷ []) ≡ 132
pairs-different = refl

-- 123, 132, 213, 231, 312 and 321
triples-different : sum_of_triples (λ i j l. 100 * i + 10 * j + l) (1 ∷ 2 ∷ 3 ∷ []) ≡ 1332
triples-different = refl

-- twice the threshold 22, and the excesses 2 and 8 of 24 and 30 over it
sum-threshold : threshold_sum (λ n. 6 * n) (2 ∷ 3 ∷ 4 ∷ 5 ∷ []) 2 22 ≡ 54
sum-threshold = refl

-- with three seats left, three worths of 20, six times the triple 2 and the raise 10, less twice the three overlaps of 3
worth-three : worth_of_three (λ n. 20) (λ i j. 3) (λ i j l. 2) 3 10 1 2 3 ≡ 64
worth-three = refl

-- with three seats left, one other candidate joins 1 and 2: the threshold 4, and 1 that 5 exceeds it
sum-two : sum_of_two (λ i j l. l) (1 ∷ 2 ∷ 3 ∷ 4 ∷ 5 ∷ []) 3 (λ i j. 4) 1 2 ≡ 5
sum-two = refl

-- two others join 1: twice the threshold 3, and 1 and 2 that 4 and 5 exceed it
sum-one : sum_of_one (λ i j. j) (1 ∷ 2 ∷ 3 ∷ 4 ∷ 5 ∷ []) 3 (λ i. 3) 1 ≡ 9
sum-one = refl

-- ---- places of three candidates in a table

-- 000; 100, 110 and 111; 200, 210, 211, 220, 221 and 222
planes-three : tetrahedron 3 ≡ 10
planes-three = refl

-- 221 comes after the first four, and after 200, 210, 211 and 220
place-last : triple_place 2 1 2 ≡ 8
place-last = refl

word-any : word_of (10 ∷ 20 ∷ 30 ∷ 40 ∷ 50 ∷ 60 ∷ 70 ∷ 80 ∷ 90 ∷ []) 1 2 2 ≡ 90
word-any = refl

-- 210
word-falling : word_at (10 ∷ 20 ∷ 30 ∷ 40 ∷ 50 ∷ 60 ∷ 70 ∷ 80 ∷ 90 ∷ []) 2 1 0 ≡ 60
word-falling = refl
