-- The definitions of columns and of lean searches, worked out by hand.
use Rattle.std.proofs.Common.{◌≡◌, [], ◌∷◌, get_or, refl}
use Rattle.thiele_search.specs.Steps.Columns.{voter_ballot, given, total, voters_of}
use Rattle.thiele_search.specs.Steps.Uncovered.{bound_by, joins}

voters-three : voters_of ((1 ∷ 2 ∷ [], 2) ∷ (3 ∷ [], 1) ∷ []) ≡ (1 ∷ 2 ∷ []) ∷ (1 ∷ 2 ∷ []) ∷ (3 ∷ []) ∷ []
voters-three = refl

-- a voter with one member already gives the second weight
given-second : given (6 ∷ 3 ∷ 2 ∷ []) (2 ∷ []) 1 (1 ∷ 2 ∷ []) ≡ 3
given-second = refl

-- two voters give it, the third gives nothing, and there is no fourth
given-by_all : total (λ v. given (6 ∷ 3 ∷ 2 ∷ []) (2 ∷ []) 1 (voter_ballot ((1 ∷ 2 ∷ []) ∷ (1 ∷ 2 ∷ []) ∷ (3 ∷ []) ∷ []) v)) 4 ≡ 6
unfolding total
given-by_all = refl

-- a first hit joins, and a second one does not
joins-first : joins (3 ∷ []) 2 (1 ∷ 2 ∷ []) ≡ 1
joins-first = refl

joins-second : joins (1 ∷ []) 2 (1 ∷ 2 ∷ []) ≡ 0
joins-second = refl

-- of the gains 3, 1 and 2, two are at most 5 by the threshold 2, and at most 6 by the threshold 0
bound-tight : bound_by (λ n. get_or (0 ∷ 3 ∷ 1 ∷ 2 ∷ []) n 0) 2 2 ≡ 5
unfolding total
bound-tight = refl

bound-loose : bound_by (λ n. get_or (0 ∷ 3 ∷ 1 ∷ 2 ∷ []) n 0) 2 0 ≡ 6
unfolding total
bound-loose = refl
