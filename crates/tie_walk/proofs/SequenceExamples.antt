-- Each definition, computed on a small example.
use Rattle.std.proofs.Common.{◌≡◌, ℕ, zero, suc, List, [], ◌∷◌, Contains, true, false, refl, arith}
use Rattle.ballot_base.specs.Lists.{lists_of}
use Rattle.ballot_base.specs.Ballots.{Election, election}
use Rattle.ballot_base.specs.CommonMultiple.{common_multiple}
use Rattle.tie_walk.specs.Sequences.{hit_weight, hit_weights, weight, supporters, gain, loss, others, is_grown, is_shrunk, sequences, sequential_winners}
use Rattle.tie_walk.specs.Steps.Choices.{step_of, choices_of, is_no_better, open_candidates, change, start, better, worst, worth, hits_of, is_choice, changes, HasSetsOf, follows}
use Rattle.tie_walk.specs.declared.sequential.Step.TheVariants.{Grow, Shrink}
use Rattle.tie_walk.specs.declared.sequential.SeqRule.TheVariants.{SeqPav, SeqCc, RevSeqPav}

-- of the candidates 1 to 4, three voters approve 1 and 2, and one voter 3 and 4
pairs : Election
pairs = election 4 ([] ∷ [] ∷ [] ∷ [] ∷ []) ((1 ∷ 2 ∷ [], 3) ∷ (3 ∷ 4 ∷ [], 1) ∷ [])

-- of the candidates 1 to 3, two voters approve 1 and 2, two 1 and 3, one 2 and one 3
chain : Election
chain = election 3 ([] ∷ [] ∷ [] ∷ []) ((1 ∷ 2 ∷ [], 2) ∷ (1 ∷ 3 ∷ [], 2) ∷ (2 ∷ [], 1) ∷ (3 ∷ [], 1) ∷ [])

hit_of_five : (hit_weight SeqPav 5 4 ≡ 15) × (hit_weight SeqCc 5 1 ≡ 1) × (hit_weight SeqCc 5 4 ≡ 0) × (hit_weight RevSeqPav 5 5 ≡ 12)
unfolding common_multiple
hit_of_five = (refl, refl, refl, refl)

hits_of_four : (hit_weights SeqPav 4 ≡ 12 ∷ 6 ∷ 4 ∷ 3 ∷ []) × (hit_weights SeqCc 4 ≡ 1 ∷ 0 ∷ 0 ∷ 0 ∷ [])
unfolding hit_weights common_multiple
hits_of_four = (refl, refl)

weights_of_four : (weight (hit_weights SeqPav 4) 0 ≡ 0) × (weight (hit_weights SeqPav 4) 1 ≡ 12) × (weight (hit_weights SeqPav 4) 3 ≡ 4)
unfolding hit_weights common_multiple
weights_of_four = (refl, refl, refl)

supporters_of_one : supporters pairs.rows 1 ≡ (1 ∷ 2 ∷ [], 3) ∷ []
unfolding pairs
supporters_of_one = refl

-- a second hit of three voters is 3 · 12/2
second_gain : gain (hit_weights SeqPav 4) pairs.rows (1 ∷ []) 2 ≡ 18
unfolding pairs hit_weights common_multiple
second_gain = refl

first_gain : gain (hit_weights SeqPav 4) pairs.rows (1 ∷ []) 3 ≡ 12
unfolding pairs hit_weights common_multiple
first_gain = refl

loss_of_all : loss (hit_weights RevSeqPav 4) pairs.rows (1 ∷ 2 ∷ 3 ∷ 4 ∷ []) 3 ≡ 6
unfolding pairs hit_weights common_multiple
loss_of_all = refl

others_of_four : others 4 (2 ∷ 3 ∷ []) ≡ 1 ∷ 4 ∷ []
others_of_four = refl

grown : is_grown (hit_weights SeqPav 4) 4 pairs.rows [] (2 ∷ 1 ∷ []) ≡ true
unfolding pairs hit_weights common_multiple
grown = refl

-- 2 gains more than 3 does
not_grown : is_grown (hit_weights SeqPav 4) 4 pairs.rows [] (1 ∷ 3 ∷ []) ≡ false
unfolding pairs hit_weights common_multiple
not_grown = refl

-- no one is chosen twice
not_twice : is_grown (hit_weights SeqCc 4) 4 pairs.rows [] (1 ∷ 1 ∷ []) ≡ false
unfolding pairs hit_weights
not_twice = refl

shrunk : is_shrunk (hit_weights RevSeqPav 4) pairs.rows (1 ∷ 2 ∷ 3 ∷ 4 ∷ []) (4 ∷ []) ≡ true
unfolding pairs hit_weights common_multiple
shrunk = refl

not_shrunk : is_shrunk (hit_weights RevSeqPav 4) pairs.rows (1 ∷ 2 ∷ 3 ∷ 4 ∷ []) (1 ∷ []) ≡ false
unfolding pairs hit_weights common_multiple
not_shrunk = refl

sequences_of_two : sequences 2 2 ≡ (1 ∷ 1 ∷ []) ∷ (1 ∷ 2 ∷ []) ∷ (2 ∷ 1 ∷ []) ∷ (2 ∷ 2 ∷ []) ∷ []
sequences_of_two = refl

-- ---- winners of the pairs
seqpav_of_pairs : sequential_winners SeqPav pairs 2 ≡ (1 ∷ 2 ∷ []) ∷ []
unfolding pairs hit_weights common_multiple lists_of
seqpav_of_pairs = refl

seqcc_of_pairs : sequential_winners SeqCc pairs 2 ≡ (1 ∷ 3 ∷ []) ∷ (1 ∷ 4 ∷ []) ∷ (2 ∷ 3 ∷ []) ∷ (2 ∷ 4 ∷ []) ∷ []
unfolding pairs hit_weights lists_of
seqcc_of_pairs = refl

revseqpav_of_pairs : sequential_winners RevSeqPav pairs 3 ≡ (1 ∷ 2 ∷ 3 ∷ []) ∷ (1 ∷ 2 ∷ 4 ∷ []) ∷ []
unfolding pairs hit_weights common_multiple lists_of
revseqpav_of_pairs = refl

-- no one is taken out of all
revseqpav_of_all : sequential_winners RevSeqPav pairs 4 ≡ (1 ∷ 2 ∷ 3 ∷ 4 ∷ []) ∷ []
unfolding pairs hit_weights common_multiple lists_of
revseqpav_of_all = refl

-- ---- winners of the chain
seqpav_of_chain : sequential_winners SeqPav chain 2 ≡ (1 ∷ 2 ∷ []) ∷ (1 ∷ 3 ∷ []) ∷ []
unfolding chain hit_weights common_multiple lists_of
seqpav_of_chain = refl

revseqpav_of_chain : sequential_winners RevSeqPav chain 2 ≡ (1 ∷ 2 ∷ []) ∷ (1 ∷ 3 ∷ []) ∷ (2 ∷ 3 ∷ []) ∷ []
unfolding chain hit_weights common_multiple lists_of
revseqpav_of_chain = refl

seqcc_of_chain : sequential_winners SeqCc chain 2 ≡ (1 ∷ 2 ∷ []) ∷ (1 ∷ 3 ∷ []) ∷ []
unfolding chain hit_weights lists_of
seqcc_of_chain = refl

-- ---- steps
steps : (step_of SeqPav ≡ Grow) × (step_of SeqCc ≡ Grow) × (step_of RevSeqPav ≡ Shrink)
steps = (refl, refl, refl)

choices_of_seven : (choices_of SeqPav 7 3 ≡ 3) × (choices_of SeqCc 7 3 ≡ 3) × (choices_of RevSeqPav 7 3 ≡ 4)
choices_of_seven = (refl, refl, refl)

open_of_two : (open_candidates Grow 4 (2 ∷ 3 ∷ []) ≡ 1 ∷ 4 ∷ []) × (open_candidates Shrink 4 (2 ∷ 3 ∷ []) ≡ 2 ∷ 3 ∷ [])
open_of_two = (refl, refl)

changed : (change Grow (1 ∷ 3 ∷ []) 2 ≡ 1 ∷ 2 ∷ 3 ∷ []) × (change Shrink (1 ∷ 3 ∷ []) 3 ≡ 1 ∷ [])
changed = (refl, refl)

started : (start Grow 3 ≡ []) × (start Shrink 3 ≡ 1 ∷ 2 ∷ 3 ∷ [])
started = (refl, refl)

better_of_two : (better Grow 3 5 ≡ 5) × (better Shrink 3 5 ≡ 3) × (worst Grow ≡ 0) × (is_no_better Grow 3 5 ≡ true) × (is_no_better Shrink 3 5 ≡ false)
better_of_two = (refl, refl, refl, refl, refl)

worth_of_three : (worth Grow (hit_weights SeqPav 4) pairs.rows (1 ∷ []) 3 ≡ 12) × (worth Shrink (hit_weights RevSeqPav 4) pairs.rows (1 ∷ 2 ∷ 3 ∷ 4 ∷ []) 3 ≡ 6)
unfolding pairs hit_weights common_multiple
worth_of_three = (refl, refl)

places_of_hits : (hits_of Grow 2 ≡ 3) × (hits_of Shrink 2 ≡ 2)
places_of_hits = (refl, refl)

choice : is_choice Grow (hit_weights SeqPav 4) 4 pairs.rows (1 ∷ []) 2 ≡ true
unfolding pairs hit_weights common_multiple
choice = refl

changes_of_one : changes Grow (hit_weights SeqCc 4) 4 pairs.rows (1 ∷ []) ≡ (1 ∷ 3 ∷ []) ∷ (1 ∷ 4 ∷ []) ∷ []
unfolding pairs hit_weights changes
changes_of_one = refl

-- the sets of a list, each once and in another order
has_sets : HasSetsOf ((1 ∷ []) ∷ (2 ∷ []) ∷ (1 ∷ []) ∷ []) ((2 ∷ []) ∷ (1 ∷ []) ∷ [])
has_sets = λ set. (first set, last set)
  where
    first : (set : List ℕ) → Contains ((2 ∷ []) ∷ (1 ∷ []) ∷ []) set → Contains ((1 ∷ []) ∷ (2 ∷ []) ∷ (1 ∷ []) ∷ []) set
    first set (zero, inside, is) = (1, omega arith, is)
    first set (suc zero, inside, is) = (0, omega arith, is)
    first set (suc (suc i), inside, is) = absurd (omega (arith, inside))

    last : (set : List ℕ) → Contains ((1 ∷ []) ∷ (2 ∷ []) ∷ (1 ∷ []) ∷ []) set → Contains ((2 ∷ []) ∷ (1 ∷ []) ∷ []) set
    last set (zero, inside, is) = (1, omega arith, is)
    last set (suc zero, inside, is) = (0, omega arith, is)
    last set (suc (suc zero), inside, is) = (1, omega arith, is)
    last set (suc (suc (suc i)), inside, is) = absurd (omega (arith, inside))

-- any choice may be made here, and each adds a candidate
followed : follows (λ set c. true) (change Grow) [] (2 ∷ 1 ∷ []) ≡ true
followed = refl
