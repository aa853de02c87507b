-- Committees made one choice at a time
-- (Lackner and Skowron, Multi-Winner Voting with Approval Preferences, sequential and reverse sequential Thiele
-- methods).
use Rattle.std.specs.Prelude.{ℕ, zero, suc, ◌+◌, ◌-◌, ◌*◌, ◌/◌, ◌==◌, ◌&&◌, Bool, true, not, List, [], ◌∷◌, IsTrue, slice_index, sum_by, filter, fold, map, nat_le, if◌then◌else◌}
use Rattle.std.specs.List.{list_any, list_all, flat_map, range_with_len}
use Rattle.std.specs.Str.{bytes_eq}
use Rattle.ballot_base.specs.Lists.{increasing_lists}
use Rattle.ballot_base.specs.CandSet.{has_member, with_member, without_member}
use Rattle.ballot_base.specs.Ballots.{Row, Election, hits}
use Rattle.ballot_base.specs.CommonMultiple.{common_multiple}
use Rattle.tie_walk.specs.declared.sequential.SeqRule.{SeqRule}
use Rattle.tie_walk.specs.declared.sequential.SeqRule.TheVariants.{SeqPav, SeqCc, RevSeqPav}

-- What the j-th of a voter's hits adds, for m candidates. Under proportional approval voting it is 1/j, here times the
-- least common multiple of 1 to m. Under Chamberlin-Courant it is 1 for the first hit and 0 for the others.
abbrev pub hit_weight : SeqRule → ℕ → ℕ → ℕ
hit_weight SeqPav m j = common_multiple m / j
hit_weight SeqCc m j = if j == 1 then 1 else 0
hit_weight RevSeqPav m j = common_multiple m / j

-- what the hits of a voter add in turn, as many as there are candidates
unfoldable pub hit_weights : SeqRule → ℕ → List ℕ
hit_weights rule m = map (hit_weight rule m) (range_with_len 1 m)

-- what the j-th hit adds, counted from 1
abbrev pub weight : List ℕ → ℕ → ℕ
weight weights zero = 0
weight weights (suc j) = slice_index weights j

-- the rows that approve the candidate
abbrev pub supporters : List Row → ℕ → List Row
supporters rows c = filter (λ (row : Row). has_member row.0 c) rows

-- what the set gains by a candidate outside it: each supporter has one more hit
abbrev pub gain : List ℕ → List Row → List ℕ → ℕ → ℕ
gain weights rows set c =
    sum_by (λ (row : Row). row.1 * weight weights (hits row.0 set + 1)) (supporters rows c)

-- what the set loses without a member: each supporter's last hit
abbrev pub loss : List ℕ → List Row → List ℕ → ℕ → ℕ
loss weights rows set c = sum_by (λ (row : Row). row.1 * weight weights (hits row.0 set)) (supporters rows c)

-- the candidates 1 to m outside the set
abbrev pub others : ℕ → List ℕ → List ℕ
others m set = filter (λ c. not (has_member set c)) (range_with_len 1 m)

-- whether the candidate is outside the set, and no other candidate outside it has a higher gain at it
abbrev pub has_greatest_gain : List ℕ → ℕ → List Row → List ℕ → ℕ → Bool
has_greatest_gain weights m rows set c =
    has_member (others m set) c
    && list_all (λ d. nat_le (gain weights rows set d) (gain weights rows set c)) (others m set)

-- whether the candidate is in the set, and no other member has a lower loss
abbrev pub has_least_loss : List ℕ → List Row → List ℕ → ℕ → Bool
has_least_loss weights rows set c =
    has_member set c && list_all (λ d. nat_le (loss weights rows set c) (loss weights rows set d)) set

-- whether each member of the list has a highest gain at the set of the members before it
abbrev pub is_grown : List ℕ → ℕ → List Row → List ℕ → List ℕ → Bool
is_grown weights m rows before [] = true
is_grown weights m rows before (c ∷ list) =
    has_greatest_gain weights m rows before c && is_grown weights m rows (with_member before c) list

-- whether each member of the list has a lowest loss from the candidates that the members before it leave
abbrev pub is_shrunk : List ℕ → List Row → List ℕ → List ℕ → Bool
is_shrunk weights rows left [] = true
is_shrunk weights rows left (c ∷ list) =
    has_least_loss weights rows left c && is_shrunk weights rows (without_member left c) list

abbrev pub IsGrown : List ℕ → ℕ → List Row → List ℕ → Type 0
IsGrown weights m rows list = IsTrue (is_grown weights m rows [] list)

abbrev pub IsShrunk : List ℕ → ℕ → List Row → List ℕ → Type 0
IsShrunk weights m rows list = IsTrue (is_shrunk weights rows (range_with_len 1 m) list)

-- all lists of `size` of the candidates 1 to m
abbrev pub sequences : ℕ → ℕ → List (List ℕ)
sequences m zero = [] ∷ []
sequences m (suc size) = flat_map (λ c. map (λ list. c ∷ list) (sequences m size)) (range_with_len 1 m)

-- whether the set has exactly the members of some grown list of k
abbrev pub is_grown_set : List ℕ → ℕ → List Row → ℕ → List ℕ → Bool
is_grown_set weights m rows k set =
    list_any (λ list. is_grown weights m rows [] list && bytes_eq (fold with_member [] list) set) (sequences m k)

-- whether the set is what some shrunk list of m - k leaves
abbrev pub is_left_set : List ℕ → ℕ → List Row → ℕ → List ℕ → Bool
is_left_set weights m rows k set =
    let all = range_with_len 1 m in
    list_any (λ list. is_shrunk weights rows all list && bytes_eq (fold without_member all list) set)
    (sequences m (m - k))

-- whether some sequence of choices makes the committee
abbrev pub is_sequential_winner : SeqRule → Election → ℕ → List ℕ → Bool
is_sequential_winner SeqPav e k set = is_grown_set (hit_weights SeqPav e.m) e.m e.rows k set
is_sequential_winner SeqCc e k set = is_grown_set (hit_weights SeqCc e.m) e.m e.rows k set
is_sequential_winner RevSeqPav e k set = is_left_set (hit_weights RevSeqPav e.m) e.m e.rows k set

-- the committees that some sequence of choices makes, in lexicographic order
abbrev pub sequential_winners : SeqRule → Election → ℕ → List (List ℕ)
sequential_winners rule e k = filter (is_sequential_winner rule e k) (increasing_lists 1 e.m k)
