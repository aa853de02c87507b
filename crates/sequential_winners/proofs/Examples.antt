-- Each definition, computed on a small example.
use Rattle.std.proofs.Common.{◌≡◌, ◌-◌, [], ◌∷◌, true, false, Some, None, refl}
use Rattle.ballot_base.specs.Ballots.{Election, election}
use Rattle.ballot_base.specs.CommonMultiple.{common_multiple}
use Rattle.ballot_base.specs.Lists.{lists_of}
use Rattle.tie_walk.specs.Sequences.{hit_weights}
use Rattle.tie_walk.specs.declared.sequential.SeqRule.TheVariants.{SeqPav, SeqCc}
use Rattle.tie_walk.specs.declared.sequential.Step.TheVariants.{Grow, Shrink}
use Rattle.ballot_base.specs.Clones.{are_clones, clones_among}
use Rattle.sequential_winners.specs.Clones.{clone_count, has_as_many, is_between, without_clones}
use Rattle.sequential_winners.specs.Families.{sequential_of, is_winner, some_winner}
use Rattle.sequential_winners.specs.Steps.Families.{may_be_in}
use Rattle.sequential_winners.specs.Steps.Near.{near_of, first_least}
use Rattle.sequential_winners.specs.Steps.Levels.{is_first_open, is_settled, has_settled, ties, tied_worth, next_hit, share_voter, is_near, given_share, given, centre, beginners, shares_no_voter, is_independent, end, chosen, followers, family_changes, other_end}
use Rattle.sequential_winners.specs.Steps.Tables.{completed}

-- of the candidates 1 to 5, three voters approve 1 and 2, and one voter 3; nobody approves 4 and 5
few : Election
few = election 5 ([] ∷ [] ∷ [] ∷ [] ∷ [] ∷ []) ((1 ∷ 2 ∷ [], 3) ∷ (3 ∷ [], 1) ∷ [])

clones : (are_clones few.rows 1 2 ≡ true) × (are_clones few.rows 1 3 ≡ false) × (are_clones few.rows 4 5 ≡ true)
unfolding few
clones = (refl, refl, refl)

clones_of_four : clones_among 5 few.rows 4 ≡ 4 ∷ 5 ∷ []
unfolding few
clones_of_four = refl

alone_of_five : without_clones 5 few.rows ≡ 3 ∷ []
unfolding few
alone_of_five = refl

counts : (clone_count few.rows (1 ∷ 4 ∷ []) 2 ≡ 1) × (clone_count few.rows (1 ∷ 4 ∷ []) 3 ≡ 0)
unfolding few
counts = (refl, refl)

as_many : (has_as_many 5 few.rows (2 ∷ 3 ∷ []) (1 ∷ []) ≡ true) × (has_as_many 5 few.rows (3 ∷ 4 ∷ []) (1 ∷ []) ≡ false)
unfolding few
as_many = (refl, refl)

-- under Chamberlin-Courant nobody brings anything once all voters are covered
settled : (is_settled Grow (hit_weights SeqCc 5) 5 few.rows (1 ∷ 3 ∷ []) ≡ true) × (is_settled Grow (hit_weights SeqCc 5) 5 few.rows (1 ∷ []) ≡ false)
unfolding few hit_weights
settled = (refl, refl)

settled_by_worth : (has_settled Grow 0 ≡ true) × (has_settled Grow 1 ≡ false) × (has_settled Shrink 0 ≡ false)
settled_by_worth = (refl, refl, refl)

first_of_clones : (is_first_open Grow (1 ∷ 2 ∷ []) (1 ∷ []) 2 ≡ true) × (is_first_open Grow (1 ∷ 2 ∷ []) [] 2 ≡ false) × (is_first_open Shrink (1 ∷ 2 ∷ []) (2 ∷ []) 2 ≡ true)
first_of_clones = (refl, refl, refl)

-- of the clones 1 and 2, who tie, the first is followed alone, and a settled set stays
changes : (family_changes Grow (hit_weights SeqCc 5) 5 few.rows 3 0 [] ≡ (1 ∷ []) ∷ []) × (family_changes Grow (hit_weights SeqCc 5) 5 few.rows 3 2 (1 ∷ 3 ∷ []) ≡ (1 ∷ 3 ∷ []) ∷ [])
unfolding few hit_weights followers end
changes = (refl, refl)

-- of the candidates 1 to 4, two voters each approve 1, and 2, and one voter each 3, and 4
apart : Election
apart = election 4 ([] ∷ [] ∷ [] ∷ [] ∷ []) ((1 ∷ [], 2) ∷ (2 ∷ [], 2) ∷ (3 ∷ [], 1) ∷ (4 ∷ [], 1) ∷ [])

tied : (ties Grow (hit_weights SeqCc 4) 4 apart.rows [] ≡ 1 ∷ 2 ∷ []) × (tied_worth Grow (hit_weights SeqCc 4) 4 apart.rows [] ≡ 2) × (ties Shrink (hit_weights SeqCc 4) 4 apart.rows (1 ∷ 2 ∷ 3 ∷ 4 ∷ []) ≡ 3 ∷ 4 ∷ [])
unfolding apart hit_weights
tied = (refl, refl, refl)

no_voter_shared : (shares_no_voter apart.rows (1 ∷ 2 ∷ []) ≡ true) × (shares_no_voter few.rows (1 ∷ 2 ∷ []) ≡ false)
unfolding few apart
no_voter_shared = (refl, refl)

independent : (is_independent Grow (hit_weights SeqCc 4) 4 apart.rows [] ≡ true) × (is_independent Grow (hit_weights SeqCc 5) 5 few.rows [] ≡ false)
unfolding few apart hit_weights
independent = (refl, refl)

-- 1 and 2 are chosen in any order, and so are 3 and 4 where they are taken away
ends : (end Grow (hit_weights SeqCc 4) 4 apart.rows [] ≡ Some (1 ∷ 2 ∷ [])) × (end Shrink (hit_weights SeqCc 4) 4 apart.rows (1 ∷ 2 ∷ 3 ∷ 4 ∷ []) ≡ Some (1 ∷ 2 ∷ [])) × (end Grow (hit_weights SeqCc 5) 5 few.rows [] ≡ None)
unfolding few apart hit_weights end
ends = (refl, refl, refl)

-- four voters in a circle, each of whom approves two of four candidates
around : Election
around = election 4 ([] ∷ [] ∷ [] ∷ [] ∷ [] ∷ []) ((1 ∷ 2 ∷ [], 1) ∷ (2 ∷ 3 ∷ [], 1) ∷ (3 ∷ 4 ∷ [], 1) ∷ (1 ∷ 4 ∷ [], 1) ∷ [])

-- five who tie: 1, 2 and 3 share a voter, 1, 4 and 5 another, and each of 2 to 5 has one of its own
joined : Election
joined = election 5 ([] ∷ [] ∷ [] ∷ [] ∷ [] ∷ [] ∷ []) ((1 ∷ 2 ∷ 3 ∷ [], 1) ∷ (1 ∷ 4 ∷ 5 ∷ [], 1) ∷ (2 ∷ [], 1) ∷ (3 ∷ [], 1) ∷ (4 ∷ [], 1) ∷ (5 ∷ [], 1) ∷ [])

-- a voter who is covered gives nothing more
next_hits : (next_hit Grow (hit_weights SeqCc 4) [] (1 ∷ 2 ∷ [], 1) ≡ 1) × (next_hit Grow (hit_weights SeqCc 4) (1 ∷ []) (1 ∷ 2 ∷ [], 1) ≡ 0)
unfolding hit_weights
next_hits = (refl, refl)

shared : (share_voter Grow (hit_weights SeqCc 4) around.rows [] 1 2 ≡ true) × (share_voter Grow (hit_weights SeqCc 4) around.rows [] 1 3 ≡ false) × (share_voter Grow (hit_weights SeqCc 4) around.rows (1 ∷ []) 1 2 ≡ false)
unfolding around hit_weights
shared = (refl, refl, refl)

near_one : (is_near Grow (hit_weights SeqCc 4) around.rows [] 1 1 ≡ true) × (is_near Grow (hit_weights SeqCc 4) around.rows [] 1 4 ≡ true) × (is_near Grow (hit_weights SeqCc 4) around.rows [] 1 3 ≡ false)
unfolding around hit_weights
near_one = (refl, refl, refl)

-- a candidate is near itself, and so are those whom a table holds for it
near_in_table : (near_of ([] ∷ (2 ∷ 4 ∷ []) ∷ []) 1 ≡ 1 ∷ 2 ∷ 4 ∷ []) × (near_of [] 3 ≡ 3 ∷ [])
near_in_table = (refl, refl)

-- of equal numbers, the first
least_first : (first_least (λ c. 5 - c) (1 ∷ 2 ∷ 3 ∷ []) ≡ 3) × (first_least (λ c. 7) (2 ∷ 3 ∷ []) ≡ 2)
least_first = (refl, refl)

-- All four of the circle have two others near them, so 1 is the centre. Where 1, 2 and 3 share a voter, as do 1, 4 and
-- 5, four are near 1, and two near each of the others.
in_the_middle : (centre Grow (hit_weights SeqCc 4) 4 around.rows [] ≡ 1) × (centre Grow (hit_weights SeqCc 5) 5 joined.rows [] ≡ 2)
unfolding around joined hit_weights
in_the_middle = (refl, refl)

-- a voter gives once for all candidates that it approves, and a voter who is covered gives nothing
gives : (given_share Grow (hit_weights SeqCc 4) [] (1 ∷ 2 ∷ []) (1 ∷ 2 ∷ [], 1) ≡ 1) × (given_share Grow (hit_weights SeqCc 4) [] (3 ∷ []) (1 ∷ 2 ∷ [], 1) ≡ 0) × (given Grow (hit_weights SeqCc 4) around.rows [] (3 ∷ []) ≡ 2) × (given Grow (hit_weights SeqCc 4) around.rows (1 ∷ []) (2 ∷ 4 ∷ []) ≡ 2)
unfolding around hit_weights
gives = (refl, refl, refl, refl)

-- All four tie, with a gain of 2. The voters of 3 give 2, once 2 and not twice. So 1, 2 or 4 is among the first choices
-- if two are made; but 3 may be the only one.
begun : (beginners Grow (hit_weights SeqCc 4) 4 around.rows 2 [] ≡ 1 ∷ 2 ∷ 4 ∷ []) × (beginners Grow (hit_weights SeqCc 4) 4 around.rows 1 [] ≡ 1 ∷ 2 ∷ 3 ∷ 4 ∷ [])
unfolding around hit_weights
begun = (refl, refl)

choices_made : (chosen Grow 4 (1 ∷ 2 ∷ 3 ∷ []) ≡ 3) × (chosen Shrink 4 (1 ∷ 2 ∷ 3 ∷ []) ≡ 1)
choices_made = (refl, refl)

-- so both are chosen at once where there are two choices, and where there is one the set stays; and a set stays that
-- waits for its level
followed_by : (followers Grow (hit_weights SeqCc 4) 4 apart.rows 2 [] ≡ (1 ∷ 2 ∷ []) ∷ []) × (followers Grow (hit_weights SeqCc 4) 4 apart.rows 1 [] ≡ [] ∷ []) × (family_changes Grow (hit_weights SeqCc 4) 4 apart.rows 3 1 (1 ∷ 2 ∷ []) ≡ (1 ∷ 2 ∷ []) ∷ [])
unfolding apart hit_weights followers end
followed_by = (refl, refl, refl)

other_ends : (other_end Grow (hit_weights SeqCc 4) 4 apart.rows 1 [] ≡ 1 ∷ 2 ∷ []) × (other_end Grow (hit_weights SeqCc 4) 4 apart.rows 0 [] ≡ [])
unfolding apart hit_weights end
other_ends = (refl, refl)

between_ends : (is_between 4 apart.rows [] (1 ∷ 2 ∷ []) (2 ∷ []) ≡ true) × (is_between 4 apart.rows [] (1 ∷ 2 ∷ []) (3 ∷ []) ≡ false)
unfolding apart
between_ends = (refl, refl)

-- 3 is needed beside 2 for as many of each class as 1 and 3
completion : completed 2 5 few.rows (2 ∷ []) (1 ∷ 3 ∷ []) ≡ 2 ∷ 3 ∷ []
unfolding few
completion = refl

-- of the clones 1 and 2 a committee of this family has one at most
between : (is_between 5 few.rows (1 ∷ []) (1 ∷ 3 ∷ []) (2 ∷ 3 ∷ []) ≡ true) × (is_between 5 few.rows (1 ∷ []) (1 ∷ 3 ∷ []) (1 ∷ 2 ∷ []) ≡ false)
unfolding few
between = (refl, refl)

fitting : (may_be_in 5 few.rows 2 (2 ∷ []) 1 (1 ∷ 3 ∷ [], 1 ∷ 3 ∷ []) ≡ true) × (may_be_in 5 few.rows 3 (2 ∷ []) 1 (1 ∷ 3 ∷ [], 1 ∷ 3 ∷ []) ≡ false)
unfolding few
fitting = (refl, refl)

winning : (is_winner (sequential_of few SeqCc 2) (2 ∷ 3 ∷ []) ≡ true) × (is_winner (sequential_of few SeqCc 2) (1 ∷ 2 ∷ []) ≡ false)
unfolding few hit_weights
winning = (refl, refl)

completing : (some_winner (sequential_of few SeqCc 2) 2 (2 ∷ []) 1 ≡ true) × (some_winner (sequential_of few SeqCc 2) 3 (2 ∷ []) 1 ≡ false)
unfolding few hit_weights lists_of
completing = (refl, refl)

-- three candidates with a voter each: all pairs win, and one family has them
a_voter_each : Election
a_voter_each = election 3 ([] ∷ [] ∷ [] ∷ []) ((1 ∷ [], 1) ∷ (2 ∷ [], 1) ∷ (3 ∷ [], 1) ∷ [])

any_pair : (is_winner (sequential_of a_voter_each SeqPav 2) (1 ∷ 3 ∷ []) ≡ true) × (is_between 3 a_voter_each.rows [] (1 ∷ 2 ∷ 3 ∷ []) (1 ∷ 3 ∷ []) ≡ true)
unfolding a_voter_each hit_weights common_multiple
any_pair = (refl, refl)

-- no pair with 3 where 3 is above the most, and none without 2 where 2 is in the least
outside : (is_between 3 a_voter_each.rows [] (1 ∷ 2 ∷ []) (1 ∷ 3 ∷ []) ≡ false) × (is_between 3 a_voter_each.rows (2 ∷ []) (1 ∷ 2 ∷ 3 ∷ []) (1 ∷ 3 ∷ []) ≡ false)
unfolding a_voter_each
outside = (refl, refl)

-- 1 and one more may be a pair of it; of 3 alone no two can be chosen; and a member above the most fits nowhere
prefixes : (may_be_in 3 a_voter_each.rows 1 (1 ∷ []) 1 ([], 1 ∷ 2 ∷ 3 ∷ []) ≡ true) × (may_be_in 3 a_voter_each.rows 2 [] 2 ([], 1 ∷ 2 ∷ 3 ∷ []) ≡ false) × (may_be_in 3 a_voter_each.rows 1 (1 ∷ []) 1 ([], 2 ∷ 3 ∷ []) ≡ false)
unfolding a_voter_each
prefixes = (refl, refl, refl)
