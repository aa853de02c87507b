-- What the theorems do not say, and elections in which it is false.
use Rattle.std.proofs.Common.{◌≡◌, [], ◌∷◌, Some, None, true, map, refl}
use Rattle.std.specs.Fmt.{digits}
use Rattle.ballot_base.specs.Lists.{lists_of}
use Rattle.ballot_base.specs.Ballots.{Election, election, voter_count}
use Rattle.ballot_base.specs.Increments.{increments}
use Rattle.ballot_base.specs.CommonMultiple.{common_multiple}
use Rattle.ballot_base.specs.declared.increments.ThieleRule.TheVariants.{Av, Cc, Pav}
use Rattle.seat_share.specs.declared.method.Method.TheVariants.{Dhondt, SainteLague}
use Rattle.seat_share.specs.Allocations.{allocations, lists_with_sum}
use Rattle.vote_cli.specs.Listing.{allocation_line, answers_text, committee_line}
use Rattle.field_laws.specs.PartyLists.{votes_of, seats_of}
use Rattle.tie_walk.specs.Sequences.{hit_weights, sequential_winners, supporters}
use Rattle.tie_walk.specs.declared.sequential.SeqRule.TheVariants.{SeqCc, SeqPav}
use Rattle.tie_walk.specs.Values.{thiele_of, tally_value}
use Rattle.tie_walk.specs.Winners.{winners}
use Rattle.group_check.specs.declared.property.Property.TheVariants.{Jr, Pjr}
use Rattle.group_check.specs.Groups.{breaks}

-- All voters approve 1 and 2, so they deserve both seats. Chamberlin-Courant may give them one.
alike : Election
alike = election 3 ([] ∷ [] ∷ [] ∷ []) ((1 ∷ 2 ∷ [], 2) ∷ [])

-- all committees cover all voters
one_seat_by_cc : winners (tally_value (thiele_of alike Cc 2)) 3 2 ≡ (1 ∷ 2 ∷ []) ∷ (1 ∷ 3 ∷ []) ∷ (2 ∷ 3 ∷ []) ∷ []
unfolding lists_of increments alike
one_seat_by_cc = refl

-- nor does sequential Chamberlin-Courant ask for more once all are covered
one_seat_by_seqcc : sequential_winners SeqCc alike 2 ≡ (1 ∷ 2 ∷ []) ∷ (1 ∷ 3 ∷ []) ∷ (2 ∷ 3 ∷ []) ∷ []
unfolding lists_of hit_weights alike
one_seat_by_seqcc = refl

-- they have one member of two
they_deserve_two : breaks Pjr alike (1 ∷ 3 ∷ []) 2 (2 ∷ []) ≡ true
unfolding alike
they_deserve_two = refl

-- Three voters approve 1 and 2, and two approve 3.
apart : Election
apart = election 3 ([] ∷ [] ∷ [] ∷ []) ((1 ∷ 2 ∷ [], 3) ∷ (3 ∷ [], 2) ∷ [])

-- By proportional approval voting the two have a seat, although 1 and 2 have more approvals than 3.
one_seat_by_pav : winners (tally_value (thiele_of apart Pav 2)) 3 2 ≡ (1 ∷ 3 ∷ []) ∷ (2 ∷ 3 ∷ []) ∷ []
unfolding lists_of increments common_multiple apart
one_seat_by_pav = refl

-- so the winners under proportional approval voting are not the most approved
more_approve_1_than_3 : (voter_count (supporters apart.rows 1) ≡ 3) × (voter_count (supporters apart.rows 3) ≡ 2)
unfolding apart
more_approve_1_than_3 = (refl, refl)

-- Two voters approve 1, 2 and 3, and one approves 4. The one deserves a seat of three, and approval voting gives none.
majority : Election
majority = election 4 ([] ∷ [] ∷ [] ∷ [] ∷ []) ((1 ∷ 2 ∷ 3 ∷ [], 2) ∷ (4 ∷ [], 1) ∷ [])

-- the two have all seats
all_seats_by_av : winners (tally_value (thiele_of majority Av 3)) 4 3 ≡ (1 ∷ 2 ∷ 3 ∷ []) ∷ []
unfolding lists_of increments majority
all_seats_by_av = refl

-- and the one has none
the_one_deserves_one : breaks Jr majority (1 ∷ 2 ∷ 3 ∷ []) 1 (0 ∷ 1 ∷ []) ≡ true
unfolding majority
the_one_deserves_one = refl

-- Without a voter, the group of nobody breaks justified representation.
nobody : Election
nobody = election 2 ([] ∷ [] ∷ []) []

-- it is large enough, agrees on everyone, and approves no member
nobody_breaks : breaks Jr nobody (1 ∷ []) 1 [] ≡ true
unfolding nobody
nobody_breaks = refl

-- Two parties with two candidates each, and four and two voters. Of two seats the first deserves the first one. For the
-- second seat both have a quotient of 2.
tied_lists : Election
tied_lists = election 4 ([] ∷ [] ∷ [] ∷ [] ∷ []) ((1 ∷ 2 ∷ [], 4) ∷ (3 ∷ 4 ∷ [], 2) ∷ [])

tied_by_pav : winners (tally_value (thiele_of tied_lists Pav 2)) 4 2
    ≡ (1 ∷ 2 ∷ []) ∷ (1 ∷ 3 ∷ []) ∷ (1 ∷ 4 ∷ []) ∷ (2 ∷ 3 ∷ []) ∷ (2 ∷ 4 ∷ []) ∷ []
unfolding lists_of increments common_multiple tied_lists
tied_by_pav = refl

tied_by_seqpav : sequential_winners SeqPav tied_lists 2
    ≡ (1 ∷ 2 ∷ []) ∷ (1 ∷ 3 ∷ []) ∷ (1 ∷ 4 ∷ []) ∷ (2 ∷ 3 ∷ []) ∷ (2 ∷ 4 ∷ []) ∷ []
unfolding lists_of hit_weights common_multiple tied_lists
tied_by_seqpav = refl

-- these are their seats, in the order of the committees, and the fair allocations
seats_of_tied : map (seats_of tied_lists.rows) ((1 ∷ 2 ∷ []) ∷ (1 ∷ 3 ∷ []) ∷ []) ≡ (2 ∷ 0 ∷ []) ∷ (1 ∷ 1 ∷ []) ∷ []
unfolding tied_lists
seats_of_tied = refl

tied_by_dhondt : allocations Dhondt (votes_of tied_lists.rows) 2 ≡ (1 ∷ 1 ∷ []) ∷ (2 ∷ 0 ∷ []) ∷ []
unfolding lists_with_sum tied_lists
tied_by_dhondt = refl

-- Of five and two voters the five have both seats, as by D'Hondt's method. By that of Sainte-Laguë the two have one.
large_and_small : Election
large_and_small = election 4 ([] ∷ [] ∷ [] ∷ [] ∷ []) ((1 ∷ 2 ∷ [], 5) ∷ (3 ∷ 4 ∷ [], 2) ∷ [])

both_by_pav : winners (tally_value (thiele_of large_and_small Pav 2)) 4 2 ≡ (1 ∷ 2 ∷ []) ∷ []
unfolding lists_of increments common_multiple large_and_small
both_by_pav = refl

both_by_seqpav : sequential_winners SeqPav large_and_small 2 ≡ (1 ∷ 2 ∷ []) ∷ []
unfolding lists_of hit_weights common_multiple large_and_small
both_by_seqpav = refl

one_each_by_sainte_lague : allocations SainteLague (votes_of large_and_small.rows) 2 ≡ (1 ∷ 1 ∷ []) ∷ []
unfolding lists_with_sum large_and_small
one_each_by_sainte_lague = refl

-- The list of five voters has one candidate, so it cannot have both seats.
short_list : Election
short_list = election 3 ([] ∷ [] ∷ [] ∷ []) ((1 ∷ [], 5) ∷ (2 ∷ 3 ∷ [], 2) ∷ [])

one_each_by_pav : winners (tally_value (thiele_of short_list Pav 2)) 3 2 ≡ (1 ∷ 2 ∷ []) ∷ (1 ∷ 3 ∷ []) ∷ []
unfolding lists_of increments common_multiple short_list
one_each_by_pav = refl

both_by_dhondt : allocations Dhondt (votes_of short_list.rows) 2 ≡ (2 ∷ 0 ∷ []) ∷ []
unfolding lists_with_sum short_list
both_by_dhondt = refl

-- Four of six voters approve 1. So sequential Chamberlin-Courant begins with 1 and covers five voters. The other two
-- candidates cover all.
covered : Election
covered = election 3 ([] ∷ [] ∷ [] ∷ []) ((1 ∷ 2 ∷ [], 2) ∷ (1 ∷ 3 ∷ [], 2) ∷ (2 ∷ [], 1) ∷ (3 ∷ [], 1) ∷ [])

five_by_seqcc : sequential_winners SeqCc covered 2 ≡ (1 ∷ 2 ∷ []) ∷ (1 ∷ 3 ∷ []) ∷ []
unfolding lists_of hit_weights covered
five_by_seqcc = refl

all_by_cc : winners (tally_value (thiele_of covered Cc 2)) 3 2 ≡ (2 ∷ 3 ∷ []) ∷ []
unfolding lists_of increments covered
all_by_cc = refl

-- If a name had the byte that ends a line, one committee could look like two: the name x of 1, and then 2 and its name.
one_long_name : answers_text (committee_line (Some ((120 ∷ 10 ∷ 50 ∷ 9 ∷ 121 ∷ []) ∷ []))) None ((1 ∷ []) ∷ [])
    ≡ answers_text (committee_line (Some ((120 ∷ []) ∷ (121 ∷ []) ∷ []))) None ((1 ∷ []) ∷ (2 ∷ []) ∷ [])
unfolding digits
one_long_name = refl

-- a limit hides what comes after it
hidden_committee : answers_text (committee_line None) (Some 1) ((1 ∷ []) ∷ (2 ∷ []) ∷ [])
    ≡ answers_text (committee_line None) (Some 1) ((1 ∷ []) ∷ (3 ∷ []) ∷ [])
unfolding digits
hidden_committee = refl

hidden_allocation : answers_text (allocation_line None) (Some 1) ((0 ∷ 1 ∷ []) ∷ (1 ∷ 0 ∷ []) ∷ [])
    ≡ answers_text (allocation_line None) (Some 1) ((0 ∷ 1 ∷ []) ∷ (2 ∷ 0 ∷ []) ∷ [])
unfolding digits
hidden_allocation = refl
