-- Each definition, computed on a small example.
use Rattle.std.proofs.Common.{◌≡◌, ℕ, List, [], ◌∷◌, ◌++◌, true, false, None, Some, refl}
use Rattle.std.specs.Prelude.{codes}
use Rattle.std.specs.Fmt.{digits}
use Rattle.ballot_base.specs.Lists.{lists_of}
use Rattle.ballot_base.specs.Ballots.{Election, Row, election}
use Rattle.ballot_base.specs.declared.increments.ThieleRule.TheVariants.{Av}
use Rattle.request_words.specs.declared.request.Rule.TheVariants.{Scored, Sequential}
use Rattle.tie_walk.specs.declared.sequential.SeqRule.TheVariants.{SeqPav}
use Rattle.request_words.specs.declared.request.ScoredRule.TheVariants.{Thiele, Satisfaction, Minimax}
use Rattle.ballot_base.specs.Increments.{increments}
use Rattle.ballot_base.specs.CommonMultiple.{common_multiple}
use Rattle.tie_walk.specs.Sequences.{hit_weights}
use Rattle.vote_cli.specs.ElectText.{best_text, elect_answers, elect_header, elect_text, rule_lines, score_text, scored_header}
use Rattle.request_words.specs.Request.{whole}
use Rattle.vote_cli.specs.Listing.{allocation_line, answers_text, committee_line, has_more, last_line, listing_text, within_limit}
use Rattle.vote_cli.specs.Starts.{has_seats_for, may_start}
use Rattle.vote_cli.specs.RuleValues.{value_by}
use Rattle.text_output.specs.Text.{line}
use Rattle.seat_share.specs.declared.method.Method.TheVariants.{Dhondt, SainteLague, Adams}
use Rattle.seat_share.specs.Allocations.{lists_with_sum}
use Rattle.vote_cli.specs.Parties.{has_many_approved, approvals_of, party_votes}
use Rattle.vote_cli.specs.ShareText.{share_header, share_text}

-- two voters approve 1 and 2, and one approves 3
abbrev rows : List Row
rows = (1 ∷ 2 ∷ [], 2) ∷ (3 ∷ [], 1) ∷ []

abbrev three : Election
three = election 3 ([] ∷ [] ∷ [] ∷ []) rows

-- ---- texts
head : scored_header (Thiele Av) 3 1 2 ≡ codes "rule av" ++ 10 ∷ codes "size 1" ++ 10 ∷ codes "score 2/1" ++ 10 ∷ []
unfolding digits
head = refl

distance : best_text Minimax 3 1 2 ≡ codes "distance 1"
unfolding digits
distance = refl

score : score_text 9 6 ≡ codes "score 9/6"
unfolding digits
score = refl

sequential_head : rule_lines (Sequential SeqPav) 12 ≡ line (codes "rule seqpav") ++ line (codes "size 12")
unfolding digits
sequential_head = refl

-- ---- names
-- candidate 2 has no name
abbrev red_and_blue : List (List ℕ)
red_and_blue = codes "Red" ∷ [] ∷ codes "Blue" ∷ []

-- ---- starts
seats_of_three : (has_seats_for 3 (5 ∷ 0 ∷ 0 ∷ []) ≡ true) × (has_seats_for 3 (4 ∷ 2 ∷ []) ≡ false) × (has_seats_for 3 (10001 ∷ 0 ∷ 0 ∷ []) ≡ false)
seats_of_three = (refl, refl, refl)

starts : (may_start (has_seats_for 1) None ≡ true) × (may_start (has_seats_for 1) (Some (1 ∷ 2 ∷ [])) ≡ false)
starts = (refl, refl)

-- ---- listings
a_committee : committee_line None (1 ∷ 20 ∷ []) ≡ codes "1,20" ++ 10 ∷ []
unfolding digits
a_committee = refl

an_allocation : allocation_line (Some red_and_blue) (1 ∷ 0 ∷ 1 ∷ []) ≡ codes "1,0,1" ++ 9 ∷ codes "Red; Blue" ++ 10 ∷ []
unfolding digits
an_allocation = refl

-- three answers
abbrev pairs : List (List ℕ)
pairs = (1 ∷ 2 ∷ []) ∷ (1 ∷ 3 ∷ []) ∷ (2 ∷ 3 ∷ []) ∷ []

limits : (within_limit (Some 1) pairs ≡ (1 ∷ 2 ∷ []) ∷ []) × (within_limit None pairs ≡ pairs) × (has_more (Some 2) pairs ≡ true) × (has_more (Some 3) pairs ≡ false) × (has_more None pairs ≡ false)
limits = (refl, refl, refl, refl, refl)

last_lines : (last_line true ≡ codes "more" ++ 10 ∷ []) × (last_line false ≡ codes "end" ++ 10 ∷ [])
last_lines = (refl, refl)

all_answers : answers_text (committee_line None) None pairs ≡ line (codes "1,2") ++ line (codes "1,3") ++ line (codes "2,3") ++ line (codes "end")
unfolding digits
all_answers = refl

-- one of them, and as many as there are
limited_answers : (answers_text (committee_line None) (Some 1) pairs ≡ line (codes "1,2") ++ line (codes "more"))
    × (answers_text (committee_line None) (Some 3) pairs ≡ line (codes "1,2") ++ line (codes "1,3") ++ line (codes "2,3") ++ line (codes "end"))
unfolding digits
limited_answers = (refl, refl)

a_listing : listing_text (committee_line None) (line (codes "size 2")) (record { after = Some (1 ∷ 2 ∷ []); limit = Some 1 }) pairs ≡ line (codes "size 2") ++ line (codes "1,3") ++ line (codes "more")
unfolding digits
a_listing = refl

-- the start need not be an answer, and no answer may be later
no_answer : listing_text (committee_line None) (line (codes "size 2")) (record { after = Some (3 ∷ 4 ∷ []); limit = Some 1 }) pairs ≡ line (codes "size 2") ++ line (codes "end")
no_answer = refl

-- ---- values
-- of 1, whom two voters approve beside 2
values : (value_by (Thiele Av) 1 three (1 ∷ []) ≡ 2) × (value_by Satisfaction 1 three (1 ∷ []) ≡ 6) × (value_by Minimax 1 three (1 ∷ []) ≡ 1)
unfolding increments common_multiple
values = (refl, refl, refl)

-- ---- elections
elect_parts : (elect_header (Scored (Thiele Av)) 1 three ≡ scored_header (Thiele Av) 3 1 2) × (elect_answers (Scored (Thiele Av)) 1 three ≡ (1 ∷ []) ∷ (2 ∷ []) ∷ [])
unfolding digits lists_of increments
elect_parts = (refl, refl)

-- the answer to size 1
abbrev text : List ℕ
text = line (codes "rule av") ++ line (codes "size 1") ++ line (codes "score 2/1") ++ line (codes "1") ++ line (codes "2") ++ line (codes "end")

elected : elect_text (Scored (Thiele Av)) 1 whole None three ≡ text
unfolding digits lists_of increments
elected = refl

elected_pair : elect_text (Scored (Thiele Av)) 2 whole None three ≡ line (codes "rule av") ++ line (codes "size 2") ++ line (codes "score 4/1") ++ line (codes "1,2") ++ line (codes "end")
unfolding digits lists_of increments
elected_pair = refl

-- two seats by sequential proportional approval voting: each pair is reached, 1 and 2 in two ways
elected_in_turn : elect_text (Sequential SeqPav) 2 whole None three
    ≡ line (codes "rule seqpav") ++ line (codes "size 2") ++ line (codes "1,2") ++ line (codes "1,3") ++ line (codes "2,3") ++ line (codes "end")
unfolding digits lists_of hit_weights common_multiple
elected_in_turn = refl

-- the second of them alone, with names: the score is that of all
elected_later : elect_text (Scored (Thiele Av)) 1 (record { after = Some (1 ∷ []); limit = None }) (Some red_and_blue) three
    ≡ line (codes "rule av") ++ line (codes "size 1") ++ line (codes "score 2/1") ++ line (codes "2" ++ 9 ∷ codes "2") ++ line (codes "end")
unfolding digits lists_of increments
elected_later = refl

-- ---- seats
-- of three parties, two voters are for 1 and four for 3, and one is for none
abbrev party_rows : List Row
party_rows = (1 ∷ [], 2) ∷ ([], 1) ∷ (3 ∷ [], 4) ∷ []

abbrev parties : Election
parties = election 3 ([] ∷ [] ∷ [] ∷ []) party_rows

votes : party_votes parties ≡ 2 ∷ 0 ∷ 4 ∷ []
votes = refl

approvals : (approvals_of party_rows 3 ≡ 4) × (approvals_of party_rows 2 ≡ 0) × (approvals_of rows 2 ≡ 2)
approvals = (refl, refl, refl)

many_approved : (has_many_approved parties ≡ false) × (has_many_approved three ≡ true)
many_approved = (refl, refl)

two_allocations : answers_text (allocation_line None) None ((0 ∷ 10 ∷ []) ∷ (1 ∷ 9 ∷ []) ∷ []) ≡ line (codes "0,10") ++ line (codes "1,9") ++ line (codes "end")
unfolding digits
two_allocations = refl

head_of_shares : share_header Adams 12 ≡ codes "method adams" ++ 10 ∷ codes "seats 12" ++ 10 ∷ []
unfolding digits
head_of_shares = refl

shared_one_way : listing_text (allocation_line None) (share_header SainteLague 7) whole ((3 ∷ 2 ∷ 2 ∷ []) ∷ []) ≡ line (codes "method saintelague") ++ line (codes "seats 7") ++ line (codes "3,2,2") ++ line (codes "end")
unfolding digits
shared_one_way = refl

-- the votes of an election, and their tied allocations
shared_two_ways : share_text Dhondt 2 whole None (party_votes parties)
    ≡ line (codes "method dhondt") ++ line (codes "seats 2") ++ line (codes "0,0,2") ++ line (codes "1,0,1") ++ line (codes "end")
unfolding digits lists_with_sum
shared_two_ways = refl

-- the first of them, with the names of the parties that have a seat
shared_with_names : share_text Dhondt 2 (record { after = None; limit = Some 1 }) (Some red_and_blue) (party_votes parties)
    ≡ line (codes "method dhondt") ++ line (codes "seats 2") ++ line (codes "0,0,2" ++ 9 ∷ codes "Blue") ++ line (codes "more")
unfolding digits lists_with_sum
shared_with_names = refl
