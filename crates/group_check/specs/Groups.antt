-- Groups of voters, and which of them a committee fails to represent.
-- (Lackner and Skowron, Multi-Winner Voting with Approval Preferences, proportionality)
use Rattle.std.specs.Prelude.{ℕ, zero, suc, ◌*◌, ◌≤◌, ◌==◌, ◌&&◌, Bool, not, List, [], ◌∷◌, ⊤, IsTrue, length, filter, sum, nat_le, nat_lt}
use Rattle.std.specs.List.{list_all, list_any, range_with_len}
use Rattle.ballot_base.specs.CandSet.{has_member}
use Rattle.ballot_base.specs.Ballots.{Row, Election, hits, voter_count}
use Rattle.group_check.specs.declared.property.Property.{Property}
use Rattle.group_check.specs.declared.property.Property.TheVariants.{Jr, Pjr, Ejr, EjrPlus}

-- A group of voters, as a number for each row: how many of the row's voters belong to it, from none to all. Its size is
-- the sum of these numbers.
abbrev pub IsGroup : List Row → List ℕ → Type 0
IsGroup [] [] = ⊤
IsGroup [] (n ∷ group) = ⊥
IsGroup (row ∷ rows) [] = ⊥
IsGroup (row ∷ rows) (n ∷ group) = (n ≤ row.1) × IsGroup rows group

-- the ballots of the group's members, each once
abbrev pub member_ballots : List Row → List ℕ → List (List ℕ)
member_ballots [] group = []
member_ballots (row ∷ rows) [] = []
member_ballots (row ∷ rows) (zero ∷ group) = member_ballots rows group
member_ballots (row ∷ rows) (suc n ∷ group) = row.0 ∷ member_ballots rows group

-- the candidates of 1 to m that all these ballots approve
abbrev pub common_candidates : ℕ → List (List ℕ) → List ℕ
common_candidates m ballots = filter (λ c. list_all (λ ballot. has_member ballot c) ballots) (range_with_len 1 m)

-- the members of the committee that some of these ballots approves
abbrev pub represented : List (List ℕ) → List ℕ → List ℕ
represented ballots committee = filter (λ c. list_any (λ ballot. has_member ballot c) ballots) committee

-- whether the group has at least l · n / k of the n voters, for committees of k
abbrev pub is_large_enough : Election → ℕ → ℕ → List ℕ → Bool
is_large_enough e k level group = nat_le (level * voter_count e.rows) (sum group * k)

-- whether a candidate is not a member of the committee
abbrev pub is_outside : List ℕ → ℕ → Bool
is_outside committee c = not (has_member committee c)

-- whether the group is l-cohesive for committees of k: it has at least l · n / k of the n voters, and its members
-- approve at least l candidates in common
abbrev pub is_cohesive : Election → ℕ → ℕ → List ℕ → Bool
is_cohesive e k level group =
    is_large_enough e k level group
    && nat_le level (length (common_candidates e.m (member_ballots e.rows group)))

-- whether each of these ballots approves fewer than this many members of the committee
abbrev pub all_below : ℕ → List ℕ → List (List ℕ) → Bool
all_below bound committee ballots = list_all (λ ballot. nat_lt (hits ballot committee) bound) ballots

-- whether the group breaks the property at level l, from 1 to the size of the committee: it is l-cohesive, and
-- - for justified representation, l is 1 and no member approves a member of the committee
-- - for proportional justified representation, fewer than l members of the committee are approved by some member
-- - for extended justified representation, each member approves fewer than l members of the committee
-- For EJR+ the group need not be l-cohesive. It has at least l · n / k of the n voters, and its members share a
-- candidate outside the committee. Each member approves fewer than l members of the committee.
-- (Brill and Peters, Robust and Verifiable Proportionality Axioms for Multiwinner Voting)
abbrev pub breaks : Property → Election → List ℕ → ℕ → List ℕ → Bool
breaks Jr e committee level group =
    (level == 1) && is_cohesive e (length committee) level group && all_below 1 committee (member_ballots e.rows group)
breaks Pjr e committee level group =
    is_cohesive e (length committee) level group
    && nat_lt (length (represented (member_ballots e.rows group) committee)) level
breaks Ejr e committee level group =
    is_cohesive e (length committee) level group && all_below level committee (member_ballots e.rows group)
breaks EjrPlus e committee level group =
    is_large_enough e (length committee) level group
    && list_any (is_outside committee) (common_candidates e.m (member_ballots e.rows group))
    && all_below level committee (member_ballots e.rows group)

abbrev pub Breaks : Property → Election → List ℕ → ℕ → List ℕ → Type 0
Breaks property e committee level group = IsTrue (breaks property e committee level group)

-- some group of the voters breaks the property at this level
abbrev pub SomeGroupBreaks : Property → Election → List ℕ → ℕ → Type 0
SomeGroupBreaks property e committee level =
    (group : List ℕ) × IsGroup e.rows group × Breaks property e committee level group

-- the committee has the property: no group breaks it, at any level from 1 to the size of the committee
abbrev pub HasProperty : Property → Election → List ℕ → Type 0
HasProperty property e committee =
    (level : ℕ) → 1 ≤ level → level ≤ length committee → SomeGroupBreaks property e committee level → ⊥
