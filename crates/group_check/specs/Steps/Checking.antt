-- What the steps of the search for a violation give.
use Rattle.std.specs.Prelude.{◌≡◌, ℕ, zero, suc, ◌+◌, ◌-◌, ◌*◌, ◌&&◌, ◌++◌, Bool, true, List, [], ◌∷◌, ⊤, IsTrue, length, map, flat_map, find, sum, nat_le, nat_lt, Option, option_map, min}
use Rattle.std.specs.List.{list_all}
use Rattle.ballot_base.specs.Lists.{IsIncreasing}
use Rattle.ballot_base.specs.CandSet.{has_member, common_members, includes}
use Rattle.ballot_base.specs.Ballots.{Election, voter_count}
use Rattle.group_check.specs.declared.property.Property.{Property}
use Rattle.group_check.specs.declared.property.Property.TheVariants.{Jr, Pjr, Ejr, EjrPlus}
use Rattle.group_check.specs.declared.property.Violation.{Violation}
use Rattle.group_check.specs.Groups.{is_outside}
use Rattle.group_check.specs.Report.{group_of, pair_group, lists_within, pair_breaks, violation_of}

-- the highest level at which a group can break the property
abbrev pub greatest_level : Property → List ℕ → ℕ
greatest_level Jr committee = 1
greatest_level Pjr committee = length committee
greatest_level Ejr committee = length committee
greatest_level EjrPlus committee = length committee

-- a list of `size` of the candidates 1 to m
abbrev pub IsChoice : ℕ → ℕ → List ℕ → Type 0
IsChoice m size set = IsIncreasing 1 m set × (length set ≡ size)

-- how many candidates T has
abbrev pub shared_size : Property → ℕ → ℕ
shared_size Jr level = level
shared_size Pjr level = level
shared_size Ejr level = level
shared_size EjrPlus level = 1

-- whether a candidate can be in T: for EJR+ the candidate is not a member of the committee
abbrev pub may_share : Property → List ℕ → ℕ → Bool
may_share Jr committee c = true
may_share Pjr committee c = true
may_share Ejr committee c = true
may_share EjrPlus committee c = is_outside committee c

-- T is a list of its level
abbrev pub IsFirst : Property → ℕ → List ℕ → ℕ → List ℕ → Type 0
IsFirst property m committee level set =
    IsChoice m (shared_size property level) set × IsTrue (list_all (may_share property committee) set)

-- for PJR, U has l - 1 candidates
abbrev pub IsSecond : Property → ℕ → ℕ → List ℕ → Type 0
IsSecond Jr m level set = ⊤
IsSecond Pjr m level set = IsChoice m (level - 1) set
IsSecond Ejr m level set = ⊤
IsSecond EjrPlus m level set = ⊤

-- the first violation that one of these pairs of T and U shows
abbrev pub first_of : Property → Election → List ℕ → ℕ → List (List ℕ × List ℕ) → Option Violation
first_of property e committee level pairs =
    option_map (violation_of property e committee level) (find (pair_breaks property e committee level) pairs)

-- the pairs with this T
abbrev pub pairs_of : List ℕ → List (List ℕ) → List (List ℕ × List ℕ)
pairs_of shared lists = map (λ within. (shared, within)) lists

-- the first violation that one of these lists T shows
abbrev pub first_of_lists : Property → Election → List ℕ → ℕ → List (List ℕ) → Option Violation
first_of_lists property e committee level lists =
    first_of property e committee level
    (flat_map (λ shared. pairs_of shared (lists_within property e.m committee level)) lists)

-- all lists of `size` of these items, in their order: those with the first item, and then those without it
abbrev pub sublists : List ℕ → ℕ → List (List ℕ)
sublists [] zero = [] ∷ []
sublists (x ∷ xs) zero = [] ∷ []
sublists [] (suc size) = []
sublists (x ∷ xs) (suc size) = map (λ rest. x ∷ rest) (sublists xs size) ++ sublists xs (suc size)

-- a list of `size` of the items of a pool
pub record IsTail (first last : ℕ) (pool : List ℕ) (size : ℕ) (tail : List ℕ) : Type 0 where
  pub increasing : IsIncreasing first last tail
  pub count : length tail ≡ size
  pub inside : (n : ℕ) → has_member tail n ≡ true → has_member pool n ≡ true

-- the lists of these candidates and `left` of the pool
abbrev pub completions : List ℕ → List ℕ → ℕ → List (List ℕ)
completions front pool left = map (λ rest. front ++ rest) (sublists pool left)

-- whether a group of this size is large enough for a level
abbrev pub is_large : Election → List ℕ → ℕ → ℕ → Bool
is_large e committee level voters = nat_le (level * voter_count e.rows) (voters * length committee)

-- whether a ballot approves all of T, and fewer members than the level
abbrev pub is_below : List ℕ → ℕ → List ℕ → List ℕ → Bool
is_below committee level shared ballot =
    includes ballot shared && nat_lt (length (common_members ballot committee)) level

-- whether a ballot approves all of T, and no members except those within and at most `left` of the pool
abbrev pub is_around : List ℕ → List ℕ → List ℕ → List ℕ → ℕ → List ℕ → Bool
is_around committee shared within pool left ballot =
    let approved = common_members ballot committee in
    let more = min (length (common_members approved pool)) left in
    includes ballot shared && nat_le (length approved) (length (common_members approved within) + more)

-- the group of all voters with such a ballot
abbrev pub voters_around : Election → List ℕ → List ℕ → List ℕ → List ℕ → ℕ → List ℕ
voters_around e committee shared within pool left = group_of (is_around committee shared within pool left) e.rows

-- whether the group of T and U is large enough for a level of PJR
abbrev pub is_enough_within : Election → List ℕ → ℕ → List ℕ → List ℕ → Bool
is_enough_within e committee level shared within =
    is_large e committee level (sum (pair_group Pjr e committee level (shared, within)))

-- each result for a ballot is that of the test
abbrev pub Computes : (List ℕ → Bool → Type 0) → (List ℕ → Bool) → Type 0
Computes answers test = (ballot : List ℕ) (answer : Bool) → answers ballot answer → answer ≡ test ballot
