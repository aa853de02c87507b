-- How parties stand when all seats but those of a tie are given.
use Rattle.std.specs.Prelude.{◌≡◌, ℕ, zero, suc, ◌+◌, ◌-◌, ◌<◌, ◌≤◌, Bool, true, false, cond, if◌then◌else◌}
use Rattle.std.specs.Prelude.{List, [], ◌∷◌, ◌++◌, map, sum_by, count_by, length, Option, Some, None}
use Rattle.std.specs.List.{AllByRecursion}
use Rattle.seat_share.specs.declared.award.Claimant.{Claimant}
use Rattle.seat_share.specs.declared.party.Party.{Party}
use Rattle.seat_share.specs.Limits.{most_seats, most_votes}
use Rattle.seat_share.specs.Quotients.{Quotient, is_at_least}
use Rattle.seat_share.specs.Steps.Choices.{Standing, choices}

-- A party at a threshold: each of its certain seats was claimed above it, and the party claims no further seat above
-- it. The party is tied exactly if its next claim is at the threshold. A party without votes has no seat and is not
-- tied.
pub record Stands (claim : ℕ → ℕ → Quotient) (most : ℕ) (low : Quotient) (votes sure : ℕ) (tied : Bool) : Type 0 where
  pub above : 0 < votes → 0 < sure → is_at_least low (claim votes (sure - 1)) ≡ false
  pub below : 0 < votes → is_at_least low (claim votes sure) ≡ true
  pub tie : 0 < votes → tied ≡ is_at_least (claim votes sure) low
  pub none : votes ≡ 0 → (sure ≡ 0) × (tied ≡ false)
  pub fits : sure ≤ most

abbrev pub AllStand : (ℕ → ℕ → Quotient) → ℕ → Quotient → List Party → Type 0
AllStand claim most low cs = AllByRecursion (λ c. Stands claim most low c.votes c.seats c.is_tied) cs

-- While seats are given, one after the other: each given seat was claimed at the threshold or above it, and no party
-- claims another one above it. A party without votes has no seat.
pub record Keeps (claim : ℕ → ℕ → Quotient) (most : ℕ) (low : Quotient) (votes seats : ℕ) : Type 0 where
  pub given : 0 < votes → 0 < seats → is_at_least (claim votes (seats - 1)) low ≡ true
  pub next : 0 < votes → is_at_least low (claim votes seats) ≡ true
  pub none : votes ≡ 0 → seats ≡ 0

abbrev pub AllKeep : (ℕ → ℕ → Quotient) → ℕ → Quotient → List Party → Type 0
AllKeep claim most low cs = AllByRecursion (λ c. Keeps claim most low c.votes c.seats) cs

-- the certain seats of a party, and whether it is tied
abbrev pub standing : Party → Standing
standing c = (c.seats, c.is_tied)

abbrev pub standings : List Party → List Standing
standings cs = map standing cs

-- how many parties are tied, and how many have one more seat in the allocation that comes next
abbrev pub tied_count : List Party → ℕ
tied_count cs = count_by (λ c. c.is_tied) cs

abbrev pub more_count : List Party → ℕ
more_count cs = count_by (λ c. c.has_more) cs

-- the allocation that comes next
abbrev pub allocation : List Party → List ℕ
allocation cs = map (λ c. c.seats + cond c.has_more 1 0) cs

-- the choices with one seat fewer
abbrev pub choices_less : List Standing → ℕ → List (List ℕ)
choices_less ss zero = []
choices_less ss (suc more) = choices ss more

-- the allocations from the next one on
unfoldable pub choices_from : List Party → List (List ℕ)
choices_from [] = [] ∷ []
choices_from (c ∷ rest) =
    if c.has_more then map (λ others. (c.seats + 1) ∷ others) (choices_from rest)
    else map (λ others. c.seats ∷ others) (choices_from rest)
    ++ (if c.is_tied
    then map (λ others. (c.seats + 1) ∷ others) (choices_less (standings rest) (more_count rest)) else [])

-- only tied parties have one more
abbrev pub MoreAreTied : List Party → Type 0
MoreAreTied cs = AllByRecursion (λ c. c.has_more ≡ true → c.is_tied ≡ true) cs

-- A party with votes, by its place, and its claim, which is at least that of each party with votes; `None` if no party
-- has votes.
abbrev pub IsGreatest : (ℕ → ℕ → Quotient) → List Party → Option Claimant → Type 0
IsGreatest claim cs None = AllByRecursion (λ c. c.votes ≡ 0) cs
IsGreatest claim cs (Some first) =
    (before : List Party) × (c : Party) × (after : List Party) × (cs ≡ before ++ c ∷ after)
    × (length before ≡ first.place) × (0 < c.votes) × (first.quotient ≡ claim c.votes c.seats)
    × AllByRecursion (λ d. 0 < d.votes → is_at_least first.quotient (claim d.votes d.seats) ≡ true) cs

-- each party is within the limit of votes, and has at most `most` seats
abbrev pub AreWithin : ℕ → List Party → Type 0
AreWithin most cs = AllByRecursion (λ c. (c.votes ≤ most_votes) × (c.seats ≤ most)) cs

abbrev pub votes_of : List Party → List ℕ
votes_of cs = map (λ c. c.votes) cs

abbrev pub seats_of : List Party → ℕ
seats_of cs = sum_by (λ c. c.seats) cs

-- the allocations from the next one on, or none
abbrev pub allocations_left : Bool → List Party → List (List ℕ)
allocations_left false cs = []
allocations_left true cs = choices_from cs

-- what is true of the parties while tied seats are chosen
pub record IsChoosing (cs : List Party) : Type 0 where
  pub more : MoreAreTied cs
  pub seats : AllByRecursion (λ c. c.seats ≤ most_seats) cs
