-- The definitions on worked examples.
use Rattle.std.proofs.Common.{◌≡◌, [], ◌∷◌, true, false, refl, Some, None, codes, map, replicate}
use Rattle.seat_share.specs.declared.method.Method.TheVariants.{Hamilton, Dhondt, SainteLague, Huntington, Adams, Dean}
use Rattle.seat_share.specs.declared.method.ShareFault.TheVariants.{NoParties, TooManyParties, NoVotes, TooManyVotes, BadSeats, AfterLength}
use Rattle.seat_share.specs.Quotients.{quotient, is_at_least}
use Rattle.seat_share.specs.Allocations.{lists_with_sum, allocations, is_later, later_than}
use Rattle.seat_share.specs.Faults.{share_fault}
use Rattle.seat_share.specs.Steps.Choices.{choices}
use Rattle.seat_share.specs.Steps.Claims.{claim, most_dividend, most_divisor}
use Rattle.seat_share.specs.Names.{method_name, method_named, methods, share_fault_name}

-- ---- quotients
over_zero : (is_at_least (quotient Adams 3 0) (quotient Adams 5 0) ≡ false) × (is_at_least (quotient Adams 5 0) (quotient Adams 3 0) ≡ true)
over_zero = (refl, refl)

zero_over_one : (is_at_least (quotient Dean 1 0) (quotient Dean 9 1) ≡ true) × (is_at_least (quotient Dean 9 1) (quotient Dean 1 0) ≡ false)
zero_over_one = (refl, refl)

equal_quotients : (is_at_least (quotient Dhondt 4 1) (quotient Dhondt 2 0) ≡ true) × (is_at_least (quotient Dhondt 2 0) (quotient Dhondt 4 1) ≡ true)
equal_quotients = (refl, refl)

-- ---- claims
claims : (claim Hamilton 6 2 3 1 ≡ (12, 1)) × (claim Dean 6 2 3 1 ≡ (9, 4)) × (claim Adams 6 2 3 0 ≡ (3, 0))
claims = (refl, refl, refl)

greatest_claims : (most_dividend ≡ 18446744073709551616) × (most_divisor ≡ 200020000)
greatest_claims = (refl, refl)

-- ---- choices
tied_choices : choices ((1, true) ∷ (0, false) ∷ (0, true) ∷ []) 1 ≡ (1 ∷ 0 ∷ 1 ∷ []) ∷ (2 ∷ 0 ∷ 0 ∷ []) ∷ []
unfolding choices
tied_choices = refl

-- ---- lists
three_of_two : lists_with_sum 2 3 ≡ (0 ∷ 3 ∷ []) ∷ (1 ∷ 2 ∷ []) ∷ (2 ∷ 1 ∷ []) ∷ (3 ∷ 0 ∷ []) ∷ []
unfolding lists_with_sum
three_of_two = refl

-- ---- allocations
dhondt : allocations Dhondt (53 ∷ 24 ∷ 23 ∷ []) 7 ≡ (4 ∷ 2 ∷ 1 ∷ []) ∷ []
unfolding lists_with_sum
dhondt = refl

sainte_lague_tie : allocations SainteLague (3 ∷ 1 ∷ []) 2 ≡ (1 ∷ 1 ∷ []) ∷ (2 ∷ 0 ∷ []) ∷ []
unfolding lists_with_sum
sainte_lague_tie = refl

sainte_lague : allocations SainteLague (53 ∷ 24 ∷ 23 ∷ []) 7 ≡ (3 ∷ 2 ∷ 2 ∷ []) ∷ []
unfolding lists_with_sum
sainte_lague = refl

hamilton_ties : allocations Hamilton (1 ∷ 1 ∷ 1 ∷ []) 1 ≡ (0 ∷ 0 ∷ 1 ∷ []) ∷ (0 ∷ 1 ∷ 0 ∷ []) ∷ (1 ∷ 0 ∷ 0 ∷ []) ∷ []
unfolding lists_with_sum
hamilton_ties = refl

hamilton : allocations Hamilton (53 ∷ 24 ∷ 23 ∷ []) 7 ≡ (4 ∷ 2 ∷ 1 ∷ []) ∷ []
unfolding lists_with_sum
hamilton = refl

hamilton_without_votes : allocations Hamilton (1 ∷ 0 ∷ 1 ∷ []) 1 ≡ (0 ∷ 0 ∷ 1 ∷ []) ∷ (1 ∷ 0 ∷ 0 ∷ []) ∷ []
unfolding lists_with_sum
hamilton_without_votes = refl

adams : allocations Adams (5 ∷ 3 ∷ 3 ∷ []) 2 ≡ (1 ∷ 0 ∷ 1 ∷ []) ∷ (1 ∷ 1 ∷ 0 ∷ []) ∷ []
unfolding lists_with_sum
adams = refl

adams_of_five : allocations Adams (5 ∷ 3 ∷ 3 ∷ []) 5 ≡ (2 ∷ 1 ∷ 2 ∷ []) ∷ (2 ∷ 2 ∷ 1 ∷ []) ∷ []
unfolding lists_with_sum
adams_of_five = refl

huntington : allocations Huntington (1 ∷ 6 ∷ []) 10 ≡ (1 ∷ 9 ∷ []) ∷ (2 ∷ 8 ∷ []) ∷ []
unfolding lists_with_sum
huntington = refl

dean : allocations Dean (1 ∷ 6 ∷ []) 10 ≡ (2 ∷ 8 ∷ []) ∷ []
unfolding lists_with_sum
dean = refl

-- ---- starts
order : (is_later (4 ∷ 2 ∷ 1 ∷ []) (4 ∷ 2 ∷ 0 ∷ []) ≡ true) × (is_later (4 ∷ 2 ∷ 1 ∷ []) (4 ∷ 2 ∷ 1 ∷ []) ≡ false) × (is_later (4 ∷ 2 ∷ 1 ∷ []) (5 ∷ 0 ∷ 0 ∷ []) ≡ false)
    × (is_later (2 ∷ 0 ∷ []) (1 ∷ 1 ∷ []) ≡ true) × (is_later (2 ∷ 0 ∷ []) (1 ∷ []) ≡ false)
order = (refl, refl, refl, refl, refl)

later : later_than (Some (0 ∷ 1 ∷ 0 ∷ [])) (allocations Hamilton (1 ∷ 1 ∷ 1 ∷ []) 1) ≡ (1 ∷ 0 ∷ 0 ∷ []) ∷ []
unfolding lists_with_sum
later = refl

all_later : later_than None (allocations Adams (5 ∷ 3 ∷ 3 ∷ []) 2) ≡ (1 ∷ 0 ∷ 1 ∷ []) ∷ (1 ∷ 1 ∷ 0 ∷ []) ∷ []
unfolding lists_with_sum
all_later = refl

-- starts that are no allocations
between : (later_than (Some (4 ∷ 2 ∷ 0 ∷ [])) (allocations Dhondt (53 ∷ 24 ∷ 23 ∷ []) 7) ≡ (4 ∷ 2 ∷ 1 ∷ []) ∷ [])
    × (later_than (Some (5 ∷ 0 ∷ 0 ∷ [])) (allocations Dhondt (53 ∷ 24 ∷ 23 ∷ []) 7) ≡ [])
unfolding lists_with_sum
between = (refl, refl)

-- ---- faults
faults : (share_fault [] 0 (Some []) ≡ Some NoParties) × (share_fault (replicate 65 0) 0 None ≡ Some TooManyParties) × (share_fault (0 ∷ 0 ∷ []) 0 None ≡ Some NoVotes)
    × (share_fault (4294967296 ∷ 1 ∷ []) 1 None ≡ Some TooManyVotes) × (share_fault (1 ∷ []) 0 (Some []) ≡ Some BadSeats) × (share_fault (1 ∷ []) 10001 None ≡ Some BadSeats)
    × (share_fault (1 ∷ 1 ∷ []) 1 (Some (0 ∷ [])) ≡ Some AfterLength) × (share_fault (1 ∷ 1 ∷ []) 1 (Some (9 ∷ 9 ∷ [])) ≡ None) × (share_fault (replicate 64 1) 10000 None ≡ None)
faults = (refl, refl, refl, refl, refl, refl, refl, refl, refl)

-- ---- names
names : (method_named (codes "saintelague") ≡ Some SainteLague) × (method_named (codes "Dean") ≡ None) × (method_named [] ≡ None)
names = (refl, refl, refl)

each_has_its_name : map (λ method. method_named (method_name method)) methods ≡ map Some methods
each_has_its_name = refl

fault_name : share_fault_name NoVotes ≡ codes "NoVotes"
fault_name = refl
