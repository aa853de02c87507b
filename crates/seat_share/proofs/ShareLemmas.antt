-- From votes to parties, and from parties to an allocation.
use Rattle.std.proofs.Common.{◌≡◌, ℕ, zero, suc, ◌+◌, ◌-◌, ◌<◌, ◌≤◌, Bool, true, false, cond, List, [], ◌∷◌, ◌++◌, refl, sym, ap, subst, ◌∙◌, arith, sum, length, take, drop, Option, Some, None, is_some, true≢false, ◌==◌}
use Rattle.std.specs.Prelude.{nat_lt}
use Rattle.seat_share.specs.declared.method.ShareFault.TheVariants.{NoParties, TooManyParties, NoVotes, TooManyVotes}
use Rattle.seat_share.specs.Faults.{share_fault}
use Rattle.std.specs.List.{AllByRecursion, refill}
use Rattle.std.proofs.lemmas.List.Sums.{sum_by-cons}
use Rattle.seat_share.specs.declared.party.Party.{Party}
use Rattle.seat_share.specs.declared.method.Method.{Method}
use Rattle.seat_share.specs.Limits.{most_parties, most_seats, most_votes}
use Rattle.seat_share.specs.Quotients.{Quotient}
use Rattle.seat_share.specs.Steps.Claims.{claim}
use Rattle.seat_share.specs.Allocations.{allocations, later_than}
use Rattle.seat_share.specs.Steps.Choices.{Standing, choices}
use Rattle.seat_share.specs.Steps.Standings.{Stands, IsChoosing, MoreAreTied, standings, allocations_left, choices_from, votes_of, seats_of, tied_count}
use Rattle.seat_share.proofs.Threshold.{impossible}
use Rattle.seat_share.proofs.Chosen.{sure_seats}
use Rattle.seat_share.proofs.FairChoices.{fair-choices}

-- ---- the choices
sure-sum : (cs : List Party) → sure_seats (standings cs) ≡ seats_of cs
sure-sum [] = refl
sure-sum (c ∷ cs) = ap (λ n. c.seats + n) (sure-sum cs) ∙ sym (sum_by-cons (λ (d : Party). d.seats) c cs)

-- parties that stand at a threshold have the fair allocations for their choices
pub choices-fair : (method : Method) (total most more : ℕ) (low : Quotient) (old : List ℕ) (cs : List Party) → 0 < total → total ≡ sum old → votes_of cs ≡ old
    → AllByRecursion (λ (c : Party). Stands (claim method total most) most low c.votes c.seats c.is_tied) cs
    → seats_of cs + more ≡ most → more ≤ tied_count cs → choices (standings cs) more ≡ allocations method old most
choices-fair method total most more low old cs some is votes stand given enough =
    let same : total ≡ sum (votes_of cs) = is ∙ ap sum (sym votes) in
    let those = subst (λ t. AllByRecursion (λ (c : Party). Stands (claim method t most) most low c.votes c.seats c.is_tied) cs) same stand in
    let somebody : 0 < sum (votes_of cs) = omega (arith, some, same) in
    sym (fair-choices method cs most low somebody those more (ap (λ n. n + more) (sure-sum cs) ∙ given) enough)
    ∙ ap (λ l. allocations method l most) votes

-- the first of the choices is placed
pub first-placed : (all : List (List ℕ)) (more left : ℕ) (cs new : List Party) → choices (standings cs) more ≡ all → more ≤ tied_count cs → left ≡ more - tied_count cs
    → choices_from new ≡ choices (standings cs) (more - left) → choices_from new ≡ all
first-placed all more left cs new is enough rest first =
    let whole : more - left ≡ more = omega (arith, enough, rest) in
    first ∙ ap (choices (standings cs)) whole ∙ is

-- the first that is later than a start is
pub later-placed : (all : List (List ℕ)) (more : ℕ) (start : List ℕ) (found : Bool) (cs between new : List Party) → choices (standings cs) more ≡ all → standings between ≡ standings cs
    → allocations_left found new ≡ later_than (Some start) (choices (standings between) more) → allocations_left found new ≡ later_than (Some start) all
later-placed all more start found cs between new is same later = later ∙ ap (later_than (Some start)) (ap (λ ss. choices ss more) same ∙ is)

-- what standings say of seats
few-standings : (old new : List Party) → standings new ≡ standings old → AllByRecursion (λ (c : Party). c.seats ≤ most_seats) old → AllByRecursion (λ (c : Party). c.seats ≤ most_seats) new
few-standings [] [] same all = tt
few-standings [] (d ∷ ds) same all = impossible (omega (arith, ap length same))
few-standings (c ∷ cs) [] same all = tt
few-standings (c ∷ cs) (d ∷ ds) same all =
    let here : d.seats ≡ c.seats = ap (λ (l : List Standing). head_seats l) same in
    (omega (arith, here, all.0), few-standings cs ds (ap tail_of same) all.1)
  where
    head_seats : List Standing → ℕ
    head_seats [] = 0
    head_seats (s ∷ ss) = s.0

    tail_of : List Standing → List Standing
    tail_of [] = []
    tail_of (s ∷ ss) = ss

few-within : (most : ℕ) (cs : List Party) → most ≤ most_seats → seats_of cs ≤ most → AllByRecursion (λ (c : Party). c.seats ≤ most_seats) cs
few-within most [] hm fits = tt
few-within most (c ∷ cs) hm fits =
    let split = sum_by-cons (λ (d : Party). d.seats) c cs in
    (omega (arith, hm, fits, split), few-within most cs hm (omega (arith, fits, split)))

pub choosing : (most more : ℕ) (cs new : List Party) → most ≤ most_seats → seats_of cs + more ≡ most → standings new ≡ standings cs → MoreAreTied new → IsChoosing new
choosing most more cs new hm given same tied = record {
  more = tied;
  seats = few-standings cs new same (few-within most cs hm (omega (arith, given)));
}

-- votes that are at most 2^32 together are so one by one
pub few-votes : (cs : List Party) (votes : List ℕ) → votes_of cs ≡ votes → sum votes ≤ most_votes → AllByRecursion (λ (c : Party). c.votes ≤ most_votes) cs
few-votes cs votes same most = go cs (omega (arith, ap sum same, most))
  where
    go : (ds : List Party) → sum (votes_of ds) ≤ most_votes → AllByRecursion (λ (c : Party). c.votes ≤ most_votes) ds
    go [] h = tt
    go (d ∷ ds) h =
        let split = sum_by-cons (λ x. x) d.votes (votes_of ds) in
        (omega (arith, h, split), go ds (omega (arith, h, split)))

if-none : {X : Type 0} (b : Bool) (x : X) (rest : Option X) → cond b (Some x) rest ≡ None → (b ≡ false) × (rest ≡ None)
if-none true x rest h = impossible (no-some x h)
  where
    no-some : {Y : Type 0} (y : Y) → Some y ≡ None → ⊥
    no-some y e = true≢false (ap is_some e)
if-none false x rest h = (refl, h)

not-more : (a b : ℕ) → nat_lt a b ≡ false → b ≤ a
not-more a b h = grind arith

-- votes, seats and a start without a fault
pub votes-fit : (votes : List ℕ) (seats : ℕ) (after : Option (List ℕ)) → share_fault votes seats after ≡ None → sum votes ≤ most_votes
votes-fit votes seats after h =
    let parties = if-none (length votes == 0) NoParties _ h in
    let few = if-none (nat_lt most_parties (length votes)) TooManyParties _ parties.1 in
    let some = if-none (sum votes == 0) NoVotes _ few.1 in
    let most = if-none (nat_lt most_votes (sum votes)) TooManyVotes _ some.1 in
    not-more most_votes (sum votes) most.0

take-front : {X : Type 0} (xs ys : List X) (n : ℕ) → length xs ≡ n → take n (xs ++ ys) ≡ xs
take-front [] ys zero h = refl
take-front [] ys (suc n) h = impossible (omega (arith, h))
take-front (x ∷ xs) ys zero h = impossible (omega (arith, h))
take-front (x ∷ xs) ys (suc n) h = ap (λ l. x ∷ l) (take-front xs ys n (omega (arith, h)))

-- after a step the parties are still choosing
pub still-choosing : (old new : List Party) → length new ≡ length old → IsChoosing old → standings new ≡ standings old → MoreAreTied new → IsChoosing (refill (length old) old new)
still-choosing old new long choosing same tied =
    subst IsChoosing (sym (take-front new (drop (length new) old) (length old) long)) (record { more = tied; seats = few-standings old new same choosing.seats })
