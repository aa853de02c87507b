-- The fair allocations are the choices of parties that stand at a threshold.
use Rattle.std.proofs.Common.{◌≡◌, ℕ, zero, suc, ◌+◌, ◌-◌, ◌<◌, ◌≤◌, ◌==◌, ◌⊎◌, ◌&&◌, ◌||◌, Bool, not, true, false, cond, List, [], ◌∷◌, ◌++◌, refl, sym, ap, ap₂, subst, ◌∙◌, inl, inr, arith, map, filter, length, sum, sum_by, zip}
use Rattle.std.proofs.lemmas.List.{length-map}
use Rattle.std.specs.Prelude.{flat_map}
use Rattle.std.specs.List.{list_all, range_with_len, AllByRecursion}
use Rattle.std.proofs.lemmas.List.Sums.{sum_by-cons}
use Rattle.std.proofs.lemmas.List.Folds.{list_all-map}
use Rattle.seat_share.specs.declared.party.Party.{Party as CodeParty}
use Rattle.seat_share.specs.declared.method.Method.{Method}
use Rattle.seat_share.specs.declared.method.Method.TheVariants.{Hamilton, Dhondt, SainteLague, Huntington, Adams, Dean}
use Rattle.seat_share.specs.Quotients.{Quotient, quotient, is_at_least}
use Rattle.seat_share.specs.Fair.{Party, has_votes_for_seats, is_right, is_fair}
use Rattle.seat_share.specs.Steps.Claims.{claim}
use Rattle.seat_share.specs.Allocations.{lists_with_sum, allocations}
use Rattle.seat_share.specs.Steps.Choices.{choices}
use Rattle.seat_share.specs.Steps.Standings.{Stands, standing, standings, tied_count}
use Rattle.seat_share.proofs.Order.{absurd, zero_is, some_is}
use Rattle.seat_share.proofs.Members.{Has, all-member, and-left, and-right, both}
use Rattle.seat_share.proofs.Threshold.{Entry, IsSound, may_have, within, keeps, kept-is_within, none_or_some, or-true, impossible}
use Rattle.seat_share.proofs.QuotaLemmas.{hamilton-is_kept}
use Rattle.seat_share.proofs.ClaimLemmas.{claims-fall}
use Rattle.seat_share.proofs.Chosen.{fits_one, fits, sure_seats, chosen}

-- ---- lists
same-all : {X : Type 0} (p q : X → Bool) (xs : List X) → ((x : X) → p x ≡ q x) → list_all p xs ≡ list_all q xs
same-all p q [] same = refl
same-all p q (x ∷ xs) same = ap₂ (λ a b. a && b) (same x) (same-all p q xs same)

same-filter : {X : Type 0} (p q : X → Bool) (xs : List X) → ((x : X) → Has xs x → p x ≡ q x) → filter p xs ≡ filter q xs
same-filter p q [] same = refl
same-filter p q (x ∷ xs) same =
    ap (λ b. cond b (x ∷ filter p xs) (filter p xs)) (same x (inl refl))
    ∙ ap (λ l. cond (q x) (x ∷ l) l) (same-filter p q xs (λ y here. same y (inr here)))

pub has-map : {X Y : Type 0} (f : X → Y) (xs : List X) (x : X) → Has xs x → Has (map f xs) (f x)
has-map f [] x here = elim here [ ]
has-map f (y ∷ ys) x (inl is) = inl (ap f is)
has-map f (y ∷ ys) x (inr later) = inr (has-map f ys x later)

pub from-map : {X Y : Type 0} (f : X → Y) (xs : List X) (y : Y) → Has (map f xs) y → (x : X) × Has xs x × (f x ≡ y)
from-map f [] y here = elim here [ ]
from-map f (x ∷ xs) y (inl is) = (x, inl refl, is)
from-map f (x ∷ xs) y (inr later) = let found = from-map f xs y later in (found.0, inr found.1, found.2)

member-le : {X : Type 0} (f : X → ℕ) (xs : List X) (x : X) → Has xs x → f x ≤ sum_by f xs
member-le f [] x here = elim here [ ]
member-le f (y ∷ ys) x (inl is) = omega (arith, sum_by-cons f y ys, ap f is)
member-le f (y ∷ ys) x (inr later) = omega (arith, sum_by-cons f y ys, member-le f ys x later)

pub has-append : {X : Type 0} (xs ys : List X) (x : X) → Has (xs ++ ys) x → Has xs x ⊎ Has ys x
has-append [] ys x here = inr here
has-append (y ∷ xs) ys x (inl is) = inl (inl is)
has-append (y ∷ xs) ys x (inr later) = elim (has-append xs ys x later) [ inl h ↦ inl (inr h) | inr h ↦ inr h ]

pub from-flat_map : {X Y : Type 0} (g : X → List Y) (xs : List X) (y : Y) → Has (flat_map g xs) y → (x : X) × Has xs x × Has (g x) y
from-flat_map g [] y here = elim here [ ]
from-flat_map g (x ∷ xs) y here = elim (has-append (g x) (flat_map g xs) y here) [
  | inl h ↦ (x, inl refl, h)
  | inr h ↦ let found = from-flat_map g xs y h in (found.0, inr found.1, found.2)
]

pub in-range : (first count n : ℕ) → Has (range_with_len first count) n → n < first + count
in-range first zero n here = elim here [ ]
in-range first (suc count) n (inl is) = omega (arith, is)
in-range first (suc count) n (inr later) = omega (arith, in-range (first + 1) count n later)

-- the lists with a sum have it, and so many numbers
pub of-sum : (count total : ℕ) (list : List ℕ) → Has (lists_with_sum count total) list → (length list ≡ count) × (sum list ≡ total)
unfolding lists_with_sum
of-sum zero zero list (inl is) = (sym (ap length is), sym (ap sum is))
of-sum zero zero list (inr later) = elim later [ ]
of-sum zero (suc total) list here = elim here [ ]
of-sum (suc count) total list here =
    let found = from-flat_map (λ first. map (λ rest. first ∷ rest) (lists_with_sum count (total - first))) (range_with_len 0 (suc total)) list here in
    let first = found.0 in
    let most = in-range 0 (suc total) first found.1 in
    let tail = from-map (λ rest. first ∷ rest) (lists_with_sum count (total - first)) list found.2 in
    let rest = of-sum count (total - first) tail.0 tail.1 in (
      sym (ap length tail.2) ∙ ap suc rest.0,
      sym (ap sum tail.2) ∙ (omega (arith, sum_by-cons (λ x. x) first tail.0, rest.1, most)),
    )

-- ---- parties and their seats in a list
abbrev entries : List CodeParty → List ℕ → List Entry
entries [] list = []
entries (c ∷ cs) [] = []
entries (c ∷ cs) (a ∷ list) = record { votes = c.votes; sure = c.seats; tied = c.is_tied; seats = a } ∷ entries cs list

abbrev party : Entry → Party
party e = (e.votes, e.seats)

zip-entries : (cs : List CodeParty) (list : List ℕ) → zip (map (λ c. c.votes) cs) list ≡ map party (entries cs list)
zip-entries [] list = refl
zip-entries (c ∷ cs) [] = refl
zip-entries (c ∷ cs) (a ∷ list) = ap (λ l. (c.votes, a) ∷ l) (zip-entries cs list)

module _ (claims : ℕ → ℕ → Quotient) (most : ℕ) (falls : (v s : ℕ) → 0 < v → s < most → is_at_least (claims v (s + 1)) (claims v s) ≡ false) (low : Quotient) where
  within-fits : (cs : List CodeParty) (list : List ℕ) → length list ≡ length cs → list_all (within claims most falls low) (entries cs list) ≡ fits (standings cs) list
  within-fits [] [] h = refl
  within-fits [] (a ∷ list) h = impossible (omega (arith, h))
  within-fits (c ∷ cs) [] h = impossible (omega (arith, h))
  within-fits (c ∷ cs) (a ∷ list) h = ap (λ b. fits_one (standing c) a && b) (within-fits cs list (omega (arith, h)))

  sum-sure : (cs : List CodeParty) (list : List ℕ) → length list ≡ length cs → sum_by (λ (e : Entry). e.sure) (entries cs list) ≡ sure_seats (standings cs)
  sum-sure [] list h = refl
  sum-sure (c ∷ cs) [] h = impossible (omega (arith, h))
  sum-sure (c ∷ cs) (a ∷ list) h =
      sum_by-cons (λ (e : Entry). e.sure) (record { votes = c.votes; sure = c.seats; tied = c.is_tied; seats = a }) (entries cs list)
      ∙ ap (λ n. c.seats + n) (sum-sure cs list (omega (arith, h)))

  sum-may : (cs : List CodeParty) (list : List ℕ) → length list ≡ length cs → sum_by (may_have claims most falls low) (entries cs list) ≡ sure_seats (standings cs) + tied_count cs
  sum-may [] list h = refl
  sum-may (c ∷ cs) [] h = impossible (omega (arith, h))
  sum-may (c ∷ cs) (a ∷ list) h =
      let e : Entry = record { votes = c.votes; sure = c.seats; tied = c.is_tied; seats = a } in
      let more = sum-may cs list (omega (arith, h)) in
      sum_by-cons (may_have claims most falls low) e (entries cs list)
      ∙ (omega (arith, more, sum_by-cons (λ (d : CodeParty). cond d.is_tied 1 0) c cs))

  sum-seats : (cs : List CodeParty) (list : List ℕ) → length list ≡ length cs → sum_by (λ (e : Entry). e.seats) (entries cs list) ≡ sum list
  sum-seats [] [] h = refl
  sum-seats [] (a ∷ list) h = impossible (omega (arith, h))
  sum-seats (c ∷ cs) [] h = impossible (omega (arith, h))
  sum-seats (c ∷ cs) (a ∷ list) h =
      let e : Entry = record { votes = c.votes; sure = c.seats; tied = c.is_tied; seats = a } in
      sum_by-cons (λ (d : Entry). d.seats) e (entries cs list) ∙ ap (λ n. a + n) (sum-seats cs list (omega (arith, h))) ∙ sym (sum_by-cons (λ x. x) a list)

  sum-votes : (cs : List CodeParty) (list : List ℕ) → length list ≡ length cs → sum_by (λ (e : Entry). e.votes) (entries cs list) ≡ sum (map (λ c. c.votes) cs)
  sum-votes [] list h = refl
  sum-votes (c ∷ cs) [] h = impossible (omega (arith, h))
  sum-votes (c ∷ cs) (a ∷ list) h =
      let e : Entry = record { votes = c.votes; sure = c.seats; tied = c.is_tied; seats = a } in
      sum_by-cons (λ (d : Entry). d.votes) e (entries cs list) ∙ ap (λ n. c.votes + n) (sum-votes cs list (omega (arith, h)))
      ∙ sym (sum_by-cons (λ x. x) c.votes (map (λ (d : CodeParty). d.votes) cs))

  all-stand : (cs : List CodeParty) (list : List ℕ) (e : Entry) → AllByRecursion (λ (c : CodeParty). Stands claims most low c.votes c.seats c.is_tied) cs → Has (entries cs list) e
      → Stands claims most low e.votes e.sure e.tied
  all-stand [] list e stand here = elim here [ ]
  all-stand (c ∷ cs) [] e stand here = elim here [ ]
  all-stand (c ∷ cs) (a ∷ list) e stand (inl is) = subst (λ (d : Entry). Stands claims most low d.votes d.sure d.tied) is stand.0
  all-stand (c ∷ cs) (a ∷ list) e stand (inr later) = all-stand cs list e stand.1 later

  -- a list that fits gives nothing to a party without votes
  fits-earned : (cs : List CodeParty) (list : List ℕ) → AllByRecursion (λ (c : CodeParty). Stands claims most low c.votes c.seats c.is_tied) cs → fits (standings cs) list ≡ true
      → list_all (λ e. has_votes_for_seats (party e)) (entries cs list) ≡ true
  fits-earned [] list stand h = refl
  fits-earned (c ∷ cs) [] stand h = refl
  fits-earned (c ∷ cs) (a ∷ list) stand h =
      let here = and-left (fits_one (standing c) a) (fits (standings cs) list) h in
      let later = and-right (fits_one (standing c) a) (fits (standings cs) list) h in
      both _ _ (elim (none_or_some c.votes) [
        | inr some ↦ rw (some_is c.votes some) refl
        | inl none ↦
            let bare = stand.0.none none in
            let fitting = rw (bare.0, bare.1) at here in
            let nothing : a ≡ 0 = grind arith in
            rw (zero_is a nothing) (or-true (not (c.votes == 0)))
      ]) (fits-earned cs list stand.1 later)

-- ---- the method, by claims
abbrev keeps_seat : (ℕ → ℕ → Quotient) → Party → Party → Bool
keeps_seat claims x y = x.0 == 0 || (y.0 == 0 || (x.1 == 0 || is_at_least (claims x.0 (x.1 - 1)) (claims y.0 y.1)))

or-left : (a b c d : Bool) → (a || b || c || d) ≡ (a || (b || (c || d)))
or-left true b c d = refl
or-left false true c d = refl
or-left false false true d = refl
or-left false false false d = refl

kept-seats : (claims : ℕ → ℕ → Quotient) (ps : List Party)
    → list_all (λ x. list_all (λ y. x.0 == 0 || y.0 == 0 || x.1 == 0 || is_at_least (claims x.0 (x.1 - 1)) (claims y.0 y.1)) ps) ps ≡ list_all (λ x. list_all (keeps_seat claims x) ps) ps
kept-seats claims ps =
    same-all (λ x. list_all (λ y. x.0 == 0 || y.0 == 0 || x.1 == 0 || is_at_least (claims x.0 (x.1 - 1)) (claims y.0 y.1)) ps) (λ x. list_all (keeps_seat claims x) ps) ps
    (λ x. same-all (λ y. x.0 == 0 || y.0 == 0 || x.1 == 0 || is_at_least (claims x.0 (x.1 - 1)) (claims y.0 y.1)) (keeps_seat claims x) ps
    (λ y. or-left (x.0 == 0) (y.0 == 0) (x.1 == 0) (is_at_least (claims x.0 (x.1 - 1)) (claims y.0 y.1))))

right-by_claims : (method : Method) (total most : ℕ) (ps : List Party) → 0 < total → ((p : Party) → Has ps p → p.1 ≤ most) → ((p : Party) → Has ps p → p.0 ≡ 0 → p.1 ≡ 0)
    → sum_by (λ (p : Party). p.0) ps ≡ total → sum_by (λ (p : Party). p.1) ps ≡ most
    → is_right method total most ps ≡ list_all (λ x. list_all (keeps_seat (claim method total most) x) ps) ps
right-by_claims Hamilton total most ps some few earned votes seats = hamilton-is_kept total most some ps few earned votes seats
right-by_claims Dhondt total most ps some few earned votes seats = kept-seats (quotient Dhondt) ps
right-by_claims SainteLague total most ps some few earned votes seats = kept-seats (quotient SainteLague) ps
right-by_claims Huntington total most ps some few earned votes seats = kept-seats (quotient Huntington) ps
right-by_claims Adams total most ps some few earned votes seats = kept-seats (quotient Adams) ps
right-by_claims Dean total most ps some few earned votes seats = kept-seats (quotient Dean) ps

sum-of_map : {X Y : Type 0} (f : Y → ℕ) (g : X → Y) (xs : List X) → sum_by f (map g xs) ≡ sum_by (λ x. f (g x)) xs
sum-of_map f g [] = refl
sum-of_map f g (x ∷ xs) = sum_by-cons f (g x) (map g xs) ∙ ap (λ n. f (g x) + n) (sum-of_map f g xs) ∙ sym (sum_by-cons (λ y. f (g y)) x xs)

earned-votes : (p : Party) → has_votes_for_seats p ≡ true → p.0 ≡ 0 → p.1 ≡ 0
earned-votes p h none =
    let test : (p.1 == 0) ≡ true = rw (zero_is p.0 none) at h in
    grind arith

same-and : (a b c d : Bool) → a ≡ true → (b ≡ true → c ≡ d) → (d ≡ true → b ≡ true) → (a && b && c) ≡ d
same-and a true c d ha hc hd = rw ha (hc refl)
same-and a false c true ha hc hd = absurd (hd refl)
same-and a false c false ha hc hd = rw ha refl

both-equal : (a b c d : ℕ) → a ≡ b → c ≡ d → (a == b && c == d) ≡ true
both-equal a b c d h k = grind arith

module _ (method : Method) (cs : List CodeParty) (most : ℕ) (low : Quotient) (some : 0 < sum (map (λ (c : CodeParty). c.votes) cs))
    (stand : AllByRecursion (λ (c : CodeParty). Stands (claim method (sum (map (λ (d : CodeParty). d.votes) cs)) most) most low c.votes c.seats c.is_tied) cs) where
  abbrev pub votes : List ℕ
  votes = map (λ (c : CodeParty). c.votes) cs

  abbrev pub claims : ℕ → ℕ → Quotient
  claims = claim method (sum votes) most

  falls : (v s : ℕ) → 0 < v → s < most → is_at_least (claims v (s + 1)) (claims v s) ≡ false
  falls = claims-fall method (sum votes) most some

  module _ (list : List ℕ) (long : length list ≡ length cs) (all : sum list ≡ most) (low_sum : sure_seats (standings cs) ≤ most) (high_sum : most ≤ sure_seats (standings cs) + tied_count cs) where
    abbrev es : List Entry
    es = entries cs list

    right-fits : list_all (λ e. has_votes_for_seats (party e)) es ≡ true → is_right method (sum votes) most (zip votes list) ≡ fits (standings cs) list
    right-fits tested =
        let seats : sum_by (λ (e : Entry). e.seats) es ≡ most = sum-seats claims most falls low cs list long ∙ all in
        let parties : zip votes list ≡ map party es = zip-entries cs list in
        let earned : (e : Entry) → Has es e → e.votes ≡ 0 → e.seats ≡ 0 = λ e here. earned-votes (party e) (all-member (λ d. has_votes_for_seats (party d)) es e tested here) in
        let few : (e : Entry) → Has es e → e.seats ≤ most = λ e here. omega (arith, member-le (λ (d : Entry). d.seats) es e here, seats) in
        let sound : (e : Entry) → Has es e → IsSound claims most falls low e = λ e here. record { stands = all-stand claims most falls low cs list e stand here; few = few e here; earned = earned e here } in
        let few_parties : (p : Party) → Has (map party es) p → p.1 ≤ most = λ p here. let found = from-map party es p here in subst (λ (q : Party). q.1 ≤ most) found.2 (few found.0 found.1) in
        let earned_parties : (p : Party) → Has (map party es) p → p.0 ≡ 0 → p.1 ≡ 0 = λ p here. let found = from-map party es p here in subst (λ (q : Party). q.0 ≡ 0 → q.1 ≡ 0) found.2 (earned found.0 found.1) in
        ap (is_right method (sum votes) most) parties
        ∙ right-by_claims method (sum votes) most (map party es) some few_parties earned_parties
        (sum-of_map (λ (p : Party). p.0) party es ∙ sum-votes claims most falls low cs list long)
        (sum-of_map (λ (p : Party). p.1) party es ∙ seats)
        ∙ list_all-map (λ x. list_all (keeps_seat claims x) (map party es)) party es
        ∙ same-all (λ e. list_all (keeps_seat claims (party e)) (map party es)) (λ e. list_all (keeps claims most falls low e) es) es (λ e. list_all-map (keeps_seat claims (party e)) party es)
        ∙ kept-is_within claims most falls low es sound
        (omega (arith, sum-sure claims most falls low cs list long, seats, low_sum))
        (omega (arith, sum-may claims most falls low cs list long, seats, high_sum))
        ∙ within-fits claims most falls low cs list long

    fair-fits : is_fair method votes most list ≡ fits (standings cs) list
    fair-fits =
        let tested = list_all has_votes_for_seats (zip votes list) in
        let by_entries : tested ≡ list_all (λ e. has_votes_for_seats (party e)) es = ap (list_all has_votes_for_seats) (zip-entries cs list) ∙ list_all-map has_votes_for_seats party es in
        let counts : (length list == length votes && sum list == most) ≡ true = both-equal (length list) (length votes) (sum list) most (long ∙ sym (length-map cs (λ (c : CodeParty). c.votes))) all in
        same-and (length list == length votes && sum list == most) tested (is_right method (sum votes) most (zip votes list)) (fits (standings cs) list) counts
        (λ h. right-fits (sym by_entries ∙ h))
        (λ h. by_entries ∙ fits-earned claims most falls low cs list stand h)

  -- ---- the theorem
  pub fair-choices : (more : ℕ) → sure_seats (standings cs) + more ≡ most → more ≤ tied_count cs → allocations method votes most ≡ choices (standings cs) more
  fair-choices more given enough =
      let count : length votes ≡ length (standings cs) = length-map cs (λ (c : CodeParty). c.votes) ∙ sym (length-map cs standing) in
      same-filter (is_fair method votes most) (fits (standings cs)) (lists_with_sum (length votes) most) (λ list here.
      let shape = of-sum (length votes) most list here in
      fair-fits list (shape.0 ∙ length-map cs (λ (c : CodeParty). c.votes)) shape.1 (omega (arith, given)) (omega (arith, given, enough)))
      ∙ ap (λ n. filter (fits (standings cs)) (lists_with_sum n most)) count
      ∙ ap (λ n. filter (fits (standings cs)) (lists_with_sum (length (standings cs)) n)) (sym given)
      ∙ chosen (standings cs) more
