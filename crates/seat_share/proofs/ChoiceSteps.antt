-- The first of the choices, and the one after another.
use Rattle.std.proofs.Common.{◌≡◌, ℕ, zero, suc, ◌+◌, ◌-◌, ◌<◌, ◌≤◌, Bool, true, false, cond, List, [], ◌∷◌, ◌++◌, refl, sym, ap, ap₂, ◌∙◌, arith, map, append-nil, count_by, length}
use Rattle.std.proofs.lemmas.List.Sums.{sum_by-cons}
use Rattle.seat_share.specs.declared.party.Party.{Party}
use Rattle.seat_share.specs.Steps.Choices.{Standing, choices}
use Rattle.seat_share.specs.Steps.Standings.{standing, standings, tied_count, more_count, allocation, choices_less, choices_from, MoreAreTied}
use Rattle.seat_share.proofs.Threshold.{impossible}

-- more seats than tied parties
pub too-many : (ss : List Standing) (more : ℕ) → count_by (λ (s : Standing). s.1) ss < more → choices ss more ≡ []
unfolding choices
too-many [] zero less = impossible (omega (arith, less))
too-many [] (suc more) less = refl
too-many ((sure, false) ∷ rest) more less =
    ap (map (λ seats. sure ∷ seats)) (too-many rest more (omega (arith, less, sum_by-cons (λ (s : Standing). cond s.1 1 0) (sure, false) rest)))
too-many ((sure, true) ∷ rest) zero less = impossible (omega (arith, less))
too-many ((sure, true) ∷ rest) (suc more) less =
    let count = sum_by-cons (λ (s : Standing). cond s.1 1 0) (sure, true) rest in
    ap₂ (λ x y. map (λ seats. sure ∷ seats) x ++ map (λ seats. (sure + 1) ∷ seats) y)
    (too-many rest (suc more) (omega (arith, less, count))) (too-many rest more (omega (arith, less, count)))

pub tied-standings : (cs : List Party) → count_by (λ (s : Standing). s.1) (standings cs) ≡ tied_count cs
tied-standings [] = refl
tied-standings (c ∷ cs) =
    sum_by-cons (λ (s : Standing). cond s.1 1 0) (standing c) (standings cs) ∙ ap (λ n. cond c.is_tied 1 0 + n) (tied-standings cs)
    ∙ sym (sum_by-cons (λ (d : Party). cond d.is_tied 1 0) c cs)

-- the choices of a tied party and others
pub choices-tied : (sure : ℕ) (ss : List Standing) (more : ℕ) → choices ((sure, true) ∷ ss) more ≡ map (λ others. sure ∷ others) (choices ss more) ++ map (λ others. (sure + 1) ∷ others) (choices_less ss more)
unfolding choices
choices-tied sure ss zero = sym (append-nil (map (λ others. sure ∷ others) (choices ss zero)))
choices-tied sure ss (suc more) = refl

pub choices-free : (sure : ℕ) (ss : List Standing) (more : ℕ) → choices ((sure, false) ∷ ss) more ≡ map (λ others. sure ∷ others) (choices ss more)
unfolding choices
choices-free sure ss more = refl

-- a party that has one more
pub from-more : (c : Party) (cs : List Party) → c.has_more ≡ true → choices_from (c ∷ cs) ≡ map (λ others. (c.seats + 1) ∷ others) (choices_from cs)
unfolding choices_from
from-more c cs h = rw h refl

pub from-tied : (c : Party) (cs : List Party) → c.has_more ≡ false → c.is_tied ≡ true
    → choices_from (c ∷ cs) ≡ map (λ others. c.seats ∷ others) (choices_from cs) ++ map (λ others. (c.seats + 1) ∷ others) (choices_less (standings cs) (more_count cs))
unfolding choices_from
from-tied c cs h k = rw (h, k) refl

pub from-free : (c : Party) (cs : List Party) → c.has_more ≡ false → c.is_tied ≡ false → choices_from (c ∷ cs) ≡ map (λ others. c.seats ∷ others) (choices_from cs)
unfolding choices_from
from-free c cs h k = rw (h, k) (append-nil (map (λ others. c.seats ∷ others) (choices_from cs)))

pub from-none : choices_from [] ≡ [] ∷ []
unfolding choices_from
from-none = refl

pub first-of_none : (more : ℕ) → choices_from [] ≡ choices [] (more - more)
unfolding choices choices_from
first-of_none more = let none : more - more ≡ 0 = omega arith in rw none refl

-- ---- the first choice
first-with_more : (c : Party) (old new : List Party) (seats more left : ℕ) → c.seats ≡ seats → c.has_more ≡ true → 0 < left → left ≡ more - tied_count old
    → choices_from new ≡ choices (standings old) (more - left)
    → choices_from (c ∷ new) ≡ choices ((seats, true) ∷ standings old) (more - (left - 1))
first-with_more c old new seats more left same h some is rest =
    let next : more - (left - 1) ≡ suc (more - left) = omega (arith, some, is) in
    let count = tied-standings old in
    from-more c new h ∙ ap₂ (λ n l. map (λ others. (n + 1) ∷ others) l) same rest
    ∙ sym (ap (choices ((seats, true) ∷ standings old)) next ∙ choices-tied seats (standings old) (suc (more - left))
    ∙ ap (λ l. map (λ others. seats ∷ others) l ++ map (λ others. (seats + 1) ∷ others) (choices (standings old) (more - left)))
    (too-many (standings old) (suc (more - left)) (omega (arith, some, is, count))))

first-without : (c : Party) (old new : List Party) (seats more left : ℕ) (tied : Bool) → c.seats ≡ seats → c.is_tied ≡ tied → c.has_more ≡ false → (tied ≡ true → left ≡ 0)
    → standings new ≡ standings old → more_count new + left ≡ more → choices_from new ≡ choices (standings old) (more - left)
    → choices_from (c ∷ new) ≡ choices ((seats, tied) ∷ standings old) (more - left)
first-without c old new seats more left true same tie h none stand count rest =
    let nothing = none refl in
    let all : more_count new ≡ more - left = omega (arith, count, nothing) in
    from-tied c new h tie
    ∙ ap₂ (λ x y. x ++ y) (ap₂ (λ n l. map (λ others. n ∷ others) l) same rest) (ap₂ (λ n l. map (λ others. (n + 1) ∷ others) l) same (ap₂ choices_less stand all))
    ∙ sym (choices-tied seats (standings old) (more - left))
first-without c old new seats more left false same tie h none stand count rest =
    from-free c new h tie ∙ ap₂ (λ n l. map (λ others. n ∷ others) l) same rest ∙ sym (choices-free seats (standings old) (more - left))

pub placed-with_more : (c o : Party) (old new parties : List Party) (more left : ℕ) → parties ≡ o ∷ old → c.seats ≡ o.seats → o.is_tied ≡ true → c.has_more ≡ true → 0 < left
    → left ≡ more - tied_count old → choices_from new ≡ choices (standings old) (more - left)
    → choices_from (c ∷ new) ≡ choices (standings parties) (more - (left - 1))
placed-with_more c o old new parties more left split same tie h some is rest =
    first-with_more c old new o.seats more left same h some is rest
    ∙ ap (λ b. choices ((o.seats, b) ∷ standings old) (more - (left - 1))) (sym tie)
    ∙ ap (λ l. choices (standings l) (more - (left - 1))) (sym split)

pub placed-without : (c o : Party) (old new parties : List Party) (more left : ℕ) → parties ≡ o ∷ old → c.seats ≡ o.seats → c.is_tied ≡ o.is_tied → c.has_more ≡ false
    → (o.is_tied ≡ true → left ≡ 0) → standings new ≡ standings old → more_count new + left ≡ more → choices_from new ≡ choices (standings old) (more - left)
    → choices_from (c ∷ new) ≡ choices (standings parties) (more - left)
placed-without c o old new parties more left split same tie h none stand count rest =
    first-without c old new o.seats more left o.is_tied same tie h none stand count rest ∙ ap (λ l. choices (standings l) (more - left)) (sym split)

-- ---- the next choice
-- a step among the later parties
pub next-later : (c : Party) (old new : List Party) → standings new ≡ standings old → more_count new ≡ more_count old → choices_from old ≡ allocation old ∷ choices_from new
    → choices_from (c ∷ old) ≡ allocation (c ∷ old) ∷ choices_from (c ∷ new)
next-later c old new stand count next = go c.has_more c.is_tied refl refl
  where
    go : (b t : Bool) → c.has_more ≡ b → c.is_tied ≡ t → choices_from (c ∷ old) ≡ allocation (c ∷ old) ∷ choices_from (c ∷ new)
    go true t h k =
        let seats : c.seats + cond c.has_more 1 0 ≡ c.seats + 1 = rw h refl in
        from-more c old h ∙ ap (map (λ others. (c.seats + 1) ∷ others)) next ∙ ap₂ (λ n l. (n ∷ allocation old) ∷ l) (sym seats) (sym (from-more c new h))
    go false true h k =
        let seats : c.seats + cond c.has_more 1 0 ≡ c.seats = rw h (omega arith) in
        from-tied c old h k
        ∙ ap₂ (λ l r. map (λ others. c.seats ∷ others) l ++ map (λ others. (c.seats + 1) ∷ others) r) next (ap₂ choices_less (sym stand) (sym count))
        ∙ ap₂ (λ n l. (n ∷ allocation old) ∷ l) (sym seats) (sym (from-tied c new h k))
    go false false h k =
        let seats : c.seats + cond c.has_more 1 0 ≡ c.seats = rw h (omega arith) in
        from-free c old h k ∙ ap (map (λ others. c.seats ∷ others)) next ∙ ap₂ (λ n l. (n ∷ allocation old) ∷ l) (sym seats) (sym (from-free c new h k))

-- the party itself gets one more, and the later ones are placed anew
pub next-here : (c d : Party) (old new : List Party) (more : ℕ) → c.has_more ≡ false → c.is_tied ≡ true → d.has_more ≡ true → d.seats ≡ c.seats → more_count old ≡ suc more
    → choices_from old ≡ allocation old ∷ [] → choices_from new ≡ choices (standings old) more
    → choices_from (c ∷ old) ≡ allocation (c ∷ old) ∷ choices_from (d ∷ new)
next-here c d old new more h k dh same count last first =
    let seats : c.seats + cond c.has_more 1 0 ≡ c.seats = rw h (omega arith) in
    from-tied c old h k
    ∙ ap₂ (λ l r. map (λ others. c.seats ∷ others) l ++ map (λ others. (c.seats + 1) ∷ others) r) last (ap (choices_less (standings old)) count ∙ sym first)
    ∙ ap₂ (λ n l. (n ∷ allocation old) ∷ l) (sym seats) (ap (λ n. map (λ others. (n + 1) ∷ others) (choices_from new)) (sym same) ∙ sym (from-more d new dh))

-- no step is left
pub next-none : (c : Party) (old : List Party) → (c.has_more ≡ false → c.is_tied ≡ true → more_count old ≡ 0) → choices_from old ≡ allocation old ∷ []
    → choices_from (c ∷ old) ≡ allocation (c ∷ old) ∷ []
next-none c old stuck last = go c.has_more c.is_tied refl refl
  where
    go : (b t : Bool) → c.has_more ≡ b → c.is_tied ≡ t → choices_from (c ∷ old) ≡ allocation (c ∷ old) ∷ []
    go true t h k =
        let seats : c.seats + cond c.has_more 1 0 ≡ c.seats + 1 = rw h refl in
        from-more c old h ∙ ap (map (λ others. (c.seats + 1) ∷ others)) last ∙ ap (λ n. (n ∷ allocation old) ∷ []) (sym seats)
    go false true h k =
        let seats : c.seats + cond c.has_more 1 0 ≡ c.seats = rw h (omega arith) in
        from-tied c old h k
        ∙ ap₂ (λ l r. map (λ others. c.seats ∷ others) l ++ map (λ others. (c.seats + 1) ∷ others) r) last (ap (choices_less (standings old)) (stuck h k))
        ∙ ap (λ n. (n ∷ allocation old) ∷ []) (sym seats)
    go false false h k =
        let seats : c.seats + cond c.has_more 1 0 ≡ c.seats = rw h (omega arith) in
        from-free c old h k ∙ ap (map (λ others. c.seats ∷ others)) last ∙ ap (λ n. (n ∷ allocation old) ∷ []) (sym seats)

-- ---- the steps of the code
pub first-of_empty : (parties : List Party) (more : ℕ) → length parties ≡ 0 → choices_from parties ≡ choices (standings parties) (more - more)
first-of_empty [] more h = first-of_none more
first-of_empty (c ∷ cs) more h = impossible (omega (arith, h))

pub last-of_empty : (parties : List Party) → length parties ≡ 0 → choices_from parties ≡ allocation parties ∷ []
last-of_empty [] h = from-none
last-of_empty (c ∷ cs) h = impossible (omega (arith, h))

more-le-tied : (cs : List Party) → MoreAreTied cs → more_count cs ≤ tied_count cs
more-le-tied [] all = omega arith
more-le-tied (c ∷ cs) all =
    let here : cond c.has_more 1 0 ≤ cond c.is_tied 1 0 = one c.has_more c.is_tied all.0 in
    omega (arith, here, sum_by-cons (λ (d : Party). cond d.has_more 1 0) c cs, sum_by-cons (λ (d : Party). cond d.is_tied 1 0) c cs, more-le-tied cs all.1)
  where
    one : (b t : Bool) → (b ≡ true → t ≡ true) → cond b 1 0 ≤ cond t 1 0
    one true t h = rw (h refl) (omega arith)
    one false t h = omega arith

-- all of fewer find a tied party
pub none-left : (cs : List Party) (more left : ℕ) → MoreAreTied cs → more ≡ more_count cs → left ≡ (more - 1) - tied_count cs → left ≡ 0
none-left cs more left all is rest = omega (arith, is, rest, more-le-tied cs all)

pub counted : (c : Party) (old between new parties : List Party) (more left : ℕ) → parties ≡ c ∷ old → c.has_more ≡ false → more ≡ more_count between → more_count between ≡ more_count old
    → 0 < more → left ≡ 0 → more_count new + left ≡ more - 1 → 1 + more_count new ≡ more_count parties
counted c old between new parties more left split h is same some none placed =
    let whole : more_count (c ∷ old) ≡ more_count old = sum_by-cons (λ (d : Party). cond d.has_more 1 0) c old ∙ (rw h (omega arith)) in
    omega (arith, is, same, some, none, placed, whole, ap more_count split)

pub moved : (c d : Party) (old between new parties : List Party) (more left : ℕ) → parties ≡ c ∷ old → c.has_more ≡ false → c.is_tied ≡ true → d.has_more ≡ true → d.seats ≡ c.seats
    → standings between ≡ standings old → more ≡ more_count between → more_count between ≡ more_count old → 0 < more → left ≡ 0
    → choices_from old ≡ allocation old ∷ [] → choices_from new ≡ choices (standings between) (more - 1 - left)
    → choices_from parties ≡ allocation parties ∷ choices_from (d ∷ new)
moved c d old between new parties more left split h k dh seats stand is same some none last first =
    let count : more_count old ≡ suc (more - 1) = omega (arith, is, same, some) in
    let all : more - 1 - left ≡ more - 1 = omega (arith, none) in
    ap choices_from split
    ∙ next-here c d old new (more - 1) h k dh seats count last (first ∙ ap₂ choices stand all)
    ∙ ap (λ l. allocation l ∷ choices_from (d ∷ new)) (sym split)

pub stepped : (c : Party) (old new parties : List Party) → parties ≡ c ∷ old → standings new ≡ standings old → more_count new ≡ more_count old
    → choices_from old ≡ allocation old ∷ choices_from new → choices_from parties ≡ allocation parties ∷ choices_from (c ∷ new)
stepped c old new parties split stand count next =
    ap choices_from split ∙ next-later c old new stand count next ∙ ap (λ l. allocation l ∷ choices_from (c ∷ new)) (sym split)

pub stopped : (c : Party) (old parties : List Party) → parties ≡ c ∷ old → (c.has_more ≡ false → c.is_tied ≡ true → more_count old ≡ 0) → choices_from old ≡ allocation old ∷ []
    → choices_from parties ≡ allocation parties ∷ []
stopped c old parties split stuck last = ap choices_from split ∙ next-none c old stuck last ∙ ap (λ l. allocation l ∷ []) (sym split)
