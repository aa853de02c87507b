-- The choices that are later than a start.
use Rattle.std.proofs.Common.{◌≡◌, ℕ, zero, suc, ◌+◌, ◌-◌, ◌<◌, ◌≤◌, ◌==◌, Bool, true, false, cond, List, [], ◌∷◌, ◌++◌, Some, refl, sym, ap, ap₂, ◌∙◌, arith, map, length, count_by}
use Rattle.std.specs.List.{AllByRecursion}
use Rattle.std.specs.Ordering.{nat_cmp}
use Rattle.std.specs.declared.cmp.Ordering.TheVariants.{Less, Equal, Greater}
use Rattle.std.proofs.lemmas.Bool.{eq-eqb, ne_eqb, lt-ltb, le-ltb}
use Rattle.std.proofs.lemmas.List.Elements.{filter-append}
use Rattle.std.proofs.lemmas.List.Sums.{sum_by-cons}
use Rattle.std.proofs.lemmas.List.{length-map}
use Rattle.seat_share.specs.declared.party.Party.{Party}
use Rattle.seat_share.specs.Allocations.{is_later, later_than}
use Rattle.seat_share.specs.Steps.Choices.{Standing, choices}
use Rattle.seat_share.specs.Steps.Standings.{standing, standings, tied_count, more_count, choices_less, choices_from, allocations_left}
use Rattle.seat_share.proofs.ChoiceSteps.{choices-tied, choices-free, too-many, tied-standings, from-more, from-tied, from-free}
use Rattle.seat_share.proofs.Members.{and-false}
use Rattle.seat_share.proofs.Threshold.{impossible}

-- ---- the order
cmp-above : (n a : ℕ) → a < n → nat_cmp n a ≡ Greater
cmp-above n a more = rw (le-ltb n a (omega arith), ne_eqb n a (λ e. omega arith))

pub cmp-same : (a : ℕ) → nat_cmp a a ≡ Equal
cmp-same a = rw (le-ltb a a (omega arith), eq-eqb a a refl)

cmp-below : (n a : ℕ) → n < a → nat_cmp n a ≡ Less
cmp-below n a less = rw (lt-ltb n a less)

pub later-above : (n a : ℕ) (xs ys : List ℕ) → a < n → length xs ≡ length ys → is_later (n ∷ xs) (a ∷ ys) ≡ true
later-above n a xs ys more long =
    let count : suc (length xs) ≡ suc (length ys) = ap suc long in
    rw (cmp-above n a more, eq-eqb (suc (length xs)) (suc (length ys)) count) refl

suc-eq : (a b : ℕ) → (suc a == suc b) ≡ (a == b)
suc-eq a b = grind arith

pub later-same : (a : ℕ) (xs ys : List ℕ) → is_later (a ∷ xs) (a ∷ ys) ≡ is_later xs ys
later-same a xs ys = rw (cmp-same a, suc-eq (length xs) (length ys)) refl

later-below : (n a : ℕ) (xs ys : List ℕ) → n < a → is_later (n ∷ xs) (a ∷ ys) ≡ false
later-below n a xs ys less = rw (cmp-below n a less) (and-false (suc (length xs) == suc (length ys)))

-- ---- lists of one length
abbrev Have : ℕ → List (List ℕ) → Type 0
Have count = AllByRecursion (λ (x : List ℕ). length x ≡ count)

have-append : (count : ℕ) (xs ys : List (List ℕ)) → Have count xs → Have count ys → Have count (xs ++ ys)
have-append count [] ys h k = k
have-append count (x ∷ xs) ys h k = (h.0, have-append count xs ys h.1 k)

have-map : (count n : ℕ) (xs : List (List ℕ)) → Have count xs → Have (suc count) (map (λ x. n ∷ x) xs)
have-map count n [] h = tt
have-map count n (x ∷ xs) h = (ap suc h.0, have-map count n xs h.1)

choices-have : (ss : List Standing) (more : ℕ) → Have (length ss) (choices ss more)
unfolding choices
choices-have [] zero = (refl, tt)
choices-have [] (suc more) = tt
choices-have ((sure, false) ∷ rest) more = have-map (length rest) sure (choices rest more) (choices-have rest more)
choices-have ((sure, true) ∷ rest) zero = have-map (length rest) sure (choices rest zero) (choices-have rest zero)
choices-have ((sure, true) ∷ rest) (suc more) =
    have-append (suc (length rest)) (map (λ seats. sure ∷ seats) (choices rest (suc more))) (map (λ seats. (sure + 1) ∷ seats) (choices rest more))
    (have-map (length rest) sure (choices rest (suc more)) (choices-have rest (suc more)))
    (have-map (length rest) (sure + 1) (choices rest more) (choices-have rest more))

less-have : (ss : List Standing) (more : ℕ) → Have (length ss) (choices_less ss more)
less-have ss zero = tt
less-have ss (suc more) = choices-have ss more

-- ---- lists that begin with one number
map-above : (n a : ℕ) (ys : List ℕ) (xs : List (List ℕ)) → a < n → Have (length ys) xs → later_than (Some (a ∷ ys)) (map (λ x. n ∷ x) xs) ≡ map (λ x. n ∷ x) xs
map-above n a ys [] more have = refl
map-above n a ys (x ∷ xs) more have = rw (later-above n a x ys more have.0) (ap (λ l. (n ∷ x) ∷ l) (map-above n a ys xs more have.1))

map-same : (a : ℕ) (ys : List ℕ) (xs : List (List ℕ)) → later_than (Some (a ∷ ys)) (map (λ x. a ∷ x) xs) ≡ map (λ x. a ∷ x) (later_than (Some ys) xs)
map-same a ys [] = refl
map-same a ys (x ∷ xs) =
    let rest = map-same a ys xs in
    rw (later-same a x ys) (elim (is_later x ys) as (λ b. cond b ((a ∷ x) ∷ later_than (Some (a ∷ ys)) (map (λ z. a ∷ z) xs)) (later_than (Some (a ∷ ys)) (map (λ z. a ∷ z) xs))
    ≡ map (λ z. a ∷ z) (cond b (x ∷ later_than (Some ys) xs) (later_than (Some ys) xs))) [
      | true ↦ ap (λ l. (a ∷ x) ∷ l) rest
      | false ↦ rest
    ])

map-below : (n a : ℕ) (ys : List ℕ) (xs : List (List ℕ)) → n < a → later_than (Some (a ∷ ys)) (map (λ x. n ∷ x) xs) ≡ []
map-below n a ys [] less = refl
map-below n a ys (x ∷ xs) less = rw (later-below n a x ys less) (map-below n a ys xs less)

-- ---- the choices of a party and others
later-append : (start : List ℕ) (xs ys : List (List ℕ)) → later_than (Some start) (xs ++ ys) ≡ later_than (Some start) xs ++ later_than (Some start) ys
later-append start xs ys = filter-append (λ x. is_later x start) xs ys

later-tied : (sure : ℕ) (ss : List Standing) (more : ℕ) (start : List ℕ) → later_than (Some start) (choices ((sure, true) ∷ ss) more)
    ≡ later_than (Some start) (map (λ x. sure ∷ x) (choices ss more)) ++ later_than (Some start) (map (λ x. (sure + 1) ∷ x) (choices_less ss more))
later-tied sure ss more start =
    ap (later_than (Some start)) (choices-tied sure ss more)
    ∙ later-append start (map (λ x. sure ∷ x) (choices ss more)) (map (λ x. (sure + 1) ∷ x) (choices_less ss more))

-- the party's certain seats are more than those of the start
all-later : (s : Standing) (ss : List Standing) (more a : ℕ) (ys : List ℕ) → a < s.0 → length ss ≡ length ys → later_than (Some (a ∷ ys)) (choices (s ∷ ss) more) ≡ choices (s ∷ ss) more
all-later (sure, false) ss more a ys less long =
    let have = rw long at (choices-have ss more) in
    ap (later_than (Some (a ∷ ys))) (choices-free sure ss more) ∙ map-above sure a ys (choices ss more) less have ∙ sym (choices-free sure ss more)
all-later (sure, true) ss more a ys less long =
    let have = rw long at (choices-have ss more) in
    let have_less = rw long at (less-have ss more) in
    later-tied sure ss more (a ∷ ys)
    ∙ ap₂ (λ x y. x ++ y) (map-above sure a ys (choices ss more) less have) (map-above (sure + 1) a ys (choices_less ss more) (omega arith) have_less)
    ∙ sym (choices-tied sure ss more)

-- they are fewer, and so they are with one more
none-later : (s : Standing) (ss : List Standing) (more a : ℕ) (ys : List ℕ) → s.0 < a → (s.1 ≡ true → 0 < more → s.0 + 1 < a) → later_than (Some (a ∷ ys)) (choices (s ∷ ss) more) ≡ []
none-later (sure, false) ss more a ys less stuck = ap (later_than (Some (a ∷ ys))) (choices-free sure ss more) ∙ map-below sure a ys (choices ss more) less
none-later (sure, true) ss zero a ys less stuck = later-tied sure ss zero (a ∷ ys) ∙ ap (λ l. l ++ []) (map-below sure a ys (choices ss zero) less)
none-later (sure, true) ss (suc more) a ys less stuck =
    later-tied sure ss (suc more) (a ∷ ys)
    ∙ ap₂ (λ x y. x ++ y) (map-below sure a ys (choices ss (suc more)) less) (map-below (sure + 1) a ys (choices ss more) (stuck refl (omega arith)))

-- they are as many with one more
one-later : (sure : ℕ) (ss : List Standing) (more : ℕ) (ys : List ℕ) → later_than (Some ((sure + 1) ∷ ys)) (choices ((sure, true) ∷ ss) (suc more)) ≡ map (λ x. (sure + 1) ∷ x) (later_than (Some ys) (choices ss more))
one-later sure ss more ys =
    later-tied sure ss (suc more) ((sure + 1) ∷ ys)
    ∙ ap₂ (λ x y. x ++ y) (map-below sure (sure + 1) ys (choices ss (suc more)) (omega arith)) (map-same (sure + 1) ys (choices ss more))

-- they are as many
same-tied : (sure : ℕ) (ss : List Standing) (more : ℕ) (ys : List ℕ) → length ss ≡ length ys
    → later_than (Some (sure ∷ ys)) (choices ((sure, true) ∷ ss) more) ≡ map (λ x. sure ∷ x) (later_than (Some ys) (choices ss more)) ++ map (λ x. (sure + 1) ∷ x) (choices_less ss more)
same-tied sure ss more ys long =
    let have = rw long at (less-have ss more) in
    later-tied sure ss more (sure ∷ ys)
    ∙ ap₂ (λ x y. x ++ y) (map-same sure ys (choices ss more)) (map-above (sure + 1) sure ys (choices_less ss more) (omega arith) have)

same-free : (sure : ℕ) (ss : List Standing) (more : ℕ) (ys : List ℕ) → later_than (Some (sure ∷ ys)) (choices ((sure, false) ∷ ss) more) ≡ map (λ x. sure ∷ x) (later_than (Some ys) (choices ss more))
same-free sure ss more ys = ap (later_than (Some (sure ∷ ys))) (choices-free sure ss more) ∙ map-same sure ys (choices ss more)

-- ---- the steps of the code
pub none-of_empty : (parties : List Party) (start : List ℕ) (more : ℕ) → length start ≡ 0 → length start ≡ length parties → [] ≡ later_than (Some start) (choices (standings parties) more)
unfolding choices
none-of_empty [] [] zero h k = refl
none-of_empty [] [] (suc more) h k = refl
none-of_empty parties (a ∷ ys) more h k = impossible (omega (arith, h))
none-of_empty (c ∷ cs) [] more h k = impossible (omega (arith, k))

pub none-of_few : (parties : List Party) (start : List ℕ) (tied more : ℕ) → tied ≡ tied_count parties → tied < more → [] ≡ later_than (Some start) (choices (standings parties) more)
none-of_few parties start tied more is less =
    sym (ap (later_than (Some start)) (too-many (standings parties) more (omega (arith, is, less, tied-standings parties))))

-- as many are tied where the standings are the same
same-ties : (old new : List Party) → standings new ≡ standings old → tied_count new ≡ tied_count old
same-ties old new same = sym (tied-standings new) ∙ ap (λ ss. count_by (λ (s : Standing). s.1) ss) same ∙ tied-standings old

module _ (f : Party) (r parties : List Party) (a : ℕ) (ys start : List ℕ) (split : parties ≡ f ∷ r) (begins : start ≡ a ∷ ys) (long : length start ≡ length parties) where
  others-long : length (standings r) ≡ length ys
  others-long = length-map r standing ∙ (omega (arith, ap length split, ap length begins, long))

  whole : (more : ℕ) → later_than (Some start) (choices (standings parties) more) ≡ later_than (Some (a ∷ ys)) (choices (standing f ∷ standings r) more)
  whole more = ap₂ (λ s ps. later_than (Some s) (choices (standings ps) more)) begins split

  others-tied : f.is_tied ≡ true → tied_count parties ≡ tied_count r + 1
  others-tied tie = ap tied_count split ∙ sum_by-cons (λ (d : Party). cond d.is_tied 1 0) f r ∙ (rw tie (omega arith))

  -- the first party has more than in the start
  pub placed-above : (new : List Party) (tied more left : ℕ) → a < f.seats → tied ≡ tied_count parties → more ≤ tied → left ≡ more - tied_count (f ∷ r)
      → choices_from new ≡ choices (standings (f ∷ r)) (more - left) → choices_from new ≡ later_than (Some start) (choices (standings parties) more)
  placed-above new tied more left less is enough rest first =
      let all : more - left ≡ more = omega (arith, is, enough, rest, ap tied_count split) in
      first ∙ ap (choices (standings (f ∷ r))) all ∙ sym (whole more ∙ all-later (standing f) (standings r) more a ys less others-long)

  -- it has less, with one more too
  pub none-above : (more : ℕ) → f.seats < a → (f.is_tied ≡ true → 0 < more → f.seats + 1 < a) → [] ≡ later_than (Some start) (choices (standings parties) more)
  none-above more less stuck = sym (whole more ∙ none-later (standing f) (standings r) more a ys less stuck)

  -- it has less, and as much with one more
  pub placed-with_more : (c : Party) (new : List Party) (more : ℕ) (found : Bool) → c.seats ≡ f.seats → c.has_more ≡ true → f.is_tied ≡ true → f.seats < a → a - f.seats ≤ 1 → 0 < more
      → allocations_left found new ≡ later_than (Some ys) (choices (standings r) (more - 1))
      → allocations_left found (c ∷ new) ≡ later_than (Some start) (choices (standings parties) more)
  placed-with_more c new more found same h tie less near some rest = front found rest ∙ sym back
    where
      front : (b : Bool) → allocations_left b new ≡ later_than (Some ys) (choices (standings r) (more - 1))
          → allocations_left b (c ∷ new) ≡ map (λ x. (f.seats + 1) ∷ x) (later_than (Some ys) (choices (standings r) (more - 1)))
      front true is = from-more c new h ∙ ap₂ (λ n l. map (λ x. (n + 1) ∷ x) l) same is
      front false is = ap (map (λ x. (f.seats + 1) ∷ x)) is

      back : later_than (Some start) (choices (standings parties) more) ≡ map (λ x. (f.seats + 1) ∷ x) (later_than (Some ys) (choices (standings r) (more - 1)))
      back =
          let is : a ≡ f.seats + 1 = omega (arith, less, near) in
          let next : more ≡ suc (more - 1) = omega (arith, some) in
          whole more ∙ ap (λ n. later_than (Some (n ∷ ys)) (choices (standing f ∷ standings r) more)) is
          ∙ ap₂ (λ b n. later_than (Some ((f.seats + 1) ∷ ys)) (choices ((f.seats, b) ∷ standings r) n)) tie next
          ∙ one-later f.seats (standings r) (more - 1) ys

  -- it has as much
  same-whole : (more : ℕ) (tied : Bool) → a ≡ f.seats → f.is_tied ≡ tied
      → later_than (Some start) (choices (standings parties) more) ≡ later_than (Some (f.seats ∷ ys)) (choices ((f.seats, tied) ∷ standings r) more)
  same-whole more tied is tie = whole more ∙ ap₂ (λ n b. later_than (Some (n ∷ ys)) (choices ((f.seats, b) ∷ standings r) more)) is tie

  pub placed-same : (c : Party) (new : List Party) (more : ℕ) → c.seats ≡ f.seats → c.is_tied ≡ f.is_tied → c.has_more ≡ false → a ≡ f.seats → standings new ≡ standings r → more_count new ≡ more
      → choices_from new ≡ later_than (Some ys) (choices (standings r) more) → choices_from (c ∷ new) ≡ later_than (Some start) (choices (standings parties) more)
  placed-same c new more same ties h is stand count rest = go f.is_tied refl
    where
      go : (tied : Bool) → f.is_tied ≡ tied → choices_from (c ∷ new) ≡ later_than (Some start) (choices (standings parties) more)
      go true tie =
          from-tied c new h (ties ∙ tie)
          ∙ ap₂ (λ x y. x ++ y) (ap₂ (λ n l. map (λ x. n ∷ x) l) same rest) (ap₂ (λ n l. map (λ x. (n + 1) ∷ x) l) same (ap₂ choices_less stand count))
          ∙ sym (same-whole more true is tie ∙ same-tied f.seats (standings r) more ys others-long)
      go false tie =
          from-free c new h (ties ∙ tie) ∙ ap₂ (λ n l. map (λ x. n ∷ x) l) same rest
          ∙ sym (same-whole more false is tie ∙ same-free f.seats (standings r) more ys)

  -- it has as much, and no choice of the others is left for it
  pub none-same : (more : ℕ) → a ≡ f.seats → (f.is_tied ≡ true → more ≡ 0) → [] ≡ later_than (Some ys) (choices (standings r) more) → [] ≡ later_than (Some start) (choices (standings parties) more)
  none-same more is stuck rest = go f.is_tied refl
    where
      go : (tied : Bool) → f.is_tied ≡ tied → [] ≡ later_than (Some start) (choices (standings parties) more)
      go true tie =
          sym (same-whole more true is tie ∙ same-tied f.seats (standings r) more ys others-long
          ∙ ap₂ (λ x y. map (λ l. f.seats ∷ l) x ++ map (λ l. (f.seats + 1) ∷ l) y) (sym rest) (ap (choices_less (standings r)) (stuck tie)))
      go false tie = sym (same-whole more false is tie ∙ same-free f.seats (standings r) more ys ∙ ap (map (λ l. f.seats ∷ l)) (sym rest))

  pub placed-raised : (c : Party) (between new : List Party) (tied more left : ℕ) → c.seats ≡ f.seats → c.has_more ≡ true → f.is_tied ≡ true → a ≡ f.seats → 0 < more → more ≤ tied → tied ≡ tied_count parties
      → standings between ≡ standings r → left ≡ (more - 1) - tied_count between → choices_from new ≡ choices (standings between) (more - 1 - left)
      → [] ≡ later_than (Some ys) (choices (standings r) more) → choices_from (c ∷ new) ≡ later_than (Some start) (choices (standings parties) more)
  placed-raised c between new tied more left same h tie is some enough ties stand rest first none =
      let all : more - 1 - left ≡ more - 1 = omega (arith, rest, enough, ties, others-tied tie, same-ties r between stand) in
      let next : more ≡ suc (more - 1) = omega (arith, some) in
      from-more c new h ∙ ap₂ (λ n l. map (λ x. (n + 1) ∷ x) l) same (first ∙ ap₂ choices stand all)
      ∙ sym (same-whole more true is tie ∙ same-tied f.seats (standings r) more ys others-long
      ∙ ap₂ (λ x y. map (λ l. f.seats ∷ l) x ++ map (λ l. (f.seats + 1) ∷ l) y) (sym none) (ap (choices_less (standings r)) next))

  -- with one more, so many have more
  pub count-raised : (between new : List Party) (tied more left : ℕ) → f.is_tied ≡ true → 0 < more → more ≤ tied → tied ≡ tied_count parties
      → standings between ≡ standings r → left ≡ (more - 1) - tied_count between → more_count new + left ≡ more - 1 → 1 + more_count new ≡ more
  count-raised between new tied more left tie some enough ties stand rest placed = omega (arith, some, rest, enough, ties, placed, others-tied tie, same-ties r between stand)
