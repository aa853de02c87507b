-- Tests of all or some items of a list.
use Rattle.std.proofs.Common.{◌≡◌, ℕ, ◌&&◌, ◌||◌, Bool, true, false, cond, List, [], ◌∷◌, Some, refl, sym, ap, ◌∙◌, map, filter, take, zero, suc, Option, None, not}
use Rattle.std.specs.Prelude.{find, flat_map, is_some, Contains, IsTrue}
use Rattle.std.specs.List.{list_all, list_any}
use Rattle.std.proofs.lemmas.Bool.{and_from, and_parts}
use Rattle.std.proofs.lemmas.List.Folds.{list_any_at, list_any-append}

module _ {X : Type 0} where
  pub list_all-weaker : (p q : X → Bool) → ((x : X) → p x ≡ true → q x ≡ true) → (xs : List X) → list_all p xs ≡ true → list_all q xs ≡ true
  list_all-weaker p q more [] h = refl
  list_all-weaker p q more (x ∷ xs) h =
      let parts = and_parts (p x) (list_all p xs) h in
      and_from (q x) (list_all q xs) (more x parts.0) (list_all-weaker p q more xs parts.1)

  pub list_all-both : (p q : X → Bool) (xs : List X) → list_all p xs ≡ true → list_all q xs ≡ true → list_all (λ x. p x && q x) xs ≡ true
  list_all-both p q [] h k = refl
  list_all-both p q (x ∷ xs) h k =
      let hs = and_parts (p x) (list_all p xs) h in
      let ks = and_parts (q x) (list_all q xs) k in
      and_from (p x && q x) (list_all (λ y. p y && q y) xs) (and_from (p x) (q x) hs.0 ks.0) (list_all-both p q xs hs.1 ks.1)

  pub list_all-filter : (p : X → Bool) (xs : List X) → list_all p (filter p xs) ≡ true
  list_all-filter p [] = refl
  list_all-filter p (x ∷ xs) =
      let more = list_all-filter p xs in
      cases (p x) refl more
    where
      cases : (b : Bool) → p x ≡ b → list_all p (filter p xs) ≡ true → list_all p (cond b (x ∷ filter p xs) (filter p xs)) ≡ true
      cases true e more = and_from (p x) (list_all p (filter p xs)) e more
      cases false e more = more

  pub list_all-take : (p : X → Bool) (n : ℕ) (xs : List X) → list_all p xs ≡ true → list_all p (take n xs) ≡ true
  list_all-take p zero xs h = refl
  list_all-take p (suc n) [] h = refl
  list_all-take p (suc n) (x ∷ xs) h =
      let parts = and_parts (p x) (list_all p xs) h in
      and_from (p x) (list_all p (take n xs)) parts.0 (list_all-take p n xs parts.1)

  -- an item that passes is one of all
  pub both_at : (p q : X → Bool) (xs : List X) → list_all p xs ≡ true → list_any q xs ≡ true → (x : X) × (p x ≡ true) × (q x ≡ true)
  both_at p q [] h k = cc
  both_at p q (x ∷ xs) h k =
      let parts = and_parts (p x) (list_all p xs) h in
      cases (q x) refl parts.0 (λ more. both_at p q xs parts.1 more) k
    where
      cases : (b : Bool) → q x ≡ b → p x ≡ true → (list_any q xs ≡ true → (y : X) × (p y ≡ true) × (q y ≡ true)) → (b || list_any q xs) ≡ true → (y : X) × (p y ≡ true) × (q y ≡ true)
      cases true e here later k = (x, here, e)
      cases false e here later k = later k

  pub is_some-find : (p : X → Bool) (xs : List X) → is_some (find p xs) ≡ list_any p xs
  is_some-find p [] = refl
  is_some-find p (x ∷ xs) =
      let more = is_some-find p xs in
      elim (p x) as (λ b. is_some (cond b (Some x) (find p xs)) ≡ (b || list_any p xs)) [ true ↦ refl | false ↦ more ]

  pub found_passes : (p : X → Bool) (xs : List X) (x : X) → find p xs ≡ Some x → p x ≡ true
  found_passes p [] x e = cc
  found_passes p (y ∷ ys) x e = cases (p y) refl (λ later. found_passes p ys x later) e
    where
      cases : (b : Bool) → p y ≡ b → (find p ys ≡ Some x → p x ≡ true) → cond b (Some y) (find p ys) ≡ Some x → p x ≡ true
      cases true is later e = let same : y ≡ x = cc in ap p (sym same) ∙ is
      cases false is later e = later e

  pub list_any-filter : (p q : X → Bool) (xs : List X) → list_any p (filter q xs) ≡ list_any (λ x. q x && p x) xs
  list_any-filter p q [] = refl
  list_any-filter p q (x ∷ xs) =
      let more = list_any-filter p q xs in
      elim (q x) as (λ b. list_any p (cond b (x ∷ filter q xs) (filter q xs)) ≡ ((b && p x) || list_any (λ y. q y && p y) xs)) [ true ↦ ap (λ b. p x || b) more | false ↦ more ]

  pub list_any-contains : (p : X → Bool) (xs : List X) (x : X) → Contains xs x → p x ≡ true → list_any p xs ≡ true
  list_any-contains p xs x has h = list_any_at p xs has.0 x has.1 (ap p has.2 ∙ h)

module _ {X Y : Type 0} where
  pub list_any-map : (p : Y → Bool) (f : X → Y) (xs : List X) → list_any p (map f xs) ≡ list_any (λ x. p (f x)) xs
  list_any-map p f [] = refl
  list_any-map p f (x ∷ xs) = ap (λ b. p (f x) || b) (list_any-map p f xs)

  pub list_any-flat_map : (p : Y → Bool) (f : X → List Y) (xs : List X) → list_any p (flat_map f xs) ≡ list_any (λ x. list_any p (f x)) xs
  list_any-flat_map p f [] = refl
  list_any-flat_map p f (x ∷ xs) = list_any-append p (f x) (flat_map f xs) ∙ ap (λ b. list_any p (f x) || b) (list_any-flat_map p f xs)

  -- all of both lists, in either order
  pub list_all-swap : (r : X → Y → Bool) (xs : List X) (ys : List Y) → list_all (λ x. list_all (r x) ys) xs ≡ true → list_all (λ y. list_all (λ x. r x y) xs) ys ≡ true
  list_all-swap r xs [] h = refl
  list_all-swap r xs (y ∷ ys) h = and_from (list_all (λ x. r x y) xs) (list_all (λ z. list_all (λ x. r x z) xs) ys)
      (list_all-weaker (λ x. list_all (r x) (y ∷ ys)) (λ x. r x y) (λ x all. (and_parts (r x y) (list_all (r x) ys) all).0) xs h)
      (list_all-swap r xs ys (list_all-weaker (λ x. list_all (r x) (y ∷ ys)) (λ x. list_all (r x) ys) (λ x all. (and_parts (r x y) (list_all (r x) ys) all).1) xs h))

-- where nothing is there, nothing was found
pub nothing_there : {X : Type 0} (found : Option X) (none : Bool) → is_some found ≡ not none → IsTrue none → found ≡ None
nothing_there None none e h = refl
nothing_there (Some x) true e h = cc
nothing_there (Some x) false e h = cc
