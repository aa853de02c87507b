-- Lists of anything: what is true of all elements, and which elements a list has.
use Rattle.std.proofs.lemmas.Grind.{common_steps}
use Rattle.std.proofs.Common.{◌≡◌, ℕ, zero, suc, ◌+◌, ◌<◌, ◌≤◌, ◌&&◌, ◌++◌, ◌∙◌, Bool, List, [], ◌∷◌, refl, ap, arith, inl, inr, map, Contains}
use Rattle.std.specs.List.{AllByRecursion, flat_map, list_all, range_with_len}
use Rattle.std.proofs.lemmas.List.Elements.{Contains-append_cases}

-- ---- what is true of all

pub list_all-same : {X : Type 0} (p q : X → Bool) (xs : List X) → ((x : X) → p x ≡ q x) → list_all p xs ≡ list_all q xs
list_all-same p q [] same = refl
list_all-same p q (x ∷ xs) same = ap (λ b. b && list_all p xs) (same x) ∙ ap (λ b. q x && b) (list_all-same p q xs same)

pub AllByRecursion-weaker : {X : Type 0} (P Q : X → Type 0) → ((x : X) → P x → Q x) → (xs : List X) → AllByRecursion P xs → AllByRecursion Q xs
AllByRecursion-weaker P Q step [] all = tt
AllByRecursion-weaker P Q step (x ∷ xs) all = (step x all.0, AllByRecursion-weaker P Q step xs all.1)

pub AllByRecursion-append : {X : Type 0} (P : X → Type 0) (xs ys : List X) → AllByRecursion P xs → AllByRecursion P ys → AllByRecursion P (xs ++ ys)
AllByRecursion-append P [] ys front back = back
AllByRecursion-append P (x ∷ xs) ys front back = (front.0, AllByRecursion-append P xs ys front.1 back)

pub all_range : (P : ℕ → Type 0) (a n : ℕ) → ((c : ℕ) → a ≤ c → c < a + n → P c) → AllByRecursion P (range_with_len a n)
all_range P a zero each = tt
all_range P a (suc n) each = (each a (omega arith) (omega arith), all_range P (a + 1) n (λ c low high. each c (omega arith) (omega arith)))

-- ---- where an element stands

pub Contains-later : {X : Type 0} (x y : X) (xs : List X) → Contains xs y → Contains (x ∷ xs) y
Contains-later x y xs c = (suc c.0, omega (arith, c.1), c.2)

pub Contains-map : {X Y : Type 0} (f : X → Y) (xs : List X) (x : X) → Contains xs x → Contains (map f xs) (f x)
Contains-map f [] x c = absurd (omega (arith, c.1))
Contains-map f (y ∷ ys) x (zero, inside, is) = (0, omega arith, ap f is)
Contains-map f (y ∷ ys) x (suc i, inside, is) = Contains-later (f y) (f x) (map f ys) (Contains-map f ys x (i, omega (arith, inside), is))

pub Contains-from_map : {X Y : Type 0} (f : X → Y) (xs : List X) (y : Y) → Contains (map f xs) y → (x : X) × Contains xs x × (f x ≡ y)
Contains-from_map f [] y c = absurd (omega (arith, c.1))
Contains-from_map f (x ∷ xs) y (zero, inside, is) = (x, (0, omega arith, refl), is)
Contains-from_map f (x ∷ xs) y (suc i, inside, is) =
    grind (arith, common_steps, Contains-from_map f xs y (i, omega (arith, inside), is), Contains-later)

pub Contains-from_flat_map : {X Y : Type 0} (f : X → List Y) (xs : List X) (y : Y) → Contains (flat_map f xs) y → (x : X) × Contains xs x × Contains (f x) y
Contains-from_flat_map f [] y c = absurd (omega (arith, c.1))
Contains-from_flat_map f (x ∷ xs) y c = elim (Contains-append_cases (f x) (flat_map f xs) y c) [
  | inl here ↦ (x, (0, omega arith, refl), here)
  | inr later ↦
      let rest = Contains-from_flat_map f xs y later in
      (rest.0, Contains-later x rest.0 xs rest.1, rest.2)
]
