-- Tests of all members of a list, and sums over them.
use Rattle.std.proofs.Common.{◌≡◌, ℕ, ◌<◌, ◌≤◌, ◌⊎◌, ◌&&◌, Bool, true, false, List, [], ◌∷◌, refl, sym, subst, inl, inr, arith, sum_by}
use Rattle.std.specs.List.{list_all}
use Rattle.std.proofs.lemmas.List.Sums.{sum_by-cons}
use Rattle.seat_share.proofs.Order.{absurd}

pub and-left : (a b : Bool) → (a && b) ≡ true → a ≡ true
and-left true b h = refl
and-left false b h = h

pub and-right : (a b : Bool) → (a && b) ≡ true → b ≡ true
and-right true b h = h
and-right false b h = absurd h

pub and-false : (b : Bool) → (b && false) ≡ false
and-false true = refl
and-false false = refl

pub both : (a b : Bool) → a ≡ true → b ≡ true → (a && b) ≡ true
both a b h k = rw (h, k) refl

module _ {X : Type 0} where
  -- x is a member
  abbrev pub Has : List X → X → Type 0
  Has [] x = ⊥
  Has (y ∷ ys) x = (y ≡ x) ⊎ Has ys x

  pub all-member : (p : X → Bool) (xs : List X) (x : X) → list_all p xs ≡ true → Has xs x → p x ≡ true
  all-member p [] x h within = elim within [ ]
  all-member p (y ∷ ys) x h (inl is) = subst (λ z. p z ≡ true) is (and-left (p y) (list_all p ys) h)
  all-member p (y ∷ ys) x h (inr later) = all-member p ys x (and-right (p y) (list_all p ys) h) later

  pub all-from_members : (p : X → Bool) (xs : List X) → ((x : X) → Has xs x → p x ≡ true) → list_all p xs ≡ true
  all-from_members p [] each = refl
  all-from_members p (y ∷ ys) each = both (p y) (list_all p ys) (each y (inl refl)) (all-from_members p ys (λ x within. each x (inr within)))

  -- where the sums fit, no member has more in the first sum than in the second while the others have at least as much
  pub sums-le : (f g : X → ℕ) (xs : List X) → ((x : X) → Has xs x → f x ≤ g x) → sum_by f xs ≤ sum_by g xs
  sums-le f g [] each = omega arith
  sums-le f g (y ∷ ys) each =
      omega (arith, sum_by-cons f y ys, sum_by-cons g y ys, each y (inl refl), sums-le f g ys (λ x within. each x (inr within)))

  pub sums-lt : (f g : X → ℕ) (xs : List X) (x : X) → Has xs x → f x < g x → ((y : X) → Has xs y → f y ≤ g y) → sum_by f xs < sum_by g xs
  sums-lt f g [] x within less each = elim within [ ]
  sums-lt f g (y ∷ ys) x (inl is) less each =
      omega (arith, sum_by-cons f y ys, sum_by-cons g y ys, subst (λ z. f z < g z) (sym is) less, sums-le f g ys (λ z here. each z (inr here)))
  sums-lt f g (y ∷ ys) x (inr later) less each =
      omega (arith, sum_by-cons f y ys, sum_by-cons g y ys, each y (inl refl), sums-lt f g ys x later less (λ z here. each z (inr here)))

-- two tests that imply each other are one
pub same_bools : (a b : Bool) → (a ≡ true → b ≡ true) → (b ≡ true → a ≡ true) → a ≡ b
same_bools true b h k = sym (h refl)
same_bools false true h k = k refl
same_bools false false h k = refl
