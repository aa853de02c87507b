-- Whether a filter keeps all of a list, and what is true of all its members.
use Rattle.std.proofs.lemmas.Grind.{common_steps}
use Rattle.std.proofs.Common.{◌≡◌, ℕ, ◌==◌, Bool, true, false, List, [], ◌∷◌, refl, sym, ap, ◌∙◌, arith, inl, inr, length, filter}
use Rattle.std.specs.List.{list_all}
use Rattle.std.specs.Str.{bytes_eq}
use Rattle.std.proofs.lemmas.Bool.{and_from, and_parts, cases_eq, eq-eqb, ne_eqb, or_right}
use Rattle.std.proofs.lemmas.Slice.Eq.{bytes_eq-Decides}
use Rattle.std.proofs.lemmas.List.Sums.{length-filter, count_by-le-length}
use Rattle.ballot_base.specs.CandSet.{has_member}
use Rattle.ballot_base.proofs.Increasing.{has_member_head, has_member_tail}

-- all pass where a filter keeps as many as there are
pub kept_all : (p : ℕ → Bool) (xs : List ℕ) → (length (filter p xs) == length xs) ≡ list_all p xs
kept_all p [] = refl
kept_all p (x ∷ xs) = grind (arith, common_steps, kept_all p xs, count_by-le-length, length-filter, ne_eqb)

same_answers : (a b : Bool) → (a ≡ true → b ≡ true) → (b ≡ true → a ≡ true) → a ≡ b
same_answers true b h k = sym (h refl)
same_answers false true h k = k refl
same_answers false false h k = refl

keeps_all : (p : ℕ → Bool) (xs : List ℕ) → list_all p xs ≡ true → filter p xs ≡ xs
keeps_all p [] h = refl
keeps_all p (x ∷ xs) h =
    let parts = and_parts (p x) (list_all p xs) h in
    rw parts.0 (ap (λ s. x ∷ s) (keeps_all p xs parts.1))

-- all pass where a filter keeps the set as it is
pub kept_whole : (p : ℕ → Bool) (xs : List ℕ) → bytes_eq (filter p xs) xs ≡ list_all p xs
kept_whole p xs =
    let decides = bytes_eq-Decides (filter p xs) xs in
    same_answers (bytes_eq (filter p xs) xs) (list_all p xs)
    (λ h. sym (kept_all p xs) ∙ eq-eqb (length (filter p xs)) (length xs) (ap length (decides.0 h)))
    (λ h. decides.1 (keeps_all p xs h))

-- ---- what is true of all members

pub all-at : (p : ℕ → Bool) (xs : List ℕ) (x : ℕ) → list_all p xs ≡ true → has_member xs x ≡ true → p x ≡ true
all-at p [] x all inside = absurd (let e : false ≡ true = inside in cc)
all-at p (y ∷ xs) x all inside = elim (cases_eq y x) [
  | inl same ↦ ap p (sym same) ∙ (and_parts (p y) (list_all p xs) all).0
  | inr other ↦ all-at p xs x (and_parts (p y) (list_all p xs) all).1 (sym (has_member_tail y x xs other) ∙ inside)
]

pub all-from : (p : ℕ → Bool) (xs : List ℕ) → ((x : ℕ) → has_member xs x ≡ true → p x ≡ true) → list_all p xs ≡ true
all-from p [] each = refl
all-from p (y ∷ xs) each =
    and_from (p y) (list_all p xs) (each y (has_member_head y xs)) (all-from p xs (λ x inside. each x (or_right (y == x) (has_member xs x) inside)))
