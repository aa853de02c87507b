-- Tests of the pairs of two lists side by side.
use Rattle.std.proofs.Common.{◌≡◌, ℕ, zero, suc, ◌+◌, ◌<◌, ◌∙◌, Bool, true, false, List, [], ◌∷◌, sym, ap, arith, length, take, get_or, min, Contains}
use Rattle.std.specs.List.{list_any, zip}
use Rattle.std.proofs.lemmas.Bool.{or_from}
use Rattle.std.proofs.lemmas.List.{take_all}
use Rattle.std.proofs.lemmas.List.Folds.{list_any_more, list_any_at}
use Rattle.std.proofs.lemmas.Slice.Zip.{length-zip, get_or-zip}

module _ {A B : Type 0} (p : A × B → Bool) (ks : List A) (vs : List B) (i : ℕ) where
  pub pairs-end : list_any p (take i (zip ks vs)) ≡ false → i ≡ min (length ks) (length vs) → list_any p (zip ks vs) ≡ false
  pairs-end none all = ap (list_any p) (sym (take_all i (zip ks vs) (omega (arith, length-zip ks vs, all)))) ∙ none

  module _ (a : A) (b : B) (within : i < length ks) (within' : i < length vs) (is : (d : A) → a ≡ get_or ks i d) (is' : (d : B) → b ≡ get_or vs i d) where
    here : get_or (zip ks vs) i (a, b) ≡ (a, b)
    here = get_or-zip ks vs i (a, b) within within' ∙ ap (λ x. (x, get_or vs i b)) (sym (is a)) ∙ ap (λ y. (a, y)) (sym (is' b))

    inside : i < length (zip ks vs)
    inside = omega (arith, within, within', length-zip ks vs)

    pub pairs-pass : p (a, b) ≡ true → list_any p (zip ks vs) ≡ true
    pairs-pass passes = list_any_at p (zip ks vs) i (a, b) inside (ap p here ∙ passes)

    pub pairs-more : list_any p (take i (zip ks vs)) ≡ false → p (a, b) ≡ false → list_any p (take (i + 1) (zip ks vs)) ≡ false
    pairs-more none fails = list_any_more p (zip ks vs) i (a, b) inside ∙ or_from (list_any p (take i (zip ks vs))) (p (get_or (zip ks vs) i (a, b))) none (ap p here ∙ fails)

-- a pair has its parts from the two lists
module _ {A B : Type 0} where
  pub pairs-first : (ks : List A) (vs : List B) (pair : A × B) → Contains (zip ks vs) pair → Contains ks pair.0
  pairs-first [] vs pair c = absurd (omega (arith, c.1))
  pairs-first (k ∷ ks) [] pair c = absurd (omega (arith, c.1))
  pairs-first (k ∷ ks) (v ∷ vs) pair (zero, inside, is) = (0, omega arith, ap (λ (p : A × B). p.0) is)
  pairs-first (k ∷ ks) (v ∷ vs) pair (suc i, inside, is) = let rest = pairs-first ks vs pair (i, omega (arith, inside), is) in (suc rest.0, omega (arith, rest.1), rest.2)
