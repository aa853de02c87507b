-- The walk over the lists of a pool: which lists stand below a beginning, and in which order.
use Rattle.std.proofs.lemmas.Bool.{or_right}
use Rattle.std.proofs.Common.{◌≡◌, ℕ, zero, suc, ◌+◌, ◌-◌, ◌<◌, ◌≤◌, ◌==◌, ◌++◌, Bool, false, List, [], ◌∷◌, None, refl, sym, ap, ◌∙◌, arith, length, map}
use Rattle.std.specs.Prelude.{find}
use Rattle.std.specs.List.{AllByRecursion}
use Rattle.std.proofs.lemmas.List.{append_assoc, append-nil, length-append, map-append}
use Rattle.ballot_base.specs.Lists.{IsIncreasing}
use Rattle.ballot_base.specs.CandSet.{has_member, with_member}
use Rattle.ballot_base.proofs.Increasing.{IsIncreasing-lower, with_member-gt}
use Rattle.ballot_base.proofs.ListLemmas.{AllByRecursion-append, AllByRecursion-weaker}
use Rattle.group_check.specs.Steps.Checking.{IsTail, sublists, completions}
use Rattle.group_check.proofs.SetLemmas.{or_mono}

-- ---- a beginning and what comes after it

pub IsIncreasing-front : (first last : ℕ) (front rest : List ℕ) → IsIncreasing first last (front ++ rest) → IsIncreasing first last front
IsIncreasing-front first last [] rest i = tt
IsIncreasing-front first last (x ∷ xs) rest i = (i.0, i.1, IsIncreasing-front (x + 1) last xs rest i.2)

pub IsIncreasing-rest : (first last : ℕ) (front rest : List ℕ) → IsIncreasing first last (front ++ rest) → IsIncreasing first last rest
IsIncreasing-rest first last [] rest i = i
IsIncreasing-rest first last (x ∷ xs) rest i =
    IsIncreasing-lower first (x + 1) last rest (omega (arith, i.0)) (IsIncreasing-rest (x + 1) last xs rest i.2)

-- an item is left out
pub IsIncreasing-without : (first last : ℕ) (front : List ℕ) (x : ℕ) (rest : List ℕ) → IsIncreasing first last (front ++ x ∷ rest) → IsIncreasing first last (front ++ rest)
IsIncreasing-without first last [] x rest i = IsIncreasing-lower first (x + 1) last rest (omega (arith, i.0)) i.2
IsIncreasing-without first last (y ∷ ys) x rest i = (i.0, i.1, IsIncreasing-without (y + 1) last ys x rest i.2)

pub at_least : (first last : ℕ) (front : List ℕ) (x : ℕ) (rest : List ℕ) → IsIncreasing first last (front ++ x ∷ rest) → first ≤ x
at_least first last [] x rest i = i.0
at_least first last (y ∷ ys) x rest i = let later = at_least (y + 1) last ys x rest i.2 in omega (arith, later, i.0)

pub at_most_last : (first last : ℕ) (front : List ℕ) (x : ℕ) (rest : List ℕ) → IsIncreasing first last (front ++ x ∷ rest) → x ≤ last
at_most_last first last [] x rest i = i.1
at_most_last first last (y ∷ ys) x rest i = at_most_last (y + 1) last ys x rest i.2

pub at_least_one : (last : ℕ) (front : List ℕ) (x : ℕ) (rest : List ℕ) → IsIncreasing 1 last (front ++ x ∷ rest) → 1 ≤ x
at_least_one last front x rest i = at_least 1 last front x rest i

-- an item that comes after a beginning goes to its end
pub with_member-end : (first last : ℕ) (front : List ℕ) (x : ℕ) (rest : List ℕ) → IsIncreasing first last (front ++ x ∷ rest) → with_member front x ≡ front ++ x ∷ []
with_member-end first last [] x rest i = refl
with_member-end first last (y ∷ ys) x rest i =
    let above = at_least (y + 1) last ys x rest i.2 in
    with_member-gt y ys x (omega (arith, above)) ∙ ap (λ s. y ∷ s) (with_member-end (y + 1) last ys x rest i.2)

-- and makes it longer by one
pub with_member-length : (first last : ℕ) (front : List ℕ) (x : ℕ) (rest : List ℕ) → IsIncreasing first last (front ++ x ∷ rest)
    → length (with_member front x) ≡ length front + 1
with_member-length first last front x rest i = ap length (with_member-end first last front x rest i) ∙ length-append front (x ∷ [])

pub IsIncreasing-with : (first last : ℕ) (front : List ℕ) (x : ℕ) (rest : List ℕ) → IsIncreasing first last (front ++ x ∷ rest) → IsIncreasing first last (with_member front x ++ rest)
IsIncreasing-with first last front x rest i =
    rw (with_member-end first last front x rest i, append_assoc front (x ∷ []) rest) i

-- ---- the lists of a pool

module _ {X : Type 0} where
  pub none_passes : (p : X → Bool) (xs : List X) → AllByRecursion (λ x. p x ≡ false) xs → find p xs ≡ None
  none_passes p [] h = refl
  none_passes p (x ∷ xs) h = let more = none_passes p xs h.1 in rw h.0 more

pub AllByRecursion-map : {X Y : Type 0} (P : Y → Type 0) (f : X → Y) (xs : List X) → AllByRecursion (λ x. P (f x)) xs → AllByRecursion P (map f xs)
AllByRecursion-map P f [] h = tt
AllByRecursion-map P f (x ∷ xs) h = (h.0, AllByRecursion-map P f xs h.1)

no_tail : (first last : ℕ) (pool : List ℕ) → IsTail first last pool 0 []
no_tail first last pool = record { increasing = tt; count = refl; inside = λ n h. cc }

pub tails : (first last : ℕ) (pool : List ℕ) (size : ℕ) → IsIncreasing first last pool → AllByRecursion (IsTail first last pool size) (sublists pool size)
tails first last [] zero i = (no_tail first last [], tt)
tails first last (x ∷ xs) zero i = (no_tail first last (x ∷ xs), tt)
tails first last [] (suc size) i = tt
tails first last (x ∷ xs) (suc size) i =
    AllByRecursion-append (IsTail first last (x ∷ xs) (suc size)) (map (λ rest. x ∷ rest) (sublists xs size)) (sublists xs (suc size))
    (AllByRecursion-map (IsTail first last (x ∷ xs) (suc size)) (λ rest. x ∷ rest) (sublists xs size)
    (AllByRecursion-weaker (IsTail (x + 1) last xs size) (λ rest. IsTail first last (x ∷ xs) (suc size) (x ∷ rest)) (λ rest t. record {
      increasing = (i.0, i.1, t.increasing);
      count = ap suc t.count;
      inside = λ n h. or_mono (x == n) (has_member rest n) (has_member xs n) (t.inside n) h;
    }) (sublists xs size) (tails (x + 1) last xs size i.2)))
    (AllByRecursion-weaker (IsTail (x + 1) last xs (suc size)) (IsTail first last (x ∷ xs) (suc size)) (λ rest t. record {
      increasing = IsIncreasing-lower first (x + 1) last rest (omega (arith, i.0)) t.increasing;
      count = t.count;
      inside = λ n h. or_right (x == n) (has_member xs n) (t.inside n h);
    }) (sublists xs (suc size)) (tails (x + 1) last xs (suc size) i.2))

-- a pool with too few items has no list
pub too_few : (pool : List ℕ) (size : ℕ) → length pool < size → sublists pool size ≡ []
too_few [] zero h = absurd (omega arith)
too_few (x ∷ xs) zero h = absurd (omega arith)
too_few [] (suc size) h = refl
too_few (x ∷ xs) (suc size) h =
    rw (too_few xs size (omega arith), too_few xs (suc size) (omega arith)) refl

pub too_few_below : (front pool : List ℕ) (left : ℕ) → length pool < left → completions front pool left ≡ []
too_few_below front pool left h = ap (map (λ rest. front ++ rest)) (too_few pool left h)

-- ---- below a beginning

-- with nothing left to choose
pub whole : (front pool : List ℕ) (left : ℕ) → left ≡ 0 → completions front pool left ≡ front ∷ []
whole front [] zero e = ap (λ s. s ∷ []) (append-nil front)
whole front (x ∷ xs) zero e = ap (λ s. s ∷ []) (append-nil front)
whole front pool (suc left) e = absurd (omega arith)

longer : (front : List ℕ) (x : ℕ) (lists : List (List ℕ)) → map (λ rest. front ++ rest) (map (λ rest. x ∷ rest) lists) ≡ map (λ rest. (front ++ x ∷ []) ++ rest) lists
longer front x [] = refl
longer front x (list ∷ lists) =
    let more = longer front x lists in
    let here : front ++ x ∷ list ≡ (front ++ x ∷ []) ++ list = sym (append_assoc front (x ∷ []) list) in
    cc

-- the lists below a beginning: those with the next item, and then those without it
pub split_lists : (m : ℕ) (front : List ℕ) (x : ℕ) (rest : List ℕ) (left : ℕ) → IsIncreasing 1 m (front ++ x ∷ rest) → (left ≡ 0 → ⊥)
    → completions front (x ∷ rest) left ≡ completions (with_member front x) rest (left - 1) ++ completions front rest left
split_lists m front x rest zero i some = absurd (some refl)
split_lists m front x rest (suc left) i some =
    let one : suc left - 1 ≡ left = omega arith in
    map-append (λ list. front ++ list) (map (λ list. x ∷ list) (sublists rest left)) (sublists rest (suc left))
    ∙ ap (λ lists. lists ++ completions front rest (suc left)) (longer front x (sublists rest left))
    ∙ ap (λ more. completions more rest left ++ completions front rest (suc left)) (sym (with_member-end 1 m front x rest i))
    ∙ ap (λ size. completions (with_member front x) rest size ++ completions front rest (suc left)) (sym one)
