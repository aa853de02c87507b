-- The lists of candidates all of whom pass a test.
use Rattle.std.proofs.Common.{◌≡◌, ℕ, zero, suc, ◌+◌, ◌-◌, ◌&&◌, ◌++◌, Bool, true, false, cond, List, [], ◌∷◌, refl, ap, ◌∙◌, arith, inl, inr, map, filter}
use Rattle.std.specs.List.{list_all, range_with_len, AllByRecursion}
use Rattle.std.proofs.lemmas.Bool.{cases_lt}
use Rattle.std.proofs.lemmas.List.Elements.{filter-append}
use Rattle.ballot_base.specs.Lists.{IsIncreasing, lists_of, increasing_lists}
use Rattle.ballot_base.specs.CandSet.{has_member, includes}
use Rattle.ballot_base.proofs.Committees.{IsIncreasing-range}
use Rattle.ballot_base.proofs.Increasing.{IsIncreasing-filter, has_member-filter, has_member-below, has_member-above, same_increasing}
use Rattle.group_check.specs.Steps.Checking.{sublists}
use Rattle.group_check.proofs.GroupLemmas.{has_member-range}

-- ---- a list within a range, and the items at all places

and_true : (a b : Bool) → b ≡ true → (a && b) ≡ a
and_true true b h = h
and_true false b h = refl

and_false : (a b : Bool) → a ≡ false → (a && b) ≡ a
and_false true b h = cc
and_false false b h = refl

-- those of a range that are in a list within it
in_range : (last count : ℕ) (set : List ℕ) → count ≡ last → IsIncreasing 1 last set → filter (has_member set) (range_with_len 1 count) ≡ set
in_range last count set e i =
    same_increasing 1 last (filter (has_member set) (range_with_len 1 count)) set
    (IsIncreasing-filter (has_member set) 1 last (range_with_len 1 count) (IsIncreasing-range 1 count last (omega (arith, e)))) i
    (λ n. has_member-filter (has_member set) (range_with_len 1 count) n
    ∙ elim (cases_lt n 1) [
      | inl low ↦ and_false (has_member set n) (has_member (range_with_len 1 count) n) (has_member-below 1 last set n i low)
      | inr from ↦ elim (cases_lt last n) [
        | inl high ↦ and_false (has_member set n) (has_member (range_with_len 1 count) n) (has_member-above 1 last set n i high)
        | inr to ↦ and_true (has_member set n) (has_member (range_with_len 1 count) n) (has_member-range 1 count n from (omega (arith, to, e)))
      ]
    ])

-- ---- all lists of some of the items

pub sublists-empty : (xs : List ℕ) → [] ∷ [] ≡ sublists xs zero
sublists-empty [] = refl
sublists-empty (x ∷ xs) = refl

-- the lists all of whose numbers pass are the lists of the numbers that pass
pub front_kept : (p : ℕ → Bool) (x : ℕ) → p x ≡ true → (lists : List (List ℕ)) → filter (list_all p) (map (λ rest. x ∷ rest) lists) ≡ map (λ rest. x ∷ rest) (filter (list_all p) lists)
front_kept p x e [] = refl
front_kept p x e (list ∷ lists) =
    let more = front_kept p x e lists in
    rw e (cases (list_all p list) more)
  where
    cases : (b : Bool) → filter (list_all p) (map (λ rest. x ∷ rest) lists) ≡ map (λ rest. x ∷ rest) (filter (list_all p) lists)
        → cond b ((x ∷ list) ∷ filter (list_all p) (map (λ rest. x ∷ rest) lists)) (filter (list_all p) (map (λ rest. x ∷ rest) lists))
        ≡ map (λ rest. x ∷ rest) (cond b (list ∷ filter (list_all p) lists) (filter (list_all p) lists))
    cases true more = ap (λ ls. (x ∷ list) ∷ ls) more
    cases false more = more

pub front_dropped : (p : ℕ → Bool) (x : ℕ) → p x ≡ false → (lists : List (List ℕ)) → filter (list_all p) (map (λ rest. x ∷ rest) lists) ≡ []
front_dropped p x e [] = refl
front_dropped p x e (list ∷ lists) = rw e (front_dropped p x e lists)

pub kept_lists : (p : ℕ → Bool) (count first size : ℕ) → filter (list_all p) (lists_of count first size) ≡ sublists (filter p (range_with_len first count)) size
unfolding lists_of
kept_lists p zero first zero = refl
kept_lists p (suc count) first zero = sublists-empty (filter p (range_with_len first (suc count)))
kept_lists p zero first (suc size) = refl
kept_lists p (suc count) first (suc size) =
    filter-append (list_all p) (map (λ rest. first ∷ rest) (lists_of count (first + 1) size)) (lists_of count (first + 1) (suc size))
    ∙ cases (p first) refl (kept_lists p count (first + 1) size) (kept_lists p count (first + 1) (suc size))
  where
    cases : (b : Bool) → p first ≡ b
        → filter (list_all p) (lists_of count (first + 1) size) ≡ sublists (filter p (range_with_len (first + 1) count)) size
        → filter (list_all p) (lists_of count (first + 1) (suc size)) ≡ sublists (filter p (range_with_len (first + 1) count)) (suc size)
        → filter (list_all p) (map (λ rest. first ∷ rest) (lists_of count (first + 1) size)) ++ filter (list_all p) (lists_of count (first + 1) (suc size))
        ≡ sublists (cond b (first ∷ filter p (range_with_len (first + 1) count)) (filter p (range_with_len (first + 1) count))) (suc size)
    cases true e with_it without_it = rw (front_kept p first e (lists_of count (first + 1) size), with_it, without_it) refl
    cases false e with_it without_it = rw (front_dropped p first e (lists_of count (first + 1) size), without_it) refl

-- the lists of members are the lists of their committee, in the same order
pub lists_of_members : (m size : ℕ) (committee : List ℕ) → IsIncreasing 1 m committee
    → filter (includes committee) (increasing_lists 1 m size) ≡ sublists committee size
lists_of_members m size committee i =
    kept_lists (has_member committee) (m + 1 - 1) 1 size
    ∙ ap (λ set. sublists set size) (in_range m (m + 1 - 1) committee (omega arith) i)

-- those of the lists that a filter keeps are such lists
pub AllByRecursion-filter : (P : List ℕ → Type 0) (p : List ℕ → Bool) (lists : List (List ℕ)) → AllByRecursion P lists → AllByRecursion P (filter p lists)
AllByRecursion-filter P p [] all = tt
AllByRecursion-filter P p (list ∷ lists) all =
    let rest = AllByRecursion-filter P p lists all.1 in
    elim (p list) as (λ b. AllByRecursion P (cond b (list ∷ filter p lists) (filter p lists))) [ true ↦ (all.0, rest) | false ↦ rest ]
