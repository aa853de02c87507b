-- Candidates whom the same voters approve.
use Rattle.std.proofs.lemmas.Grind.{common_steps}
use Rattle.std.proofs.Common.{◌≡◌, ℕ, ◌+◌, ◌<◌, ◌&&◌, ◌∙◌, Bool, true, false, cond, not, List, [], ◌∷◌, Some, refl, sym, ap, filter, length, take, get_or, slice_get, arith}
use Rattle.std.specs.List.{AllByRecursion, range_with_len}
use Rattle.std.proofs.lemmas.Bool.{and_parts}
use Rattle.std.proofs.lemmas.List.Folds.{list_all_more}
use Rattle.std.proofs.lemmas.Option.{get_or_from_slice_get, slice_get_within}
use Rattle.ballot_base.specs.Ballots.{Row}
use Rattle.ballot_base.specs.CandSet.{has_member, common_members, other_members}
use Rattle.ballot_base.specs.Clones.{are_clones, clones_among}
use Rattle.ballot_base.proofs.Increasing.{has_member-filter}

abbrev pub is_both : Bool → Bool → Bool
is_both x y = cond x y (not y)

pub both-same : (x y : Bool) → is_both x y ≡ true → x ≡ y
both-same true true e = refl
both-same true false e = sym e
both-same false true e = e
both-same false false e = refl

-- each row approves both or none of them
pub clones-same : (rows : List Row) (c d : ℕ) → are_clones rows c d ≡ true → AllByRecursion (λ (row : Row). has_member row.0 c ≡ has_member row.0 d) rows
clones-same [] c d are = tt
clones-same (row ∷ rows) c d are =
    let parts = and_parts (is_both (has_member row.0 c) (has_member row.0 d)) (are_clones rows c d) are in
    (both-same (has_member row.0 c) (has_member row.0 d) parts.0, clones-same rows c d parts.1)

-- who stands in a class is a clone
pub clones_among-are : (m : ℕ) (rows : List Row) (c d : ℕ) → has_member (clones_among m rows c) d ≡ true → are_clones rows c d ≡ true
clones_among-are m rows c d is = (and_parts (are_clones rows c d) (has_member (range_with_len 1 m) d) (sym (has_member-filter (are_clones rows c) (range_with_len 1 m) d) ∙ is)).0

-- ---- the classes, row by row

filter-both : {X : Type 0} (p q : X → Bool) (xs : List X) → filter (λ x. p x && q x) xs ≡ filter q (filter p xs)
filter-both p q [] = refl
filter-both p q (x ∷ xs) = grind (arith, common_steps, filter-both p q xs)

filter-same : {X : Type 0} (p q : X → Bool) (xs : List X) → ((x : X) → p x ≡ q x) → filter p xs ≡ filter q xs
filter-same p q [] same = refl
filter-same p q (x ∷ xs) same = ap (λ b. cond b (x ∷ filter p xs) (filter p xs)) (same x) ∙ ap (λ l. cond (q x) (x ∷ l) l) (filter-same p q xs same)

-- no row tells candidates apart
pub clones-none : (m c : ℕ) → range_with_len 1 m ≡ clones_among m [] c
clones-none m c = all (range_with_len 1 m)
  where
    all : (xs : List ℕ) → xs ≡ filter (are_clones [] c) xs
    all [] = refl
    all (x ∷ xs) = ap (λ l. x ∷ l) (all xs)

module _ (m : ℕ) (rows : List Row) (i : ℕ) (row : Row) (c : ℕ) (found : slice_get rows i ≡ Some row) where
  clones-more : clones_among m (take (i + 1) rows) c ≡ filter (λ d. is_both (has_member row.0 c) (has_member row.0 d)) (clones_among m (take i rows) c)
  clones-more =
      let here : get_or rows i row ≡ row = get_or_from_slice_get rows i row row found in
      let within : i < length rows = slice_get_within rows i row found in
      filter-same (are_clones (take (i + 1) rows) c) (λ d. are_clones (take i rows) c d && is_both (has_member row.0 c) (has_member row.0 d)) (range_with_len 1 m)
      (λ d. list_all_more (λ (r : Row). is_both (has_member r.0 c) (has_member r.0 d)) rows i row within
      ∙ ap (λ (r : Row). are_clones (take i rows) c d && is_both (has_member r.0 c) (has_member r.0 d)) here)
      ∙ filter-both (are_clones (take i rows) c) (λ d. is_both (has_member row.0 c) (has_member row.0 d)) (range_with_len 1 m)

  pub clones-approved : has_member row.0 c ≡ true → clones_among m (take (i + 1) rows) c ≡ common_members (clones_among m (take i rows) c) row.0
  clones-approved is = clones-more ∙ ap (λ b. filter (λ d. is_both b (has_member row.0 d)) (clones_among m (take i rows) c)) is

  pub clones-other : has_member row.0 c ≡ false → clones_among m (take (i + 1) rows) c ≡ other_members (clones_among m (take i rows) c) row.0
  clones-other is = clones-more ∙ ap (λ b. filter (λ d. is_both b (has_member row.0 d)) (clones_among m (take i rows) c)) is
