-- A walk over committees: what is below a prefix, and what comes after it.
use Rattle.std.proofs.lemmas.Grind.{common_steps}
use Rattle.std.proofs.Common.{◌≡◌, ℕ, zero, suc, ◌+◌, ◌-◌, ◌*◌, ◌^◌, ◌<◌, ◌≤◌, ◌==◌, ◌∙◌, true, false, List, [], ◌∷◌, ◌++◌, Option, None, Some, not, refl, sym, ap, subst, arith, inl, inr, length, length-append, map, sum_by, append_assoc, append-nil}
use Rattle.std.proofs.Math.Nat.{pow-le-pow_right}
use Rattle.std.proofs.lemmas.Nat.{pow-add}
use Rattle.std.specs.List.{AllByRecursion}
use Rattle.std.proofs.lemmas.Bool.{cases_eq, eq-eqb, ne_eqb, or_left}
use Rattle.std.proofs.lemmas.List.{map-append}
use Rattle.std.proofs.lemmas.List.Sums.{sum_by-append}
use Rattle.ballot_base.specs.Lists.{IsIncreasing, lists_of, increasing_lists, later_than}
use Rattle.ballot_base.specs.CandSet.{has_member, without_member}
use Rattle.ballot_base.proofs.Committees.{IsChosen, increasing_lists-chosen, increasing_lists-order}
use Rattle.ballot_base.proofs.Increasing.{IsIncreasing-filter}
use Rattle.tie_walk.specs.Ceilings.{IsBound}
use Rattle.tie_walk.specs.Steps.Walks.{committees_below, committees_after, committees_from, IsPlace, IsPast, work_left}
use Rattle.tie_walk.specs.declared.walk.Prefix.{Prefix}
use Rattle.tie_walk.proofs.GreatestSums.{lists-short, lists-empty, lists-more}
use Rattle.tie_walk.proofs.StartLemmas.{later_than-at}

map_same : {X Y : Type 0} (f g : X → Y) → ((x : X) → f x ≡ g x) → (xs : List X) → map f xs ≡ map g xs
map_same f g same [] = refl
map_same f g same (x ∷ xs) = ap (λ y. y ∷ map f xs) (same x) ∙ ap (λ l. g x ∷ l) (map_same f g same xs)

map_twice : {X Y Z : Type 0} (g : Y → Z) (f : X → Y) (xs : List X) → map g (map f xs) ≡ map (λ x. g (f x)) xs
map_twice g f [] = refl
map_twice g f (x ∷ xs) = ap (λ l. g (f x) ∷ l) (map_twice g f xs)

module _ (m k : ℕ) where
  -- either the next candidate is a member, or not
  pub below-split : (c : ℕ) (set : List ℕ) → c < m → length set < k
      → committees_below m k c set ≡ committees_below m k (c + 1) (set ++ (c + 1) ∷ []) ++ committees_below m k (c + 1) set
  below-split c set inside few =
      let count : m + 1 - (c + 1) ≡ suc (m + 1 - (c + 1 + 1)) = omega arith in
      let size : k - length set ≡ suc (k - length (set ++ (c + 1) ∷ [])) = omega (arith, length-append set ((c + 1) ∷ [])) in
      let rest = lists_of (m + 1 - (c + 1 + 1)) (c + 1 + 1) (k - length (set ++ (c + 1) ∷ [])) in
      let others = lists_of (m + 1 - (c + 1 + 1)) (c + 1 + 1) (k - length set) in
      let lists : increasing_lists (c + 1) m (k - length set) ≡ map (λ l. (c + 1) ∷ l) rest ++ others =
      ap (λ n. lists_of n (c + 1) (k - length set)) count ∙ ap (lists_of (suc (m + 1 - (c + 1 + 1))) (c + 1)) size
      ∙ lists-more (m + 1 - (c + 1 + 1)) (c + 1) (k - length (set ++ (c + 1) ∷ []))
      ∙ ap (λ n. map (λ l. (c + 1) ∷ l) rest ++ lists_of (m + 1 - (c + 1 + 1)) (c + 1 + 1) n) (sym size) in
      ap (map (λ l. set ++ l)) lists ∙ map-append (λ l. set ++ l) (map (λ l. (c + 1) ∷ l) rest) others
      ∙ ap (λ ls. ls ++ map (λ l. set ++ l) others)
      (map_twice (λ l. set ++ l) (λ l. (c + 1) ∷ l) rest ∙ map_same (λ l. set ++ (c + 1) ∷ l) (λ l. (set ++ (c + 1) ∷ []) ++ l) (λ l. sym (append_assoc set ((c + 1) ∷ []) l)) rest)

  -- a whole committee is alone
  pub below-full : (c : ℕ) (set : List ℕ) → length set ≡ k → committees_below m k c set ≡ set ∷ []
  below-full c set full =
      let size : k - length set ≡ 0 = omega arith in
      ap (λ n. map (λ l. set ++ l) (lists_of (m + 1 - (c + 1)) (c + 1) n)) size ∙ ap (map (λ l. set ++ l)) (lists-empty (m + 1 - (c + 1)) (c + 1))
      ∙ ap (λ s. s ∷ []) (append-nil set)

  -- too few candidates are left
  pub below-short : (c : ℕ) (set : List ℕ) → length set + (m - c) < k → committees_below m k c set ≡ []
  below-short c set few = ap (map (λ l. set ++ l)) (lists-short (m + 1 - (c + 1)) (c + 1) (k - length set) (omega arith))

  pub after-push : (front set : List ℕ) (n : ℕ) → committees_after m k front (set ++ n ∷ []) ≡ committees_below m k n (front ++ set) ++ committees_after m k front set
  after-push front [] n = ap (committees_below m k n) (sym (append-nil front)) ∙ sym (append-nil (committees_below m k n (front ++ [])))
  after-push front (x ∷ set) n = grind (arith, common_steps, after-push (front ++ x ∷ []) set n, append_assoc)

  -- the committees below a prefix, and those after them: with the next candidate, and then without
  pub from-grown : (c : ℕ) (set : List ℕ) → c < m → length set < k
      → committees_below m k (c + 1) (set ++ (c + 1) ∷ []) ++ committees_after m k [] (set ++ (c + 1) ∷ []) ≡ committees_below m k c set ++ committees_after m k [] set
  from-grown c set inside few = grind (arith, common_steps, after-push, append_assoc, below-split)

  pub from-past : (prefix : Prefix) (next : Option Prefix) → IsPast prefix next → committees_from m k next ≡ committees_after m k [] prefix.set
  from-past prefix None is = sym (ap (committees_after m k []) is)
  from-past prefix (Some place) is = sym (ap (committees_after m k []) is.0 ∙ after-push [] place.set place.c)

  pub place-past : (prefix : Prefix) (next : Option Prefix) → IsPlace m k (Some prefix) → IsPast prefix next → IsPlace m k next
  place-past prefix None here is = tt
  place-past prefix (Some place) here is = (omega (arith, here.0, is.1), is.2, omega (arith, here.2, ap length is.0, length-append place.set (place.c ∷ [])))

  -- ---- the committees after one of them
  pub start-split : (n c : ℕ) (front rest : List ℕ) → c + n ≡ m → length front + length rest ≡ k → IsIncreasing (c + 1) m rest
      → (before : List (List ℕ)) × (committees_below m k c front ≡ before ++ (front ++ rest) ∷ committees_after m k front rest)
  start-split n c front [] e size up = ([], below-full c front (omega arith) ∙ ap (λ s. s ∷ []) (sym (append-nil front)))
  start-split zero c front (x ∷ rest) e size up = absurd (omega (arith, up.0, up.1))
  start-split (suc n) c front (x ∷ rest) e size up = elim (cases_eq x (c + 1)) [
    | inl same ↦
        let here = start-split n (c + 1) (front ++ x ∷ []) rest (omega arith) (omega (arith, length-append front (x ∷ []))) (subst (λ y. IsIncreasing (y + 1) m rest) same up.2) in
        let split : committees_below m k c front ≡ committees_below m k (c + 1) (front ++ x ∷ []) ++ committees_below m k x front =
        subst (λ y. committees_below m k c front ≡ committees_below m k (c + 1) (front ++ y ∷ []) ++ committees_below m k y front) (sym same) (below-split c front (omega arith) (omega arith)) in (
          here.0,
          split ∙ ap (λ ls. ls ++ committees_below m k x front) here.1
              ∙ append_assoc here.0 (((front ++ x ∷ []) ++ rest) ∷ committees_after m k (front ++ x ∷ []) rest) (committees_below m k x front)
              ∙ ap (λ s. here.0 ++ s ∷ committees_after m k front (x ∷ rest)) (append_assoc front (x ∷ []) rest),
        )
    | inr other ↦
        let here = start-split n (c + 1) front (x ∷ rest) (omega arith) size (omega (arith, up.0, other), up.1, up.2) in
        let first = committees_below m k (c + 1) (front ++ (c + 1) ∷ []) in (
          first ++ here.0,
          below-split c front (omega arith) (omega arith) ∙ ap (λ ls. first ++ ls) here.1
              ∙ sym (append_assoc first here.0 ((front ++ x ∷ rest) ∷ committees_after m k front (x ∷ rest))),
        )
  ]

  pub from-root : committees_below m k 0 [] ≡ increasing_lists 1 m k
  from-root =
      let all : k - 0 ≡ k = omega arith in
      map_id (increasing_lists 1 m (k - 0)) ∙ ap (increasing_lists 1 m) all
    where
      map_id : (ls : List (List ℕ)) → map (λ l. [] ++ l) ls ≡ ls
      map_id [] = refl
      map_id (l ∷ ls) = ap (λ r. l ∷ r) (map_id ls)

  -- after a start come the committees after it
  pub after-start : (start : List ℕ) → IsIncreasing 1 m start → length start ≡ k → committees_after m k [] start ≡ later_than (Some start) (increasing_lists 1 m k)
  after-start start up size =
      let long : length {A = ℕ} [] + length start ≡ k = omega (arith, size) in
      let split = start-split m 0 [] start (omega arith) long up in
      sym (later_than-at (increasing_lists 1 m k) split.0 (committees_after m k [] start) start (increasing_lists-order 1 m k) (sym from-root ∙ split.1))

  -- ---- the work that is left
  one : (n : ℕ) → 1 ≤ 3 ^ n
  one n = pow-le-pow_right {n = 3} (omega arith) (zero-least n)
    where
      zero-least : (j : ℕ) → 0 ≤ j
      zero-least j = omega arith

  pub work-past : (prefix : Prefix) (next : Option Prefix) → IsPast prefix next → work_left m next < work_left m (Some prefix)
  work-past prefix None is = omega (arith, one (m - prefix.c))
  work-past prefix (Some place) is = grind (arith, common_steps, one, sum_by, sum_by-append)

  pub work-grown : (c : ℕ) (set : List ℕ) → c < m
      → 3 ^ (m - (c + 1)) + sum_by (λ n. 3 ^ (m - n)) (set ++ (c + 1) ∷ []) < 3 ^ (m - c) + sum_by (λ n. 3 ^ (m - n)) set
  work-grown c set inside =
      let e : m - c ≡ (m - (c + 1)) + 1 = omega arith in
      let power : 3 ^ ((m - (c + 1)) + 1) ≡ 3 ^ (m - (c + 1)) * 3 ^ 1 = pow-add 3 (m - (c + 1)) 1 in
      omega (arith, ap (λ n. 3 ^ n) e, one (m - (c + 1)), sum_by-append (λ n. 3 ^ (m - n)) set ((c + 1) ∷ []))

  -- ---- values below a prefix
  module _ (value : List ℕ → ℕ) where
    pub below-bounded : (c : ℕ) (set : List ℕ) (bound : ℕ) → IsBound value m c set (k - length set) bound
        → AllByRecursion (λ s. value s ≤ bound) (committees_below m k c set)
    below-bounded c set bound law = each (increasing_lists (c + 1) m (k - length set)) (increasing_lists-chosen (c + 1) m (k - length set))
      where
        each : (lists : List (List ℕ)) → AllByRecursion (IsChosen (c + 1) m (k - length set)) lists → AllByRecursion (λ s. value s ≤ bound) (map (λ l. set ++ l) lists)
        each [] all = tt
        each (l ∷ lists) all = (law l all.0.0 all.0.1, each lists all.1)

-- ---- the last member

none-above : (c : ℕ) (set : List ℕ) → IsIncreasing (c + 1) c set → set ≡ []
none-above c [] up = refl
none-above c (x ∷ set) up = absurd (omega (arith, up.0, up.1))

pub without-last : (first c : ℕ) (set : List ℕ) → IsIncreasing first c set → has_member set c ≡ true → set ≡ without_member set c ++ c ∷ []
without-last first c [] up is = absurd (cc)
without-last first c (x ∷ set) up is = elim (cases_eq x c) [
  | inl same ↦
      let nobody : set ≡ [] = none-above c set (subst (λ y. IsIncreasing (y + 1) c set) same up.2) in
      let gone : (x == c) ≡ true = eq-eqb x c same in
      rw (gone, nobody, same)
  | inr other ↦
      let kept : (x == c) ≡ false = ne_eqb x c other in
      let inside : has_member set c ≡ true = rw kept at is in
      rw kept (ap (λ l. x ∷ l) (without-last (x + 1) c set up.2 inside))
]

pub not-last : (first c : ℕ) (set : List ℕ) → IsIncreasing first c set → has_member set c ≡ false → IsIncreasing first (c - 1) set
not-last first c [] up gone = tt
not-last first c (x ∷ set) up gone = elim (cases_eq x c) [
  | inl same ↦ let no : true ≡ false = sym (or_left (x == c) (has_member set c) (eq-eqb x c same)) ∙ gone in absurd (cc)
  | inr other ↦
      let rest : has_member set c ≡ false = rw (ne_eqb x c other) at gone in
      (up.0, omega (arith, up.1, other), not-last (x + 1) c set up.2 rest)
]

pub without-increasing : (first last : ℕ) (set : List ℕ) (n : ℕ) → IsIncreasing first last set → IsIncreasing first last (without_member set n)
without-increasing first last set n up = IsIncreasing-filter (λ x. not (x == n)) first last set up

pub none_below : (c : ℕ) (set : List ℕ) → c ≤ 0 → IsIncreasing 1 c set → set ≡ []
none_below c [] low up = refl
none_below c (x ∷ set) low up = absurd (omega (arith, up.0, up.1))

-- ---- the first place

abbrev pub prefix_at : ℕ → List ℕ → Prefix
prefix_at c set = record { c = c; set = set }

pub at_root : (m k : ℕ) (root : Prefix) → root.c ≡ 0 → root.set ≡ [] → (committees_from m k (Some root) ≡ increasing_lists 1 m k) × IsPlace m k (Some root)
at_root m k root none nobody = grind (arith, common_steps, append-nil, from-root)
