-- Lists with a clone in the place of a candidate that was tried: they find nothing where those with the candidate found
-- nothing.
use Rattle.std.proofs.Common.{◌≡◌, ℕ, zero, suc, ◌+◌, ◌-◌, ◌≤◌, ◌==◌, ◌&&◌, ◌||◌, ◌++◌, Bool, true, false, cond, List, [], ◌∷◌, Option, Some, None, refl, sym, ap, subst, ◌∙◌, arith, length, map, filter, not}
use Rattle.std.specs.Prelude.{find, option_map, ⊤}
use Rattle.std.specs.List.{AllByRecursion, list_all}
use Rattle.std.specs.Option.{option_or}
use Rattle.std.proofs.lemmas.Bool.{and_from, and_parts, not-false, or_parts, ne_eqb, or_right}
use Rattle.std.proofs.lemmas.List.{append_assoc}
use Rattle.std.proofs.lemmas.List.Sums.{length-filter, count_by-le-length}
use Rattle.std.proofs.lemmas.List.Elements.{filter-append}
use Rattle.ballot_base.specs.Lists.{IsIncreasing}
use Rattle.ballot_base.specs.CandSet.{has_member, with_member, common_members, other_members, includes}
use Rattle.ballot_base.specs.Ballots.{Row, Election}
use Rattle.ballot_base.specs.Clones.{are_clones, clones_among}
use Rattle.ballot_base.proofs.CloneLemmas.{clones-same, clones_among-are}
use Rattle.ballot_base.proofs.Increasing.{IsIncreasing-filter, has_member-below, has_member-filter, has_member_tail}
use Rattle.ballot_base.proofs.ListLemmas.{AllByRecursion-append, AllByRecursion-weaker}
use Rattle.group_check.specs.declared.property.Property.{Property}
use Rattle.group_check.specs.declared.property.Property.TheVariants.{Jr, Pjr, Ejr, EjrPlus}
use Rattle.group_check.specs.declared.property.Violation.{Violation}
use Rattle.group_check.specs.Groups.{breaks}
use Rattle.group_check.specs.Report.{violation_of, fits_pair, lists_within, pair_breaks}
use Rattle.group_check.specs.Steps.Checking.{first_of, first_of_lists, pairs_of, sublists, completions, is_enough_within}
use Rattle.group_check.proofs.SetLemmas.{all_pass, or_mono, passes_at}
use Rattle.group_check.proofs.TestLemmas.{list_all-weaker}
use Rattle.group_check.proofs.PlaceLemmas.{sublists-empty, front_kept, front_dropped}
use Rattle.group_check.proofs.WalkLemmas.{AllByRecursion-map, at_least, with_member-end}
use Rattle.group_check.proofs.BeginningLemmas.{all_of, group_of-rows, lists_step, none_found, too_small}

module _ {X : Type 0} where
  all_parts : (P : X → Type 0) (xs ys : List X) → AllByRecursion P (xs ++ ys) → AllByRecursion P xs × AllByRecursion P ys
  all_parts P [] ys h = (tt, h)
  all_parts P (x ∷ xs) ys h = let more = all_parts P xs ys h.1 in ((h.0, more.0), more.1)

  both_weaker : (P Q R : X → Type 0) → ((x : X) → P x → Q x → R x) → (xs : List X) → AllByRecursion P xs → AllByRecursion Q xs → AllByRecursion R xs
  both_weaker P Q R more [] h k = tt
  both_weaker P Q R more (x ∷ xs) h k = (more x h.0 k.0, both_weaker P Q R more xs h.1 k.1)

all_mapped : {X Y : Type 0} (P : Y → Type 0) (f : X → Y) (xs : List X) → AllByRecursion P (map f xs) → AllByRecursion (λ x. P (f x)) xs
all_mapped P f [] h = tt
all_mapped P f (x ∷ xs) h = (h.0, all_mapped P f xs h.1)

-- ---- the lists of a pool whose items all pass

pub sublists-kept : (p : ℕ → Bool) (pool : List ℕ) (size : ℕ) → filter (list_all p) (sublists pool size) ≡ sublists (filter p pool) size
sublists-kept p [] zero = refl
sublists-kept p (x ∷ xs) zero = sublists-empty (filter p (x ∷ xs))
sublists-kept p [] (suc size) = refl
sublists-kept p (x ∷ xs) (suc size) =
    filter-append (list_all p) (map (λ rest. x ∷ rest) (sublists xs size)) (sublists xs (suc size))
    ∙ cases (p x) refl (sublists-kept p xs size) (sublists-kept p xs (suc size))
  where
    cases : (b : Bool) → p x ≡ b
        → filter (list_all p) (sublists xs size) ≡ sublists (filter p xs) size
        → filter (list_all p) (sublists xs (suc size)) ≡ sublists (filter p xs) (suc size)
        → filter (list_all p) (map (λ rest. x ∷ rest) (sublists xs size)) ++ filter (list_all p) (sublists xs (suc size))
        ≡ sublists (cond b (x ∷ filter p xs) (filter p xs)) (suc size)
    cases true e with_it without_it = rw (front_kept p x e (sublists xs size), with_it, without_it) refl
    cases false e with_it without_it = rw (front_dropped p x e (sublists xs size), without_it) refl

-- the lists of fewer items are among those of the pool
shorter : (P : List ℕ → Type 0) (y : ℕ) (ys : List ℕ) (size : ℕ) → AllByRecursion P (sublists (y ∷ ys) size) → AllByRecursion P (sublists ys size)
shorter P y ys zero h = subst (AllByRecursion P) (sublists-empty ys) h
shorter P y ys (suc size) h = (all_parts P (map (λ rest. y ∷ rest) (sublists ys size)) (sublists ys (suc size)) h).1

-- ---- one item for another

-- Misses are the lists that find nothing, and an item that does not stay is a clone of x.
module _ (Misses Fits : List ℕ → Type 0) (x : ℕ) (stays : ℕ → Bool)
    (lose : (front : List ℕ) (y : ℕ) (rest : List ℕ) → Fits (front ++ y ∷ rest) → Fits (front ++ rest))
    (swap : (front : List ℕ) (y : ℕ) (rest : List ℕ) → Misses (front ++ x ∷ y ∷ rest) → Misses (front ++ y ∷ x ∷ rest))
    (exchange : (front : List ℕ) (y : ℕ) (rest : List ℕ) → stays y ≡ false → Fits (front ++ y ∷ rest) → Misses (front ++ x ∷ rest) → Misses (front ++ y ∷ rest)) where
  fits-front : (front pool : List ℕ) → Fits (front ++ pool) → Fits (front ++ [])
  fits-front front [] f = f
  fits-front front (y ∷ ys) f = fits-front front ys (lose front y ys f)

  fits-lists : (front pool : List ℕ) (size : ℕ) → Fits (front ++ pool) → AllByRecursion (λ rest. Fits (front ++ rest)) (sublists pool size)
  fits-lists front [] zero f = (f, tt)
  fits-lists front (y ∷ ys) zero f = (fits-front front (y ∷ ys) f, tt)
  fits-lists front [] (suc size) f = tt
  fits-lists front (y ∷ ys) (suc size) f =
      AllByRecursion-append (λ rest. Fits (front ++ rest)) (map (λ rest. y ∷ rest) (sublists ys size)) (sublists ys (suc size))
      (AllByRecursion-map (λ rest. Fits (front ++ rest)) (λ rest. y ∷ rest) (sublists ys size)
      (AllByRecursion-weaker (λ rest. Fits ((front ++ y ∷ []) ++ rest)) (λ rest. Fits (front ++ y ∷ rest)) (λ rest h. subst Fits (append_assoc front (y ∷ []) rest) h)
      (sublists ys size) (fits-lists (front ++ y ∷ []) ys size (subst Fits (sym (append_assoc front (y ∷ []) ys)) f))))
      (fits-lists front ys (suc size) (lose front y ys f))

  abbrev MissesWith : List ℕ → List ℕ → Type 0
  MissesWith front rest = Misses (front ++ x ∷ rest)

  abbrev MissesLost : List ℕ → List ℕ → Type 0
  MissesLost front rest = list_all stays rest ≡ false → Misses (front ++ rest)

  -- the lists with an item that stays
  with_kept : (front : List ℕ) (y : ℕ) (ys : List ℕ) (size : ℕ) → stays y ≡ true → AllByRecursion (MissesWith front) (sublists (y ∷ ys) size)
      → ((n : ℕ) → AllByRecursion (MissesWith (front ++ y ∷ [])) (sublists ys n) → AllByRecursion (MissesLost (front ++ y ∷ [])) (sublists ys (suc n)))
      → AllByRecursion (λ rest. MissesLost front (y ∷ rest)) (sublists ys size)
  with_kept front y ys zero is h later =
      subst (AllByRecursion (λ rest. MissesLost front (y ∷ rest))) (sublists-empty ys) ((λ e. let clash : true ≡ false = ap (λ b. b && true) (sym is) ∙ e in cc), tt)
  with_kept front y ys (suc n) is h later =
      let first = all_mapped (MissesWith front) (λ rest. y ∷ rest) (sublists ys n) (all_parts (MissesWith front) (map (λ rest. y ∷ rest) (sublists ys n)) (sublists ys (suc n)) h).0 in
      let moved = AllByRecursion-weaker (λ rest. MissesWith front (y ∷ rest)) (MissesWith (front ++ y ∷ []))
      (λ rest k. subst Misses (sym (append_assoc front (y ∷ []) (x ∷ rest))) (swap front y rest k)) (sublists ys n) first in
      AllByRecursion-weaker (MissesLost (front ++ y ∷ [])) (λ rest. MissesLost front (y ∷ rest))
      (λ rest k e. subst Misses (append_assoc front (y ∷ []) rest) (k (ap (λ b. b && list_all stays rest) (sym is) ∙ e))) (sublists ys (suc n)) (later n moved)

  -- where no list with x misses nothing, no list with an item in its place finds any
  pub lists-lost : (front pool : List ℕ) (size : ℕ) → Fits (front ++ pool) → AllByRecursion (MissesWith front) (sublists pool size)
      → AllByRecursion (MissesLost front) (sublists pool (suc size))
  lists-lost front [] size f h = tt
  lists-lost front (y ∷ ys) size f h =
      let next : Fits ((front ++ y ∷ []) ++ ys) = subst Fits (sym (append_assoc front (y ∷ []) ys)) f in
      let fewer = shorter (MissesWith front) y ys size h in
      AllByRecursion-append (MissesLost front) (map (λ rest. y ∷ rest) (sublists ys size)) (sublists ys (suc size))
      (AllByRecursion-map (MissesLost front) (λ rest. y ∷ rest) (sublists ys size)
      (cases (stays y) refl next fewer (λ n k. lists-lost (front ++ y ∷ []) ys n next k)))
      (lists-lost front ys size (lose front y ys f) fewer)
    where
      cases : (b : Bool) → stays y ≡ b → Fits ((front ++ y ∷ []) ++ ys) → AllByRecursion (MissesWith front) (sublists ys size)
          → ((n : ℕ) → AllByRecursion (MissesWith (front ++ y ∷ [])) (sublists ys n) → AllByRecursion (MissesLost (front ++ y ∷ [])) (sublists ys (suc n)))
          → AllByRecursion (λ rest. MissesLost front (y ∷ rest)) (sublists ys size)
      cases true is next fewer later = with_kept front y ys size is h later
      cases false is next fewer later =
          both_weaker (λ rest. Fits ((front ++ y ∷ []) ++ rest)) (MissesWith front) (λ rest. MissesLost front (y ∷ rest))
          (λ rest g k e. exchange front y rest is (subst Fits (append_assoc front (y ∷ []) rest) g) k) (sublists ys size)
          (fits-lists (front ++ y ∷ []) ys size next) fewer

-- ---- tests of lists with one item for another

all_swapped : (p : ℕ → Bool) (front : List ℕ) (x y : ℕ) (rest : List ℕ) → list_all p (front ++ x ∷ y ∷ rest) ≡ list_all p (front ++ y ∷ x ∷ rest)
all_swapped p [] x y rest = both (p x) (p y)
  where
    both : (a b : Bool) → (a && (b && list_all p rest)) ≡ (b && (a && list_all p rest))
    both true true = refl
    both true false = refl
    both false true = refl
    both false false = refl
all_swapped p (z ∷ zs) x y rest = ap (λ b. p z && b) (all_swapped p zs x y rest)

all_exchanged : (p : ℕ → Bool) (front : List ℕ) (x y : ℕ) (rest : List ℕ) → p x ≡ p y → list_all p (front ++ x ∷ rest) ≡ list_all p (front ++ y ∷ rest)
all_exchanged p [] x y rest same = ap (λ b. b && list_all p rest) same
all_exchanged p (z ∷ zs) x y rest same = ap (λ b. p z && b) (all_exchanged p zs x y rest same)

-- who leaves with its class is a clone
class_clone : (m : ℕ) (rows : List Row) (clones : List ℕ) (x : ℕ) → clones ≡ clones_among m rows x → (y : ℕ) → not (has_member clones y) ≡ false → are_clones rows x y ≡ true
class_clone m rows clones x is y gone = clones_among-are m rows x y (sym (ap (λ set. has_member set y) is) ∙ not-false (has_member clones y) gone)

-- ---- lists T

-- the same rows approve all of both
abbrev SameRows : List Row → List ℕ → List ℕ → Type 0
SameRows rows shared other = AllByRecursion (λ (row : Row). includes row.0 shared ≡ includes row.0 other) rows

fits-same : (property : Property) (committee : List ℕ) (level : ℕ) (shared other within ballot : List ℕ) → includes ballot shared ≡ includes ballot other
    → fits_pair property committee level (shared, within) ballot ≡ fits_pair property committee level (other, within) ballot
fits-same Jr committee level shared other within ballot h = ap (λ b. b && fits_pair Jr committee level ([], within) ballot) h
fits-same Pjr committee level shared other within ballot h = ap (λ b. b && fits_pair Pjr committee level ([], within) ballot) h
fits-same Ejr committee level shared other within ballot h = ap (λ b. b && fits_pair Ejr committee level ([], within) ballot) h
fits-same EjrPlus committee level shared other within ballot h = ap (λ b. b && fits_pair EjrPlus committee level ([], within) ballot) h

module _ (property : Property) (e : Election) (committee : List ℕ) (level : ℕ) where
  breaks-same : (shared other within : List ℕ) → SameRows e.rows shared other
      → pair_breaks property e committee level (shared, within) ≡ pair_breaks property e committee level (other, within)
  breaks-same shared other within same =
      ap (breaks property e committee level)
      (group_of-rows (fits_pair property committee level (shared, within)) (fits_pair property committee level (other, within)) e.rows
      (AllByRecursion-weaker (λ (row : Row). includes row.0 shared ≡ includes row.0 other)
      (λ (row : Row). fits_pair property committee level (shared, within) row.0 ≡ fits_pair property committee level (other, within) row.0)
      (λ row h. fits-same property committee level shared other within row.0 h) e.rows same))

  none-same : (shared other : List ℕ) → SameRows e.rows shared other → (lists : List (List ℕ))
      → None ≡ first_of property e committee level (pairs_of shared lists) → None ≡ first_of property e committee level (pairs_of other lists)
  none-same shared other same [] h = refl
  none-same shared other same (within ∷ lists) h =
      cases (pair_breaks property e committee level (shared, within)) (pair_breaks property e committee level (other, within)) (breaks-same shared other within same)
      (λ k. none-same shared other same lists k) h
    where
      cases : (a b : Bool) → a ≡ b
          → (None ≡ first_of property e committee level (pairs_of shared lists) → None ≡ first_of property e committee level (pairs_of other lists))
          → None ≡ option_map (violation_of property e committee level) (cond a (Some (shared, within)) (find (pair_breaks property e committee level) (pairs_of shared lists)))
          → None ≡ option_map (violation_of property e committee level) (cond b (Some (other, within)) (find (pair_breaks property e committee level) (pairs_of other lists)))
      cases true b is more h = cc
      cases false true is more h = cc
      cases false false is more h = more h

  -- T finds nothing
  abbrev Misses : List ℕ → Type 0
  Misses shared = None ≡ first_of property e committee level (pairs_of shared (lists_within property e.m committee level))

  misses-same : (shared other : List ℕ) → SameRows e.rows shared other → Misses shared → Misses other
  misses-same shared other same h = none-same shared other same (lists_within property e.m committee level) h

  all_miss : (lists : List (List ℕ)) → None ≡ first_of_lists property e committee level lists → AllByRecursion Misses lists
  all_miss [] h = tt
  all_miss (shared ∷ lists) h =
      let parts = both (first_of property e committee level (pairs_of shared (lists_within property e.m committee level))) (first_of_lists property e committee level lists)
      (h ∙ lists_step property e committee level shared lists) in
      (parts.0, all_miss lists parts.1)
    where
      both : (a b : Option Violation) → None ≡ option_or a b → (None ≡ a) × (None ≡ b)
      both None b h = (refl, h)
      both (Some v) b h = cc

  -- lists that find nothing may be left out
  left_out : (front : List ℕ) (p : List ℕ → Bool) (lists : List (List ℕ)) → AllByRecursion (λ rest. p rest ≡ false → Misses (front ++ rest)) lists
      → first_of_lists property e committee level (map (λ rest. front ++ rest) (filter p lists)) ≡ first_of_lists property e committee level (map (λ rest. front ++ rest) lists)
  left_out front p [] h = refl
  left_out front p (list ∷ lists) h = cases (p list) refl (left_out front p lists h.1)
    where
      here : Option Violation
      here = first_of property e committee level (pairs_of (front ++ list) (lists_within property e.m committee level))

      cases : (b : Bool) → p list ≡ b
          → first_of_lists property e committee level (map (λ rest. front ++ rest) (filter p lists)) ≡ first_of_lists property e committee level (map (λ rest. front ++ rest) lists)
          → first_of_lists property e committee level (map (λ rest. front ++ rest) (cond b (list ∷ filter p lists) (filter p lists)))
          ≡ first_of_lists property e committee level (map (λ rest. front ++ rest) (list ∷ lists))
      cases true is more =
          lists_step property e committee level (front ++ list) (map (λ rest. front ++ rest) (filter p lists))
          ∙ ap (option_or here) more
          ∙ sym (lists_step property e committee level (front ++ list) (map (λ rest. front ++ rest) lists))
      cases false is more =
          more
          ∙ ap (λ o. option_or o (first_of_lists property e committee level (map (λ rest. front ++ rest) lists))) (h.0 is)
          ∙ sym (lists_step property e committee level (front ++ list) (map (λ rest. front ++ rest) lists))

  -- where the lists with a candidate find nothing, those with a clone of it in its place need not be tried
  pub clones_out : (front : List ℕ) (x : ℕ) (rest clones : List ℕ) (left : ℕ) → IsIncreasing 1 e.m (front ++ x ∷ rest) → (left ≡ 0 → ⊥) → clones ≡ clones_among e.m e.rows x
      → None ≡ first_of_lists property e committee level (completions (with_member front x) rest (left - 1))
      → first_of_lists property e committee level (completions front (other_members rest clones) left) ≡ first_of_lists property e committee level (completions front rest left)
  clones_out front x rest clones zero i some is none = absurd (some refl)
  clones_out front x rest clones (suc size) i some is none =
      let one : suc size - 1 ≡ size = omega arith in
      let stays = λ (n : ℕ). not (has_member clones n) in
      let more = with_member front x in
      let tried = all_mapped Misses (λ list. more ++ list) (sublists rest size) (all_miss (completions more rest size) (none ∙ ap (λ n. first_of_lists property e committee level (completions more rest n)) one)) in
      let with_x = AllByRecursion-weaker (λ list. Misses (more ++ list)) (λ list. Misses (front ++ x ∷ list))
      (λ list h. subst Misses (ap (λ set. set ++ list) (with_member-end 1 e.m front x rest i) ∙ append_assoc front (x ∷ []) list) h) (sublists rest size) tried in
      let lost = lists-lost Misses (λ list. ⊤) x stays (λ before y after f. tt)
      (λ before y after h. misses-same (before ++ x ∷ y ∷ after) (before ++ y ∷ x ∷ after) (all_of (λ (row : Row). includes row.0 (before ++ x ∷ y ∷ after) ≡ includes row.0 (before ++ y ∷ x ∷ after))
      (λ row. all_swapped (has_member row.0) before x y after) e.rows) h)
      (λ before y after k f h. misses-same (before ++ x ∷ after) (before ++ y ∷ after)
      (AllByRecursion-weaker (λ (row : Row). has_member row.0 x ≡ has_member row.0 y) (λ (row : Row). includes row.0 (before ++ x ∷ after) ≡ includes row.0 (before ++ y ∷ after))
      (λ row same. all_exchanged (has_member row.0) before x y after same) e.rows (clones-same e.rows x y (class_clone e.m e.rows clones x is y k))) h)
      front rest size tt with_x in
      ap (λ lists. first_of_lists property e committee level (map (λ list. front ++ list) lists)) (sym (sublists-kept stays rest (suc size)))
      ∙ left_out front (list_all stays) (sublists rest (suc size)) lost

-- ---- lists U

-- who is in a list with y, and is not y, is in the list with x in its place
member_exchanged : (front : List ℕ) (y x : ℕ) (rest : List ℕ) (n : ℕ) → (y ≡ n → ⊥) → has_member (front ++ y ∷ rest) n ≡ true → has_member (front ++ x ∷ rest) n ≡ true
member_exchanged [] y x rest n other h = or_right (x == n) (has_member rest n) (sym (has_member_tail y n rest other) ∙ h)
member_exchanged (z ∷ zs) y x rest n other h =
    or_mono (z == n) (has_member (zs ++ y ∷ rest) n) (has_member (zs ++ x ∷ rest) n) (λ k. member_exchanged zs y x rest n other k) h

member_swapped : (front : List ℕ) (x y : ℕ) (rest : List ℕ) (n : ℕ) → has_member (front ++ y ∷ x ∷ rest) n ≡ true → has_member (front ++ x ∷ y ∷ rest) n ≡ true
member_swapped [] x y rest n h = both (y == n) (x == n) (has_member rest n) h
  where
    both : (a b c : Bool) → (a || (b || c)) ≡ true → (b || (a || c)) ≡ true
    both true true c h = refl
    both true false c h = refl
    both false true c h = refl
    both false false c h = h
member_swapped (z ∷ zs) x y rest n h =
    or_mono (z == n) (has_member (zs ++ y ∷ x ∷ rest) n) (has_member (zs ++ x ∷ y ∷ rest) n) (λ k. member_swapped zs x y rest n k) h

absent-without : (front : List ℕ) (y : ℕ) (rest : List ℕ) (x : ℕ) → has_member (front ++ y ∷ rest) x ≡ false → has_member (front ++ rest) x ≡ false
absent-without [] y rest x h = (or_parts (y == x) (has_member rest x) h).1
absent-without (z ∷ zs) y rest x h = later (z == x) (has_member (zs ++ y ∷ rest) x) (has_member (zs ++ rest) x) (λ k. absent-without zs y rest x k) h
  where
    later : (a b c : Bool) → (b ≡ false → c ≡ false) → (a || b) ≡ false → (a || c) ≡ false
    later true b c more h = h
    later false b c more h = more h

-- an item stands once in an increasing list
absent : (first last : ℕ) (front : List ℕ) (x : ℕ) (rest : List ℕ) → IsIncreasing first last (front ++ x ∷ rest) → has_member (front ++ rest) x ≡ false
absent first last [] x rest i = has_member-below (x + 1) last rest x i.2 (omega arith)
absent first last (z ∷ zs) x rest i =
    let above = at_least (z + 1) last zs x rest i.2 in
    ap (λ b. b || has_member (zs ++ rest) x) (ne_eqb z x (λ same. omega (arith, above, same))) ∙ absent (z + 1) last zs x rest i.2

-- a list that takes a clone of x and not x itself fits no voter of theirs, so it fits no more than the one with x
fits_exchanged : (committee ballot : List ℕ) (front : List ℕ) (y x : ℕ) (rest : List ℕ) → has_member committee x ≡ true → has_member (front ++ y ∷ rest) x ≡ false
    → has_member ballot x ≡ has_member ballot y → includes (front ++ y ∷ rest) (common_members ballot committee) ≡ true
    → includes (front ++ x ∷ rest) (common_members ballot committee) ≡ true
fits_exchanged committee ballot front y x rest member out same fits =
    all_pass (has_member (front ++ x ∷ rest)) approved (λ n h.
    member_exchanged front y x rest n (λ here. never (sym (approves n h) ∙ ap (has_member ballot) (sym here) ∙ sym same ∙ (not_x (has_member ballot x) refl)))
    (passes_at (has_member (front ++ y ∷ rest)) approved n fits h))
  where
    approved : List ℕ
    approved = common_members ballot committee

    never : true ≡ false → ⊥
    never k = cc

    approves : (n : ℕ) → has_member approved n ≡ true → has_member ballot n ≡ true
    approves n h = (and_parts (has_member committee n) (has_member ballot n) (sym (has_member-filter (has_member committee) ballot n) ∙ h)).1

    not_x : (b : Bool) → has_member ballot x ≡ b → has_member ballot x ≡ false
    not_x true is =
        let here : has_member approved x ≡ true = has_member-filter (has_member committee) ballot x ∙ and_from (has_member committee x) (has_member ballot x) member is in
        absurd (never (sym (passes_at (has_member (front ++ y ∷ rest)) approved x fits here) ∙ out))
    not_x false is = is

module _ {X : Type 0} where
  -- items that do not pass may be left out
  find_left_out : {Y : Type 0} (suits : Y → Bool) (f : X → Y) (p : X → Bool) (xs : List X) → AllByRecursion (λ x. p x ≡ false → suits (f x) ≡ false) xs
      → find suits (map f (filter p xs)) ≡ find suits (map f xs)
  find_left_out suits f p [] h = refl
  find_left_out suits f p (x ∷ xs) h = cases (p x) refl (find_left_out suits f p xs h.1)
    where
      cases : (b : Bool) → p x ≡ b → find suits (map f (filter p xs)) ≡ find suits (map f xs) → find suits (map f (cond b (x ∷ filter p xs) (filter p xs))) ≡ find suits (map f (x ∷ xs))
      cases true is more = ap (λ o. cond (suits (f x)) (Some (f x)) o) more
      cases false is more = more ∙ ap (λ b. cond b (Some (f x)) (find suits (map f xs))) (sym (h.0 is))

module _ (e : Election) (committee : List ℕ) (level : ℕ) (shared : List ℕ) where
  abbrev Small : List ℕ → Type 0
  Small within = is_enough_within e committee level shared within ≡ false

  small_where : (within other : List ℕ)
      → AllByRecursion (λ (row : Row). includes other (common_members row.0 committee) ≡ true → includes within (common_members row.0 committee) ≡ true) e.rows
      → Small within → Small other
  small_where within other more =
      too_small e committee level (fits_pair Pjr committee level (shared, other)) (fits_pair Pjr committee level (shared, within))
      (AllByRecursion-weaker (λ (row : Row). includes other (common_members row.0 committee) ≡ true → includes within (common_members row.0 committee) ≡ true)
      (λ (row : Row). fits_pair Pjr committee level (shared, other) row.0 ≡ true → fits_pair Pjr committee level (shared, within) row.0 ≡ true)
      (λ row h fits.
      let parts = and_parts (includes row.0 shared) (includes other (common_members row.0 committee)) fits in
      and_from (includes row.0 shared) (includes within (common_members row.0 committee)) parts.0 (h parts.1)) e.rows more)

  -- where the lists U with a member have too few voters, those with a clone of it in its place need not be tried
  pub members_out : (within : List ℕ) (x : ℕ) (rest clones : List ℕ) (left : ℕ) → IsIncreasing 1 e.m (within ++ x ∷ rest) → (left ≡ 0 → ⊥) → has_member committee x ≡ true
      → clones ≡ clones_among e.m e.rows x
      → None ≡ find (is_enough_within e committee level shared) (completions (with_member within x) rest (left - 1))
      → find (is_enough_within e committee level shared) (completions within (other_members rest clones) left) ≡ find (is_enough_within e committee level shared) (completions within rest left)
  members_out within x rest clones zero i some member is none = absurd (some refl)
  members_out within x rest clones (suc size) i some member is none =
      let one : suc size - 1 ≡ size = omega arith in
      let suits = is_enough_within e committee level shared in
      let stays = λ (n : ℕ). not (has_member clones n) in
      let more = with_member within x in
      let tried = all_mapped Small (λ list. more ++ list) (sublists rest size)
      (none_found suits (completions more rest size) (sym (none ∙ ap (λ n. find suits (completions more rest n)) one))) in
      let with_x = AllByRecursion-weaker (λ list. Small (more ++ list)) (λ list. Small (within ++ x ∷ list))
      (λ list h. subst Small (ap (λ set. set ++ list) (with_member-end 1 e.m within x rest i) ∙ append_assoc within (x ∷ []) list) h) (sublists rest size) tried in
      let lost = lists-lost Small (λ list. has_member list x ≡ false) x stays (λ before y after f. absent-without before y after x f)
      (λ before y after h. small_where (before ++ x ∷ y ∷ after) (before ++ y ∷ x ∷ after)
      (all_of (λ (row : Row). includes (before ++ y ∷ x ∷ after) (common_members row.0 committee) ≡ true → includes (before ++ x ∷ y ∷ after) (common_members row.0 committee) ≡ true)
      (λ row k. list_all-weaker (has_member (before ++ y ∷ x ∷ after)) (has_member (before ++ x ∷ y ∷ after)) (λ n. member_swapped before x y after n) (common_members row.0 committee) k) e.rows) h)
      (λ before y after k f h. small_where (before ++ x ∷ after) (before ++ y ∷ after)
      (AllByRecursion-weaker (λ (row : Row). has_member row.0 x ≡ has_member row.0 y)
      (λ (row : Row). includes (before ++ y ∷ after) (common_members row.0 committee) ≡ true → includes (before ++ x ∷ after) (common_members row.0 committee) ≡ true)
      (λ row same. fits_exchanged committee row.0 before y x after member f same) e.rows (clones-same e.rows x y (class_clone e.m e.rows clones x is y k))) h)
      within rest size (absent 1 e.m within x rest i) with_x in
      ap (λ lists. find suits (map (λ list. within ++ list) lists)) (sym (sublists-kept stays rest (suc size)))
      ∙ find_left_out suits (λ list. within ++ list) (list_all stays) (sublists rest (suc size)) lost

-- ---- the pool that is left

pub order-kept : (p : ℕ → Bool) (first last : ℕ) (front rest : List ℕ) → IsIncreasing first last (front ++ rest) → IsIncreasing first last (front ++ filter p rest)
order-kept p first last [] rest i = IsIncreasing-filter p first last rest i
order-kept p first last (y ∷ ys) rest i = (i.0, i.1, order-kept p (y + 1) last ys rest i.2)

pub share-kept : (may p : ℕ → Bool) (front rest : List ℕ) → list_all may (front ++ rest) ≡ true → list_all may (front ++ filter p rest) ≡ true
share-kept may p [] [] h = refl
share-kept may p [] (x ∷ xs) h =
    let parts = and_parts (may x) (list_all may xs) h in
    let more = share-kept may p [] xs parts.1 in
    elim (p x) as (λ b. list_all may (cond b (x ∷ filter p xs) (filter p xs)) ≡ true) [ true ↦ and_from (may x) (list_all may (filter p xs)) parts.0 more | false ↦ more ]
share-kept may p (y ∷ ys) rest h =
    let parts = and_parts (may y) (list_all may (ys ++ rest)) h in
    and_from (may y) (list_all may (ys ++ filter p rest)) parts.0 (share-kept may p ys rest parts.1)

pub length-kept : (p : ℕ → Bool) (xs : List ℕ) → length (filter p xs) ≤ length xs
length-kept p xs = omega (arith, length-filter p xs, count_by-le-length p xs)
