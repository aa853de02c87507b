-- Beginnings of T and of U with too few voters: no list below them has enough of them.
use Rattle.std.proofs.Common.{◌≡◌, ℕ, ◌+◌, ◌-◌, ◌<◌, ◌≤◌, ◌==◌, ◌&&◌, ◌||◌, ◌⊎◌, ◌++◌, Bool, true, false, cond, List, [], ◌∷◌, Option, Some, None, refl, sym, ap, subst, ◌∙◌, arith, inl, inr, length, map, filter, sum, not}
use Rattle.std.specs.Prelude.{find, flat_map, min, nat_le, option_map}
use Rattle.std.specs.List.{AllByRecursion, list_all, range_with_len}
use Rattle.std.specs.Option.{option_or}
use Rattle.std.proofs.lemmas.Bool.{and_from, and_parts, le-leb, lt-leb, eq-eqb, ne_eqb, cases_lt, or_right}
use Rattle.std.proofs.lemmas.Grind.{flat_map-append}
use Rattle.std.proofs.lemmas.List.Filters.{length-filter_both}
use Rattle.std.proofs.lemmas.List.Folds.{find-append, list_all-append, list_any-append}
use Rattle.std.proofs.lemmas.List.Sums.{length-filter, count_by-le-length, sum_by-cons}
use Rattle.ballot_base.specs.Lists.{IsIncreasing, increasing_lists}
use Rattle.ballot_base.specs.CandSet.{has_member, with_member, common_members, includes}
use Rattle.ballot_base.specs.Ballots.{Row, Election, IsElection}
use Rattle.ballot_base.proofs.Committees.{increasing_lists-chosen}
use Rattle.ballot_base.proofs.Increasing.{IsIncreasing-filter, has_member-filter, has_member_head}
use Rattle.group_check.specs.declared.property.Property.{Property}
use Rattle.group_check.specs.declared.property.Property.TheVariants.{Jr, Pjr, Ejr, EjrPlus}
use Rattle.group_check.specs.declared.property.Violation.{Violation}
use Rattle.group_check.specs.Report.{violation_of, fits_pair, group_of, pair_group, lists_within, lists_shared, pair_breaks, first_violation}
use Rattle.group_check.specs.Steps.Checking.{IsTail, IsChoice, IsFirst, IsSecond, shared_size, may_share, first_of, first_of_lists, pairs_of, sublists, completions, is_large, is_around, is_enough_within, voters_around}
use Rattle.ballot_base.proofs.Included.{kept_all}
use Rattle.ballot_base.proofs.ListLemmas.{AllByRecursion-weaker}
use Rattle.group_check.proofs.SetLemmas.{passes_at, length-within}
use Rattle.group_check.proofs.TestLemmas.{found_passes}
use Rattle.group_check.proofs.BreakLemmas.{any_may, large_more, pair_breaks-is}
use Rattle.group_check.proofs.CountedLemmas.{first_of-append}
use Rattle.group_check.proofs.PlaceLemmas.{kept_lists, lists_of_members, AllByRecursion-filter}
use Rattle.group_check.proofs.WalkLemmas.{IsIncreasing-rest, AllByRecursion-map, none_passes, tails, whole, split_lists, too_few_below}

-- ---- groups of which each voter of one belongs to the other

votes-weaker : (a b : Bool) (n : ℕ) → (a ≡ true → b ≡ true) → cond a n 0 ≤ cond b n 0
votes-weaker true b n h = let is : cond b n 0 ≡ n = ap (λ c. cond c n 0) (h refl) in omega (arith, is)
votes-weaker false b n h = omega arith

sum-weaker : (test other : List ℕ → Bool) (rows : List Row) → AllByRecursion (λ (row : Row). test row.0 ≡ true → other row.0 ≡ true) rows
    → sum (group_of test rows) ≤ sum (group_of other rows)
sum-weaker test other [] all = omega arith
sum-weaker test other (row ∷ rows) all =
    omega (
      arith,
      sum_by-cons (λ (x : ℕ). x) (cond (test row.0) row.1 0) (group_of test rows),
      sum_by-cons (λ (x : ℕ). x) (cond (other row.0) row.1 0) (group_of other rows),
      votes-weaker (test row.0) (other row.0) row.1 all.0,
      sum-weaker test other rows all.1,
    )

pub no_longer : (a b : Bool) → (a ≡ true → b ≡ true) → b ≡ false → a ≡ false
no_longer true b more e = let clash : true ≡ false = sym (more refl) ∙ e in cc
no_longer false b more e = refl

-- where the other group is too small, so is the one
pub too_small : (e : Election) (committee : List ℕ) (level : ℕ) (test other : List ℕ → Bool)
    → AllByRecursion (λ (row : Row). test row.0 ≡ true → other row.0 ≡ true) e.rows
    → is_large e committee level (sum (group_of other e.rows)) ≡ false → is_large e committee level (sum (group_of test e.rows)) ≡ false
too_small e committee level test other more =
    no_longer (is_large e committee level (sum (group_of test e.rows))) (is_large e committee level (sum (group_of other e.rows)))
    (large_more e committee level (sum (group_of test e.rows)) (sum (group_of other e.rows)) (sum-weaker test other e.rows more))

-- where each ballot of the one is one of the other
pub small_ballots : (e : Election) (committee : List ℕ) (level : ℕ) (test other : List ℕ → Bool) → IsElection e
    → ((ballot : List ℕ) → IsIncreasing 1 e.m ballot → test ballot ≡ true → other ballot ≡ true)
    → is_large e committee level (sum (group_of other e.rows)) ≡ false → is_large e committee level (sum (group_of test e.rows)) ≡ false
small_ballots e committee level test other valid more =
    too_small e committee level test other
    (AllByRecursion-weaker (λ (row : Row). IsIncreasing 1 e.m row.0) (λ (row : Row). test row.0 ≡ true → other row.0 ≡ true) (λ row i. more row.0 i) e.rows valid.ballots)

pub all_of : {X : Type 0} (P : X → Type 0) → ((x : X) → P x) → (xs : List X) → AllByRecursion P xs
all_of P each [] = tt
all_of P each (x ∷ xs) = (each x, all_of P each xs)

pub group_of-rows : (test other : List ℕ → Bool) (rows : List Row) → AllByRecursion (λ (row : Row). test row.0 ≡ other row.0) rows → group_of test rows ≡ group_of other rows
group_of-rows test other [] same = refl
group_of-rows test other (row ∷ rows) same =
    let more = group_of-rows test other rows same.1 in
    let here : cond (test row.0) row.1 0 ≡ cond (other row.0) row.1 0 = ap (λ b. cond b row.1 0) same.0 in
    cc

-- a pair breaks a property only where its group is large enough
pub small_pair : (property : Property) (e : Election) (committee : List ℕ) (level : ℕ) (pair : List ℕ × List ℕ)
    → is_large e committee level (sum (pair_group property e committee level pair)) ≡ false → pair_breaks property e committee level pair ≡ false
small_pair Jr e committee level pair few =
    no_longer (pair_breaks Jr e committee level pair) (is_large e committee level (sum (pair_group Jr e committee level pair)))
    (λ h. (and_parts _ _ (and_parts _ _ (and_parts _ _ h).0).1).0) few
small_pair Pjr e committee level pair few =
    no_longer (pair_breaks Pjr e committee level pair) (is_large e committee level (sum (pair_group Pjr e committee level pair)))
    (λ h. (and_parts _ _ (and_parts _ _ h).0).0) few
small_pair Ejr e committee level pair few =
    no_longer (pair_breaks Ejr e committee level pair) (is_large e committee level (sum (pair_group Ejr e committee level pair)))
    (λ h. (and_parts _ _ (and_parts _ _ h).0).0) few
small_pair EjrPlus e committee level pair few =
    no_longer (pair_breaks EjrPlus e committee level pair) (is_large e committee level (sum (pair_group EjrPlus e committee level pair)))
    (λ h. (and_parts _ _ (and_parts _ _ h).0).0) few

-- ---- beginnings of U

pub has_second : (a b : List ℕ) (n : ℕ) → has_member (a ++ b) n ≡ true → not (has_member a n) ≡ true → has_member b n ≡ true
has_second a b n h k = second (has_member a n) (has_member b n) (sym (list_any-append (λ x. x == n) a b) ∙ h) k
  where
    second : (p q : Bool) → (p || q) ≡ true → not p ≡ true → q ≡ true
    second true q h k = cc
    second false q h k = h

-- a voter whose approved members lie in U stays within what can become U
pub stays : (m : ℕ) (committee shared within pool : List ℕ) (left level : ℕ) (tail ballot : List ℕ) → IsTail 1 m pool left tail → IsIncreasing 1 m ballot
    → fits_pair Pjr committee level (shared, within ++ tail) ballot ≡ true → is_around committee shared within pool left ballot ≡ true
stays m committee shared within pool left level tail ballot is i fits =
    let approved = common_members ballot committee in
    let parts = and_parts (includes ballot shared) (includes (within ++ tail) approved) fits in
    let inside = has_member within in
    let outside = λ (n : ℕ). not (has_member within n) in
    let j : IsIncreasing 1 m approved = IsIncreasing-filter (has_member committee) 1 m ballot i in
    let rest = filter outside approved in
    let k : IsIncreasing 1 m rest = IsIncreasing-filter outside 1 m approved j in
    let in_tail : (n : ℕ) → has_member rest n ≡ true → has_member tail n ≡ true = λ n h.
    let both = and_parts (outside n) (has_member approved n) (sym (has_member-filter outside approved n) ∙ h) in
    has_second within tail n (passes_at (has_member (within ++ tail)) approved n parts.1 both.1) both.0
    in
    let in_pool : (n : ℕ) → has_member rest n ≡ true → has_member (common_members approved pool) n ≡ true = λ n h.
    let both = and_parts (outside n) (has_member approved n) (sym (has_member-filter outside approved n) ∙ h) in
    has_member-filter (has_member pool) approved n ∙ and_from (has_member pool n) (has_member approved n) (is.inside n (in_tail n h)) both.1
    in
    let few = length-within 1 m rest tail k is.increasing in_tail in
    let some = length-within 1 m rest (common_members approved pool) k (IsIncreasing-filter (has_member pool) 1 m approved j) in_pool in
    let all = length-filter_both inside outside (λ n. refl) approved in
    and_from (includes ballot shared) (nat_le (length approved) (length (common_members approved within) + min (length (common_members approved pool)) left)) parts.0
    (le-leb (length approved) (length (common_members approved within) + min (length (common_members approved pool)) left) (omega (arith, few, some, all, is.count)))

-- with nothing left to choose these voters are the group of T and U
around_whole : (committee shared within pool : List ℕ) (level left : ℕ) (ballot : List ℕ) → left ≡ 0
    → is_around committee shared within pool left ballot ≡ fits_pair Pjr committee level (shared, within) ballot
around_whole committee shared within pool level left ballot none =
    let approved = common_members ballot committee in
    let kept = length (common_members approved within) in
    let few : kept ≤ length approved = omega (arith, length-filter (has_member within) approved, count_by-le-length (has_member within) approved) in
    ap (λ b. includes ballot shared && b) (same kept (length approved) (min (length (common_members approved pool)) left) few (omega arith) ∙ kept_all (has_member within) approved)
  where
    same : (a b c : ℕ) → a ≤ b → c ≡ 0 → nat_le b (a + c) ≡ (a == b)
    same a b c h e = elim (cases_lt a b) [
      | inl less ↦ lt-leb b (a + c) (omega (arith, less, e)) ∙ sym (ne_eqb a b (λ s. omega (arith, s, less)))
      | inr more ↦ le-leb b (a + c) (omega (arith, more)) ∙ sym (eq-eqb a b (omega (arith, more, h)))
    ]

module _ (e : Election) (committee : List ℕ) (level : ℕ) (shared : List ℕ) where
  -- no U is below a beginning with too few voters
  pub none_around : (within pool : List ℕ) (left : ℕ) → IsElection e → IsIncreasing 1 e.m (within ++ pool)
      → is_large e committee level (sum (voters_around e committee shared within pool left)) ≡ false
      → None ≡ find (is_enough_within e committee level shared) (completions within pool left)
  none_around within pool left valid i few =
      sym (none_passes (is_enough_within e committee level shared) (completions within pool left)
      (AllByRecursion-map (λ u. is_enough_within e committee level shared u ≡ false) (λ rest. within ++ rest) (sublists pool left)
      (AllByRecursion-weaker (IsTail 1 e.m pool left) (λ rest. is_enough_within e committee level shared (within ++ rest) ≡ false)
      (λ rest is. small_ballots e committee level (fits_pair Pjr committee level (shared, within ++ rest)) (is_around committee shared within pool left) valid
      (λ ballot j h. stays e.m committee shared within pool left level rest ballot is j h) few)
      (sublists pool left) (tails 1 e.m pool left (IsIncreasing-rest 1 e.m within pool i)))))

  -- and none where the pool is too small
  pub none_from_pool : (within pool : List ℕ) (left : ℕ) → length pool < left → None ≡ find (is_enough_within e committee level shared) (completions within pool left)
  none_from_pool within pool left h = ap (find (is_enough_within e committee level shared)) (sym (too_few_below within pool left h))

  pub found_whole : (within pool : List ℕ) (left : ℕ) → left ≡ 0
      → is_large e committee level (sum (voters_around e committee shared within pool left)) ≡ true
      → Some within ≡ find (is_enough_within e committee level shared) (completions within pool left)
  found_whole within pool left none large =
      let around = is_around committee shared within pool left in
      let fits = fits_pair Pjr committee level (shared, within) in
      let same = group_of-rows around fits e.rows
      (all_of (λ (row : Row). around row.0 ≡ fits row.0) (λ row. around_whole committee shared within pool level left row.0 none) e.rows) in
      let enough : is_enough_within e committee level shared within ≡ true = ap (λ group. is_large e committee level (sum group)) (sym same) ∙ large in
      ap (λ b. cond b (Some within) None) (sym enough) ∙ ap (find (is_enough_within e committee level shared)) (sym (whole within pool left none))

  pub find_split : (within : List ℕ) (x : ℕ) (rest : List ℕ) (left : ℕ) → IsIncreasing 1 e.m (within ++ x ∷ rest) → (left ≡ 0 → ⊥)
      → option_or (find (is_enough_within e committee level shared) (completions (with_member within x) rest (left - 1))) (find (is_enough_within e committee level shared) (completions within rest left))
      ≡ find (is_enough_within e committee level shared) (completions within (x ∷ rest) left)
  find_split within x rest left i some =
      sym (ap (find (is_enough_within e committee level shared)) (split_lists e.m within x rest left i some)
      ∙ find-append (is_enough_within e committee level shared) (completions (with_member within x) rest (left - 1)) (completions within rest left))

-- ---- beginnings of T

module _ (property : Property) (e : Election) (committee : List ℕ) (level : ℕ) where
  pub no_pair : (shared : List ℕ) (lists : List (List ℕ)) → AllByRecursion (λ within. pair_breaks property e committee level (shared, within) ≡ false) lists
      → None ≡ first_of property e committee level (pairs_of shared lists)
  no_pair shared [] all = refl
  no_pair shared (within ∷ lists) all =
      rw all.0 (no_pair shared lists all.1)

module _ {X : Type 0} where
  -- where no item is found, none passes
  pub none_found : (p : X → Bool) (xs : List X) → find p xs ≡ None → AllByRecursion (λ x. p x ≡ false) xs
  none_found p [] h = tt
  none_found p (x ∷ xs) h = cases (p x) refl (λ later. none_found p xs later) h
    where
      cases : (b : Bool) → p x ≡ b → (find p xs ≡ None → AllByRecursion (λ y. p y ≡ false) xs) → cond b (Some x) (find p xs) ≡ None → (p x ≡ false) × AllByRecursion (λ y. p y ≡ false) xs
      cases true e more h = cc
      cases false e more h = (e, more h)

  found_holds : (P : X → Type 0) (p : X → Bool) (xs : List X) (x : X) → AllByRecursion P xs → find p xs ≡ Some x → P x
  found_holds P p [] x all h = cc
  found_holds P p (y ∷ ys) x all h = cases (p y) (λ later. found_holds P p ys x all.1 later) h
    where
      cases : (b : Bool) → (find p ys ≡ Some x → P x) → cond b (Some y) (find p ys) ≡ Some x → P x
      cases true more h = let same : y ≡ x = cc in subst P same all.0
      cases false more h = more h

-- a set that does not pass as a whole has a member that does not
pub fails_at : (p : ℕ → Bool) (set : List ℕ) → list_all p set ≡ false → (n : ℕ) × (has_member set n ≡ true) × (p n ≡ false)
fails_at p [] h = cc
fails_at p (x ∷ xs) h = cases (p x) refl (λ k. fails_at p xs k) h
  where
    cases : (b : Bool) → p x ≡ b → (list_all p xs ≡ false → (n : ℕ) × (has_member xs n ≡ true) × (p n ≡ false)) → (b && list_all p xs) ≡ false
        → (n : ℕ) × (has_member (x ∷ xs) n ≡ true) × (p n ≡ false)
    cases true e more h = let later = more h in (later.0, or_right (x == later.0) (has_member xs later.0) later.1, later.2)
    cases false e more h = (x, has_member_head x xs, e)

pub seconds_fit : (property : Property) (m : ℕ) (committee : List ℕ) (level : ℕ) → AllByRecursion (IsSecond property m level) (lists_within property m committee level)
seconds_fit Jr m committee level = (tt, tt)
seconds_fit Pjr m committee level =
    AllByRecursion-filter (IsChoice m (level - 1)) (includes committee) (increasing_lists 1 m (level - 1)) (increasing_lists-chosen 1 m (level - 1))
seconds_fit Ejr m committee level = (tt, tt)
seconds_fit EjrPlus m committee level = (tt, tt)

pub same_lists_of : (lists : List (List ℕ)) → map (λ rest. [] ++ rest) lists ≡ lists
same_lists_of [] = refl
same_lists_of (list ∷ lists) = ap (λ ls. list ∷ ls) (same_lists_of lists)

second_fails : (a b : Bool) → (a && b) ≡ false → a ≡ true → b ≡ false
second_fails true b h k = h
second_fails false b h k = cc

all_kept : (lists : List (List ℕ)) → lists ≡ filter (list_all (λ (c : ℕ). true)) lists
all_kept [] = refl
all_kept (list ∷ lists) = let here = any_may list in rw here (ap (λ ls. list ∷ ls) (all_kept lists))

-- the lists T of a level are those all of whose candidates can stand in one
pub lists_shared-is : (property : Property) (m : ℕ) (committee : List ℕ) (level : ℕ)
    → lists_shared property m committee level ≡ filter (list_all (may_share property committee)) (increasing_lists 1 m (shared_size property level))
lists_shared-is Jr m committee level = all_kept (increasing_lists 1 m level)
lists_shared-is Pjr m committee level = all_kept (increasing_lists 1 m level)
lists_shared-is Ejr m committee level = all_kept (increasing_lists 1 m level)
lists_shared-is EjrPlus m committee level = refl

-- from the start, the lists below are all of them
pub below_nothing : (m size : ℕ) (committee : List ℕ) → IsIncreasing 1 m committee
    → completions [] committee size ≡ filter (includes committee) (increasing_lists 1 m size)
below_nothing m size committee i = same_lists_of (sublists committee size) ∙ sym (lists_of_members m size committee i)

module _ (property : Property) (e : Election) (committee : List ℕ) (level : ℕ) where
  pub lists_step : (shared : List ℕ) (lists : List (List ℕ))
      → first_of_lists property e committee level (shared ∷ lists)
      ≡ option_or (first_of property e committee level (pairs_of shared (lists_within property e.m committee level))) (first_of_lists property e committee level lists)
  lists_step shared lists =
      first_of-append property e committee level (pairs_of shared (lists_within property e.m committee level))
      (flat_map (λ first. pairs_of first (lists_within property e.m committee level)) lists)

  pub no_lists : (lists : List (List ℕ))
      → AllByRecursion (λ shared. None ≡ first_of property e committee level (pairs_of shared (lists_within property e.m committee level))) lists
      → None ≡ first_of_lists property e committee level lists
  no_lists [] all = refl
  no_lists (shared ∷ lists) all =
      no_lists lists all.1
      ∙ ap (λ o. option_or o (first_of_lists property e committee level lists)) all.0
      ∙ sym (lists_step shared lists)

  pub none_from_few : (front pool : List ℕ) (left : ℕ) → length pool < left → None ≡ first_of_lists property e committee level (completions front pool left)
  none_from_few front pool left h = ap (first_of_lists property e committee level) (sym (too_few_below front pool left h))

  or_none : (o : Option Violation) → option_or o None ≡ o
  or_none None = refl
  or_none (Some x) = refl

  -- with nothing left to choose there is one T
  pub first_whole : (front pool : List ℕ) (left : ℕ) → left ≡ 0
      → first_of property e committee level (pairs_of front (lists_within property e.m committee level)) ≡ first_of_lists property e committee level (completions front pool left)
  first_whole front pool left none =
      sym (or_none (first_of property e committee level (pairs_of front (lists_within property e.m committee level))))
      ∙ sym (lists_step front [])
      ∙ ap (first_of_lists property e committee level) (sym (whole front pool left none))

  append_lists : (lists more : List (List ℕ)) → option_or (first_of_lists property e committee level lists) (first_of_lists property e committee level more) ≡ first_of_lists property e committee level (lists ++ more)
  append_lists lists more =
      let f = λ (shared : List ℕ). pairs_of shared (lists_within property e.m committee level) in
      sym (ap (first_of property e committee level) (flat_map-append f lists more) ∙ first_of-append property e committee level (flat_map f lists) (flat_map f more))

  pub first_split : (front : List ℕ) (x : ℕ) (rest : List ℕ) (left : ℕ) → IsIncreasing 1 e.m (front ++ x ∷ rest) → (left ≡ 0 → ⊥)
      → option_or (first_of_lists property e committee level (completions (with_member front x) rest (left - 1))) (first_of_lists property e committee level (completions front rest left))
      ≡ first_of_lists property e committee level (completions front (x ∷ rest) left)
  first_split front x rest left i some =
      append_lists (completions (with_member front x) rest (left - 1)) (completions front rest left)
      ∙ ap (first_of_lists property e committee level) (sym (split_lists e.m front x rest left i some))

  -- from the start, the lists below are all of them
  pub from_nothing : first_of_lists property e committee level (completions [] (filter (may_share property committee) (range_with_len 1 e.m)) (shared_size property level)) ≡ first_violation property e committee level
  from_nothing =
      let may = may_share property committee in
      let size = shared_size property level in
      let count : e.m + 1 - 1 ≡ e.m = omega arith in
      ap (first_of_lists property e committee level)
      (same_lists_of (sublists (filter may (range_with_len 1 e.m)) size)
      ∙ ap (λ n. sublists (filter may (range_with_len 1 n)) size) (sym count)
      ∙ sym (kept_lists may (e.m + 1 - 1) 1 size)
      ∙ sym (lists_shared-is property e.m committee level))

-- ---- the lists U beside one T

module _ (e : Election) (committee : List ℕ) (level : ℕ) where
  -- where no list U has enough voters beside T, no pair with this T breaks the property
  pub none_beside : (shared : List ℕ) → IsIncreasing 1 e.m committee
      → find (is_enough_within e committee level shared) (completions [] committee (level - 1)) ≡ None
      → None ≡ first_of Pjr e committee level (pairs_of shared (lists_within Pjr e.m committee level))
  none_beside shared i none =
      no_pair Pjr e committee level shared (lists_within Pjr e.m committee level)
      (AllByRecursion-weaker (λ within. is_enough_within e committee level shared within ≡ false) (λ within. pair_breaks Pjr e committee level (shared, within) ≡ false)
      (λ within few. small_pair Pjr e committee level (shared, within) few) (lists_within Pjr e.m committee level)
      (none_found (is_enough_within e committee level shared) (lists_within Pjr e.m committee level)
      (ap (find (is_enough_within e committee level shared)) (sym (below_nothing e.m (level - 1) committee i)) ∙ none)))

  -- the first U with enough voters is that of the first pair
  pairs_beside : (shared : List ℕ) (lists : List (List ℕ)) → AllByRecursion (λ within. pair_breaks Pjr e committee level (shared, within) ≡ is_enough_within e committee level shared within) lists
      → find (pair_breaks Pjr e committee level) (pairs_of shared lists) ≡ option_map (λ within. (shared, within)) (find (is_enough_within e committee level shared) lists)
  pairs_beside shared [] all = refl
  pairs_beside shared (within ∷ lists) all =
      let more = pairs_beside shared lists all.1 in
      rw all.0 (cases (is_enough_within e committee level shared within) more)
    where
      cases : (b : Bool) → find (pair_breaks Pjr e committee level) (pairs_of shared lists) ≡ option_map (λ u. (shared, u)) (find (is_enough_within e committee level shared) lists)
          → cond b (Some (shared, within)) (find (pair_breaks Pjr e committee level) (pairs_of shared lists)) ≡ option_map (λ u. (shared, u)) (cond b (Some within) (find (is_enough_within e committee level shared) lists))
      cases true more = refl
      cases false more = more

  pub second_beside : (shared within : List ℕ) → IsIncreasing 1 e.m committee
      → find (is_enough_within e committee level shared) (completions [] committee (level - 1)) ≡ Some within → IsSecond Pjr e.m level within
  second_beside shared within i found =
      found_holds (IsSecond Pjr e.m level) (is_enough_within e committee level shared) (lists_within Pjr e.m committee level) within (seconds_fit Pjr e.m committee level)
      (ap (find (is_enough_within e committee level shared)) (sym (below_nothing e.m (level - 1) committee i)) ∙ found)

  pub first_beside : (shared within : List ℕ) → IsIncreasing 1 e.m committee → 1 ≤ level → level ≤ length committee → IsFirst Pjr e.m committee level shared
      → find (is_enough_within e committee level shared) (completions [] committee (level - 1)) ≡ Some within
      → first_of Pjr e committee level ((shared, within) ∷ []) ≡ first_of Pjr e committee level (pairs_of shared (lists_within Pjr e.m committee level))
  first_beside shared within i least most choice found =
      let seconds = lists_within Pjr e.m committee level in
      let suits = is_enough_within e committee level shared in
      let found' : find suits seconds ≡ Some within = ap (find suits) (sym (below_nothing e.m (level - 1) committee i)) ∙ found in
      let second = second_beside shared within i found in
      let is = λ (u : List ℕ) (s : IsSecond Pjr e.m level u). pair_breaks-is Pjr e committee level shared u i least most choice s in
      let here : suits within ≡ true = found_passes suits seconds within found' in
      let one : find suits (within ∷ []) ≡ Some within = ap (λ b. cond b (Some within) None) here in
      ap (option_map (violation_of Pjr e committee level))
      (pairs_beside shared (within ∷ []) (is within second, tt)
      ∙ ap (option_map (λ u. (shared, u))) (one ∙ sym found')
      ∙ sym (pairs_beside shared seconds
      (AllByRecursion-weaker (IsSecond Pjr e.m level) (λ u. pair_breaks Pjr e committee level (shared, u) ≡ suits u) is seconds (seconds_fit Pjr e.m committee level))))

-- ---- candidates that may be shared

kept_same : (set : List ℕ) → set ≡ filter (λ (c : ℕ). true) set
kept_same [] = refl
kept_same (x ∷ xs) = ap (λ s. x ∷ s) (kept_same xs)

-- all, but for EJR+
pub all_may : (property : Property) (committee set : List ℕ) → (property ≡ Jr) ⊎ ((property ≡ Pjr) ⊎ (property ≡ Ejr)) → set ≡ filter (may_share property committee) set
all_may Jr committee set is = kept_same set
all_may Pjr committee set is = kept_same set
all_may Ejr committee set is = kept_same set
all_may EjrPlus committee set (inl jr) = cc
all_may EjrPlus committee set (inr (inl pjr)) = cc
all_may EjrPlus committee set (inr (inr ejr)) = cc

-- a list all of whose candidates can stand in T, with one left out
pub share_without : (p : ℕ → Bool) (front : List ℕ) (x : ℕ) (rest : List ℕ) → list_all p (front ++ x ∷ rest) ≡ true → list_all p (front ++ rest) ≡ true
share_without p [] x rest h = (and_parts (p x) (list_all p rest) h).1
share_without p (y ∷ ys) x rest h =
    let parts = and_parts (p y) (list_all p (ys ++ x ∷ rest)) h in
    and_from (p y) (list_all p (ys ++ rest)) parts.0 (share_without p ys x rest parts.1)

pub share_front : (p : ℕ → Bool) (front rest : List ℕ) → list_all p (front ++ rest) ≡ true → list_all p front ≡ true
share_front p front rest h = (and_parts (list_all p front) (list_all p rest) (sym (list_all-append p front rest) ∙ h)).0
