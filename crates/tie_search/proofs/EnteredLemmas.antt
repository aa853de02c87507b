-- How many sets are entered on the ways down to winners.
use Rattle.std.proofs.lemmas.Grind.{common_steps}
use Rattle.std.proofs.Common.{◌≡◌, ℕ, zero, suc, ◌+◌, ◌*◌, ◌^◌, ◌-◌, ◌<◌, ◌≤◌, ◌||◌, ◌∙◌, Bool, true, List, [], ◌∷◌, ◌++◌, refl, sym, ap, subst, arith, get_or, drop, length, length-append, filter, map, take, Contains}
use Rattle.std.specs.Prelude.{sum_by}
use Rattle.std.specs.List.{range_with_len}
use Rattle.std.specs.Str.{bytes_eq}
use Rattle.std.proofs.lemmas.Nat.{pow-add, pow_pos}
use Rattle.std.proofs.lemmas.List.{length-map}
use Rattle.std.proofs.lemmas.List.Folds.{list_any-append}
use Rattle.std.proofs.lemmas.List.FromFn.{length-range_with_len}
use Rattle.std.proofs.lemmas.List.Sums.{count_by-le-length, length-filter, sum_by-cons}
use Rattle.std.proofs.lemmas.Slice.Eq.{bytes_eq-Decides}
use Rattle.std.proofs.Math.Seq.{take-append_seam}
use Rattle.ballot_base.specs.Lists.{IsIncreasing, increasing_lists, lists_of}
use Rattle.ballot_base.proofs.Committees.{chosen-from_contains, increasing_lists-contains, increasing_lists-order}
use Rattle.ballot_base.proofs.ListLemmas.{Contains-later}
use Rattle.ballot_base.proofs.Sums.{sum-most}
use Rattle.tie_search.specs.Asked.{beginnings, begins_some}
use Rattle.tie_search.specs.Steps.Branches.{IsBarren, IsBranch, IsStep, IsWinnerOf, entries, longer_beginnings, winners_of}
use Rattle.row_multipliers.specs.declared.node.Node.{Node}
use Rattle.tie_search.proofs.BranchLemmas.{branch-node, grown-size, joined, passed, with-begins, with-branch, without-begins}
use Rattle.tie_search.proofs.ReachLemmas.{any-found, any-true}
use Rattle.tie_search.proofs.StackLemmas.{found-step, inside-from, joined-winners, no-winners, none-kept, one-kept, one-winner, same-step, two-step, wins-from}

-- ---- committees that begin with a list

begins-from : (committees : List (List ℕ)) (front committee : List ℕ) → Contains committees committee → take (length front) committee ≡ front → begins_some committees front ≡ true
begins-from committees front committee inside is =
    any-true (λ c. bytes_eq (take (length front) c) front) committees committee inside ((bytes_eq-Decides (take (length front) committee) front).1 is)

begins-found : (committees : List (List ℕ)) (front : List ℕ) → begins_some committees front ≡ true → (committee : List ℕ) × Contains committees committee × (take (length front) committee ≡ front)
begins-found committees front some =
    let at = any-found (λ c. bytes_eq (take (length front) c) front) committees some in
    (at.0, at.1, (bytes_eq-Decides (take (length front) at.0) front).0 at.2)

-- two that go on in different ways begin with no list that is so long
same-next : (set more rest front : List ℕ) (n y : ℕ) → length set < length front → take (length front) (set ++ n ∷ more) ≡ front → take (length front) (set ++ y ∷ rest) ≡ front → n ≡ y
same-next set more rest [] n y long one other = absurd (omega (arith, long))
same-next [] more rest (x ∷ front) n y long one other = ap (λ l. get_or l 0 0) (one ∙ sym other)
same-next (z ∷ set) more rest (x ∷ front) n y long one other =
    same-next set more rest front n y (omega (arith, long)) (ap (λ l. drop 1 l) one) (ap (λ l. drop 1 l) other)

-- ---- how many lists begin some of the committees

sum-parts : (f g h : ℕ → ℕ) (a n : ℕ) → ((s : ℕ) → a ≤ s → f s ≡ g s + h s) → sum_by f (range_with_len a n) ≡ sum_by g (range_with_len a n) + sum_by h (range_with_len a n)
sum-parts f g h a zero same = refl
sum-parts f g h a (suc n) same = grind (arith, common_steps, sum_by-cons, same a (omega arith), sum-parts f g h (a + 1) n (λ s low. same s (omega (arith, low))))

both-kept : (p q r : List ℕ → Bool) (xs : List (List ℕ)) → ((x : List ℕ) → p x ≡ (q x || r x)) → ((x : List ℕ) → Contains xs x → q x ≡ true → r x ≡ true → ⊥)
    → length (filter p xs) ≡ length (filter q xs) + length (filter r xs)
both-kept p q r [] same apart = refl
both-kept p q r (x ∷ xs) same apart =
    grind (arith, common_steps, both-kept p q r xs same (λ y c. apart y (Contains-later x y xs c)), same x, apart x (0, omega arith, refl))

-- there are not too many lists
lists-most : (count first size : ℕ) → length (lists_of count first size) ≤ 2 ^ count
unfolding lists_of
lists-most count first zero = pow_pos count
lists-most zero first (suc size) = omega arith
lists-most (suc count) first (suc size) =
    omega (
      arith,
      length-append (map (λ rest. first ∷ rest) (lists_of count (first + 1) size)) (lists_of count (first + 1) (suc size)),
      length-map {B = List ℕ} (lists_of count (first + 1) size) (λ rest. first ∷ rest),
      lists-most count (first + 1) size,
      lists-most count (first + 1) (suc size),
      pow-add 2 count 1,
    )

module _ (m k : ℕ) where
  pub beginnings-most : (committees : List (List ℕ)) → beginnings m k committees ≤ k * 2 ^ m
  beginnings-most committees =
      subst (λ n. beginnings m k committees ≤ n * 2 ^ m) (length-range_with_len 1 k)
      (sum-most (λ s. length (filter (begins_some committees) (increasing_lists 1 m s))) (2 ^ m) (range_with_len 1 k) (λ s.
      let all = increasing_lists 1 m s in
      let most : length all ≤ 2 ^ m = subst (λ n. length all ≤ 2 ^ n) (omega arith) (lists-most (m + 1 - 1) 1 s) in
      omega (arith, most, length-filter (begins_some committees) all, count_by-le-length (begins_some committees) all)))

  -- those longer than the empty list are all
  pub longer-all : (committees : List (List ℕ)) → longer_beginnings m k 0 committees ≡ beginnings m k committees
  longer-all committees = let e : k - 0 ≡ k = omega arith in
      ap (λ n. sum_by (λ s. length (filter (begins_some committees) (increasing_lists 1 m s))) (range_with_len 1 n)) e

  -- the shortest of them
  longer-next : (size : ℕ) (committees : List (List ℕ)) → size < k
      → longer_beginnings m k size committees ≡ length (filter (begins_some committees) (increasing_lists 1 m (size + 1))) + longer_beginnings m k (size + 1) committees
  longer-next size committees less =
      let f : ℕ → ℕ = λ s. length (filter (begins_some committees) (increasing_lists 1 m s)) in
      let e : k - size ≡ suc (k - (size + 1)) = omega (arith, less) in
      ap (λ n. sum_by f (range_with_len (size + 1) n)) e ∙ sum_by-cons f (size + 1) (range_with_len (size + 1 + 1) (k - (size + 1)))

  pub longer-less : (size : ℕ) (committees : List (List ℕ)) → size < k → longer_beginnings m k (size + 1) committees ≤ longer_beginnings m k size committees
  longer-less size committees less = omega (arith, longer-next size committees less)

  longer-one : (size : ℕ) (committees : List (List ℕ)) (one : List ℕ) → size < k → IsIncreasing 1 m one → length one ≡ size + 1 → begins_some committees one ≡ true
      → ((front : List ℕ) → length front ≡ size + 1 → begins_some committees front ≡ true → front ≡ one)
      → longer_beginnings m k size committees ≡ longer_beginnings m k (size + 1) committees + 1
  longer-one size committees one less up long some only =
      omega (
        arith,
        longer-next size committees less,
        ap (λ (l : List (List ℕ)). length l) (one-kept (begins_some committees) one (increasing_lists 1 m (size + 1)) (increasing_lists-order 1 m (size + 1)) (increasing_lists-contains 1 m (size + 1) one (up, long)) some
            (λ x c. only x (chosen-from_contains 1 m (size + 1) x c).1)),
      )

  -- no list that is longer than a set begins two committees that go on from the set in different ways
  pub longer-apart : (set : List ℕ) (n : ℕ) (xs ys : List (List ℕ)) → ((x : List ℕ) → Contains xs x → (more : List ℕ) × (x ≡ set ++ n ∷ more))
      → ((y : List ℕ) → Contains ys y → (z : ℕ) × (more : List ℕ) × (y ≡ set ++ z ∷ more) × (n < z))
      → longer_beginnings m k (length set) (xs ++ ys) ≡ longer_beginnings m k (length set) xs + longer_beginnings m k (length set) ys
  longer-apart set n xs ys one other =
      sum-parts (λ s. length (filter (begins_some (xs ++ ys)) (increasing_lists 1 m s))) (λ s. length (filter (begins_some xs) (increasing_lists 1 m s))) (λ s. length (filter (begins_some ys) (increasing_lists 1 m s)))
      (length set + 1) (k - length set)
      (λ s low. both-kept (begins_some (xs ++ ys)) (begins_some xs) (begins_some ys) (increasing_lists 1 m s)
      (λ front. list_any-append (λ c. bytes_eq (take (length front) c) front) xs ys)
      (λ front c begin begins.
      let x = begins-found xs front begin in
      let y = begins-found ys front begins in
      let from-x = one x.0 x.1 in
      let from-y = other y.0 y.1 in
      let same = same-next set from-x.0 from-y.1 front n from-y.0 (omega (arith, low, (chosen-from_contains 1 m s front c).1)) (rw from-x.1 at x.2) (rw from-y.2 at y.2) in
      omega (arith, same, from-y.3)))

  longer-none : (size : ℕ) → longer_beginnings m k size [] ≡ 0
  longer-none size =
      let range = range_with_len (size + 1) (k - size) in
      let most : longer_beginnings m k size [] ≤ length range * 0 =
      sum-most (λ s. length (filter (begins_some []) (increasing_lists 1 m s))) 0 range (λ s. omega (arith, ap (λ (l : List (List ℕ)). length l) (none-kept (begins_some []) (increasing_lists 1 m s) (λ x c some. cc)))) in
      omega (arith, most)

  longer-last : (committees : List (List ℕ)) → longer_beginnings m k k committees ≡ 0
  longer-last committees = let e : k - k ≡ 0 = omega arith in
      ap (λ n. sum_by (λ s. length (filter (begins_some committees) (increasing_lists 1 m s))) (range_with_len (k + 1) n)) e

-- ---- the steps

module _ (value : List ℕ → ℕ) (m k : ℕ) (branches : List Node) (branch : Node) (entered : ℕ) where
  -- a branch that no winner completes
  pub barren-step : IsBarren value m k branch → IsStep value m k (branches ++ branch ∷ []) entered [] branches entered
  unfolding entries
  barren-step none =
      let are = no-winners value m k branch none in
      found-step value m k branches branch entered [] are (ap (longer_beginnings m k (length branch.set)) are ∙ longer-none m k (length branch.set))

  -- a winner that was found
  pub whole-step : (committee : List ℕ) → IsBranch m k branch → branch.left ≡ 0 → IsWinnerOf value m k branch committee → IsStep value m k (branches ++ branch ∷ []) entered (branch.set ∷ []) branches entered
  unfolding entries
  whole-step committee is long wins =
      found-step value m k branches branch entered (branch.set ∷ []) (one-winner value m k branch committee is long wins)
      (ap (λ size. longer_beginnings m k size (winners_of value m k branch)) (omega (arith, is.size, long)) ∙ longer-last m k (winners_of value m k branch))

  -- candidates leave
  pub left-step : (other : Node) → other.set ≡ branch.set → winners_of value m k branch ≡ winners_of value m k other → IsStep value m k (branches ++ branch ∷ []) entered [] (branches ++ other ∷ []) entered
  unfolding entries
  left-step other same are =
      same-step value m k branches branch entered other are
      (ap (longer_beginnings m k (length branch.set)) are ∙ ap (λ (set : List ℕ). longer_beginnings m k (length set) (winners_of value m k other)) (sym same))

  -- a candidate joins
  module _ (is : IsBranch m k branch) (short : 1 ≤ branch.left) (next : ℕ) (rest : List ℕ) (first : branch.free ≡ next ∷ rest) where
    abbrev one : Node
    one = joined branch next rest

    abbrev other : Node
    other = passed branch rest

    pub joined-step : (committee : List ℕ) → IsWinnerOf value m k one committee → IsStep value m k (branches ++ branch ∷ []) entered [] ((branches ++ other ∷ []) ++ one ∷ []) (entered + 1)
    unfolding entries
    joined-step committee wins =
        let size = grown-size value m k branch is short next rest first in
        let are = joined-winners value m k branch is short next rest first in
        let up = (branch-node m k one (with-branch value m k branch is short next rest first)).set_within in
        two-step value m k branches branch entered one other are
        (omega (
          arith,
          ap (longer_beginnings m k (length branch.set)) are,
          longer-apart m k branch.set next (winners_of value m k one) (winners_of value m k other)
              (λ x c. let all = with-begins value m k branch is short next rest first x (wins-from value m k one x c) in (all.0, all.2))
              (λ x c. without-begins value m k branch is short next rest first x (wins-from value m k other x c)),
          longer-one m k (length branch.set) (winners_of value m k one) one.set (omega (arith, is.size, short)) up size (begins committee wins)
              (λ front long some. let x = begins-found (winners_of value m k one) front some in
              sym x.2 ∙ (ap (λ n. take n x.0) (long ∙ sym size) ∙ start x.0 (wins-from value m k one x.0 x.1))),
          ap (λ n. longer_beginnings m k n (winners_of value m k one)) size,
        ))
      where
        start : (committee : List ℕ) → IsWinnerOf value m k one committee → take (length one.set) committee ≡ one.set
        start committee wins =
            let all = with-begins value m k branch is short next rest first committee wins in
            ap (take (length one.set)) all.1 ∙ take-append_seam one.set all.0

        begins : (committee : List ℕ) → IsWinnerOf value m k one committee → begins_some (winners_of value m k one) one.set ≡ true
        begins committee wins = begins-from (winners_of value m k one) one.set committee (inside-from value m k one committee wins) (start committee wins)
