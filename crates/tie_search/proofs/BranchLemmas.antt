-- One branch: the committees that complete it, and who leaves with a candidate.
use Rattle.std.proofs.lemmas.Grind.{common_steps}
use Rattle.std.proofs.Common.{◌≡◌, ℕ, ◌+◌, ◌-◌, ◌<◌, ◌≤◌, ◌==◌, ◌||◌, ◌∙◌, Bool, true, false, append_assoc, not, List, [], ◌∷◌, ◌++◌, Option, None, Some, refl, sym, ap, subst, arith, inl, inr, length, length-append, filter}
use Rattle.std.specs.Cmp.{both_ways}
use Rattle.std.proofs.lemmas.Bool.{and_from, and_parts, or_left, or_right, cases_Bool, cases_lt, eq-eqb, ne_eqb}
use Rattle.std.specs.Prelude.{MatchOption, slice_index_or}
use Rattle.ballot_base.specs.Lists.{IsIncreasing}
use Rattle.ballot_base.specs.CandSet.{either_members, has_member, includes, other_members, with_member, without_member}
use Rattle.ballot_base.proofs.Committees.{increasing_lists-contains, length-increasing}
use Rattle.ballot_base.proofs.Included.{all-at, all-from}
use Rattle.ballot_base.proofs.Increasing.{IsIncreasing-either, IsIncreasing-filter, IsIncreasing-higher, IsIncreasing-lower, IsIncreasing-push, has_member-above, has_member-either, has_member_head, same_increasing, with_member-above}
use Rattle.tie_walk.specs.Winners.{best_value}
use Rattle.tie_walk.proofs.LawLemmas.{no_greater_value}
use Rattle.tie_search.specs.Alike.{AreAlike}
use Rattle.row_multipliers.specs.Completions.{IsCompletion, IsNode, IsOutOfReach, IsReaching}
use Rattle.tie_search.specs.Tied.{IsBest}
use Rattle.tie_search.specs.Steps.Branches.{IsAnswer, IsBarren, IsBranch, IsWinnerOf, completes}
use Rattle.row_multipliers.specs.declared.node.Node.{Node}
use Rattle.tie_search.proofs.CloneLemmas.{clones-left, minus-is}
use Rattle.row_multipliers.proofs.CompletionLemmas.{added, added-free, added-size, completion-back, completion-few, completion-members, completion-self, completion-whole, completion-with, completion-without, member-high, member-low, or-more}
use Rattle.tie_search.proofs.ReachLemmas.{increasing-append}

-- the branch after a candidate has joined its set
abbrev pub joined : Node → ℕ → List ℕ → Node
joined branch next rest = record { set = with_member branch.set next; free = rest; left = branch.left - 1 }

-- the branch after candidates have left
abbrev pub passed : Node → List ℕ → Node
passed branch rest = record { set = branch.set; free = rest; left = branch.left }

pub branch-node : (m k : ℕ) (branch : Node) → IsBranch m k branch → IsNode m branch.set branch.free
branch-node m k branch is = record {
  set_within = IsIncreasing-higher 1 is.last m branch.set is.within is.set_upto;
  free_within = IsIncreasing-lower 1 (is.last + 1) m branch.free (omega arith) is.free_after;
  apart = λ n here. has_member-above 1 is.last branch.set n is.set_upto (let low : is.last + 1 ≤ n = member-low (is.last + 1) m branch.free n is.free_after here in omega arith);
}

-- what completes the set completes the branch
pub completes-from : (m : ℕ) (branch : Node) (committee : List ℕ) → IsCompletion m branch.set branch.free branch.left committee → completes branch committee ≡ true
completes-from m branch committee whole =
    and_from (includes committee branch.set) (includes (either_members branch.set branch.free) committee)
    (all-from (has_member committee) branch.set (λ n here. whole.whole n here))
    (all-from (has_member (either_members branch.set branch.free)) committee (λ n here. has_member-either branch.set branch.free n ∙ whole.within n here))

-- it does so as well if more are free
completes-wider : (branch : Node) (free committee : List ℕ) → ((n : ℕ) → has_member free n ≡ true → has_member branch.free n ≡ true)
    → completes (passed branch free) committee ≡ true → completes branch committee ≡ true
completes-wider branch free committee among whole =
    let either = either_members branch.set branch.free in
    let parts = and_parts (includes committee branch.set) (includes (either_members branch.set free) committee) whole in
    and_from (includes committee branch.set) (includes either committee) parts.0
    (all-from (has_member either) committee (λ n here. has_member-either branch.set branch.free n
    ∙ or-more (has_member branch.set n) (has_member free n) (has_member branch.free n) (among n)
    (sym (has_member-either branch.set free n) ∙ all-at (has_member (either_members branch.set free)) committee n parts.1 here)))

includes-through : (all some few : List ℕ) → includes all some ≡ true → includes some few ≡ true → includes all few ≡ true
includes-through all some few outer inner = all-from (has_member all) few (λ n here. all-at (has_member all) some n outer (all-at (has_member some) few n inner here))

-- what completes a branch within another completes the other
pub completes-within : (branch inner : Node) → includes inner.set branch.set ≡ true → includes (either_members branch.set branch.free) (either_members inner.set inner.free) ≡ true
    → (committee : List ℕ) → completes inner committee ≡ true → completes branch committee ≡ true
completes-within branch inner sets all committee whole =
    let parts = and_parts (includes committee inner.set) (includes (either_members inner.set inner.free) committee) whole in
    and_from (includes committee branch.set) (includes (either_members branch.set branch.free) committee) (includes-through committee inner.set branch.set parts.0 sets)
    (includes-through (either_members branch.set branch.free) (either_members inner.set inner.free) committee all parts.1)

-- no member is past the candidates
pub completes-up : (m k : ℕ) (branch : Node) (committee : List ℕ) (last : ℕ) → IsBranch m k branch → IsIncreasing 1 last committee → completes branch committee ≡ true → IsIncreasing 1 m committee
completes-up m k branch committee last is up whole = narrower 1 committee up (λ n here. member-high 1 m either n either-up (all-at (has_member either) committee n inside here))
  where
    either : List ℕ
    either = either_members branch.set branch.free

    either-up : IsIncreasing 1 m either
    either-up =
        let node = branch-node m k branch is in
        IsIncreasing-either 1 m branch.set branch.free node.set_within node.free_within

    inside : includes either committee ≡ true
    inside = (and_parts (includes committee branch.set) (includes either committee) whole).1

    narrower : (low : ℕ) (xs : List ℕ) → IsIncreasing low last xs → ((n : ℕ) → has_member xs n ≡ true → n ≤ m) → IsIncreasing low m xs
    narrower low [] up high = tt
    narrower low (x ∷ xs) up high = (up.0, high x (has_member_head x xs), narrower (x + 1) xs up.2 (λ n here. high n (or_right (x == n) (has_member xs n) here)))

-- a committee of at least the highest value has it
pub best-from : (value : List ℕ → ℕ) (m k : ℕ) (committee : List ℕ) → IsIncreasing 1 m committee → length committee ≡ k → best_value value m k ≤ value committee → IsBest value m k committee
best-from value m k committee up size reaches = record {
  candidates = up;
  size = size;
  best = omega (arith, reaches, no_greater_value value m k committee (increasing_lists-contains 1 m k committee (up, size)));
}

module _ (value : List ℕ → ℕ) (m k : ℕ) (branch : Node) (is : IsBranch m k branch) where
  -- a winner completes the branch exactly if it completes its set
  pub completion-from : (committee : List ℕ) → IsWinnerOf value m k branch committee → IsCompletion m branch.set branch.free branch.left committee
  completion-from committee wins =
      let either = either_members branch.set branch.free in
      let parts = and_parts (includes committee branch.set) (includes either committee) wins.whole in
      record {
        candidates = wins.best.candidates;
        whole = λ n here. all-at (has_member committee) branch.set n parts.0 here;
        within = λ n here. sym (has_member-either branch.set branch.free n) ∙ all-at (has_member either) committee n parts.1 here;
        size = omega (arith, is.size, wins.best.size);
      }

  pub winner-from : (committee : List ℕ) → IsCompletion m branch.set branch.free branch.left committee → best_value value m k ≤ value committee → IsWinnerOf value m k branch committee
  winner-from committee whole reaches = record {
    best = best-from value m k committee whole.candidates (omega (arith, is.size, whole.size)) reaches;
    whole = completes-from m branch committee whole;
  }

  -- so what a search finds is a winner
  pub found-answer : (answer : Option (List ℕ))
      → MatchOption answer (IsOutOfReach value m branch.set branch.free branch.left (best_value value m k)) (IsReaching value m branch.set branch.free branch.left (best_value value m k))
      → IsAnswer value m k branch answer
  found-answer None none = λ committee wins. let under : value committee < best_value value m k = none committee (completion-from committee wins) in omega (arith, under, wins.best.best)
  found-answer (Some committee) found = winner-from committee found.completes found.reaches

  -- a winner is the set and free candidates after its members
  pub added-later : (committee : List ℕ) → IsWinnerOf value m k branch committee
      → (more : List ℕ) × (committee ≡ branch.set ++ more) × (length more ≡ branch.left) × ((n : ℕ) → has_member more n ≡ true → has_member branch.free n ≡ true)
  added-later committee wins =
      let node = branch-node m k branch is in
      let done = completion-from committee wins in
      let more = added m branch.set branch.free branch.left committee node done in
      let rises : IsIncreasing (is.last + 1) m more = IsIncreasing-filter (has_member committee) (is.last + 1) m branch.free is.free_after in (
        more,
        same_increasing 1 m committee (branch.set ++ more) wins.best.candidates (increasing-append 1 is.last m branch.set more (omega arith) is.within is.set_upto rises)
            (completion-members m branch.set branch.free branch.left committee node done),
        added-size m branch.set branch.free branch.left committee node done,
        added-free m branch.set branch.free branch.left committee node done,
      )

  -- with the first of those candidates, if there is one
  pub goes-on : (committee : List ℕ) → 1 ≤ branch.left → IsWinnerOf value m k branch committee
      → (n : ℕ) × (more : List ℕ) × (committee ≡ branch.set ++ n ∷ more) × (has_member branch.free n ≡ true)
  goes-on committee short wins = let all = added-later committee wins in by all.0 all.1 all.2 all.3
    where
      by : (more : List ℕ) → committee ≡ branch.set ++ more → length more ≡ branch.left → ((n : ℕ) → has_member more n ≡ true → has_member branch.free n ≡ true)
          → (n : ℕ) × (more : List ℕ) × (committee ≡ branch.set ++ n ∷ more) × (has_member branch.free n ≡ true)
      by [] made many free = absurd (omega (arith, many, short))
      by (n ∷ more) made many free = (n, more, made, free n (has_member_head n more))

  -- a set of k that a winner completes is the winner
  pub whole-is : (committee : List ℕ) → branch.left ≡ 0 → IsWinnerOf value m k branch committee → committee ≡ branch.set
  whole-is committee long wins =
      completion-whole m branch.set branch.free branch.left committee (branch-node m k branch is) (completion-from committee wins) long

  -- it is one if it is worth enough
  pub whole-winner : branch.left ≡ 0 → best_value value m k ≤ value branch.set → IsWinnerOf value m k branch branch.set
  whole-winner long reaches = winner-from branch.set (rw long (completion-self m branch.set branch.free (branch-node m k branch is))) reaches

  pub whole-barren : branch.left ≡ 0 → value branch.set < best_value value m k → IsBarren value m k branch
  whole-barren long under committee wins = omega (arith, under, ap value (whole-is committee long wins), wins.best.best)

  -- too few are free
  pub few-barren : length branch.free < branch.left → IsBarren value m k branch
  few-barren few committee wins =
      let enough = completion-few m branch.set branch.free branch.left committee (branch-node m k branch is) (completion-from committee wins) in
      omega (arith, enough, few)

  -- no more candidates are free than there are
  pub free-most : length branch.free ≤ m
  free-most = omega (arith, length-increasing (is.last + 1) m branch.free is.free_after, is.within)

-- ---- the first free candidate

module _ (value : List ℕ → ℕ) (m k : ℕ) (branch : Node) (is : IsBranch m k branch) (short : 1 ≤ branch.left) (next : ℕ) (rest : List ℕ) (first : branch.free ≡ next ∷ rest) where
  pub free-up : IsIncreasing (is.last + 1) m (next ∷ rest)
  free-up = subst (IsIncreasing (is.last + 1) m) first is.free_after

  pub grown-is : with_member branch.set next ≡ branch.set ++ next ∷ []
  grown-is = with_member-above 1 is.last branch.set next is.set_upto (omega (arith, free-up.0))

  pub grown-size : length (with_member branch.set next) ≡ length branch.set + 1
  grown-size = omega (arith, ap length grown-is, length-append branch.set (next ∷ []))

  pub with-branch : IsBranch m k (joined branch next rest)
  with-branch = record {
    last = next;
    within = free-up.1;
    set_upto = rw grown-is (IsIncreasing-push 1 is.last branch.set next is.set_upto (omega (arith, free-up.0)) (omega (arith, free-up.0)));
    free_after = free-up.2;
    size = omega (arith, short, grown-size, is.size);
  }

  pub without-branch : IsBranch m k (passed branch rest)
  without-branch = record {
    last = is.last;
    within = is.within;
    set_upto = is.set_upto;
    free_after = IsIncreasing-lower (is.last + 1) (next + 1) m rest (omega (arith, free-up.0)) free-up.2;
    size = is.size;
  }

  free-rest : (n : ℕ) → has_member rest n ≡ true → has_member branch.free n ≡ true
  free-rest n here = ap (λ l. has_member l n) first ∙ or_right (next == n) (has_member rest n) here

  here : has_member branch.free next ≡ true
  here = ap (λ l. has_member l next) first ∙ has_member_head next rest

  node : IsNode m branch.set branch.free
  node = branch-node m k branch is

  -- the free candidates (passed branch rest) the first
  struck : without_member branch.free next ≡ rest
  struck = rw (first, eq-eqb next next refl) (by (next + 1) rest (omega arith) free-up.2)
    where
      by : (low : ℕ) (xs : List ℕ) → next < low → IsIncreasing low m xs → filter (λ x. not (x == next)) xs ≡ xs
      by low [] less up = refl
      by low (x ∷ xs) less up = grind (arith, common_steps, ne_eqb x next, by (x + 1) xs (omega (arith, less, up.0)) up.2, less, up.0)

  -- who completes the branch completes the one with the candidate or the one (passed branch rest)
  pub split-same : (committee : List ℕ) → IsBest value m k committee → completes branch committee ≡ (completes (joined branch next rest) committee || completes (passed branch rest) committee)
  split-same committee best =
      both_ways (completes branch committee) (completes (joined branch next rest) committee || completes (passed branch rest) committee) down
      (λ some. up (completes (joined branch next rest) committee) refl some)
    where
      down : completes branch committee ≡ true → (completes (joined branch next rest) committee || completes (passed branch rest) committee) ≡ true
      down whole =
          let done = completion-from value m k branch is committee (record { best = best; whole = whole }) in
          elim (cases_Bool (has_member committee next)) [
            | inl in_ ↦
                or_left (completes (joined branch next rest) committee) (completes (passed branch rest) committee)
                (completes-from m (joined branch next rest) committee (subst (λ l. IsCompletion m (with_member branch.set next) l (branch.left - 1) committee) struck
                (completion-with m branch.set branch.free branch.left next node here committee short done in_)))
            | inr out ↦
                or_right (completes (joined branch next rest) committee) (completes (passed branch rest) committee)
                (completes-from m (passed branch rest) committee (subst (λ l. IsCompletion m branch.set l branch.left committee) struck
                (completion-without m branch.set branch.free branch.left next node here committee done out)))
          ]

      up : (b : Bool) → completes (joined branch next rest) committee ≡ b → (b || completes (passed branch rest) committee) ≡ true → completes branch committee ≡ true
      up true with-it some =
          completes-from m branch committee
          (completion-back m branch.set branch.free branch.left next node here rest committee short free-rest
          (completion-from value m k (joined branch next rest) with-branch committee (record { best = best; whole = with-it })))
      up false out some = completes-wider branch rest committee free-rest some

  -- a winner with the candidate goes on with it, and one (passed branch rest) it goes on with a greater one
  pub with-begins : (committee : List ℕ) → IsWinnerOf value m k (joined branch next rest) committee → (more : List ℕ) × (committee ≡ (with_member branch.set next) ++ more) × (committee ≡ branch.set ++ next ∷ more)
  with-begins committee wins =
      let all = added-later value m k (joined branch next rest) with-branch committee wins in
      (all.0, all.1, all.1 ∙ (ap (λ l. l ++ all.0) grown-is ∙ append_assoc branch.set (next ∷ []) all.0))

  pub without-begins : (committee : List ℕ) → IsWinnerOf value m k (passed branch rest) committee → (n : ℕ) × (more : List ℕ) × (committee ≡ branch.set ++ n ∷ more) × (next < n)
  without-begins committee wins =
      let all = goes-on value m k (passed branch rest) without-branch committee short wins in
      (all.0, all.1, all.2, let low : next + 1 ≤ all.0 = member-low (next + 1) m rest all.0 free-up.2 all.3 in omega (arith, low))

  -- ---- who leaves with a candidate

  module _ (classes : List (List ℕ)) (alike : AreAlike value m (λ c. slice_index_or classes c [])) (none : IsBarren value m k (joined branch next rest)) where
    clones : List ℕ
    clones = slice_index_or classes next []

    pub left-branch : IsBranch m k (passed branch (other_members rest (slice_index_or classes next [])))
    left-branch =
        let less = without-branch in
        record {
          last = less.last;
          within = less.within;
          set_upto = less.set_upto;
          free_after = IsIncreasing-filter (λ x. not (has_member (slice_index_or classes next []) x)) (less.last + 1) m rest less.free_after;
          size = less.size;
        }

    -- where no winner has the candidate, its clones are in none that completes the branch (passed branch rest)
    pub left-completes : (committee : List ℕ) → IsBest value m k committee → completes branch committee ≡ completes (passed branch (other_members rest (slice_index_or classes next []))) committee
    unfolding clones
    left-completes committee best =
        both_ways (completes branch committee) (completes (passed branch (other_members rest (slice_index_or classes next []))) committee) down
        (completes-wider branch (other_members rest clones) committee (λ n in_. free-rest n (minus-is rest clones n in_)))
      where
        none-with : IsOutOfReach value m (with_member branch.set next) (without_member branch.free next) (branch.left - 1) (best_value value m k)
        none-with other whole = elim (cases_lt (value other) (best_value value m k)) [
          | inl under ↦ under
          | inr reaches ↦
              absurd (none other (winner-from value m k (joined branch next rest) with-branch other
              (subst (λ l. IsCompletion m (with_member branch.set next) l (branch.left - 1) other) struck whole) (omega (arith, reaches))))
        ]

        down : completes branch committee ≡ true → completes (passed branch (other_members rest (slice_index_or classes next []))) committee ≡ true
        down whole =
            completes-from m (passed branch (other_members rest (slice_index_or classes next []))) committee
            (subst (λ l. IsCompletion m branch.set (other_members l clones) branch.left committee) struck
            (clones-left value m branch.set branch.left (best_value value m k) branch.free clones next short node here
            (λ other d up has out class. alike other next d up (omega (arith, free-up.0)) free-up.1 class has out)
            none-with committee (completion-from value m k branch is committee (record { best = best; whole = whole })) (omega (arith, best.best))))
