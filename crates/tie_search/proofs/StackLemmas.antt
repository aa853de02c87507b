-- The winners that branches leave, and their order.
use Rattle.std.proofs.lemmas.Grind.{common_steps}
use Rattle.std.proofs.Common.{◌≡◌, ℕ, zero, suc, ◌+◌, ◌<◌, ◌≤◌, ◌||◌, ◌∙◌, Bool, true, List, [], ◌∷◌, ◌++◌, refl, sym, ap, subst, arith, get_or, inl, inr, length, append-nil, append_assoc, filter, Contains, Less}
use Rattle.std.specs.List.{range_with_len}
use Rattle.std.specs.Ordering.{nat_cmp, ordering_then}
use Rattle.std.specs.Cmp.Lexicographic.{slice_cmp}
use Rattle.std.proofs.lemmas.Bool.{cases_Bool, false≢true, lt-ltb}
use Rattle.std.proofs.lemmas.List.Elements.{Contains-get_or, recursion_from_All}
use Rattle.std.proofs.lemmas.List.Sums.{sum_by-append}
use Rattle.ballot_base.specs.Lists.{IsLater, AreInOrder}
use Rattle.ballot_base.specs.CandSet.{either_members, has_member}
use Rattle.ballot_base.proofs.FirstMember.{slice_cmp_same}
use Rattle.ballot_base.proofs.Included.{all-from}
use Rattle.ballot_base.proofs.Increasing.{has_member-either}
use Rattle.ballot_base.proofs.Later.{IsLater-from_parts, filter-all, is_later-earlier, is_later-self}
use Rattle.ballot_base.proofs.ListLemmas.{Contains-later}
use Rattle.tie_walk.specs.Winners.{winners}
use Rattle.tie_walk.proofs.LawLemmas.{Contains-filter, Contains-from_filter, passes-from_filter, winner-from_is, winner-is, winners-order}
use Rattle.tie_walk.proofs.StepLemmas.{has_member-range}
use Rattle.tie_walk.proofs.WinnersLemmas.{same_filter}
use Rattle.tie_search.specs.Tied.{IsBest}
use Rattle.tie_search.specs.Steps.Branches.{AreStacked, IsBarren, IsBranch, IsStep, IsWinnerOf, completes, entries, left_by, to_enter, winners_of}
use Rattle.row_multipliers.specs.declared.node.Node.{Node}
use Rattle.tie_search.proofs.BranchLemmas.{joined, passed, split-same, whole-is, with-begins, without-begins}
use Rattle.row_multipliers.proofs.CompletionLemmas.{member-high, member-low}

-- ---- what tests keep of lists in order

-- the rest is later than the first, and in order
later-in : (x y : List ℕ) (xs : List (List ℕ)) → AreInOrder (x ∷ xs) → Contains xs y → IsLater y x
later-in x y xs order c = subst (λ l. IsLater l x) c.2 (order 0 (suc c.0) y (omega arith) (omega (arith, c.1)))

rest-order : (x : List ℕ) (xs : List (List ℕ)) → AreInOrder (x ∷ xs) → AreInOrder xs
rest-order x xs order = λ i j d l h. order (suc i) (suc j) d (omega (arith, l)) (omega (arith, h))

pub not-later : (x y : List ℕ) → x ≡ y → IsLater x y → ⊥
not-later x y same later = false≢true (sym (is_later-self y) ∙ subst (λ l. IsLater l y) same later)

pub same-kept : (p q : List ℕ → Bool) (xs : List (List ℕ)) → ((x : List ℕ) → Contains xs x → p x ≡ q x) → filter p xs ≡ filter q xs
same-kept p q xs same = same_filter p q xs (recursion_from_All (λ x. p x ≡ q x) xs (λ i d inside. same (get_or xs i d) (Contains-get_or xs i d inside)))

pub none-kept : (p : List ℕ → Bool) (xs : List (List ℕ)) → ((x : List ℕ) → Contains xs x → p x ≡ true → ⊥) → filter p xs ≡ []
none-kept p [] none = refl
none-kept p (x ∷ xs) none = grind (arith, common_steps, none x (0, omega arith, refl), none-kept p xs (λ y c. none y (Contains-later x y xs c)))

pub one-kept : (p : List ℕ → Bool) (one : List ℕ) (xs : List (List ℕ)) → AreInOrder xs → Contains xs one → p one ≡ true → ((x : List ℕ) → Contains xs x → p x ≡ true → x ≡ one)
    → filter p xs ≡ one ∷ []
one-kept p one [] order c passes only = absurd (omega (arith, c.1))
one-kept p one (x ∷ xs) order (zero, low, is) passes only =
    rw (ap p is ∙ passes) (ap (λ y. y ∷ filter p xs) is
    ∙ ap (λ l. one ∷ l) (none-kept p xs (λ y c holds. not-later y x (only y (Contains-later x y xs c) holds ∙ sym is) (later-in x y xs order c))))
one-kept p one (x ∷ xs) order (suc i, low, is) passes only = elim (cases_Bool (p x)) [
  | inl holds ↦ absurd (not-later one x (sym (only x (0, omega arith, refl) holds)) (later-in x one xs order (i, omega (arith, low), is)))
  | inr fails ↦ rw fails (one-kept p one xs (rest-order x xs order) (i, omega (arith, low), is) passes (λ y c. only y (Contains-later x y xs c)))
]

pub all-kept : (p : List ℕ → Bool) (xs : List (List ℕ)) → ((x : List ℕ) → Contains xs x → p x ≡ true) → filter p xs ≡ xs
all-kept p xs all = filter-all p xs (recursion_from_All (λ x. p x ≡ true) xs (λ i d inside. all (get_or xs i d) (Contains-get_or xs i d inside)))

-- what passes the one test comes before what passes the other
pub parts-kept : (p q r : List ℕ → Bool) (xs : List (List ℕ)) → AreInOrder xs → ((x : List ℕ) → Contains xs x → p x ≡ (q x || r x))
    → ((x y : List ℕ) → Contains xs x → Contains xs y → q x ≡ true → r y ≡ true → IsLater y x) → filter p xs ≡ filter q xs ++ filter r xs
parts-kept p q r [] order same before = refl
parts-kept p q r (x ∷ xs) order same before =
    let first : Contains (x ∷ xs) x = (0, omega arith, refl) in
    let rest : filter p xs ≡ filter q xs ++ filter r xs =
    parts-kept p q r xs (rest-order x xs order) (λ y c. same y (Contains-later x y xs c)) (λ y z c d. before y z (Contains-later x y xs c) (Contains-later x z xs d)) in
    let apart : q x ≡ true → r x ≡ true → ⊥ = λ e f. not-later x x refl (before x x first first e f) in
    let none : r x ≡ true → filter q xs ≡ [] = λ f. none-kept q xs (λ y c holds.
    false≢true (sym (is_later-earlier y x (later-in x y xs order c)) ∙ before y x (Contains-later x y xs c) first holds f)) in
    grind (arith, common_steps, same x first, rest, apart, none)

-- a list that goes on with a greater number is later
pub greater-later : (front more rest : List ℕ) (n y : ℕ) → n < y → length (front ++ y ∷ more) ≡ length (front ++ n ∷ rest) → IsLater (front ++ y ∷ more) (front ++ n ∷ rest)
greater-later front more rest n y low same = IsLater-from_parts (front ++ y ∷ more) (front ++ n ∷ rest) same (less front)
  where
    first : nat_cmp n y ≡ Less
    first = rw (lt-ltb n y low)

    less : (l : List ℕ) → slice_cmp nat_cmp (l ++ n ∷ rest) (l ++ y ∷ more) ≡ Less
    less [] = ap (λ o. ordering_then o (slice_cmp nat_cmp rest more)) first
    less (x ∷ l) = slice_cmp_same x (l ++ n ∷ rest) (l ++ y ∷ more) ∙ less l

-- ---- the winners that complete a branch

module _ (value : List ℕ → ℕ) (m k : ℕ) where
  pub winner-best : (committee : List ℕ) → Contains (winners value m k) committee → IsBest value m k committee
  winner-best committee c = let is = winner-is value m k committee c in record { candidates = is.0; size = is.1; best = is.2 }

  pub wins-from : (branch : Node) (committee : List ℕ) → Contains (winners_of value m k branch) committee → IsWinnerOf value m k branch committee
  wins-from branch committee c = record {
    best = winner-best committee (Contains-from_filter (completes branch) (winners value m k) committee c);
    whole = passes-from_filter (completes branch) (winners value m k) committee c;
  }

  pub inside-from : (branch : Node) (committee : List ℕ) → IsWinnerOf value m k branch committee → Contains (winners_of value m k branch) committee
  inside-from branch committee wins =
      Contains-filter (completes branch) (winners value m k) committee (winner-from_is value m k committee (wins.best.candidates, wins.best.size, wins.best.best)) wins.whole

  pub same-winners : (one other : Node) → ((committee : List ℕ) → IsBest value m k committee → completes one committee ≡ completes other committee) → winners_of value m k one ≡ winners_of value m k other
  same-winners one other same = same-kept (completes one) (completes other) (winners value m k) (λ committee c. same committee (winner-best committee c))

  pub no-winners : (branch : Node) → IsBarren value m k branch → winners_of value m k branch ≡ []
  no-winners branch none = none-kept (completes branch) (winners value m k) (λ committee c whole. none committee (record { best = winner-best committee c; whole = whole }))

  -- a set of k that wins is the only one
  pub one-winner : (branch : Node) (committee : List ℕ) → IsBranch m k branch → branch.left ≡ 0 → IsWinnerOf value m k branch committee → winners_of value m k branch ≡ branch.set ∷ []
  one-winner branch committee is long wins =
      subst (λ l. winners_of value m k branch ≡ l ∷ []) same (one-kept (completes branch) committee (winners value m k) (winners-order value m k) (Contains-from_filter (completes branch) (winners value m k) committee (inside-from branch committee wins)) wins.whole
      (λ other c whole. whole-is value m k branch is other long (record { best = winner-best other c; whole = whole }) ∙ sym same))
    where
      same : committee ≡ branch.set
      same = whole-is value m k branch is committee long wins

  -- all committees complete the branch of all
  pub all-winners : winners_of value m k (record { set = []; free = range_with_len 1 m; left = k }) ≡ winners value m k
  all-winners = all-kept (completes (record { set = []; free = range_with_len 1 m; left = k })) (winners value m k) (λ committee c. whole committee (winner-best committee c))
    where
      whole : (committee : List ℕ) → IsBest value m k committee → completes (record { set = []; free = range_with_len 1 m; left = k }) committee ≡ true
      whole committee best =
          all-from (has_member (either_members [] (range_with_len 1 m))) committee
          (λ n here. has_member-either [] (range_with_len 1 m) n
          ∙ has_member-range 1 m n (member-low 1 m committee n best.candidates here) (let high : n ≤ m = member-high 1 m committee n best.candidates here in omega (arith, high)))

  -- the winners with the first free candidate come before those without
  pub joined-winners : (branch : Node) (is : IsBranch m k branch) (short : 1 ≤ branch.left) (next : ℕ) (rest : List ℕ) (first : branch.free ≡ next ∷ rest)
      → winners_of value m k branch ≡ winners_of value m k (joined branch next rest) ++ winners_of value m k (passed branch rest)
  joined-winners branch is short next rest first =
      parts-kept (completes branch) (completes (joined branch next rest)) (completes (passed branch rest)) (winners value m k) (winners-order value m k)
      (λ committee c. split-same value m k branch is short next rest first committee (winner-best committee c))
      (λ x y c d with-it without-it.
      let one = with-begins value m k branch is short next rest first x (record { best = winner-best x c; whole = with-it }) in
      let other = without-begins value m k branch is short next rest first y (record { best = winner-best y d; whole = without-it }) in
      subst (λ l. IsLater l x) (sym other.2) (subst (λ l. IsLater (branch.set ++ other.0 ∷ other.1) l) (sym one.2)
      (greater-later branch.set other.1 one.0 next other.0 other.3
      (ap length (sym other.2) ∙ (winner-best y d).size ∙ sym (winner-best x c).size ∙ ap length one.2))))

  -- ---- a stack

  pub stack-push : (size : ℕ) (branches : List Node) (branch : Node) → AreStacked m k size branches → IsBranch m k branch → length branch.set ≡ size + length branches
      → AreStacked m k size (branches ++ branch ∷ [])
  stack-push size [] branch stacked is long = (is, omega (arith, long), tt)
  stack-push size (first ∷ branches) branch stacked is long = (stacked.0, stacked.1, stack-push (size + 1) branches branch stacked.2 is (omega (arith, long)))

  pub stack-pop : (size : ℕ) (branches : List Node) (branch : Node) → AreStacked m k size (branches ++ branch ∷ [])
      → AreStacked m k size branches × IsBranch m k branch × (length branch.set ≡ size + length branches)
  stack-pop size [] branch stacked = (tt, stacked.0, omega (arith, stacked.1))
  stack-pop size (first ∷ branches) branch stacked =
      let rest = stack-pop (size + 1) branches branch stacked.2 in
      ((stacked.0, stacked.1, rest.0), rest.1, omega (arith, rest.2))

  left-last : (branches : List Node) (branch : Node) → left_by value m k (branches ++ branch ∷ []) ≡ winners_of value m k branch ++ left_by value m k branches
  unfolding left_by
  left-last [] branch = sym (append-nil (winners_of value m k branch))
  left-last (first ∷ branches) branch =
      ap (λ l. l ++ winners_of value m k first) (left-last branches branch) ∙ append_assoc (winners_of value m k branch) (left_by value m k branches) (winners_of value m k first)

  enter-last : (branches : List Node) (branch : Node) → to_enter value m k (branches ++ branch ∷ []) ≡ to_enter value m k branches + entries value m k branch
  unfolding to_enter
  enter-last branches branch = omega (arith, sum_by-append (entries value m k) branches (branch ∷ []))

  -- ---- steps

  module _ (branches : List Node) (branch : Node) (entered : ℕ) where
    -- the winners of the last branch are found
    pub found-step : (found : List (List ℕ)) → winners_of value m k branch ≡ found → entries value m k branch ≡ 0 → IsStep value m k (branches ++ branch ∷ []) entered found branches entered
    found-step found are none = record {
      left = left-last branches branch ∙ ap (λ l. l ++ left_by value m k branches) are;
      rises = omega arith;
      counted = omega (arith, enter-last branches branch, none);
    }

    -- the last branch changes
    pub same-step : (other : Node) → winners_of value m k branch ≡ winners_of value m k other → entries value m k branch ≡ entries value m k other
        → IsStep value m k (branches ++ branch ∷ []) entered [] (branches ++ other ∷ []) entered
    same-step other are same = record {
      left = left-last branches branch ∙ (ap (λ l. l ++ left_by value m k branches) are ∙ sym (left-last branches other));
      rises = omega arith;
      counted = omega (arith, enter-last branches branch, enter-last branches other, same);
    }

    -- the last branch becomes two, and a set is entered
    pub two-step : (one other : Node) → winners_of value m k branch ≡ winners_of value m k one ++ winners_of value m k other
        → entries value m k branch ≡ entries value m k one + 1 + entries value m k other
        → IsStep value m k (branches ++ branch ∷ []) entered [] ((branches ++ other ∷ []) ++ one ∷ []) (entered + 1)
    two-step one other are sum = record {
      left = left-last branches branch
          ∙ (ap (λ l. l ++ left_by value m k branches) are
          ∙ (append_assoc (winners_of value m k one) (winners_of value m k other) (left_by value m k branches)
          ∙ (ap (λ l. winners_of value m k one ++ l) (sym (left-last branches other)) ∙ sym (left-last (branches ++ other ∷ []) one))));
      rises = omega arith;
      counted = omega (arith, enter-last branches branch, enter-last branches other, enter-last (branches ++ other ∷ []) one, sum);
    }

  pub then-step : (a b c : List Node) (l n r : ℕ) (found more : List (List ℕ)) → IsStep value m k a l found b n → IsStep value m k b n more c r → IsStep value m k a l (found ++ more) c r
  then-step a b c l n r found more one other = record {
    left = one.left ∙ (ap (λ rest. found ++ rest) other.left ∙ sym (append_assoc found more (left_by value m k c)));
    rises = omega (arith, one.rises, other.rises);
    counted = omega (arith, one.counted, other.counted);
  }
