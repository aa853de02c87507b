-- The branches after a start, and the winners that complete them.
use Rattle.std.proofs.Common.{◌*◌, ◌^◌, mul-le-mul, pow_mono, ◌≡◌, ℕ, zero, suc, ◌+◌, ◌-◌, ◌<◌, ◌≤◌, ◌∙◌, Bool, List, [], ◌∷◌, ◌++◌, Option, None, Some, refl, sym, ap, subst, arith, inl, inr, length, length-append, append-nil, append_assoc, filter, Contains}
use Rattle.std.specs.List.{range_with_len}
use Rattle.std.proofs.lemmas.Bool.{cases_eq, false≢true}
use Rattle.std.proofs.lemmas.List.Elements.{Contains-append_cases, filter-append}
use Rattle.std.proofs.lemmas.List.Sums.{sum_by-cons}
use Rattle.ballot_base.specs.Lists.{IsIncreasing, IsLater, is_later, later_than}
use Rattle.ballot_base.proofs.Increasing.{IsIncreasing-lower}
use Rattle.ballot_base.proofs.Later.{is_later-earlier}
use Rattle.ballot_base.specs.Limits.{most_candidates}
use Rattle.tie_walk.specs.Winners.{IsStart, winners}
use Rattle.tie_walk.proofs.LawLemmas.{IsIncreasing-range}
use Rattle.tie_search.specs.Asked.{beginnings}
use Rattle.tie_search.specs.Tied.{IsBest}
use Rattle.tie_search.specs.Steps.Branches.{AreStacked, IsBegun, IsBranch, IsCounted, branches_after, entries, first_branches, left_by, longer_beginnings, to_enter, winners_of}
use Rattle.tie_search.specs.declared.asking.Asking.{Asking}
use Rattle.row_multipliers.specs.declared.node.Node.{Node}
use Rattle.tie_search.proofs.BranchLemmas.{added-later, goes-on, grown-is, joined, passed, whole-is, with-begins, with-branch, without-begins, without-branch}
use Rattle.row_multipliers.proofs.CompletionLemmas.{member-low}
use Rattle.tie_search.proofs.EnteredLemmas.{beginnings-most, longer-all, longer-apart, longer-less}
use Rattle.tie_search.proofs.StackLemmas.{all-kept, all-winners, greater-later, joined-winners, none-kept, not-later, wins-from}

pub front-under : (first last : ℕ) (front rest : List ℕ) (n : ℕ) → IsIncreasing first last (front ++ n ∷ rest) → IsIncreasing first (n - 1) front × (first ≤ n) × (n ≤ last)
front-under first last [] rest n up = (tt, up.0, up.1)
front-under first last (x ∷ front) rest n up =
    let more = front-under (x + 1) last front rest n up.2 in
    ((up.0, omega (arith, more.1), more.0), omega (arith, more.1, up.0), more.2)

all-branch : (m k left : ℕ) → left ≡ k → IsBranch m k (record { set = []; free = range_with_len 1 m; left = left })
all-branch m k left same = record {
  last = 0;
  within = omega arith;
  set_upto = tt;
  free_after = IsIncreasing-range 1 m m (omega arith);
  size = omega (arith, same);
}

module _ (m k : ℕ) where
  -- one more branch, as the start goes on
  pub after-next : (front rest : List ℕ) (n : ℕ) (before : List Node) (all : List Node) → before ++ branches_after m k front (n ∷ rest) ≡ all
      → (before ++ record { set = front; free = range_with_len (n + 1) (m - n); left = k - length front } ∷ []) ++ branches_after m k (front ++ n ∷ []) rest ≡ all
  unfolding branches_after
  after-next front rest n before all is =
      append_assoc before (record { set = front; free = range_with_len (n + 1) (m - n); left = k - length front } ∷ []) (branches_after m k (front ++ n ∷ []) rest) ∙ is

  pub after-none : (front : List ℕ) (before all : List Node) → before ++ branches_after m k front [] ≡ all → before ≡ all
  unfolding branches_after
  after-none front before all is = sym (append-nil before) ∙ is

  after-length : (front rest : List ℕ) → length (branches_after m k front rest) ≡ length rest
  unfolding branches_after
  after-length front [] = refl
  after-length front (n ∷ rest) = ap suc (after-length (front ++ n ∷ []) rest)

  -- the committees that begin with `front` and go on with candidates after `n`
  abbrev above : List ℕ → ℕ → Node
  above front n = record { set = front; free = range_with_len (n + 1) (m - n); left = k - length front }

  above-branch : (front rest : List ℕ) (n : ℕ) → IsIncreasing 1 m (front ++ n ∷ rest) → length (front ++ n ∷ rest) ≡ k → IsBranch m k (above front n)
  above-branch front rest n up size =
      let under = front-under 1 m front rest n up in
      record {
        last = n - 1;
        within = omega (arith, under.2);
        set_upto = under.0;
        free_after = IsIncreasing-lower (n - 1 + 1) (n + 1) m (range_with_len (n + 1) (m - n)) (omega arith) (IsIncreasing-range (n + 1) (m - n) m (omega (arith, under.2)));
        size = omega (arith, size, length-append front (n ∷ rest));
      }

  after-stacked : (front rest : List ℕ) → IsIncreasing 1 m (front ++ rest) → length (front ++ rest) ≡ k → AreStacked m k (length front) (branches_after m k front rest)
  unfolding branches_after
  after-stacked front [] up size = tt
  after-stacked front (n ∷ rest) up size =
      let same = append_assoc front (n ∷ []) rest in (
        above-branch front rest n up size,
        refl,
        subst (λ s. AreStacked m k s (branches_after m k (front ++ n ∷ []) rest)) (length-append front (n ∷ []))
            (after-stacked (front ++ n ∷ []) rest (subst (IsIncreasing 1 m) (sym same) up) (ap length same ∙ size)),
      )

  module _ (value : List ℕ → ℕ) where
    -- Of the winners that begin with `front` and go on with candidates from `first` on, they leave those later than the
    -- start.
    after-left : (count first : ℕ) (front rest : List ℕ) → first + count ≡ m + 1 → IsIncreasing first m rest → length (front ++ rest) ≡ k
        → IsBranch m k (record { set = front; free = range_with_len first count; left = k - length front })
        → left_by value m k (branches_after m k front rest) ≡ filter (λ list. is_later list (front ++ rest)) (winners_of value m k (record { set = front; free = range_with_len first count; left = k - length front }))
    unfolding branches_after left_by
    after-left count first front [] reach up size is =
        let branch : Node = record { set = front; free = range_with_len first count; left = k - length front } in
        sym (none-kept (λ list. is_later list (front ++ [])) (winners_of value m k branch)
        (λ x c later. not-later x (front ++ []) (whole-is value m k branch is x (omega (arith, size, length-append front [])) (wins-from value m k branch x c) ∙ sym (append-nil front)) later))
    after-left zero first front (n ∷ rest) reach up size is = absurd (omega (arith, reach, up.0, up.1))
    after-left (suc count) first front (n ∷ rest) reach up size is = elim (cases_eq first n) [
      | inl same ↦
          subst here same
          (at-first (after-left count (first + 1) (front ++ first ∷ []) rest (omega (arith, reach)) (IsIncreasing-lower (first + 1) (n + 1) m rest (omega (arith, up.0, same)) up.2)
          (omega (arith, size, ap length (append_assoc front (first ∷ []) rest), length-append front (first ∷ rest), length-append front (n ∷ rest)))
          (grown-branch (with-branch value m k branch is short first others refl))))
      | inr other-first ↦
          after-left count (first + 1) front (n ∷ rest) (omega (arith, reach)) (omega (arith, other-first, up.0), up.1, up.2) size (without-branch value m k branch is short first others refl)
          ∙ sym (parts n ∙ ap (λ l. l ++ filter (later n) (winners_of value m k other)) (none-kept (later n) (winners_of value m k one) (λ x c holds.
          let begins = with-begins value m k branch is short first others refl x (wins-from value m k one x c) in
          false≢true (sym (is_later-earlier (front ++ n ∷ rest) x (subst (IsLater (front ++ n ∷ rest)) (sym begins.2)
          (greater-later front rest begins.0 first n (omega (arith, other-first, up.0))
          (size ∙ sym (wins-from value m k one x c).best.size ∙ ap length begins.2)))) ∙ holds))))
    ]
      where
        others : List ℕ
        others = range_with_len (first + 1) count

        branch : Node
        branch = record { set = front; free = range_with_len first (suc count); left = k - length front }

        short : 1 ≤ k - length front
        short = omega (arith, size, length-append front (n ∷ rest))

        one : Node
        one = joined branch first (range_with_len (first + 1) count)

        other : Node
        other = passed branch (range_with_len (first + 1) count)

        grown-branch : IsBranch m k one → IsBranch m k (record { set = front ++ first ∷ []; free = others; left = k - length (front ++ first ∷ []) })
        grown-branch grown =
            let set = grown-is value m k branch is short first others refl in
            record { last = grown.last; within = grown.within; set_upto = rw set at grown.set_upto; free_after = grown.free_after; size = omega (arith, short, length-append front (first ∷ [])) }

        later : ℕ → List ℕ → Bool
        later n list = is_later list (front ++ n ∷ rest)

        parts : (n : ℕ) → filter (later n) (winners_of value m k branch) ≡ filter (later n) (winners_of value m k one) ++ filter (later n) (winners_of value m k other)
        parts n = ap (filter (later n)) (joined-winners value m k branch is short first others refl) ∙ filter-append (later n) (winners_of value m k one) (winners_of value m k other)

        here : ℕ → Type 0
        here n = left_by value m k (branches_after m k front (n ∷ rest)) ≡ filter (λ list. is_later list (front ++ n ∷ rest)) (winners_of value m k branch)

        all : filter (later first) (winners_of value m k other) ≡ winners_of value m k other
        all = all-kept (later first) (winners_of value m k other) (λ x c.
            let wins = wins-from value m k other x c in
            let begins = without-begins value m k branch is short first others refl x wins in
            subst (λ l. IsLater l (front ++ first ∷ rest)) (sym begins.2)
            (greater-later front begins.1 rest first begins.0 begins.3
            (omega (arith, ap length begins.2, wins.best.size, size, length-append front (first ∷ rest), length-append front (n ∷ rest)))))

        -- the start goes on with the first of the candidates
        at-first : left_by value m k (branches_after m k (front ++ first ∷ []) rest)
            ≡ filter (λ list. is_later list ((front ++ first ∷ []) ++ rest)) (winners_of value m k (record { set = front ++ first ∷ []; free = others; left = k - length (front ++ first ∷ []) })) → here first
        at-first rest-left =
            let below : left_by value m k (branches_after m k (front ++ first ∷ []) rest) ≡ filter (later first) (winners_of value m k one) =
            rest-left
            ∙ ap (λ start. filter (λ list. is_later list start) (winners_of value m k (record { set = front ++ first ∷ []; free = others; left = k - length (front ++ first ∷ []) }))) (append_assoc front (first ∷ []) rest)
            ∙ ap (λ set. filter (later first) (winners_of value m k (record { set = set; free = others; left = k - length front - 1 }))) (sym (grown-is value m k branch is short first others refl)) in
            let count-is : m - first ≡ count = omega (arith, reach) in
            ap (λ l. l ++ winners_of value m k (above front first)) below
            ∙ ap (λ c. filter (later first) (winners_of value m k one) ++ winners_of value m k (record { set = front; free = range_with_len (first + 1) c; left = k - length front })) count-is
            ∙ ap (λ l. filter (later first) (winners_of value m k one) ++ l) (sym all)
            ∙ sym (parts first)

    -- the committees that they leave begin with `front`
    after-begins : (front rest : List ℕ) → IsIncreasing 1 m (front ++ rest) → length (front ++ rest) ≡ k → (committee : List ℕ)
        → Contains (left_by value m k (branches_after m k front rest)) committee → (more : List ℕ) × (committee ≡ front ++ more)
    unfolding branches_after left_by
    after-begins front [] up size committee c = absurd (omega (arith, c.1))
    after-begins front (n ∷ rest) up size committee c =
        elim (Contains-append_cases (left_by value m k (branches_after m k (front ++ n ∷ []) rest)) (winners_of value m k (above front n)) committee c) [
          | inl there ↦
              let same = append_assoc front (n ∷ []) rest in
              let all = after-begins (front ++ n ∷ []) rest (subst (IsIncreasing 1 m) (sym same) up) (ap length same ∙ size) committee there in
              (n ∷ all.0, all.1 ∙ append_assoc front (n ∷ []) all.0)
          | inr here ↦
              let all = added-later value m k (above front n) (above-branch front rest n up size) committee (wins-from value m k (above front n) committee here) in
              (all.0, all.1)
        ]

    -- and each set that is to be entered begins one of them
    after-most : (front rest : List ℕ) → IsIncreasing 1 m (front ++ rest) → length (front ++ rest) ≡ k
        → to_enter value m k (branches_after m k front rest) ≤ longer_beginnings m k (length front) (left_by value m k (branches_after m k front rest))
    unfolding branches_after left_by to_enter entries
    after-most front [] up size = omega arith
    after-most front (n ∷ rest) up size =
        let same = append_assoc front (n ∷ []) rest in
        let up' = subst (IsIncreasing 1 m) (sym same) up in
        let size' = ap length same ∙ size in
        let short : length front < k = omega (arith, size, length-append front (n ∷ rest)) in
        let branches = branches_after m k (front ++ n ∷ []) rest in
        let left = left_by value m k branches in
        omega (
          arith,
          sum_by-cons (entries value m k) (above front n) branches,
          after-most (front ++ n ∷ []) rest up' size',
          ap (λ s. longer_beginnings m k s left) (length-append front (n ∷ [])),
          longer-less m k (length front) left short,
          longer-apart m k front n left (winners_of value m k (above front n))
              (λ x c. let all = after-begins (front ++ n ∷ []) rest up' size' x c in (all.0, all.1 ∙ append_assoc front (n ∷ []) all.0))
              (λ y c.
              let all = goes-on value m k (above front n) (above-branch front rest n up size) y (omega (arith, short)) (wins-from value m k (above front n) y c) in
              let low : n + 1 ≤ all.0 = member-low (n + 1) m (range_with_len (n + 1) (m - n)) all.0 (IsIncreasing-range (n + 1) (m - n) m (omega (arith, (front-under 1 m front rest n up).2))) all.3 in
              (all.0, all.1, all.2, omega (arith, low))),
        )

-- no counter wraps
few-enough : (value : List ℕ → ℕ) (m k : ℕ) (after : Option (List ℕ)) (asking : Asking) → k ≤ m → m ≤ most_candidates → IsCounted value m k after asking
    → asking.entered + to_enter value m k asking.branches.items < 2 ^ 127
few-enough value m k after asking seats high counted =
    let few : k ≤ most_candidates = omega (arith, seats, high) in
    let power : 2 ^ m ≤ 2 ^ most_candidates = pow_mono {i = m} {j = most_candidates} high in
    let product : k * 2 ^ m ≤ most_candidates * 2 ^ most_candidates = mul-le-mul few power in
    let small : most_candidates * 2 ^ most_candidates < 2 ^ 127 = omega arith in
    omega (arith, counted.most, beginnings-most m k (later_than after (winners value m k)), product, small)

-- nothing was asked yet
pub begun-from : (value : List ℕ → ℕ) (m k : ℕ) (after : Option (List ℕ)) (asking : Asking) → 1 ≤ k → k ≤ m → m ≤ most_candidates → IsStart m k after → asking.branches.items ≡ first_branches m k after → asking.entered ≡ 0
    → asking.asked ≡ 0 → IsBest value m k asking.found → IsBegun value m k after asking
unfolding left_by to_enter entries
begun-from value m k None asking some seats high start are entered asked found = record {
  asking_is = record { found_is = found; stacked = rw are (all-branch m k k refl, refl, tt); few = omega (arith, some, ap (λ (bs : List Node). length bs) are); fits = few-enough value m k None asking seats high counted };
  counted = counted;
  left = rw are (all-winners value m k);
  entered = entered;
  questions = asked;
}
  where
    count : asking.entered + to_enter value m k asking.branches.items ≡ beginnings m k (winners value m k)
    count =
        let all : Node = record { set = []; free = range_with_len 1 m; left = k } in
        let entry : entries value m k all ≡ beginnings m k (winners value m k) = ap (λ l. longer_beginnings m k 0 l) (all-winners value m k) ∙ longer-all m k (winners value m k) in
        omega (arith, entered, entry, ap (to_enter value m k) are)

    left : left_by value m k asking.branches.items ≡ winners value m k
    left = rw are (all-winners value m k)

    counted : IsCounted value m k None asking
    counted = record {
      most = omega (arith, count);
      all = λ none. count;
      few = omega (arith, asked, some, ap (λ (bs : List Node). length bs) are, ap (λ l. (m + k) * length l) left);
    }
begun-from value m k (Some set) asking some seats high start are entered asked found = record {
  asking_is = record {
    found_is = found;
    stacked = rw are (after-stacked m k [] set start.0 start.1);
    few = omega (arith, ap (λ (bs : List Node). length bs) are, after-length m k [] set, start.1);
    fits = few-enough value m k (Some set) asking seats high counted;
  };
  counted = counted;
  left = ap (left_by value m k) are ∙ left;
  entered = entered;
  questions = asked;
}
  where
    left : left_by value m k (branches_after m k [] set) ≡ later_than (Some set) (winners value m k)
    left = after-left m k value m 1 [] set (omega arith) start.0 start.1 (all-branch m k (k - 0) (omega arith)) ∙ ap (filter (λ list. is_later list set)) (all-winners value m k)

    counted : IsCounted value m k (Some set) asking
    counted = record {
      most = omega (arith, entered, ap (to_enter value m k) are, after-most m k value [] set start.0 start.1, ap (longer_beginnings m k 0) left, longer-all m k (later_than (Some set) (winners value m k)));
      all = λ none. absurd cc;
      few = omega (arith, asked, ap (λ (bs : List Node). length bs) are, after-length m k [] set, start.1, ap (λ l. (m + k) * length l) (ap (left_by value m k) are ∙ left));
    }
