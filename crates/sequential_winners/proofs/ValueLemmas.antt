-- The values and bounds of the families of winners.
use Rattle.std.proofs.Common.{◌≡◌, ℕ, ◌+◌, ◌-◌, ◌≤◌, ◌<◌, ◌∙◌, Bool, true, false, cond, List, ◌++◌, append-nil, refl, sym, ap, subst, arith, inl, inr, length, length-append, Contains, get_or, []}
use mir.Val.{bool_byte}
use Rattle.std.specs.List.{list_any, zip, AllByRecursion}
use Rattle.std.proofs.lemmas.Bool.{cases_Bool, false_from_ne_true}
use Rattle.std.proofs.lemmas.List.Elements.{All-contains, All-from_recursion}
use Rattle.std.proofs.Math.Bool.{or-false}
use Rattle.ballot_base.specs.Lists.{IsIncreasing, increasing_lists, lists_of}
use Rattle.ballot_base.specs.Ballots.{Election}
use Rattle.ballot_base.proofs.Committees.{increasing_lists-contains, chosen-from_contains}
use Rattle.tie_walk.specs.Ceilings.{IsBound, IsExactAtBest}
use Rattle.tie_walk.specs.Sequences.{hit_weights, is_sequential_winner}
use Rattle.tie_walk.specs.Steps.Choices.{step_of, choices_of}
use Rattle.tie_walk.specs.declared.sequential.SeqRule.{SeqRule}
use Rattle.tie_walk.proofs.HitWeights.{one-most}
use Rattle.tie_walk.proofs.LevelLemmas.{reached-increasing}
use Rattle.sequential_winners.specs.Clones.{is_between}
use Rattle.sequential_winners.specs.Families.{Sequential, sequential_of, is_winner, some_winner}
use Rattle.sequential_winners.specs.Steps.Families.{may_be_in}
use Rattle.sequential_winners.specs.Steps.Levels.{AreFamilies}
use Rattle.sequential_winners.proofs.CompletionLemmas.{joined-increasing, may-is}
use Rattle.sequential_winners.proofs.Leads.{reached-chosen}
use Rattle.sequential_winners.proofs.Lists.{same_tests}
use Rattle.sequential_winners.proofs.PairLemmas.{pairs-first}
use Rattle.sequential_winners.proofs.WinnerLemmas.{any-from, any-at, rule-size, winner-reached}

-- a winner has k members
pub winner-size : (rule : SeqRule) (e : Election) (k : ℕ) (set : List ℕ) → k ≤ e.m → is_sequential_winner rule e k set ≡ true → length set ≡ k
winner-size rule e k set fits wins =
    let r = winner-reached rule e k set wins in
    (rule-size rule e.m k set fits (reached-increasing (step_of rule) (hit_weights rule e.m) e.m e.rows (choices_of rule e.m k) set r)).1
    (reached-chosen (step_of rule) (hit_weights rule e.m) e.m e.rows (choices_of rule e.m k) set r)

module _ (e : Election) (rule : SeqRule) (k : ℕ) (fits : k ≤ e.m) where
  pub some-other : (c : ℕ) (set : List ℕ) (left : ℕ) → (length set + left ≡ k → ⊥) → some_winner (sequential_of e rule k) c set left ≡ false
  some-other c set left other =
      false_from_ne_true (some_winner (sequential_of e rule k) c set left) (λ some.
      let a = any-at (λ added. is_winner (sequential_of e rule k) (set ++ added)) (increasing_lists (c + 1) e.m left) some in
      other (omega (arith, length-append set a.0, chosen-from_contains (c + 1) e.m left a.0 a.1, winner-size rule e k (set ++ a.0) fits a.2)))

  module _ (leasts mosts : List (List ℕ)) (families : AreFamilies rule e k leasts mosts) where
    inside : (family : List ℕ × List ℕ) → Contains (zip leasts mosts) family → IsIncreasing 1 e.m family.0
    inside family c =
        All-contains (λ s. IsIncreasing 1 e.m s) leasts family.0 (All-from_recursion (λ s. IsIncreasing 1 e.m s) leasts families.least_sets) (pairs-first leasts mosts family c)

    -- some winner completes the set exactly where some family may have one
    pub some-is : (c : ℕ) (set : List ℕ) (left : ℕ) → c ≤ e.m → IsIncreasing 1 c set → length set + left ≡ k
        → list_any (may_be_in e.m e.rows c set left) (zip leasts mosts) ≡ some_winner (sequential_of e rule k) c set left
    some-is c set left within up whole =
        let lists = increasing_lists (c + 1) e.m left in
        let pairs = zip leasts mosts in
        let has = λ (committee : List ℕ) (family : List ℕ × List ℕ). is_between e.m e.rows family.0 family.1 committee in
        let wins-by = λ (added : List ℕ) (here : Contains lists added).
        let chosen = chosen-from_contains (c + 1) e.m left added here in
        families.reached (set ++ added) (joined-increasing c e.m 1 set added (omega arith) within up chosen.0) (omega (arith, length-append set added, chosen.1, whole)) in
        same_tests (list_any (may_be_in e.m e.rows c set left) pairs) (some_winner (sequential_of e rule k) c set left)
        (λ may.
        let f = any-at (may_be_in e.m e.rows c set left) pairs may in
        let a = any-at (λ added. has (set ++ added) f.0) lists (sym (may-is e.m e.rows c set left f.0 within up (inside f.0 f.1)) ∙ f.2) in
        any-from (λ added. is_winner (sequential_of e rule k) (set ++ added)) lists a.0 a.1 (wins-by a.0 a.1 ∙ any-from (has (set ++ a.0)) pairs f.0 f.1 a.2))
        (λ some.
        let a = any-at (λ added. is_winner (sequential_of e rule k) (set ++ added)) lists some in
        let f = any-at (has (set ++ a.0)) pairs (sym (wins-by a.0 a.1) ∙ a.2) in
        any-from (may_be_in e.m e.rows c set left) pairs f.0 f.1 (may-is e.m e.rows c set left f.0 within up (inside f.0 f.1) ∙ any-from (λ added. has (set ++ added) f.0) lists a.0 a.1 f.2))

-- the same, where contracts see the election, the rule and k as one
pub never-completes : (s : Sequential) → s.k ≤ s.election.m → (c : ℕ) (set : List ℕ) (left : ℕ) → (length set + left ≡ s.k → ⊥) → some_winner s c set left ≡ false
never-completes s fits c set left other = some-other s.election s.rule s.k fits c set left other

module _ (s : Sequential) (fits : s.k ≤ s.election.m) (leasts mosts : List (List ℕ)) (families : AreFamilies s.rule s.election s.k leasts mosts) where
  pub completes-is : (c : ℕ) (set : List ℕ) (least_list most_list : List (List ℕ)) → least_list ≡ leasts → most_list ≡ mosts → c ≤ s.election.m → IsIncreasing 1 c set → length set ≤ s.k
      → list_any (may_be_in s.election.m s.election.rows c set (s.k - length set)) (zip least_list most_list) ≡ some_winner s c set (s.k - length set)
  completes-is c set least_list most_list first second within up small =
      ap (list_any (may_be_in s.election.m s.election.rows c set (s.k - length set))) (ap (λ l. zip l most_list) first ∙ ap (zip leasts) second)
      ∙ some-is s.election s.rule s.k fits leasts mosts families c set (s.k - length set) within up (omega (arith, small))

  -- a least set is a set of candidates
  pub least-of : (list : List (List ℕ)) (i : ℕ) (set : List ℕ) → list ≡ leasts → i < length list → ((d : List ℕ) → set ≡ get_or list i d) → IsIncreasing 1 s.election.m set
  least-of list i set same inside at =
      subst (IsIncreasing 1 s.election.m) (sym (at []))
      (All-from_recursion (λ x. IsIncreasing 1 s.election.m x) list (subst (AllByRecursion (λ x. IsIncreasing 1 s.election.m x)) (sym same) families.least_sets) i [] inside)

-- a committee completes itself
pub value-is : (s : Sequential) (set : List ℕ) → some_winner s s.election.m set 0 ≡ is_winner s set
unfolding lists_of
value-is s set = or-false (is_winner s (set ++ [])) ∙ ap (is_winner s) (append-nil set)

pub byte-is : (b : Bool) → bool_byte b ≡ cond b 1 0
byte-is true = refl
byte-is false = refl

-- ---- the bound

pub bound-law : (s : Sequential) (c : ℕ) (set : List ℕ) (left : ℕ)
    → IsBound (λ w. cond (is_winner s w) 1 0) s.election.m c set left (cond (some_winner s c set left) 1 0)
bound-law s c set left added up size = elim (cases_Bool (is_winner s (set ++ added))) [
  | inl wins ↦
      let some = any-from (λ a. is_winner s (set ++ a)) (increasing_lists (c + 1) s.election.m left) added (increasing_lists-contains (c + 1) s.election.m left added (up, size)) wins in
      omega (arith, one-most (is_winner s (set ++ added)), ap {B = ℕ} (λ b. cond b 1 0) some)
  | inr loses ↦ omega (arith, ap {B = ℕ} (λ b. cond b 1 0) loses)
]

-- the bounds reach 1 exactly where some committee has that value
pub exact-law : (s : Sequential) (best : ℕ) → 1 ≤ best
    → IsExactAtBest (λ w. cond (is_winner s w) 1 0) (λ c set left. cond (some_winner s c set left) 1 0) s.election.m s.k best
exact-law s best some c set left within up size fits reaches = elim (cases_Bool (some_winner s c set left)) [
  | inl any ↦
      let a = any-at (λ added. is_winner s (set ++ added)) (increasing_lists (c + 1) s.election.m left) any in
      (a.0, chosen-from_contains (c + 1) s.election.m left a.0 a.1, omega (arith, reaches, ap {B = ℕ} (λ b. cond b 1 0) any, ap {B = ℕ} (λ b. cond b 1 0) a.2))
  | inr none ↦ absurd (omega (arith, reaches, some, ap {B = ℕ} (λ b. cond b 1 0) none))
]
