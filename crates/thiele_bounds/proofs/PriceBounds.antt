-- Values in units, and what the prices of a whole election say of a set.
use Rattle.std.proofs.Common.{◌≡◌, ℕ, ◌+◌, ◌*◌, ◌<◌, ◌≤◌, not, List, [], refl, ap, arith, inl, inr, length, filter, sum_by}
use Rattle.std.specs.Int.{div_ceil}
use Rattle.std.specs.List.{range_with_len}
use Rattle.std.proofs.Math.Nat.{mul-le-mul_right}
use Rattle.std.proofs.lemmas.Bool.{cases_lt}
use Rattle.std.proofs.lemmas.Grind.{div_ceil_times}
use Rattle.std.proofs.lemmas.List.Filters.{sum_by-filter_both}
use Rattle.ballot_base.specs.CandSet.{common_members, has_member}
use Rattle.row_multipliers.specs.Completions.{IsNode, IsCompletion}
use Rattle.row_multipliers.proofs.CompletionLemmas.{completion-inside, completion-outside, member-high, member-low}
use Rattle.tie_walk.proofs.LawLemmas.{IsIncreasing-range}
use Rattle.tie_walk.proofs.StepLemmas.{has_member-range}

-- so many units as it takes are enough
pub ceil-high : (n unit : ℕ) → 1 ≤ unit → n ≤ unit * div_ceil n unit
ceil-high n unit some =
    let turned : (a b : ℕ) → a * b ≡ b * a = λ a b. omega arith in
    omega (arith, (div_ceil_times n unit (omega (arith, some))).0, turned unit (div_ceil n unit))

-- what is at most so many units takes at most so many when it is rounded up
pub ceil-low : (n unit v : ℕ) → 1 ≤ unit → n ≤ unit * v → div_ceil n unit ≤ v
ceil-low n unit v some low = elim (cases_lt v (div_ceil n unit)) [
  | inl high ↦
      let most : div_ceil n unit * unit < n + unit = (div_ceil_times n unit (omega (arith, some))).1 in
      let more : (v + 1) * unit ≤ div_ceil n unit * unit = mul-le-mul_right unit (omega (arith, high)) in
      let spread : (a b : ℕ) → (a + 1) * b ≡ b * a + b = λ a b. omega arith in
      absurd (omega (arith, most, more, low, spread v unit))
  | inr few ↦ few
]

-- ---- the whole election

module _ (m k : ℕ) (set free : List ℕ) (left : ℕ) (committee : List ℕ) (is_node : IsNode m set free) (whole : IsCompletion m set free left committee) where
  all-node : IsNode m [] (range_with_len 1 m)
  all-node = record { set_within = tt; free_within = IsIncreasing-range 1 m m (omega arith); apart = λ n is. refl }

  -- it is one of the committees of k
  pub all-completed : length set + left ≡ k → IsCompletion m [] (range_with_len 1 m) k committee
  all-completed size = record {
    candidates = whole.candidates;
    whole = λ n is. absurd cc;
    within = λ n is. has_member-range 1 m n (member-low 1 m committee n whole.candidates is) (omega (arith, member-high 1 m committee n whole.candidates is));
    size = omega (arith, size, whole.size);
  }

  -- the members of a committee are those of the set and those who join
  pub all-members : (f : ℕ → ℕ) → (size : length set + left ≡ k) → sum_by f (common_members (range_with_len 1 m) committee) ≡ sum_by f set + sum_by f (common_members free committee)
  all-members f size =
      let parts : (s : List ℕ) → sum_by f (filter (has_member s) committee) + sum_by f (filter (λ x. not (has_member s x)) committee) ≡ sum_by f committee =
      λ s. sum_by-filter_both (has_member s) (λ x. not (has_member s x)) (λ x. refl) f committee in
      let all = all-completed size in
      omega (
        arith,
        parts set,
        parts [],
        ap (sum_by f) (completion-inside m set free left committee is_node whole),
        ap (sum_by f) (completion-outside m set free left committee is_node whole),
        ap (sum_by f) (completion-inside m [] (range_with_len 1 m) k committee all-node all),
        ap (sum_by f) (completion-outside m [] (range_with_len 1 m) k committee all-node all),
      )
