-- What a node that was searched leaves.
use Rattle.std.proofs.Common.{ℕ, ◌≤◌, Bool, true, false, cond, List, arith, inl, inr}
use Rattle.std.proofs.lemmas.Bool.{cases_lt}
pub use Rattle.ballot_base.proofs.Sums.{length-among, rest-increasing, sum-among, sum-most, sum-threshold}
use Rattle.row_multipliers.specs.Completions.{IsCompletion, IsOutOfReach}

-- ---- a node that was searched

module _ (value : List ℕ → ℕ) (m : ℕ) (set : List ℕ) (left least : ℕ) where
  -- the committees that reach the value are among those of fewer free candidates
  abbrev pub AreLeft : List ℕ → List ℕ → Type 0
  AreLeft free rest = (committee : List ℕ) → IsCompletion m set free left committee → least ≤ value committee → IsCompletion m set rest left committee

  pub none-left : (free rest : List ℕ) → AreLeft free rest → IsOutOfReach value m set rest left least → IsOutOfReach value m set free left least
  none-left free rest are none committee whole = elim (cases_lt (value committee) least) [
    | inl under ↦ under
    | inr reaches ↦ none committee (are committee whole (omega arith))
  ]

pub part-most : (b : Bool) (n : ℕ) → cond b n 0 ≤ n
part-most true n = omega arith
part-most false n = omega arith
