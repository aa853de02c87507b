-- Clones: candidates approved by the same voters
-- (Tideman, Independence of clones as a criterion for voting rules; here voters approve or do not).
use Rattle.std.specs.Prelude.{◌≡◌, ℕ, ◌≤◌, Bool, List, [], not, filter, slice_index_or, if◌then◌else◌}
use Rattle.std.specs.List.{list_all, range_with_len}
use Rattle.ballot_base.specs.Ballots.{Row}
use Rattle.ballot_base.specs.CandSet.{has_member}

-- whether each row approves both candidates or neither
abbrev pub are_clones : List Row → ℕ → ℕ → Bool
are_clones rows c d =
    list_all (λ (row : Row). if has_member row.0 c then has_member row.0 d else not (has_member row.0 d)) rows

-- the clones of a candidate among the candidates 1 to m, including itself
abbrev pub clones_among : ℕ → List Row → ℕ → List ℕ
clones_among m rows c = filter (are_clones rows c) (range_with_len 1 m)

-- the table has the clones of each candidate at the candidate's number
abbrev pub AreClones : ℕ → List Row → List (List ℕ) → Type 0
AreClones m rows table = (c : ℕ) → 1 ≤ c → c ≤ m → slice_index_or table c [] ≡ clones_among m rows c
