-- Candidates who are not in a set.
use Rattle.std.proofs.Common.{◌≡◌, ℕ, ◌≤◌, true, not, List, arith}
use Rattle.std.specs.List.{range_with_len}
use Rattle.ballot_base.specs.CandSet.{has_member, other_members}
use Rattle.ballot_base.specs.Lists.{IsIncreasing}
use Rattle.ballot_base.proofs.Increasing.{IsIncreasing-filter}
use Rattle.tie_walk.proofs.LawLemmas.{IsIncreasing-range}
use Rattle.row_multipliers.proofs.CompletionLemmas.{member-low, member-high}

-- they are numbered from 1 to m
pub beside-candidates : (m : ℕ) (all set others : List ℕ) (n : ℕ)
    → all ≡ range_with_len 1 m → others ≡ other_members all set → has_member others n ≡ true → (1 ≤ n) × (n ≤ m)
beside-candidates m all set others n all-is others-is here =
    let up : IsIncreasing 1 m others =
    rw (others-is, all-is)
    (IsIncreasing-filter (λ x. not (has_member set x)) 1 m (range_with_len 1 m) (IsIncreasing-range 1 m m (omega arith))) in
    (member-low 1 m others n up here, member-high 1 m others n up here)
