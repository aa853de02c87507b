-- Sets that lack members of some class of clones.
use Rattle.std.specs.Prelude.{ℕ, ◌+◌, ◌-◌, List, fold, nat_lt, if◌then◌else◌}
use Rattle.std.specs.List.{range_with_len}
use Rattle.ballot_base.specs.CandSet.{with_member}
use Rattle.ballot_base.specs.Ballots.{Row}
use Rattle.sequential_winners.specs.Clones.{clone_count}

-- the set with the candidate, if it has fewer clones of the candidate than the other set
abbrev pub completed_by : List Row → List ℕ → List ℕ → ℕ → List ℕ
completed_by rows other set x =
    if nat_lt (clone_count rows set x) (clone_count rows other x) then with_member set x else set

-- the set with the candidates from c + 1 to m that it lacks, one after the other
abbrev pub completed : ℕ → ℕ → List Row → List ℕ → List ℕ → List ℕ
completed c m rows set other = fold (completed_by rows other) set (range_with_len (c + 1) (m - c))
