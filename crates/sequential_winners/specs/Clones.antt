-- Sets by the number of members that they have of each class of clones
-- (Tideman, Independence of clones as a criterion for voting rules; here voters approve or do not).
use Rattle.std.specs.Prelude.{ℕ, ◌&&◌, ◌==◌, Bool, List, count_by, filter, length, nat_le}
use Rattle.std.specs.List.{list_all, range_with_len}
use Rattle.ballot_base.specs.Ballots.{Row}
use Rattle.ballot_base.specs.Clones.{are_clones, clones_among}

-- how many clones of a candidate a set has
abbrev pub clone_count : List Row → List ℕ → ℕ → ℕ
clone_count rows set c = count_by (are_clones rows c) set

-- whether a set has at least as many clones of each candidate as another one
abbrev pub has_as_many : ℕ → List Row → List ℕ → List ℕ → Bool
has_as_many m rows set other =
    list_all (λ c. nat_le (clone_count rows other c) (clone_count rows set c)) (range_with_len 1 m)

-- whether a set has at least as many clones of each candidate as one set, and at most as many as another
abbrev pub is_between : ℕ → List Row → List ℕ → List ℕ → List ℕ → Bool
is_between m rows least most set = has_as_many m rows set least && has_as_many m rows most set

-- the candidates without clones
abbrev pub without_clones : ℕ → List Row → List ℕ
without_clones m rows = filter (λ c. length (clones_among m rows c) == 1) (range_with_len 1 m)
