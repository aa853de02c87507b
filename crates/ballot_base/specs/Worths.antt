-- One number for each candidate, and what some of the candidates are worth together.
use Rattle.std.specs.Prelude.{◌≡◌, ℕ, ◌+◌, ◌<◌, ◌≤◌, true, List, filter, length, nat_le, sum_by}
use Rattle.ballot_base.specs.Limits.{most_candidates}
use Rattle.ballot_base.specs.Lists.{IsIncreasing}
use Rattle.ballot_base.specs.CandSet.{has_member}

-- a set of `size` of the candidates
pub record AreChosen (candidates : List ℕ) (size : ℕ) (chosen : List ℕ) : Type 0 where
  pub rises : IsIncreasing 1 most_candidates chosen
  pub among : (n : ℕ) → has_member chosen n ≡ true → has_member candidates n ≡ true
  pub few : length chosen ≡ size

-- any `size` of the candidates are worth less than `due` together
abbrev pub AreTooLow : (ℕ → ℕ) → List ℕ → ℕ → ℕ → Type 0
AreTooLow worth candidates size due =
    (chosen : List ℕ) → AreChosen candidates size chosen → sum_by worth chosen < due

-- a list that includes each candidate who belongs to some `size` of the candidates worth at least `due` together
pub record AreWanted (worth : ℕ → ℕ) (candidates : List ℕ) (size due : ℕ) (wanted : List ℕ) : Type 0 where
  pub rises : (m : ℕ) → IsIncreasing 1 m candidates → IsIncreasing 1 m wanted
  pub among : (n : ℕ) → has_member wanted n ≡ true → has_member candidates n ≡ true
  pub all : (chosen : List ℕ) → AreChosen candidates size chosen → due ≤ sum_by worth chosen
      → (n : ℕ) → has_member chosen n ≡ true → has_member wanted n ≡ true

-- how many of the candidates are worth at least `least`
abbrev pub reaching : (ℕ → ℕ) → ℕ → List ℕ → ℕ
reaching worth least candidates = length (filter (λ n. nat_le least (worth n)) candidates)

-- `value` is the `rank`-th highest worth of the candidates: fewer of them are worth more, and this many are worth at
-- least as much
abbrev pub IsRanked : (ℕ → ℕ) → List ℕ → ℕ → ℕ → Type 0
IsRanked worth candidates rank value =
    (reaching worth (value + 1) candidates < rank) × (rank ≤ reaching worth value candidates)

-- at least `left` of the candidates are worth the threshold or more, and at most `left` are worth more
abbrev pub IsThreshold : (ℕ → ℕ) → List ℕ → ℕ → ℕ → Type 0
IsThreshold worth candidates left threshold =
    (reaching worth (threshold + 1) candidates ≤ left) × (left ≤ reaching worth threshold candidates)
