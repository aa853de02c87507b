-- What contracts see of winners that a search finds one by one.
use Rattle.std.specs.Prelude.{◌≡◌, ℕ, ◌+◌, ◌*◌, ◌≤◌, Bool, List, Option, None, filter, length, sum_by, take}
use Rattle.std.specs.Iterator.{YieldsFirst}
use Rattle.std.specs.List.{list_any, range_with_len}
use Rattle.std.specs.Str.{bytes_eq}
use Rattle.ballot_base.specs.Lists.{increasing_lists}
use Rattle.tie_walk.specs.Winners.{winners}

-- whether one of the committees begins with the list
abbrev pub begins_some : List (List ℕ) → List ℕ → Bool
begins_some committees list = list_any (λ committee. bytes_eq (take (length list) committee) list) committees

-- how many lists of 1 to k of the candidates 1 to m begin one of the committees
abbrev pub beginnings : ℕ → ℕ → List (List ℕ) → ℕ
beginnings m k committees =
    sum_by (λ size. length (filter (begins_some committees) (increasing_lists 1 m size))) (range_with_len 1 k)

-- an upper bound on the number of questions for these winners: m + k for each of them, and k more at the end
abbrev pub most_questions : ℕ → ℕ → List (List ℕ) → ℕ
most_questions m k winners = (m + k) * length winners + k

-- the search, the size of a committee, the start, the winners still to come, and how many sets were entered and
-- questions asked so far
pub record Asked (S : Type 0) : Type 0 where
  pub search : S
  pub k : ℕ
  pub after : Option (List ℕ)
  pub left : List (List ℕ)
  pub entered : ℕ
  pub questions : ℕ

-- One call for the next winner: the state before it, the winner, and the state after it.
pub record IsNextAsked (S : Type 0) (value : S → List ℕ → ℕ) (candidates : S → ℕ) (from : Asked S)
    (winner : Option (List ℕ)) (to : Asked S) : Type 0 where
  -- the first of the winners left, or None if none is left
  pub first : YieldsFirst (λ (a : Asked S). a.left) from winner to
  pub same_search : to.search ≡ from.search
  pub same_k : to.k ≡ from.k
  pub same_start : to.after ≡ from.after
  pub entered_rises : from.entered ≤ to.entered
  -- at the end, if there was no start, the sets that were entered are those that begin a winner
  pub all_entered : winner ≡ None → to.after ≡ None
      → to.entered ≡ beginnings (candidates to.search) to.k (winners (value to.search) (candidates to.search) to.k)
  pub questions_rise : from.questions ≤ to.questions
  -- no more questions than there are candidates and seats
  pub short_wait : to.questions ≤ from.questions + candidates from.search + from.k
