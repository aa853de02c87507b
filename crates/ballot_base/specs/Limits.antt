-- The limits of an election.
use Rattle.std.specs.Prelude.{ℕ, ◌^◌, ◌-◌}

-- the maximum number of candidates, and the highest number of one
abbrev pub most_candidates : ℕ
most_candidates = 64

-- the maximum size of a committee that is elected or checked
abbrev pub most_members : ℕ
most_members = 40

-- the maximum number of voters
abbrev pub most_voters : ℕ
most_voters = 2 ^ 32

-- every worth of a candidate is below this
abbrev pub worth_limit : ℕ
worth_limit = 2 ^ 122

-- What all hits of a voter give together, times the denominator, is at most this, with up to `most_members` seats. It
-- holds for weights from 1/4^i on; 1/5^i would give more.
abbrev pub most_increments : ℕ
most_increments = 2 ^ 84

-- no committee is worth more under Thiele's rules, times the denominator: what all voters give
abbrev pub most_thiele_value : ℕ
most_thiele_value = 2 ^ 116

-- no candidate has a higher score under satisfaction approval voting, times the common denominator
abbrev pub most_score : ℕ
most_score = 2 ^ 122 - 2 ^ 32
