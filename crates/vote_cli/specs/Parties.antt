-- Ballots for one party each.
use Rattle.std.specs.Prelude.{ℕ, Bool, List, length, map, filter, nat_lt}
use Rattle.std.specs.List.{list_any, range_with_len}
use Rattle.ballot_base.specs.CandSet.{has_member}
use Rattle.ballot_base.specs.Ballots.{Election, Row, voter_count}

-- whether some ballot approves two candidates or more
abbrev pub has_many_approved : Election → Bool
has_many_approved election = list_any (λ row. nat_lt 1 (length row.0)) election.rows

-- how many voters approve a candidate
abbrev pub approvals_of : List Row → ℕ → ℕ
approvals_of rows candidate = voter_count (filter (λ row. has_member row.0 candidate) rows)

-- the votes of the candidates as parties, from the first on: how many voters approve each
abbrev pub party_votes : Election → List ℕ
party_votes election = map (approvals_of election.rows) (range_with_len 1 election.m)
