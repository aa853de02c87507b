-- The increments of Thiele's rules, as whole numbers over a common denominator
-- (Lackner and Skowron, Multi-Winner Voting with Approval Preferences, Thiele methods).
use Rattle.std.specs.Prelude.{ℕ, ◌-◌, ◌/◌, ◌^◌, ◌==◌, List, map, nat_le, if◌then◌else◌}
use Rattle.std.specs.List.{range_with_len}
use Rattle.ballot_base.specs.Limits.{most_members}
use Rattle.ballot_base.specs.CommonMultiple.{common_multiple}
use Rattle.ballot_base.specs.declared.increments.ThieleRule.{ThieleRule}
use Rattle.ballot_base.specs.declared.increments.ThieleRule.TheVariants.{Av, Pav, Cc, Geom2, Geom3, Geom4}

-- What the j-th approved member adds for a voter, times the denominator, for committees of size k. Without that factor
-- it is 1 under approval voting, 1/j under proportional approval voting, and 1/p^(j-1) under a geometric rule. Under
-- Chamberlin-Courant it is 1 for the first member and 0 for the others.
abbrev pub increment : ThieleRule → ℕ → ℕ → ℕ
increment Av k j = 1
increment Pav k j = common_multiple k / j
increment Cc k j = if j == 1 then 1 else 0
increment Geom2 k j = 2 ^ (k - j)
increment Geom3 k j = 3 ^ (k - j)
increment Geom4 k j = 4 ^ (k - j)

-- the common denominator
abbrev pub denominator : ThieleRule → ℕ → ℕ
denominator Av k = 1
denominator Pav k = common_multiple k
denominator Cc k = 1
denominator Geom2 k = 2 ^ (k - 1)
denominator Geom3 k = 3 ^ (k - 1)
denominator Geom4 k = 4 ^ (k - 1)

-- the increments of the members 1 to `most_members`; the members past k add nothing
unfoldable pub increments : ThieleRule → ℕ → List ℕ
increments rule k = map (λ j. if nat_le j k then increment rule k j else 0) (range_with_len 1 most_members)
