-- The report of a violation. It names one of the groups that break a property by a list T and, for PJR, a list U. T has
-- l candidates or, for EJR+, one candidate outside the committee. U has l - 1 members of the committee. The group is
-- all the voters who approve all of T and are represented by too few members, for PJR by none outside U. (This
-- project's choice.)
use Rattle.std.specs.Prelude.{◌≡◌, ℕ, ◌-◌, ◌<◌, ◌≤◌, ◌&&◌, Bool, List, [], ◌∷◌, length, map, filter, find, flat_map, sum, nat_lt, Option, Some, option_map, if◌then◌else◌}
use Rattle.std.specs.List.{list_all}
use Rattle.ballot_base.specs.Lists.{increasing_lists}
use Rattle.ballot_base.specs.CandSet.{common_members, includes}
use Rattle.ballot_base.specs.Ballots.{Row, Election, hits}
use Rattle.group_check.specs.declared.property.Property.{Property}
use Rattle.group_check.specs.declared.property.Property.TheVariants.{Jr, Pjr, Ejr, EjrPlus}
use Rattle.group_check.specs.declared.property.Violation.{Violation}
use Rattle.group_check.specs.Groups.{breaks, Breaks, SomeGroupBreaks, is_outside}

-- whether a ballot belongs to the group of T and U: it approves all of T, and
-- - for PJR, the members of the committee that it approves lie in U
-- - for JR, EJR and EJR+, they are fewer than the level
abbrev pub fits_pair : Property → List ℕ → ℕ → List ℕ × List ℕ → List ℕ → Bool
fits_pair Jr committee level pair ballot = includes ballot pair.0 && nat_lt (hits ballot committee) level
fits_pair Pjr committee level pair ballot =
    includes ballot pair.0 && includes pair.1 (common_members ballot committee)
fits_pair Ejr committee level pair ballot = includes ballot pair.0 && nat_lt (hits ballot committee) level
fits_pair EjrPlus committee level pair ballot = includes ballot pair.0 && nat_lt (hits ballot committee) level

-- the group of all voters whose ballots pass the test
abbrev pub group_of : (List ℕ → Bool) → List Row → List ℕ
group_of test rows = map (λ row. if test row.0 then row.1 else 0) rows

-- the group of T and U
abbrev pub pair_group : Property → Election → List ℕ → ℕ → List ℕ × List ℕ → List ℕ
pair_group property e committee level pair = group_of (fits_pair property committee level pair) e.rows

-- the lists U that come with each T: for PJR those of l - 1 members of the committee, otherwise only the empty list
abbrev pub lists_within : Property → ℕ → List ℕ → ℕ → List (List ℕ)
lists_within Jr m committee level = [] ∷ []
lists_within Pjr m committee level = filter (includes committee) (increasing_lists 1 m (level - 1))
lists_within Ejr m committee level = [] ∷ []
lists_within EjrPlus m committee level = [] ∷ []

-- the lists T of a level: those of l candidates, and for EJR+ those of one candidate outside the committee
abbrev pub lists_shared : Property → ℕ → List ℕ → ℕ → List (List ℕ)
lists_shared Jr m committee level = increasing_lists 1 m level
lists_shared Pjr m committee level = increasing_lists 1 m level
lists_shared Ejr m committee level = increasing_lists 1 m level
lists_shared EjrPlus m committee level = filter (list_all (is_outside committee)) (increasing_lists 1 m 1)

-- the pairs of T and U at a level, ordered by T and then by U
abbrev pub pairs_at : Property → ℕ → List ℕ → ℕ → List (List ℕ × List ℕ)
pairs_at property m committee level =
    flat_map (λ first. map (λ second. (first, second)) (lists_within property m committee level))
    (lists_shared property m committee level)

-- whether the group of T and U breaks the property
abbrev pub pair_breaks : Property → Election → List ℕ → ℕ → List ℕ × List ℕ → Bool
pair_breaks property e committee level pair =
    breaks property e committee level (pair_group property e committee level pair)

-- the violation that T and U show: their whole group
abbrev pub violation_of : Property → Election → List ℕ → ℕ → List ℕ × List ℕ → Violation
violation_of property e committee level pair = record {
  property = property;
  committee = committee;
  level = level;
  shared = pair.0;
  within = pair.1;
  voters = sum (pair_group property e committee level pair);
}

-- the violation of the first T and U whose group breaks the property at this level
abbrev pub first_violation : Property → Election → List ℕ → ℕ → Option Violation
first_violation property e committee level =
    option_map (violation_of property e committee level)
    (find (pair_breaks property e committee level) (pairs_at property e.m committee level))

-- whether a ballot's voters belong to the group of the violation
abbrev pub is_in_group : Violation → List ℕ → Bool
is_in_group violation ballot =
    fits_pair violation.property violation.committee violation.level (violation.shared, violation.within) ballot

-- The report of a committee that lacks the property. Its group breaks the property, at the lowest level at which some
-- group does. It is the first violation at that level.
pub record IsReport (property : Property) (e : Election) (committee : List ℕ) (report : Violation) : Type 0 where
  pub low : 1 ≤ report.level
  pub high : report.level ≤ length committee
  pub breaks : Breaks property e committee report.level (group_of (is_in_group report) e.rows)
  pub least : (level : ℕ) → 1 ≤ level → level < report.level
      → SomeGroupBreaks property e committee level → ⊥
  pub first : first_violation property e committee report.level ≡ Some report
