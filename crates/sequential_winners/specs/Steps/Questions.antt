-- Questions about winners, and where choices lead.
use Rattle.std.specs.Prelude.{◌≡◌, ℕ, ◌+◌, ◌-◌, ◌<◌, ◌≤◌, ◌++◌, Contains, List, [], None, Some, length, true}
use Rattle.std.specs.List.{range_with_len}
use Rattle.ballot_base.specs.Lists.{IsIncreasing}
use Rattle.ballot_base.specs.CandSet.{has_member}
use Rattle.ballot_base.specs.Ballots.{Election}
use Rattle.tie_walk.specs.Sequences.{hit_weights}
use Rattle.tie_walk.specs.Steps.Choices.{step_of, choices_of, change, best_worth, open_candidates}
use Rattle.tie_walk.specs.declared.sequential.SeqRule.{SeqRule}
use Rattle.tie_walk.specs.declared.sequential.Step.{Step}
use Rattle.tie_walk.specs.declared.sequential.Step.TheVariants.{Grow, Shrink}
use Rattle.sequential_winners.specs.declared.levels.Ahead.{Ahead}
use Rattle.sequential_winners.specs.declared.levels.Ahead.TheVariants.{Within, Beyond, Choices}
use Rattle.sequential_winners.specs.Steps.Levels.{chosen, end_by, ties_by, LeadsTo}

-- where the choices from a set lead, of `total` in all
abbrev pub LeadsAhead : SeqRule → Election → ℕ → List ℕ → Ahead → Type 0
LeadsAhead rule e total set (Within last) = (end_by rule e set ≡ Some last) × (chosen (step_of rule) e.m last ≤ total)
LeadsAhead rule e total set (Beyond last) = (end_by rule e set ≡ Some last) × (total < chosen (step_of rule) e.m last)
LeadsAhead rule e total set (Choices best ties) =
    (end_by rule e set ≡ None) × (best ≡ best_worth rule e set) × (ties ≡ ties_by rule e set)

-- the set after all choices that can be made
abbrev pub finish : Step → ℕ → List ℕ
finish Grow m = range_with_len 1 m
finish Shrink m = []

-- the least set and the most set of the family between a set and another that choices make of it
abbrev pub family_of : Step → List ℕ → List ℕ → List ℕ × List ℕ
family_of Grow set other = (set, other)
family_of Shrink set other = (other, set)

-- a committee of k that consists of a set and of candidates after c
abbrev pub IsAsked : ℕ → ℕ → ℕ → List ℕ → List ℕ → Type 0
IsAsked m k c set made =
    (added : List ℕ) × IsIncreasing (c + 1) m added × (length set + length added ≡ k) × (made ≡ set ++ added)

-- the choices still to be made lead from one set to another
abbrev pub LeadsOn : SeqRule → Election → ℕ → List ℕ → List ℕ → Type 0
LeadsOn rule e k from made = LeadsTo (step_of rule) (hit_weights rule e.m) e.m e.rows made
    (choices_of rule e.m k - chosen (step_of rule) e.m from) from

-- they lead to some committee that is asked for, or to none
abbrev pub IsLive : SeqRule → Election → ℕ → ℕ → List ℕ → List ℕ → Type 0
IsLive rule e k c set from = (made : List ℕ) × IsAsked e.m k c set made × LeadsOn rule e k from made

abbrev pub IsDead : SeqRule → Election → ℕ → ℕ → List ℕ → List ℕ → Type 0
IsDead rule e k c set from = (made : List ℕ) → IsAsked e.m k c set made → LeadsOn rule e k from made → ⊥

-- candidates of whom one may be chosen next, and has to be if the choices lead to a committee that is asked for
pub record AreBranches (rule : SeqRule) (e : Election) (k c : ℕ) (set from branches : List ℕ) : Type 0 where
  pub free : (n : ℕ) → has_member branches n ≡ true → has_member (open_candidates (step_of rule) e.m from) n ≡ true
  pub live : (n : ℕ) → has_member branches n ≡ true → IsLive rule e k c set (change (step_of rule) from n)
      → IsLive rule e k c set from
  pub dead : ((n : ℕ) → has_member branches n ≡ true → IsDead rule e k c set (change (step_of rule) from n))
      → IsDead rule e k c set from

-- they lead to none from each of the sets
abbrev pub AreDead : SeqRule → Election → ℕ → ℕ → List ℕ → List (List ℕ) → Type 0
AreDead rule e k c set sets = (from : List ℕ) → Contains sets from → IsDead rule e k c set from
