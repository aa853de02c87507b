-- The families that choices make, level by level.
use Rattle.std.specs.Prelude.{◌≡◌, ℕ, zero, suc, nat_lt, nat_le, fold, Option, None, Some, ◌+◌, ◌-◌, ◌*◌, ◌<◌, ◌≤◌, ◌⊎◌, ⊤, Contains, true, ◌&&◌, ◌==◌, ◌||◌, Bool, false, not, List, [], ◌∷◌, length, map, filter, sum_by, slice_index_or, if◌then◌else◌}
use Rattle.std.specs.List.{list_all, list_any, flat_map, range_with_len, zip, AllByRecursion}
use Rattle.std.specs.List.Sorted.{IsStrictlySortedBy}
use Rattle.std.specs.Cmp.Lexicographic.{slice_cmp}
use Rattle.std.specs.Ordering.{nat_cmp}
use Rattle.ballot_base.specs.Lists.{IsIncreasing}
use Rattle.ballot_base.specs.CandSet.{has_member, other_members}
use Rattle.ballot_base.specs.Ballots.{Row, Election, hits}
use Rattle.tie_walk.specs.Sequences.{hit_weights, weight, gain, others, is_sequential_winner}
use Rattle.tie_walk.specs.Steps.Choices.{step_of, hits_of, may_choose, change, worth, better, worst, open_candidates, is_choice, start, IsReached, IsInOrder}
use Rattle.tie_walk.specs.declared.sequential.SeqRule.{SeqRule}
use Rattle.tie_walk.specs.declared.sequential.Step.{Step}
use Rattle.tie_walk.specs.declared.sequential.Step.TheVariants.{Grow, Shrink}
use Rattle.ballot_base.specs.Clones.{clones_among}
use Rattle.sequential_winners.specs.Clones.{clone_count, has_as_many, is_between}
use Rattle.sequential_winners.specs.Steps.Near.{near_of, first_least}

-- whether no candidate below c who is in the set of clones may be chosen
abbrev pub is_first_open : Step → List ℕ → List ℕ → ℕ → Bool
is_first_open step clones set c =
    list_all (λ d. not (has_member clones d && may_choose step set d)) (range_with_len 1 (c - 1))

-- whether the set grows, and no candidate adds anything to it
abbrev pub is_settled : Step → List ℕ → ℕ → List Row → List ℕ → Bool
is_settled Grow weights m rows set = list_all (λ c. gain weights rows set c == 0) (others m set)
is_settled Shrink weights m rows set = false

-- like `is_settled`, given the best worth
abbrev pub has_settled : Step → ℕ → Bool
has_settled Grow best = best == 0
has_settled Shrink best = false

-- the candidates who are chosen next: of clones who tie, only the first
abbrev pub ties : Step → List ℕ → ℕ → List Row → List ℕ → List ℕ
ties step weights m rows set =
    filter (λ c. is_choice step weights m rows set c && is_first_open step (clones_among m rows c) set c)
    (range_with_len 1 m)

-- what the next hit of a voter adds to the set, or what the last one takes from it
abbrev pub next_hit : Step → List ℕ → List ℕ → Row → ℕ
next_hit step weights set row = weight weights (hits_of step (hits row.0 set))

-- whether some voter whose next hit adds something approves both candidates
abbrev pub share_voter : Step → List ℕ → List Row → List ℕ → ℕ → ℕ → Bool
share_voter step weights rows set c d =
    list_any (λ (row : Row). nat_lt 0 (next_hit step weights set row) && (has_member row.0 c && has_member row.0 d))
    rows

-- whether no voter approves two of the candidates
abbrev pub shares_no_voter : List Row → List ℕ → Bool
shares_no_voter rows candidates = list_all (λ (row : Row). nat_le (hits row.0 candidates) 1) rows

-- what the candidates who are chosen next bring, or take away
abbrev pub tied_worth : Step → List ℕ → ℕ → List Row → List ℕ → ℕ
tied_worth step weights m rows set =
    fold (better step) (worst step) (map (worth step weights rows set) (open_candidates step m set))

-- whether two or more candidates tie who bring something, and no voter approves two of them
abbrev pub is_independent : Step → List ℕ → ℕ → List Row → List ℕ → Bool
is_independent step weights m rows set =
    nat_lt 0 (tied_worth step weights m rows set)
    && (nat_le 2 (length (ties step weights m rows set)) && shares_no_voter rows (ties step weights m rows set))

-- if the choices from the set may be made in any order, the set that all of them lead to
unfoldable pub end : Step → List ℕ → ℕ → List Row → List ℕ → Option (List ℕ)
end step weights m rows set =
    if is_settled step weights m rows set
    then Some (range_with_len 1 m)
    else if is_independent step weights m rows set
    then Some (fold (change step) set (ties step weights m rows set))
    else None

-- the candidates whom the choices that lead to a set have added, or taken out
abbrev pub picked : Step → ℕ → List ℕ → List ℕ
picked Grow m set = set
picked Shrink m set = others m set

-- how many choices lead to a set
abbrev pub chosen : Step → ℕ → List ℕ → ℕ
chosen step m set = length (picked step m set)

-- whether the candidate is the other one, or shares with it a voter whose next hit adds something
abbrev pub is_near : Step → List ℕ → List Row → List ℕ → ℕ → ℕ → Bool
is_near step weights rows set other c = (c == other) || share_voter step weights rows set other c

-- what a voter gives who approves one of the candidates: what the next hit adds, or what the last one takes
abbrev pub given_share : Step → List ℕ → List ℕ → List ℕ → Row → ℕ
given_share step weights set candidates row =
    if nat_lt 0 (hits row.0 candidates) then next_hit step weights set row else 0

-- what all voters give who approve one of the candidates
abbrev pub given : Step → List ℕ → List Row → List ℕ → List ℕ → ℕ
given step weights rows set candidates =
    sum_by (λ (row : Row). row.1 * given_share step weights set candidates row) rows

-- The candidates who are followed, where `left` choices are still to be made. Each choice of a tied candidate uses up
-- voters who give the best worth. If those who approve a candidate far from some tied one, the centre, give less than
-- `left` times as much, then the centre or somebody near is chosen before the best worth changes, and may be chosen at
-- once.
abbrev pub beginners_at : Step → List ℕ → ℕ → List Row → ℕ → List ℕ → ℕ → List ℕ
beginners_at step weights m rows left set middle =
    let tied = ties step weights m rows set in
    let near = filter (is_near step weights rows set middle) tied in
    if nat_lt (given step weights rows set (other_members tied near)) (left * tied_worth step weights m rows set)
    then near
    else tied

-- the first of the tied candidates with the fewest others near them
abbrev pub centre : Step → List ℕ → ℕ → List Row → List ℕ → ℕ
centre step weights m rows set =
    let tied = ties step weights m rows set in
    first_least (λ c. length (filter (is_near step weights rows set c) tied)) tied

-- those who are followed in the levels, by this centre
abbrev pub beginners : Step → List ℕ → ℕ → List Row → ℕ → List ℕ → List ℕ
beginners step weights m rows left set =
    beginners_at step weights m rows left set (centre step weights m rows set)

-- tied candidates, no two of whom share a voter whose next hit adds something
pub record AreApart (step : Step) (weights : List ℕ) (m : ℕ) (rows : List Row) (set together : List ℕ) : Type 0 where
  pub increasing : IsIncreasing 1 m together
  pub tied : (t : ℕ) → has_member together t ≡ true → has_member (ties step weights m rows set) t ≡ true
  pub apart : (c d : ℕ) → has_member together c ≡ true → has_member together d ≡ true → (c ≡ d → ⊥)
      → share_voter step weights rows set c d ≡ false

-- Whether so many candidates tie that some of them still tie after all but one of `left` choices: each choice takes out
-- of the tie only those near it.
abbrev pub HasEnoughTied : Step → List ℕ → ℕ → List Row → ℕ → List ℕ → Type 0
HasEnoughTied step weights m rows left set =
    let tied = ties step weights m rows set in
    (0 < length tied) × ((t : ℕ) → has_member tied t ≡ true
    → (left - 1) * length (filter (is_near step weights rows set t) tied) < length tied)

-- what follows a set in the levels of `total` choices: the sets that one choice makes; or the end; or the set itself,
-- for good, if its end lies beyond
abbrev pub followed : Step → ℕ → ℕ → List ℕ → List ℕ → Option (List ℕ) → List (List ℕ)
followed step m total set begin None = map (change step set) begin
followed step m total set begin (Some last) = (if nat_le (chosen step m last) total then last else set) ∷ []

unfoldable pub followers : Step → List ℕ → ℕ → List Row → ℕ → List ℕ → List (List ℕ)
followers step weights m rows total set =
    followed step m total set (beginners step weights m rows (total - chosen step m set) set)
    (end step weights m rows set)

-- what the level after level `size` has of a set: what follows it, or the set if other than `size` choices lead to it
abbrev pub family_changes : Step → List ℕ → ℕ → List Row → ℕ → ℕ → List ℕ → List (List ℕ)
family_changes step weights m rows total size set =
    if chosen step m set == size then followers step weights m rows total set else set ∷ []

-- the end, or the set itself if there is none
abbrev pub end_or : List ℕ → Option (List ℕ) → List ℕ
end_or set None = set
end_or set (Some last) = last

-- the other end of a family of the committees of k: its set if that has k members, and otherwise its end
abbrev pub other_end : Step → List ℕ → ℕ → List Row → ℕ → List ℕ → List ℕ
other_end step weights m rows k set = if length set == k then set else end_or set (end step weights m rows set)

-- the list has exactly the families that follow those of another, in lexicographic order, each once
abbrev pub IsNextFamilies : Step → List ℕ → ℕ → List Row → ℕ → ℕ → List (List ℕ) → List (List ℕ) → Type 0
IsNextFamilies step weights m rows total size level next =
    IsInOrder (flat_map (family_changes step weights m rows total size) level) next

-- at most as many of each class of clones
abbrev pub IsBelow : List Row → List ℕ → List ℕ → Type 0
IsBelow rows set other = (c : ℕ) → clone_count rows set c ≤ clone_count rows other c

-- as many of each class as choices may make of the set
abbrev pub IsAhead : Step → ℕ → List Row → List ℕ → List ℕ → Type 0
IsAhead step m rows set other = IsBelow rows (picked step m set) (picked step m other)

-- after a hit that brings something, the next one brings less, and after another one it brings nothing
abbrev pub IsFalling : List ℕ → Type 0
IsFalling weights = (j : ℕ) → 1 ≤ j → weight weights (j + 1) ≤ weight weights j - 1

-- where a set shrinks, each hit takes something
abbrev pub AllCount : Step → ℕ → List ℕ → Type 0
AllCount Grow m weights = ⊤
AllCount Shrink m weights = (j : ℕ) → 1 ≤ j → j ≤ m → 0 < weight weights j

module _ (step : Step) (weights : List ℕ) (m : ℕ) (rows : List Row) where
  -- some list of this many choices makes the set
  abbrev pub IsReachedBy : ℕ → List ℕ → Type 0
  IsReachedBy size set = IsReached (is_choice step weights m rows) (change step) (start step m) size set

  -- the set has an end that more than `size` choices lead to
  abbrev pub IsLasting : ℕ → List ℕ → Type 0
  IsLasting size set = (last : List ℕ) × (end step weights m rows set ≡ Some last) × (size < chosen step m last)

  -- as many of each class were picked
  abbrev pub IsAlike : List ℕ → List ℕ → Type 0
  IsAlike set made = IsAhead step m rows set made × IsAhead step m rows made set

  -- some list of `n` choices leads from the set to one like `made`
  abbrev pub LeadsTo : List ℕ → ℕ → List ℕ → Type 0
  LeadsTo made zero set = IsAlike set made
  LeadsTo made (suc n) set =
      (c : ℕ) × (is_choice step weights m rows set c ≡ true) × LeadsTo made n (change step set c)

  -- to a set of a level led at least `size` choices; or fewer, and its end lies beyond all `total`
  abbrev pub IsPlaced : ℕ → ℕ → List ℕ → Type 0
  IsPlaced total size set = (chosen step m set ≤ total) × ((size ≤ chosen step m set) ⊎ IsLasting total set)

  -- the sets that `total` choices make are those that the choices still to be made lead to from some set
  pub record IsFamilyLevel (total size : ℕ) (sets : List (List ℕ)) : Type 0 where
    pub order : IsStrictlySortedBy (slice_cmp nat_cmp) sets
    pub candidates : (set : List ℕ) → Contains sets set → IsIncreasing 1 m set
    pub placed : (set : List ℕ) → Contains sets set → IsPlaced total size set
    pub reached : (made : List ℕ) → IsReachedBy total made
        → (set : List ℕ) × Contains sets set × LeadsTo made (total - chosen step m set) set
    pub made : (made set : List ℕ) → IsIncreasing 1 m made → Contains sets set
        → LeadsTo made (total - chosen step m set) set → IsReachedBy total made

-- Families, each as the least and the most members that its committees have of each class. Those of k are the
-- committees that some sequence of choices makes. If each has a least set of k members, these are in order.
pub record AreFamilies (rule : SeqRule) (e : Election) (k : ℕ) (leasts mosts : List (List ℕ)) : Type 0 where
  pub paired : length mosts ≡ length leasts
  pub least_sets : AllByRecursion (λ set. IsIncreasing 1 e.m set) leasts
  pub most_sets : AllByRecursion (λ set. IsIncreasing 1 e.m set) mosts
  pub spans : (i : ℕ) → i < length leasts
      → has_as_many e.m e.rows (slice_index_or mosts i []) (slice_index_or leasts i []) ≡ true
  pub order : list_all (λ set. length set == k) leasts ≡ true → IsStrictlySortedBy (slice_cmp nat_cmp) leasts
  pub reached : (committee : List ℕ) → IsIncreasing 1 e.m committee → length committee ≡ k
      → is_sequential_winner rule e k committee
      ≡ list_any (λ family. is_between e.m e.rows family.0 family.1 committee) (zip leasts mosts)

-- ---- the same of a rule at an election

abbrev pub ties_by : SeqRule → Election → List ℕ → List ℕ
ties_by rule e set = ties (step_of rule) (hit_weights rule e.m) e.m e.rows set

-- `next_hit` of a ballot
abbrev pub next_hit_by : SeqRule → Election → List ℕ → List ℕ → ℕ
next_hit_by rule e set ballot = weight (hit_weights rule e.m) (hits_of (step_of rule) (hits ballot set))

-- those of the candidates who are near another one
abbrev pub near_by : SeqRule → Election → List ℕ → ℕ → List ℕ → List ℕ
near_by rule e set other candidates =
    filter (is_near (step_of rule) (hit_weights rule e.m) e.rows set other) candidates

-- the table holds for each of the candidates those who are near it
abbrev pub AreNear : SeqRule → Election → List ℕ → List ℕ → List (List ℕ) → Type 0
AreNear rule e set candidates table =
    (c : ℕ) → has_member candidates c ≡ true → near_of table c ≡ near_by rule e set c candidates

-- `given` of an election
abbrev pub given_by : SeqRule → Election → List ℕ → List ℕ → ℕ
given_by rule e set candidates = given (step_of rule) (hit_weights rule e.m) e.rows set candidates

abbrev pub begun_by : SeqRule → Election → ℕ → List ℕ → ℕ → List ℕ
begun_by rule e left set middle = beginners_at (step_of rule) (hit_weights rule e.m) e.m e.rows left set middle

abbrev pub beginners_by : SeqRule → Election → ℕ → List ℕ → List ℕ
beginners_by rule e left set = beginners (step_of rule) (hit_weights rule e.m) e.m e.rows left set

abbrev pub AreApartBy : SeqRule → Election → List ℕ → List ℕ → Type 0
AreApartBy rule e set together = AreApart (step_of rule) (hit_weights rule e.m) e.m e.rows set together

abbrev pub HasEnoughTiedBy : SeqRule → Election → ℕ → List ℕ → Type 0
HasEnoughTiedBy rule e left set = HasEnoughTied (step_of rule) (hit_weights rule e.m) e.m e.rows left set

abbrev pub end_by : SeqRule → Election → List ℕ → Option (List ℕ)
end_by rule e set = end (step_of rule) (hit_weights rule e.m) e.m e.rows set

abbrev pub followers_by : SeqRule → Election → ℕ → List ℕ → List (List ℕ)
followers_by rule e total set = followers (step_of rule) (hit_weights rule e.m) e.m e.rows total set

abbrev pub other_end_by : SeqRule → Election → ℕ → List ℕ → List ℕ
other_end_by rule e k set = other_end (step_of rule) (hit_weights rule e.m) e.m e.rows k set

-- `IsNextFamilies`, and `IsFamilyLevel`
abbrev pub AreFollowing : SeqRule → Election → ℕ → ℕ → List (List ℕ) → List (List ℕ) → Type 0
AreFollowing rule e total size level next =
    IsNextFamilies (step_of rule) (hit_weights rule e.m) e.m e.rows total size level next

abbrev pub AreReached : SeqRule → Election → ℕ → ℕ → List (List ℕ) → Type 0
AreReached rule e total size sets = IsFamilyLevel (step_of rule) (hit_weights rule e.m) e.m e.rows total size sets
