-- Branches: nodes whose free candidates come after the members of the set. A stack has the branches that the winners
-- still to come complete.
use Rattle.std.specs.Prelude.{◌≡◌, ℕ, ◌+◌, ◌*◌, ◌-◌, ◌^◌, ◌<◌, ◌≤◌, ◌&&◌, Bool, true, List, [], ◌∷◌, ◌++◌, Option, None, Some, ⊤, length, filter, sum_by, MatchOption}
use Rattle.std.specs.List.{range_with_len}
use Rattle.ballot_base.specs.CandSet.{either_members, includes}
use Rattle.ballot_base.specs.Lists.{IsIncreasing, increasing_lists, later_than}
use Rattle.tie_walk.specs.Winners.{winners}
use Rattle.row_multipliers.specs.declared.node.Node.{Node}
use Rattle.tie_search.specs.Alike.{AreClasses, Becomes, HasClasses}
use Rattle.tie_search.specs.Asked.{beginnings, begins_some, most_questions}
use Rattle.tie_search.specs.Tied.{IsAmong, IsBest}
use Rattle.tie_search.specs.Steps.Searched.{IsSearched}
use Rattle.tie_search.specs.declared.asking.Asking.{Asking}
use Rattle.tie_search.specs.declared.oracle.Oracle.{Oracle}
use Rattle.tie_search.specs.declared.branch_list.BranchList.{BranchList}

-- whether the committee is the set of the branch and some of its free candidates: a test by which lists are filtered,
-- and with the right number of these an `IsCompletion`
abbrev pub completes : Node → List ℕ → Bool
completes branch committee =
    includes committee branch.set && includes (either_members branch.set branch.free) committee

-- the winners that complete the branch
abbrev pub winners_of : (List ℕ → ℕ) → ℕ → ℕ → Node → List (List ℕ)
winners_of value m k branch = filter (completes branch) (winners value m k)

-- the winners still to come if these branches are left: those that complete the last branch come first
unfoldable pub left_by : (List ℕ → ℕ) → ℕ → ℕ → List Node → List (List ℕ)
left_by value m k [] = []
left_by value m k (branch ∷ above) = left_by value m k above ++ winners_of value m k branch

-- how many lists of more than `size` and at most k of the candidates 1 to m begin one of the committees
abbrev pub longer_beginnings : ℕ → ℕ → ℕ → List (List ℕ) → ℕ
longer_beginnings m k size committees =
    sum_by (λ s. length (filter (begins_some committees) (increasing_lists 1 m s)))
    (range_with_len (size + 1) (k - size))

-- how many sets are still to be entered for the winners that complete the branch
unfoldable pub entries : (List ℕ → ℕ) → ℕ → ℕ → Node → ℕ
entries value m k branch = longer_beginnings m k (length branch.set) (winners_of value m k branch)

-- how many sets are still to be entered for the winners that the branches leave
unfoldable pub to_enter : (List ℕ → ℕ) → ℕ → ℕ → List Node → ℕ
to_enter value m k branches = sum_by (entries value m k) branches

-- a branch of the committees of k of the candidates 1 to m: the free candidates come after the members of the set
pub record IsBranch (m k : ℕ) (branch : Node) : Type 0 where
  pub last : ℕ
  pub within : last ≤ m
  pub set_upto : IsIncreasing 1 last branch.set
  pub free_after : IsIncreasing (last + 1) m branch.free
  pub size : length branch.set + branch.left ≡ k

-- whatever the committee becomes, if clones by these classes take the place of members, does not complete the branch
abbrev pub IsUnsuited : Node → List (List ℕ) → List ℕ → Type 0
IsUnsuited branch classes committee = (m k : ℕ) (class : ℕ → List ℕ) (other : List ℕ) → IsBranch m k branch
    → HasClasses m class classes → ((c : ℕ) → 1 ≤ c → c ≤ m → IsIncreasing 1 m (class c)) → AreClasses m class
    → IsIncreasing 1 m committee → Becomes m class committee other → completes branch other ≡ true → ⊥

-- a stack: each set has one member more than the set of the branch under it; the first set has `size` members
abbrev pub AreStacked : ℕ → ℕ → ℕ → List Node → Type 0
AreStacked m k size [] = ⊤
AreStacked m k size (branch ∷ above) =
    IsBranch m k branch × (length branch.set ≡ size) × AreStacked m k (size + 1) above

-- the branches that are completed by the committees of k that begin with `front` and are later than `front` with `rest`
unfoldable pub branches_after : ℕ → ℕ → List ℕ → List ℕ → List Node
branches_after m k front [] = []
branches_after m k front (n ∷ rest) =
    record { set = front; free = range_with_len (n + 1) (m - n); left = k - length front }
    ∷ branches_after m k (front ++ n ∷ []) rest

-- a committee with the highest value that completes the branch
pub record IsWinnerOf (value : List ℕ → ℕ) (m k : ℕ) (branch : Node) (committee : List ℕ) : Type 0 where
  pub best : IsBest value m k committee
  pub whole : completes branch committee ≡ true

-- no committee with the highest value completes the branch
abbrev pub IsBarren : (List ℕ → ℕ) → ℕ → ℕ → Node → Type 0
IsBarren value m k branch = (committee : List ℕ) → IsWinnerOf value m k branch committee → ⊥

abbrev pub IsAnswer : (List ℕ → ℕ) → ℕ → ℕ → Node → Option (List ℕ) → Type 0
IsAnswer value m k branch answer = MatchOption answer (IsBarren value m k branch) (IsWinnerOf value m k branch)

-- the committees with the highest value that complete the branch of a list: each becomes a listed one by exchanges of
-- clones
pub record AreListedWithin (value : List ℕ → ℕ) (class : ℕ → List ℕ) (m k : ℕ) (list : BranchList) : Type 0 where
  pub each : (committee : List ℕ) → IsAmong list.winners.items committee → IsBest value m k committee
  pub all : (committee : List ℕ) → IsWinnerOf value m k list.within committee
      → (other : List ℕ) × IsAmong list.winners.items other × Becomes m class other committee

-- what is known of the committees of k with the highest value is true
abbrev pub IsOracle : {S : Type 0} → (S → List ℕ → ℕ) → (S → ℕ → List ℕ) → (S → ℕ) → Oracle S → Type 0
IsOracle value class candidates oracle =
    IsSearched (value oracle.search) (class oracle.search) (candidates oracle.search) oracle.m oracle.k oracle.value
    oracle.tied

-- what is true of winners that are asked for
pub record IsAsking (value : List ℕ → ℕ) (m k : ℕ) (asking : Asking) : Type 0 where
  pub found_is : IsBest value m k asking.found
  pub stacked : AreStacked m k 0 asking.branches.items
  pub few : length asking.branches.items ≤ k
  pub fits : asking.entered + to_enter value m k asking.branches.items < 2 ^ 127

-- what is true on the way down from a branch to the first winner that completes it
pub record IsOnTheWay (value : List ℕ → ℕ) (m k : ℕ) (asking : Asking) (branch : Node) : Type 0 where
  pub stacked : AreStacked m k 0 asking.branches.items
  pub branch_is : IsBranch m k branch
  pub size_is : length branch.set ≡ length asking.branches.items
  pub reached : IsWinnerOf value m k branch asking.found
  pub fits : asking.entered + to_enter value m k (asking.branches.items ++ branch ∷ []) < 2 ^ 127

-- A step from a stack to another: the first winners that the one leaves are found, and the other leaves the rest. The
-- sets that need not be entered any more were entered.
pub record IsStep (value : List ℕ → ℕ) (m k : ℕ) (before : List Node) (entered : ℕ) (found : List (List ℕ))
    (after : List Node) (entered' : ℕ) : Type 0 where
  pub left : left_by value m k before ≡ found ++ left_by value m k after
  pub rises : entered ≤ entered'
  pub counted : entered' + to_enter value m k after ≡ entered + to_enter value m k before

-- How many questions are asked for a step: at most m + k. Those of all steps together are at most m + k for each winner
-- that is found, and one for each branch of the first stack.
pub record AreAsked (m k : ℕ) (before : Asking) (found : List (List ℕ)) (after : Asking) : Type 0 where
  pub rise : before.asked ≤ after.asked
  pub few : after.asked ≤ before.asked + m + k
  pub spread : after.asked + length after.branches.items
      ≤ before.asked + length before.branches.items + (m + k) * length found

-- ---- the same in what is searched, as contracts say it: `value` and `candidates` are those of the search

abbrev pub IsBranchIn : {S : Type 0} → (S → ℕ) → Oracle S → Node → Type 0
IsBranchIn candidates oracle = IsBranch (candidates oracle.search) oracle.k

abbrev pub IsBestIn : {S : Type 0} → (S → List ℕ → ℕ) → (S → ℕ) → Oracle S → List ℕ → Type 0
IsBestIn value candidates oracle = IsBest (value oracle.search) (candidates oracle.search) oracle.k

-- a committee with the highest value, or no such committee completes the branch
abbrev pub IsGuessIn : {S : Type 0} → (S → List ℕ → ℕ) → (S → ℕ) → Oracle S → Node → Option (List ℕ) → Type 0
IsGuessIn value candidates oracle branch guess =
    MatchOption guess (IsBarren (value oracle.search) (candidates oracle.search) oracle.k branch)
    (IsBestIn value candidates oracle)

abbrev pub IsAnswerIn : {S : Type 0} → (S → List ℕ → ℕ) → (S → ℕ) → Oracle S → Node → Option (List ℕ) → Type 0
IsAnswerIn value candidates oracle = IsAnswer (value oracle.search) (candidates oracle.search) oracle.k

abbrev pub AreListedIn : {S : Type 0} → (S → List ℕ → ℕ) → (S → ℕ → List ℕ) → (S → ℕ) → Oracle S → BranchList → Type 0
AreListedIn value class candidates oracle =
    AreListedWithin (value oracle.search) (class oracle.search) (candidates oracle.search) oracle.k

abbrev pub IsAskingIn : {S : Type 0} → (S → List ℕ → ℕ) → (S → ℕ) → Oracle S → Asking → Type 0
IsAskingIn value candidates oracle = IsAsking (value oracle.search) (candidates oracle.search) oracle.k

abbrev pub IsOnTheWayIn : {S : Type 0} → (S → List ℕ → ℕ) → (S → ℕ) → Oracle S → Asking → Node → Type 0
IsOnTheWayIn value candidates oracle = IsOnTheWay (value oracle.search) (candidates oracle.search) oracle.k

abbrev pub AreAskedIn : {S : Type 0} → (S → ℕ) → Oracle S → Asking → List (List ℕ) → Asking → Type 0
AreAskedIn candidates oracle = AreAsked (candidates oracle.search) oracle.k

-- a step from all branches
abbrev pub IsStepIn : {S : Type 0} → (S → List ℕ → ℕ) → (S → ℕ) → Oracle S → Asking → List (List ℕ) → Asking → Type 0
IsStepIn value candidates oracle before found after =
    IsStep (value oracle.search) (candidates oracle.search) oracle.k before.branches.items before.entered found
    after.branches.items after.entered

-- a step from all branches and one more
abbrev pub IsStepFrom : {S : Type 0} → (S → List ℕ → ℕ) → (S → ℕ) → Oracle S → Asking → Node → List (List ℕ)
    → Asking → Type 0
IsStepFrom value candidates oracle before branch found after =
    IsStep (value oracle.search) (candidates oracle.search) oracle.k (before.branches.items ++ branch ∷ [])
    before.entered found after.branches.items after.entered

-- ---- the start

-- the first branches after a start
abbrev pub first_branches : ℕ → ℕ → Option (List ℕ) → List Node
first_branches m k None = record { set = []; free = range_with_len 1 m; left = k } ∷ []
first_branches m k (Some start) = branches_after m k [] start

-- what is true of the winners after a start: the sets that were entered and those still to be entered begin a later
-- winner, and they are all if there was no start; and how many questions there can be for those that were found
pub record IsCounted (value : List ℕ → ℕ) (m k : ℕ) (after : Option (List ℕ)) (asking : Asking) : Type 0 where
  pub most : asking.entered + to_enter value m k asking.branches.items
      ≤ beginnings m k (later_than after (winners value m k))
  pub all : after ≡ None → asking.entered + to_enter value m k asking.branches.items
      ≡ beginnings m k (winners value m k)
  pub few : asking.asked + length asking.branches.items + (m + k) * length (left_by value m k asking.branches.items)
      ≤ most_questions m k (later_than after (winners value m k))

-- all winners later than the start are still to come, and nothing was asked yet
pub record IsBegun (value : List ℕ → ℕ) (m k : ℕ) (after : Option (List ℕ)) (asking : Asking) : Type 0 where
  pub asking_is : IsAsking value m k asking
  pub counted : IsCounted value m k after asking
  pub left : left_by value m k asking.branches.items ≡ later_than after (winners value m k)
  pub entered : asking.entered ≡ 0
  pub questions : asking.asked ≡ 0

-- what is true of winners that are listed
pub record IsListing {S : Type 0} (value : S → List ℕ → ℕ) (class : S → ℕ → List ℕ) (candidates : S → ℕ)
    (oracle : Oracle S) (after : Option (List ℕ)) (asking : Asking) (list : BranchList) : Type 0 where
  pub knows : IsOracle value class candidates oracle
  pub asking_is : IsAsking (value oracle.search) (candidates oracle.search) oracle.k asking
  pub counted : IsCounted (value oracle.search) (candidates oracle.search) oracle.k after asking
  pub listed : AreListedIn value class candidates oracle list
