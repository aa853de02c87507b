-- Steps of a search that lists committees.
use Rattle.std.specs.Prelude.{◌≡◌, ℕ, ◌+◌, ◌⊎◌, ◌<◌, ◌≤◌, List, length, ⊤}
use Rattle.tie_search.specs.Alike.{Becomes}
use Rattle.row_multipliers.specs.Completions.{IsCompletion}
use Rattle.tie_search.specs.Tied.{AreDistinct, IsAmong, most_tied}
use Rattle.tie_search.specs.declared.found.Found.{Found}
use Rattle.tie_search.specs.declared.found.Tied.{Tied}
use Rattle.tie_search.specs.declared.found.Tied.TheVariants.{Known, Listed}
use Rattle.tie_search.specs.declared.found.Wanted.TheVariants.{All}

-- at least one committee is known
abbrev pub HasSome : Tied → Type 0
HasSome (Listed committees) = 1 ≤ length committees.items
HasSome (Known committee) = ⊤

-- the committee is one of those that are known
abbrev pub IsKnown : Tied → List ℕ → Type 0
IsKnown (Listed committees) = IsAmong committees.items
IsKnown (Known committee) = λ other. other ≡ committee

abbrev pub IsListed : Found → List ℕ → Type 0
IsListed found = IsAmong found.committees.items

-- the committee is worth less than what is still looked for, or it is listed
abbrev pub IsSettled : (List ℕ → ℕ) → Found → List ℕ → Type 0
IsSettled value found committee = (value committee < found.least) ⊎ IsListed found committee

-- no listed committee has the value that is still looked for
abbrev pub IsAbove : Found → Type 0
IsAbove found = 1 ≤ length found.committees.items → found.value < found.least

-- the committee becomes, by exchanges of clones, one that is settled and has the same value
pub record IsSettledLike (value : List ℕ → ℕ) (m : ℕ) (class : ℕ → List ℕ) (found : Found) (committee : List ℕ) : Type 0
  where
    pub other : List ℕ
    pub becomes : Becomes m class other committee
    pub same : value other ≡ value committee
    pub settled : IsSettled value found other

-- The listed committees are distinct and have the same value, and no lower value is looked for. If this value is no
-- longer looked for, the list is full.
pub record AreListed (value : List ℕ → ℕ) (found : Found) : Type 0 where
  pub few : length found.committees.items ≤ most_tied
  pub same : (committee : List ℕ) → IsListed found committee → value committee ≡ found.value
  pub low : 1 ≤ length found.committees.items → found.value ≤ found.least
  pub high : found.wanted ≡ All → 1 ≤ length found.committees.items → found.least ≤ found.value + 1
  pub full : found.wanted ≡ All → 1 ≤ length found.committees.items → found.value < found.least
      → length found.committees.items ≡ most_tied
  pub distinct : AreDistinct found.committees.items

-- all committees are wanted, but the value of the listed ones is no longer looked for
abbrev pub LeavesOut : Found → Type 0
LeavesOut found = (found.wanted ≡ All) × (1 ≤ length found.committees.items) × (found.value < found.least)

-- the committee has the value of the listed ones, and is not listed
abbrev pub IsLeftOut : (List ℕ → ℕ) → Found → List ℕ → Type 0
IsLeftOut value found committee = (value committee ≡ found.value) × (IsListed found committee → ⊥)

-- the committees that were left out before still are
abbrev pub StillLeavesOut : (List ℕ → ℕ) → Found → Found → Type 0
StillLeavesOut value before after =
    LeavesOut before × ((committee : List ℕ) → IsLeftOut value before committee → IsLeftOut value after committee)

-- Every committee that was added or left out is `IsNew`, and an added one has at least the value that was looked for.
-- All that was settled still is.
pub record Advances (value : List ℕ → ℕ) (IsNew : List ℕ → Type 0) (before after : Found) : Type 0 where
  pub valid : AreListed value after
  pub wanted : after.wanted ≡ before.wanted
  pub least : before.least ≤ after.least
  pub kept : (committee : List ℕ) → IsListed before committee → IsSettled value after committee
  pub new : (committee : List ℕ) → IsListed after committee
      → IsListed before committee ⊎ (IsNew committee × (before.least ≤ value committee))
  pub none : length after.committees.items ≡ 0
      → (length before.committees.items ≡ 0) × (after.least ≡ before.least)
  pub more : LeavesOut after
      → StillLeavesOut value before after ⊎ ((committee : List ℕ) × IsNew committee × IsLeftOut value after committee)

-- no committee that completes the set is listed yet
abbrev pub AreNew : ℕ → List ℕ → List ℕ → ℕ → Found → Type 0
AreNew m set free left found =
    (committee : List ℕ) → IsCompletion m set free left committee → IsListed found committee → ⊥

-- all completions of the set were searched
pub record AreSearched (value : List ℕ → ℕ) (m : ℕ) (class : ℕ → List ℕ) (set free : List ℕ) (left : ℕ)
    (before after : Found) : Type 0 where
  pub advances : Advances value (IsCompletion m set free left) before after
  pub settled : (committee : List ℕ) → IsCompletion m set free left committee
      → IsSettledLike value m class after committee
