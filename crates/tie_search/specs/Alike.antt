-- Committees that are alike: clones take the place of members.
use Rattle.std.specs.Prelude.{◌≡◌, ℕ, ◌≤◌, true, false, List, [], slice_index_or}
use Rattle.ballot_base.specs.Lists.{IsIncreasing}
use Rattle.ballot_base.specs.CandSet.{has_member, with_member, without_member}

-- Each candidate from 1 to m has a class. A committee of the candidates 1 to m keeps its value if a candidate takes the
-- place of a member of its class.
abbrev pub AreAlike : (List ℕ → ℕ) → ℕ → (ℕ → List ℕ) → Type 0
AreAlike value m class = (committee : List ℕ) (c d : ℕ) → IsIncreasing 1 m committee → 1 ≤ c → c ≤ m
    → has_member (class c) d ≡ true → has_member committee d ≡ true → has_member committee c ≡ false
    → value (with_member (without_member committee d) c) ≡ value committee

-- at each candidate's number the table has its class
abbrev pub HasClasses : ℕ → (ℕ → List ℕ) → List (List ℕ) → Type 0
HasClasses m class table = (c : ℕ) → 1 ≤ c → c ≤ m → slice_index_or table c [] ≡ class c

-- two candidates of one class are together in each class
abbrev pub AreClasses : ℕ → (ℕ → List ℕ) → Type 0
AreClasses m class = (e c d : ℕ) → 1 ≤ e → e ≤ m → 1 ≤ c → c ≤ m → has_member (class c) d ≡ true
    → has_member (class e) c ≡ has_member (class e) d

-- a committee becomes the goal if candidates take the place of members of their classes, one after another
pub data Becomes (m : ℕ) (class : ℕ → List ℕ) (goal : List ℕ) : List ℕ → Type 0 where
  done : Becomes m class goal goal
  step : (committee : List ℕ) (c d : ℕ) → IsIncreasing 1 m committee → 1 ≤ c → c ≤ m
      → has_member (class c) d ≡ true → has_member committee d ≡ true → has_member committee c ≡ false
      → Becomes m class goal (with_member (without_member committee d) c) → Becomes m class goal committee
