-- Which lists may be starts.
use Rattle.std.proofs.Common.{◌≡◌, ℕ, ◌≤◌, ◌∙◌, true, false, List, refl, sym, ap, arith, length}
use Rattle.std.specs.Prelude.{nat_le}
use Rattle.std.proofs.lemmas.Bool.{and_from, and_parts, le-leb, leb-true, false_from_ne_true}
use Rattle.ballot_base.specs.Lists.{IsIncreasing, is_committee}
use Rattle.ballot_base.proofs.Committees.{is_committee-false, is_committee-is, is_committee-true}
use Rattle.ballot_base.specs.Limits.{most_members}
use Rattle.vote_cli.specs.Answer.{may_be_checked}

-- ---- committees

-- a list that may be checked, and one that may not
pub may_be_checked-true : (m : ℕ) (list : List ℕ) → IsIncreasing 1 m list → length list ≤ most_members → may_be_checked m list ≡ true
may_be_checked-true m list rises few =
    and_from (nat_le (length list) most_members) (is_committee m (length list) list) (le-leb (length list) most_members few) (is_committee-true m (length list) list rises refl)

pub may_be_checked-is : (m : ℕ) (list : List ℕ) → may_be_checked m list ≡ true → IsIncreasing 1 m list
may_be_checked-is m list may =
    (is_committee-is m (length list) list (and_parts (nat_le (length list) most_members) (is_committee m (length list) list) may).1).0

pub may_be_checked-false : (m : ℕ) (list : List ℕ) → (length list ≤ most_members → IsIncreasing 1 m list → ⊥) → may_be_checked m list ≡ false
may_be_checked-false m list none =
    false_from_ne_true (may_be_checked m list)
    (λ may.
    none (leb-true (length list) most_members (and_parts (nat_le (length list) most_members) (is_committee m (length list) list) may).0)
    (may_be_checked-is m list may))

-- a committee of the right size
pub committee_yes : (m k size : ℕ) (list committee : List ℕ) → IsIncreasing 1 m list → committee ≡ list → size ≡ length committee → size ≡ k
    → is_committee m k list ≡ true
committee_yes m k size list committee rises same counted right =
    is_committee-true m k list rises (ap length (sym same) ∙ sym counted ∙ right)

-- one of another size
pub committee_of_other_size : (m k size : ℕ) (list committee : List ℕ) → committee ≡ list → size ≡ length committee → (size ≡ k → ⊥)
    → is_committee m k list ≡ false
committee_of_other_size m k size list committee same counted wrong =
    is_committee-false m k list (λ is. wrong (counted ∙ ap length same ∙ is.1))

-- a list that is no committee of any size
pub no_committee : (m k : ℕ) (list : List ℕ) → k ≤ most_members → (length list ≤ most_members → IsIncreasing 1 m list → ⊥) → is_committee m k list ≡ false
no_committee m k list few none = is_committee-false m k list (λ is. none (omega (arith, is.1, few)) is.0)
