-- Candidates who pass a test, one after another.
use Rattle.std.proofs.lemmas.Grind.{common_steps}
use Rattle.std.proofs.Common.{◌≡◌, ℕ, ◌≤◌, ◌&&◌, ◌||◌, ◌∙◌, Bool, true, false, List, [], ◌∷◌, sym, arith, filter}
use Rattle.std.proofs.lemmas.Bool.{and_from, and_parts, cases_eq, cases_lt, eq-eqb, ne_eqb}
use Rattle.std.proofs.Math.Bool.{and-false, and_comm, or-true}
use Rattle.ballot_base.specs.Lists.{IsIncreasing}
use Rattle.ballot_base.specs.CandSet.{has_member, without_member}
use Rattle.ballot_base.proofs.Increasing.{IsIncreasing-filter, IsIncreasing-lower, has_member-above, has_member-below, has_member-filter, same_increasing}

-- who is in a part of a set, and who stays in it
pub filter-member : (p : ℕ → Bool) (set : List ℕ) (n : ℕ) → has_member (filter p set) n ≡ true → has_member set n ≡ true
filter-member p set n is = (and_parts (p n) (has_member set n) (sym (has_member-filter p set n) ∙ is)).1

pub filter-stays : (p : ℕ → Bool) (set : List ℕ) (n : ℕ) → has_member set n ≡ true → p n ≡ true → has_member (filter p set) n ≡ true
filter-stays p set n is passes = has_member-filter p set n ∙ and_from (p n) (has_member set n) passes is

-- a member is at most the last number
pub member-high : (first last : ℕ) (set : List ℕ) (n : ℕ) → IsIncreasing first last set → has_member set n ≡ true → n ≤ last
member-high first last set n up here = grind (arith, common_steps, cases_lt, has_member-above)

-- the first of the members, and the others
pub rest-up : (last first : ℕ) (xs rest : List ℕ) → xs ≡ first ∷ rest → IsIncreasing 1 last xs → (first ≤ last) × IsIncreasing 1 last rest × (has_member rest first ≡ false)
rest-up last first xs rest is up = grind (arith, common_steps, IsIncreasing-lower, has_member-below)

module _ (p : ℕ → Bool) (candidates : List ℕ) where
  -- Of the candidates that were passed, those are left who pass the test.
  abbrev pub AreLeft : List ℕ → List ℕ → Type 0
  AreLeft set rest = (n : ℕ) → has_member set n ≡ (has_member candidates n && (has_member rest n || p n))

  pub one-gone : (set rest : List ℕ) (first : ℕ) → p first ≡ false → has_member rest first ≡ false → AreLeft set (first ∷ rest) → AreLeft (without_member set first) rest
  one-gone set rest first fails out left n =
      grind (arith, common_steps, has_member-filter, cases_eq, eq-eqb, and-false, ne_eqb)

  pub one-kept : (set rest : List ℕ) (first : ℕ) → p first ≡ true → AreLeft set (first ∷ rest) → AreLeft set rest
  one-kept set rest first passes left n = grind (arith, common_steps, cases_eq, eq-eqb, or-true, ne_eqb)

  pub all-left : (last : ℕ) (set : List ℕ) → IsIncreasing 1 last candidates → IsIncreasing 1 last set → AreLeft set [] → set ≡ filter p candidates
  all-left last set up up' left =
      same_increasing 1 last set (filter p candidates) up' (IsIncreasing-filter p 1 last candidates up)
      (λ n. left n ∙ and_comm (has_member candidates n) (p n) ∙ sym (has_member-filter p candidates n))
