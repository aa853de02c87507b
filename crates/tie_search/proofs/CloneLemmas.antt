-- A candidate who was tried takes the place of a clone.
use Rattle.std.proofs.lemmas.Grind.{common_steps}
use Rattle.std.proofs.Common.{◌≡◌, ℕ, ◌+◌, ◌-◌, ◌≤◌, ◌==◌, ◌&&◌, ◌||◌, ◌∙◌, true, false, not, List, [], refl, sym, ap, subst, arith, inl, inr, length}
use Rattle.std.specs.Prelude.{slice_index_or}
use Rattle.std.proofs.lemmas.Bool.{cases_Bool, cases_eq, eq-eqb, ne_eqb}
use Rattle.std.proofs.Math.Bool.{and-false}
use Rattle.ballot_base.specs.Lists.{IsIncreasing}
use Rattle.ballot_base.specs.CandSet.{has_member, other_members, with_member, without_member}
use Rattle.ballot_base.specs.Ballots.{Row, hits}
use Rattle.ballot_base.specs.Clones.{are_clones, clones_among}
use Rattle.ballot_base.proofs.CloneLemmas.{clones_among-are}
use Rattle.ballot_base.proofs.Increasing.{IsIncreasing-filter, IsIncreasing-with_member, has_member-filter, has_member-with_member, length-with_member, same_increasing}
use Rattle.ballot_base.proofs.Passed.{filter-member}
use Rattle.tie_walk.proofs.Gains.{bit, hits-with}
use Rattle.tie_search.specs.Alike.{AreAlike, HasClasses}
use Rattle.row_multipliers.specs.Completions.{IsCompletion, IsNode, IsOutOfReach}
use Rattle.row_multipliers.proofs.CompletionLemmas.{completion-with, filter-most, member-high, member-low, member-without}

-- ---- a member in the place of another

itself : (n : ℕ) → (n == n) ≡ true
itself n = eq-eqb n n refl

pub gone : (set : List ℕ) (n : ℕ) → has_member (without_member set n) n ≡ false
gone set n = member-without set n n ∙ ap (λ b. not b && has_member set n) (itself n)

-- a member that is taken out comes back
pub back : (m : ℕ) (set : List ℕ) (n : ℕ) → IsIncreasing 1 m set → has_member set n ≡ true → with_member (without_member set n) n ≡ set
back m set n up here =
    same_increasing 1 m (with_member (without_member set n) n) set
    (IsIncreasing-with_member 1 m (without_member set n) n (member-low 1 m set n up here) (member-high 1 m set n up here) (IsIncreasing-filter (λ x. not (x == n)) 1 m set up)) up
    (λ x. grind (arith, common_steps, has_member-with_member (without_member set n) n x, member-without set n x, eq-eqb x n, ne_eqb x n, eq-eqb n x, ne_eqb n x, cases_eq x n))

-- a committee with c in the place of d
abbrev pub exchanged : List ℕ → ℕ → ℕ → List ℕ
exchanged committee c d = with_member (without_member committee d) c

module _ (m : ℕ) (committee : List ℕ) (c d : ℕ) (up : IsIncreasing 1 m committee) (here : has_member committee d ≡ true) (out : has_member committee c ≡ false) where
  abbrev pub less : List ℕ
  less = without_member committee d

  pub less-up : IsIncreasing 1 m less
  less-up = IsIncreasing-filter (λ x. not (x == d)) 1 m committee up

  pub less-out : has_member less c ≡ false
  less-out = member-without committee d c ∙ ap (λ b. not (c == d) && b) out ∙ and-false (not (c == d))

  -- it is as large
  pub exchanged-size : 1 ≤ c → c ≤ m → length (exchanged committee c d) ≡ length committee
  exchanged-size low high =
      omega (
        arith,
        length-with_member less c less-out,
        length-with_member less d (gone committee d),
        ap length (back m committee d up here),
      )

  -- it completes the same set, if c is free and d is no member of the set
  pub completion-exchanged : (set free : List ℕ) (left : ℕ) → IsNode m set free → has_member free c ≡ true → has_member set d ≡ false → IsCompletion m set free left committee
      → IsCompletion m set free left (exchanged committee c d)
  completion-exchanged set free left is_node is_free not_in whole = record {
    candidates = IsIncreasing-with_member 1 m less c low high less-up;
    whole = λ x is. grind (arith, common_steps, has_member-with_member less c x, member-without committee d x, whole.whole x is, is, not_in, cases_eq x d, ne_eqb x d);
    within = λ x is. grind (arith, common_steps, has_member-with_member less c x, member-without committee d x, whole.within x, is, is_free, cases_eq x c, ne_eqb c x);
    size = exchanged-size low high ∙ whole.size;
  }
    where
      low : 1 ≤ c
      low = member-low 1 m free c is_node.free_within is_free

      high : c ≤ m
      high = member-high 1 m free c is_node.free_within is_free

-- a ballot that has both candidates or neither has as many members of the exchanged committee
pub hits-exchanged : (m : ℕ) (ballot committee : List ℕ) (c d : ℕ) → IsIncreasing 1 m ballot → IsIncreasing 1 m committee → 1 ≤ c → c ≤ m → has_member committee d ≡ true → has_member committee c ≡ false
    → has_member ballot c ≡ has_member ballot d → hits ballot (exchanged committee c d) ≡ hits ballot committee
hits-exchanged m ballot committee c d rises up low high here out same =
    let less = without_member committee d in
    hits-with 1 m ballot less c rises (less-out m committee c d up here out)
    ∙ ap (λ b. hits ballot less + bit b) same
    ∙ sym (hits-with 1 m ballot less d rises (gone committee d))
    ∙ ap (hits ballot) (back m committee d up here)

-- ---- the search

pub minus-is : (free clones : List ℕ) (x : ℕ) → has_member (other_members free clones) x ≡ true → has_member free x ≡ true
minus-is free clones x is = filter-member (λ y. not (has_member clones y)) free x is

pub minus-most : (free clones : List ℕ) → length (other_members free clones) ≤ length free
minus-most free clones = filter-most (λ x. not (has_member clones x)) free

-- those of its class are clones of a candidate
pub class-are : (m : ℕ) (rows : List Row) (c : ℕ) (clones : List ℕ) → clones ≡ clones_among m rows c → (d : ℕ) → has_member clones d ≡ true → are_clones rows c d ≡ true
class-are m rows c clones is d h = clones_among-are m rows c d (sym (ap (λ l. has_member l d) is) ∙ h)

-- Where no completion with a candidate reaches the value, none has one of those in whose place the candidate would be
-- worth the same.
pub clones-left : (value : List ℕ → ℕ) (m : ℕ) (set : List ℕ) (left least : ℕ) (free clones : List ℕ) (c : ℕ) → 1 ≤ left → IsNode m set free → has_member free c ≡ true
    → ((committee : List ℕ) (d : ℕ) → IsIncreasing 1 m committee → has_member committee d ≡ true → has_member committee c ≡ false → has_member clones d ≡ true → value (exchanged committee c d) ≡ value committee)
    → IsOutOfReach value m (with_member set c) (without_member free c) (left - 1) least
    → (committee : List ℕ) → IsCompletion m set free left committee → least ≤ value committee → IsCompletion m set (other_members (without_member free c) clones) left committee
clones-left value m set left least free clones c some is_node here same none committee whole reaches = record {
  candidates = whole.candidates;
  whole = whole.whole;
  within = λ x is. grind (arith, common_steps, has_member-filter (λ y. not (has_member clones y)) (without_member free c) x, member-without free c x, whole.within x is, is, out, no-clone x, cases_eq x c, eq-eqb x c);
  size = whole.size;
}
  where
    out : has_member committee c ≡ false
    out = elim (cases_Bool (has_member committee c)) [
      | inl is ↦ absurd (omega (arith, reaches, none committee (completion-with m set free left c is_node here committee some whole is)))
      | inr is ↦ is
    ]

    -- no clone is in it but those of the set
    no-clone : (x : ℕ) → has_member set x ≡ false → has_member clones x ≡ true → has_member committee x ≡ true → ⊥
    no-clone x not_in clone is =
        let swap = completion-exchanged m committee c x whole.candidates is out set free left is_node here not_in whole in
        let with_c : has_member (exchanged committee c x) c ≡ true = has_member-with_member (without_member committee x) c c ∙ ap (λ b. b || has_member (without_member committee x) c) (itself c) in
        let fewer = none (exchanged committee c x) (completion-with m set free left c is_node here (exchanged committee c x) some swap with_c) in
        omega (arith, fewer, reaches, same committee x whole.candidates is out clone)

-- the table has the classes
pub alike-table : (value : List ℕ → ℕ) (m : ℕ) (class : ℕ → List ℕ) (table : List (List ℕ)) → HasClasses m class table → AreAlike value m class → AreAlike value m (λ c. slice_index_or table c [])
alike-table value m class table has alike committee c d up low high member here out = alike committee c d up low high (subst (λ l. has_member l d ≡ true) (has c low high) member) here out
