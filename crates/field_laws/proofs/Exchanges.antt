-- A member leaves a set, or a candidate takes the place of a member.
use Rattle.std.proofs.lemmas.Grind.{common_steps}
use Rattle.std.proofs.Common.{◌≡◌, ℕ, ◌+◌, ◌≤◌, ◌==◌, ◌&&◌, ◌∙◌, Bool, true, false, not, List, [], ◌∷◌, refl, sym, ap, arith, length, Contains}
use Rattle.std.proofs.lemmas.Bool.{cases_eq, eq-eqb, ne_eqb}
use Rattle.std.proofs.Math.Bool.{and-false}
use Rattle.std.specs.Prelude.{count_by}
use Rattle.std.proofs.lemmas.List.Sums.{length-filter, sum_by-cons}
use Rattle.ballot_base.specs.Lists.{IsIncreasing}
use Rattle.ballot_base.specs.CandSet.{has_member, with_member, without_member}
use Rattle.ballot_base.specs.Ballots.{hits}
use Rattle.ballot_base.proofs.Committees.{increasing_lists-contains}
use Rattle.ballot_base.proofs.Increasing.{IsIncreasing-filter, IsIncreasing-with_member, has_member-filter, has_member_head, has_member_tail, has_member-below, length-with_member}
use Rattle.tie_walk.specs.Winners.{winners}
use Rattle.tie_walk.proofs.Gains.{bit, hits-with}
use Rattle.tie_walk.proofs.LawLemmas.{no_greater_value, winner-is}
use Rattle.tie_walk.proofs.SequenceLemmas.{length-without_member}
use Rattle.group_check.proofs.SetLemmas.{length-common}

-- what is not true is false
pub not-member : (b : Bool) → not b ≡ true → b ≡ false
not-member true h = sym h
not-member false h = refl

-- who is left without x
member-without : (set : List ℕ) (x n : ℕ) → has_member (without_member set x) n ≡ (not (n == x) && has_member set n)
member-without set x n = has_member-filter (λ y. not (y == x)) set n

-- without a member, those who approve it have one hit less
pub hits-without : (first last : ℕ) (ballot set : List ℕ) (x : ℕ) → IsIncreasing first last ballot → has_member set x ≡ true
    → hits ballot (without_member set x) + bit (has_member ballot x) ≡ hits ballot set
hits-without first last [] set x up here = refl
hits-without first last (n ∷ ballot) set x up here =
    grind (arith, common_steps, hits-without (n + 1) last ballot set x up.2 here, here, sum_by-cons, cases_eq, member-without, eq-eqb, has_member_head, has_member-below, ne_eqb, has_member_tail)

-- the hits, counted over the set
pub hits-turned : (first last : ℕ) (ballot set : List ℕ) → IsIncreasing first last ballot → IsIncreasing first last set → count_by (has_member ballot) set ≡ hits ballot set
hits-turned first last ballot set up set_up =
    sym (length-filter (has_member ballot) set) ∙ length-common first last set ballot set_up up ∙ length-filter (has_member set) ballot

-- no set of k is worth more than a winner
pub no-better : (value : List ℕ → ℕ) (m k : ℕ) (committee set : List ℕ) → Contains (winners value m k) committee → IsIncreasing 1 m set → length set ≡ k
    → value set ≤ value committee
no-better value m k committee set wins up size =
    omega (arith, (winner-is value m k committee wins).2, no_greater_value value m k set (increasing_lists-contains 1 m k set (up, size)))

-- a winner joined by a candidate outside it, and then left by a member, is worth no more than it was
pub winner-joined : (value : List ℕ → ℕ) (m k : ℕ) (committee : List ℕ) (c x : ℕ) → Contains (winners value m k) committee
    → has_member committee c ≡ false → 1 ≤ c → c ≤ m → has_member (with_member committee c) x ≡ true
    → value (without_member (with_member committee c) x) ≤ value committee
winner-joined value m k committee c x wins out low high here =
    let is = winner-is value m k committee wins in
    let more = with_member committee c in
    let up : IsIncreasing 1 m more = IsIncreasing-with_member 1 m committee c low high is.0 in
    no-better value m k committee (without_member more x) wins (IsIncreasing-filter (λ y. not (y == x)) 1 m more up)
    (omega (arith, length-with_member committee c out, length-without_member 1 m more x up here, is.1))

-- the committee with c in the place of x
abbrev pub exchanged : List ℕ → ℕ → ℕ → List ℕ
exchanged committee c x = with_member (without_member committee x) c

module _ (m : ℕ) (committee : List ℕ) (c x : ℕ) (up : IsIncreasing 1 m committee) (here : has_member committee x ≡ true) (out : has_member committee c ≡ false) where
  -- the candidate is not a member without x either
  pub less-out : has_member (without_member committee x) c ≡ false
  less-out = member-without committee x c ∙ ap (λ b. not (c == x) && b) out ∙ and-false (not (c == x))

  -- it is a set of candidates
  pub exchanged-up : 1 ≤ c → c ≤ m → IsIncreasing 1 m (exchanged committee c x)
  exchanged-up low high = IsIncreasing-with_member 1 m (without_member committee x) c low high (IsIncreasing-filter (λ y. not (y == x)) 1 m committee up)

  -- it is as large
  pub exchanged-size : length (exchanged committee c x) ≡ length committee
  exchanged-size = omega (arith, length-with_member (without_member committee x) c less-out, length-without_member 1 m committee x up here)

  -- those who approve c have a hit more, and those who approve x one less
  pub hits-exchanged : (ballot : List ℕ) → IsIncreasing 1 m ballot → hits ballot (exchanged committee c x) + bit (has_member ballot x) ≡ hits ballot committee + bit (has_member ballot c)
  hits-exchanged ballot ballot_up = omega (arith, hits-without 1 m ballot committee x ballot_up here, hits-with 1 m ballot (without_member committee x) c ballot_up less-out)
