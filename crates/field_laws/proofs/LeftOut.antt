-- Groups that break justified representation share a candidate outside the committee.
use Rattle.std.proofs.Common.{◌≡◌, ℕ, zero, suc, ◌*◌, ◌≤◌, ◌==◌, Bool, true, false, List, [], ◌∷◌, refl, ap, arith, inl, inr, length, sum}
use Rattle.std.proofs.lemmas.Grind.{common_steps}
use Rattle.std.specs.Prelude.{nat_le, nat_lt}
use Rattle.std.specs.List.{list_all, list_any}
use Rattle.std.proofs.lemmas.Bool.{and_parts, cases_Bool, cases_eq, eq-eqb, eqb-true, leb-true, ltb-true, ne_eqb}
use Rattle.std.proofs.lemmas.List.Sums.{sum_by-cons}
use Rattle.ballot_base.specs.CandSet.{has_member, includes}
use Rattle.ballot_base.specs.Ballots.{Row, Election, hits, voter_count}
use Rattle.group_check.specs.declared.property.Property.TheVariants.{Jr}
use Rattle.group_check.specs.Groups.{IsGroup, member_ballots, common_candidates, is_cohesive, is_large_enough, all_below, SomeGroupBreaks}
use Rattle.group_check.proofs.BreakLemmas.{and_middle}
use Rattle.group_check.proofs.GroupLemmas.{outside_of}
use Rattle.group_check.proofs.TestLemmas.{list_all-weaker}

-- ---- a candidate whom all these ballots approve, and who passes a test

-- what is known of such a candidate
pub record IsShared (m : ℕ) (q : ℕ → Bool) (ballots : List (List ℕ)) (c : ℕ) : Type 0 where
  pub low : 1 ≤ c
  pub high : c ≤ m
  pub passes : q c ≡ true
  pub approved : list_all (λ ballot. has_member ballot c) ballots ≡ true

-- there is one if some candidate in common passes
pub shared : (m : ℕ) (q : ℕ → Bool) (ballots : List (List ℕ)) → list_any q (common_candidates m ballots) ≡ true → (c : ℕ) × IsShared m q ballots c
shared m q ballots some =
    let found = outside_of m q ballots some in
    let c = found.0 in
    let all = list_all-weaker (λ ballot. includes ballot (c ∷ [])) (λ ballot. has_member ballot c) (λ ballot h. (and_parts (has_member ballot c) true h).0) ballots found.3 in
    (c, record { low = found.1.0.0; high = found.1.0.1; passes = found.2; approved = all })

-- whoever is there passes if all do
some-any : (list : List ℕ) → 1 ≤ length list → list_any (λ (c : ℕ). true) list ≡ true
some-any [] some = absurd (omega arith)
some-any (c ∷ list) some = refl

-- ---- a group that breaks justified representation

-- whoever approves a member has a hit
hit : (ballot set : List ℕ) (n : ℕ) → has_member ballot n ≡ true → has_member set n ≡ true → 1 ≤ hits ballot set
hit [] set n here is = absurd cc
hit (x ∷ ballot) set n here is =
    grind (arith, common_steps, hit ballot set n, here, is, sum_by-cons, cases_eq x n, eq-eqb x n, ne_eqb x n)

-- a candidate shared by a group that approves no member is not a member
outside : (committee : List ℕ) (c : ℕ) (rows : List Row) (group : List ℕ) → IsGroup rows group → 1 ≤ sum group → list_all (λ ballot. has_member ballot c) (member_ballots rows group) ≡ true
    → all_below 1 committee (member_ballots rows group) ≡ true → has_member committee c ≡ false
outside committee c [] [] is some share none = absurd (omega arith)
outside committee c [] (n ∷ group) is some share none = absurd is
outside committee c (row ∷ rows) [] is some share none = absurd is
outside committee c (row ∷ rows) (zero ∷ group) is some share none =
    outside committee c rows group is.1 (omega (arith, sum_by-cons (λ (x : ℕ). x) 0 group)) share none
outside committee c (row ∷ rows) (suc n ∷ group) is some share none =
    let shares = (and_parts (has_member row.0 c) (list_all (λ ballot. has_member ballot c) (member_ballots rows group)) share).0 in
    let few = ltb-true (hits row.0 committee) 1 (and_parts (nat_lt (hits row.0 committee) 1) (all_below 1 committee (member_ballots rows group)) none).0 in
    elim (cases_Bool (has_member committee c)) [
      | inl member ↦ absurd (omega (arith, few, hit row.0 committee c shares member))
      | inr not_member ↦ not_member
    ]

-- what is known of such a group: it has voters enough, and shares a candidate outside the committee
pub record IsLeftOut (e : Election) (committee group : List ℕ) (c : ℕ) : Type 0 where
  pub within : IsGroup e.rows group
  pub some : 1 ≤ sum group
  pub large : 1 * voter_count e.rows ≤ sum group * length committee
  pub none : all_below 1 committee (member_ballots e.rows group) ≡ true
  pub low : 1 ≤ c
  pub high : c ≤ e.m
  pub approved : list_all (λ ballot. has_member ballot c) (member_ballots e.rows group) ≡ true
  pub outside : has_member committee c ≡ false

pub left-out : (e : Election) (committee : List ℕ) (level : ℕ) → 1 ≤ voter_count e.rows → (broken : SomeGroupBreaks Jr e committee level) → (c : ℕ) × IsLeftOut e committee broken.0 c
left-out e committee level voters broken =
    let group = broken.0 in
    let ballots = member_ballots e.rows group in
    let parts = and_middle (level == 1) (is_cohesive e (length committee) level group) (all_below 1 committee ballots) broken.2 in
    let one : level ≡ 1 = eqb-true level 1 parts.0 in
    let cohesive = and_parts (is_large_enough e (length committee) level group) (nat_le level (length (common_candidates e.m ballots))) parts.1 in
    let large : 1 * voter_count e.rows ≤ sum group * length committee = omega (arith, leb-true (level * voter_count e.rows) (sum group * length committee) cohesive.0, ap (λ l. l * voter_count e.rows) one) in
    let found = shared e.m (λ c. true) ballots (some-any (common_candidates e.m ballots) (omega (arith, one, leb-true level (length (common_candidates e.m ballots)) cohesive.1))) in
    let is = found.1 in
    let some = member (sum group) large in (
      found.0,
      record {
        within = broken.1;
        some = some;
        large = large;
        none = parts.2;
        low = is.low;
        high = is.high;
        approved = is.approved;
        outside = outside committee found.0 e.rows group broken.1 some is.approved parts.2;
      },
    )
  where
    -- a group of no voters is not large enough
    member : (g : ℕ) → 1 * voter_count e.rows ≤ g * length committee → 1 ≤ g
    member zero large = absurd (omega (arith, large, voters))
    member (suc g) large = omega arith
