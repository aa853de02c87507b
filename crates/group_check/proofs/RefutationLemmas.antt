-- Refutations: what shows that T and U of some choices have no large group.
use Rattle.std.proofs.Common.{◌≡◌, ℕ, zero, suc, ◌+◌, ◌-◌, ◌*◌, ◌/◌, ◌%◌, ◌<◌, ◌≤◌, ◌==◌, ◌&&◌, ◌||◌, ◌++◌, Bool, true, false, cond, List, [], ◌∷◌, refl, sym, ap, subst, ◌∙◌, arith, inl, inr, None, length, filter, sum, take, not}
use Rattle.std.specs.Prelude.{find, min, nat_le, nat_lt}
use Rattle.std.specs.List.{AllByRecursion, list_all}
use Rattle.std.proofs.lemmas.Bool.{and_from, and_parts, eqb-true, eq-eqb, le-leb, lt-leb, cases_lt, cases_eq, or_right, or_left}
use Rattle.std.proofs.lemmas.Grind.{div_ceil_times}
use Rattle.std.proofs.lemmas.Nat.{mul-le}
use Rattle.std.proofs.lemmas.List.{append-nil, length-take-le}
use Rattle.std.proofs.lemmas.List.Folds.{list_all-append, list_any-append}
use Rattle.ballot_base.specs.Lists.{IsIncreasing}
use Rattle.ballot_base.specs.CandSet.{has_member, with_member, without_member, common_members, other_members, includes}
use Rattle.ballot_base.specs.Clones.{clones_among}
use Rattle.ballot_base.specs.Ballots.{Row, Election, IsElection, hits}
use Rattle.ballot_base.proofs.CloneLemmas.{clones-same, clones_among-are}
use Rattle.ballot_base.proofs.Increasing.{IsIncreasing-filter, has_member-filter, has_member_head, has_member_tail, has_member-below, has_member-above, has_member-with_member}
use Rattle.ballot_base.proofs.ListLemmas.{AllByRecursion-weaker}
use Rattle.group_check.specs.declared.property.Property.{Property}
use Rattle.group_check.specs.declared.property.Property.TheVariants.{Jr, Pjr, Ejr, EjrPlus}
use Rattle.group_check.specs.declared.refutation.Choices.{Choices}
use Rattle.group_check.specs.Report.{fits_pair, pair_group, lists_within, pair_breaks}
use Rattle.group_check.specs.Steps.Checking.{IsTail, is_large, is_enough_within, completions, sublists, first_of, first_of_lists, pairs_of}
use Rattle.group_check.specs.Steps.Refuting.{AreOpen, IsRefuted, is_eligible, may_belong, possible_voters, supporters, with_candidate, with_committee_member, choices_of, choices_beside}
use Rattle.group_check.proofs.SetLemmas.{passes_at, all_pass, length-within, length-common_members, IsIncreasing-take, or_mono}
use Rattle.group_check.proofs.TestLemmas.{list_all-weaker}
use Rattle.group_check.proofs.BeginningLemmas.{all_of, fails_at, small_ballots, small_pair, stays, too_small, no_lists, no_pair}
use Rattle.group_check.proofs.PlaceLemmas.{lists_of_members}
use Rattle.group_check.proofs.WalkLemmas.{AllByRecursion-map, IsIncreasing-with, none_passes, tails}

-- ---- how many voters a group has to have

-- a quotient that is rounded up is the least number of times
pub rounded_up : (a k v : ℕ) → 0 < k → nat_le (a / k + min 1 (a % k)) v ≡ nat_le a (v * k)
rounded_up a k v some =
    let bounds = div_ceil_times a k some in
    let least = a / k + min 1 (a % k) in
    elim (cases_lt v least) [
      | inl less ↦
          let product = mul-le (v + 1) k least k (omega (arith, less)) (omega arith) in
          let one : (v + 1) * k ≡ v * k + k = omega arith in
          lt-leb least v less ∙ sym (lt-leb a (v * k) (omega (arith, product, one, bounds.1)))
      | inr more ↦
          let product = mul-le least k v k more (omega arith) in
          le-leb least v more ∙ sym (le-leb a (v * k) (omega (arith, product, bounds.0)))
    ]

-- ---- sets with a member and without it

pub true_or_false : {P : Type 0} (b : Bool) → (b ≡ true → P) → (b ≡ false → P) → P
true_or_false true first second = first refl
true_or_false false first second = second refl

pub not_both : {P : Type 0} (b : Bool) → b ≡ true → b ≡ false → P
not_both true h k = cc
not_both false h k = cc

pub fewer-without : (set : List ℕ) (n : ℕ) → has_member set n ≡ true → length (without_member set n) < length set
fewer-without [] n h = cc
fewer-without (x ∷ xs) n h = cases (x == n) h (λ later. fewer-without xs n later)
  where
    no_more : (ys : List ℕ) → length (without_member ys n) ≤ length ys
    no_more [] = omega arith
    no_more (y ∷ ys) = let more = no_more ys in elim (y == n) as (λ b. length (cond (not b) (y ∷ without_member ys n) (without_member ys n)) ≤ length (y ∷ ys)) [ true ↦ omega (arith, more) | false ↦ omega (arith, more) ]

    cases : (b : Bool) → (b || has_member xs n) ≡ true → (has_member xs n ≡ true → length (without_member xs n) < length xs) → length (cond (not b) (x ∷ without_member xs n) (without_member xs n)) < length (x ∷ xs)
    cases true here later = omega (arith, no_more xs)
    cases false here later = omega (arith, later here)

without-absent : (set : List ℕ) (n : ℕ) → has_member set n ≡ false → without_member set n ≡ set
without-absent [] n h = refl
without-absent (x ∷ xs) n h = cases (x == n) h (λ later. without-absent xs n later)
  where
    cases : (b : Bool) → (b || has_member xs n) ≡ false → (has_member xs n ≡ false → without_member xs n ≡ xs) → cond (not b) (x ∷ without_member xs n) (without_member xs n) ≡ x ∷ xs
    cases true none later = cc
    cases false none later = ap (λ s. x ∷ s) (later none)

pub one-less : (first last : ℕ) (set : List ℕ) (n : ℕ) → IsIncreasing first last set → has_member set n ≡ true → length (without_member set n) + 1 ≡ length set
one-less first last [] n up h = cc
one-less first last (x ∷ xs) n up h = cases (x == n) refl h (λ later. one-less (x + 1) last xs n up.2 later)
  where
    cases : (b : Bool) → (x == n) ≡ b → (b || has_member xs n) ≡ true → (has_member xs n ≡ true → length (without_member xs n) + 1 ≡ length xs) → length (cond (not b) (x ∷ without_member xs n) (without_member xs n)) + 1 ≡ length (x ∷ xs)
    cases true same here later = let above = has_member-below (x + 1) last xs n up.2 (omega (arith, eqb-true x n same)) in omega (arith, ap length (without-absent xs n above))
    cases false same here later = omega (arith, later here)

-- who is in a set without a number
pub in-without : (set : List ℕ) (n c : ℕ) → has_member (without_member set n) c ≡ (not (c == n) && has_member set c)
in-without set n c = has_member-filter (λ x. not (x == n)) set c

other-number : (c n : ℕ) → (c ≡ n → ⊥) → not (c == n) ≡ true
other-number c n other = true_or_false (c == n) (λ same. absurd (other (eqb-true c n same))) (λ apart. ap not apart)

pub in-both : (a b : List ℕ) (n : ℕ) → has_member (a ++ b) n ≡ (has_member a n || has_member b n)
in-both a b n = list_any-append (λ x. x == n) a b

pub or-cases : {P : Type 0} (a b : Bool) → (a || b) ≡ true → (a ≡ true → P) → (b ≡ true → P) → P
or-cases true b h first second = first refl
or-cases false b h first second = second h

-- where one member of a set moves to the front, no other is lost
moved-in : (front set : List ℕ) (n c : ℕ) → has_member (front ++ set) c ≡ true → has_member (with_member front n ++ without_member set n) c ≡ true
moved-in front set n c h =
    in-both (with_member front n) (without_member set n) c
    ∙ elim (cases_eq c n) [
      | inl same ↦ or_left (has_member (with_member front n) c) (has_member (without_member set n) c)
          (has_member-with_member front n c ∙ or_left (n == c) (has_member front c) (ap (λ k. n == k) same ∙ self n))
      | inr other ↦ or-cases (has_member front c) (has_member set c) (sym (in-both front set c) ∙ h)
          (λ first. or_left (has_member (with_member front n) c) (has_member (without_member set n) c)
          (has_member-with_member front n c ∙ or_right (n == c) (has_member front c) first))
          (λ second. or_right (has_member (with_member front n) c) (has_member (without_member set n) c)
          (in-without set n c ∙ and_from (not (c == n)) (has_member set c) (other-number c n other) second))
    ]
  where
    self : (k : ℕ) → (k == k) ≡ true
    self k = true_or_false (k == k) (λ same. same) (λ apart. not_both (has_member (k ∷ []) k) (has_member_head k []) (ap (λ b. b || false) apart))

-- ---- one pair in the place of another

fits-turned : (property : Property) (committee : List ℕ) (level : ℕ) (shared other within turned ballot : List ℕ) → (includes ballot shared ≡ true → includes ballot other ≡ true)
    → ((n : ℕ) → has_member within n ≡ true → has_member turned n ≡ true)
    → fits_pair property committee level (shared, within) ballot ≡ true → fits_pair property committee level (other, turned) ballot ≡ true
fits-turned Jr committee level shared other within turned ballot first second h =
    let parts = and_parts (includes ballot shared) (nat_lt (hits ballot committee) level) h in
    and_from (includes ballot other) (nat_lt (hits ballot committee) level) (first parts.0) parts.1
fits-turned Ejr committee level shared other within turned ballot first second h =
    let parts = and_parts (includes ballot shared) (nat_lt (hits ballot committee) level) h in
    and_from (includes ballot other) (nat_lt (hits ballot committee) level) (first parts.0) parts.1
fits-turned EjrPlus committee level shared other within turned ballot first second h =
    let parts = and_parts (includes ballot shared) (nat_lt (hits ballot committee) level) h in
    and_from (includes ballot other) (nat_lt (hits ballot committee) level) (first parts.0) parts.1
fits-turned Pjr committee level shared other within turned ballot first second h =
    let approved = common_members ballot committee in
    let parts = and_parts (includes ballot shared) (includes within approved) h in
    and_from (includes ballot other) (includes turned approved) (first parts.0) (list_all-weaker (has_member within) (has_member turned) second approved parts.1)

pub approves : (property : Property) (committee : List ℕ) (level : ℕ) (shared within ballot : List ℕ) → fits_pair property committee level (shared, within) ballot ≡ true → includes ballot shared ≡ true
approves Jr committee level shared within ballot h = (and_parts (includes ballot shared) (nat_lt (hits ballot committee) level) h).0
approves Ejr committee level shared within ballot h = (and_parts (includes ballot shared) (nat_lt (hits ballot committee) level) h).0
approves EjrPlus committee level shared within ballot h = (and_parts (includes ballot shared) (nat_lt (hits ballot committee) level) h).0
approves Pjr committee level shared within ballot h = (and_parts (includes ballot shared) (includes within (common_members ballot committee)) h).0

-- T is approved where both its parts are
pub both-approved : (ballot front more : List ℕ) → includes ballot (front ++ more) ≡ true → (includes ballot front ≡ true) × (includes ballot more ≡ true)
both-approved ballot front more h = and_parts (includes ballot front) (includes ballot more) (sym (list_all-append (has_member ballot) front more) ∙ h)

-- a ballot that approves one for sure and T approves T with this one in front
with-approved : (ballot front more : List ℕ) (n d : ℕ) → (has_member ballot d ≡ true → has_member ballot n ≡ true) → has_member more d ≡ true
    → includes ballot (front ++ more) ≡ true → includes ballot (with_member front n ++ without_member more d) ≡ true
with-approved ballot front more n d alike here h =
    let parts = both-approved ballot front more h in
    let one = alike (passes_at (has_member ballot) more d parts.1 here) in
    list_all-append (has_member ballot) (with_member front n) (without_member more d)
    ∙ and_from (includes ballot (with_member front n)) (includes ballot (without_member more d))
    (all_pass (has_member ballot) (with_member front n) (λ c is. or-cases (n == c) (has_member front c) (sym (has_member-with_member front n c) ∙ is)
    (λ same. ap (has_member ballot) (sym (eqb-true n c same)) ∙ one)
    (λ first. passes_at (has_member ballot) front c parts.0 first)))
    (all_pass (has_member ballot) (without_member more d) (λ c is. passes_at (has_member ballot) more c parts.1 (and_parts (not (c == d)) (has_member more c) (sym (in-without more d c) ∙ is)).1))

module _ (property : Property) (e : Election) (committee : List ℕ) (level : ℕ) where
  abbrev pub Small : List ℕ → List ℕ → Type 0
  Small shared within = is_large e committee level (sum (pair_group property e committee level (shared, within))) ≡ false

  -- where each voter of one pair is one of another
  small-turned : (shared other within turned : List ℕ) → AllByRecursion (λ (row : Row). includes row.0 shared ≡ true → includes row.0 other ≡ true) e.rows
      → ((n : ℕ) → has_member within n ≡ true → has_member turned n ≡ true) → Small other turned → Small shared within
  small-turned shared other within turned first second =
      too_small e committee level (fits_pair property committee level (shared, within)) (fits_pair property committee level (other, turned))
      (AllByRecursion-weaker (λ (row : Row). includes row.0 shared ≡ true → includes row.0 other ≡ true)
      (λ (row : Row). fits_pair property committee level (shared, within) row.0 ≡ true → fits_pair property committee level (other, turned) row.0 ≡ true)
      (λ row is. fits-turned property committee level shared other within turned row.0 is second) e.rows first)

  abbrev Refutes : Choices → Type 0
  Refutes choices = IsRefuted property e committee level choices

  -- ---- T with a candidate, and T without it

  -- T takes a candidate that the same voters approve
  with-clone : (choices : Choices) (n d : ℕ) (more others : List ℕ) → AllByRecursion (λ (row : Row). has_member row.0 d ≡ true → has_member row.0 n ≡ true) e.rows
      → has_member more d ≡ true → has_member (without_member more d) n ≡ false
      → IsTail 1 e.m choices.pool choices.left more → IsTail 1 e.m choices.members choices.room others
      → Refutes (with_candidate choices n) → Small (choices.shared ++ more) (choices.within ++ others)
  with-clone choices n d more others alike here gone tail seconds refuted =
      let rest = without_member more d in
      let smaller : IsTail 1 e.m (without_member choices.pool n) (choices.left - 1) rest = record {
        increasing = IsIncreasing-filter (λ x. not (x == d)) 1 e.m more tail.increasing;
        count = omega (arith, one-less 1 e.m more d tail.increasing here, tail.count);
        inside = λ c is. in-without choices.pool n c
            ∙ and_from (not (c == n)) (has_member choices.pool c)
            (other-number c n (λ same. not_both (has_member rest c) is (ap (has_member rest) same ∙ gone)))
            (tail.inside c (and_parts (not (c == d)) (has_member more c) (sym (in-without more d c) ∙ is)).1);
      } in
      small-turned (choices.shared ++ more) (with_member choices.shared n ++ rest) (choices.within ++ others) (choices.within ++ others)
      (AllByRecursion-weaker (λ (row : Row). has_member row.0 d ≡ true → has_member row.0 n ≡ true)
      (λ (row : Row). includes row.0 (choices.shared ++ more) ≡ true → includes row.0 (with_member choices.shared n ++ rest) ≡ true)
      (λ row is. with-approved row.0 choices.shared more n d is here) e.rows alike)
      (λ c is. is)
      (refuted rest others smaller seconds)

  pub split_candidate : (choices : Choices) (n : ℕ) (clones : List ℕ) → clones ≡ clones_among e.m e.rows n
      → Refutes (with_candidate choices n) → Refutes (record choices { pool = other_members (without_member choices.pool n) clones })
      → Refutes choices
  split_candidate choices n clones is with_it without_it more others tail seconds =
      true_or_false (has_member more n)
      (λ here. with-clone choices n n more others (all_of (λ (row : Row). has_member row.0 n ≡ true → has_member row.0 n ≡ true) (λ row h. h) e.rows) here
      (in-without more n n ∙ no_self) tail seconds with_it)
      (λ gone. true_or_false (list_all (λ c. not (has_member clones c)) more)
      (λ apart. without_it more others record {
        increasing = tail.increasing;
        count = tail.count;
        inside = λ c h. has_member-filter (λ x. not (has_member clones x)) (without_member choices.pool n) c
            ∙ and_from (not (has_member clones c)) (has_member (without_member choices.pool n) c) (passes_at (λ x. not (has_member clones x)) more c apart h)
            (in-without choices.pool n c ∙ and_from (not (c == n)) (has_member choices.pool c) (other-number c n (λ same. not_both (has_member more c) h (ap (has_member more) same ∙ gone))) (tail.inside c h));
      } seconds)
      (λ some.
      let found = fails_at (λ c. not (has_member clones c)) more some in
      let d = found.0 in
      let clone = clones_among-are e.m e.rows n d (sym (ap (λ set. has_member set d) is) ∙ not-true (has_member clones d) found.2) in
      with-clone choices n d more others
      (AllByRecursion-weaker (λ (row : Row). has_member row.0 n ≡ has_member row.0 d) (λ (row : Row). has_member row.0 d ≡ true → has_member row.0 n ≡ true)
      (λ row same h. same ∙ h) e.rows (clones-same e.rows n d clone))
      found.1 (in-without more d n ∙ and-false (not (n == d)) (has_member more n) gone) tail seconds with_it))
    where
      not-true : (b : Bool) → not b ≡ false → b ≡ true
      not-true true h = refl
      not-true false h = cc

      and-false : (a b : Bool) → b ≡ false → (a && b) ≡ false
      and-false true b h = h
      and-false false b h = refl

      no_self : (not (n == n) && has_member more n) ≡ false
      no_self = ap (λ b. not b && has_member more n) (true_or_false (n == n) (λ same. same) (λ apart. not_both (has_member (n ∷ []) n) (has_member_head n []) (ap (λ b. b || false) apart)))

  -- ---- U with a member, and U without it

  some-room : (n size : ℕ) (others : List ℕ) → has_member others n ≡ true → length others ≡ size → 1 ≤ size
  some-room n size [] h count = cc
  some-room n size (x ∷ xs) h count = omega (arith, count)

  pub split_member : (choices : Choices) (n : ℕ) → (1 ≤ choices.room → Refutes (with_committee_member choices n))
      → Refutes (record choices { members = without_member choices.members n }) → Refutes choices
  split_member choices n with_it without_it more others tail seconds =
      true_or_false (has_member others n)
      (λ here. small-turned (choices.shared ++ more) (choices.shared ++ more) (choices.within ++ others) (with_member choices.within n ++ without_member others n)
      (all_of (λ (row : Row). includes row.0 (choices.shared ++ more) ≡ true → includes row.0 (choices.shared ++ more) ≡ true) (λ row h. h) e.rows)
      (λ c is. moved-in choices.within others n c is)
      (with_it (some-room n choices.room others here seconds.count) more (without_member others n) tail record {
        increasing = IsIncreasing-filter (λ x. not (x == n)) 1 e.m others seconds.increasing;
        count = omega (arith, one-less 1 e.m others n seconds.increasing here, seconds.count);
        inside = λ c is. let parts = and_parts (not (c == n)) (has_member others c) (sym (in-without others n c) ∙ is) in
            in-without choices.members n c ∙ and_from (not (c == n)) (has_member choices.members c) parts.0 (seconds.inside c parts.1);
      }))
      (λ gone. without_it more others tail record {
        increasing = seconds.increasing;
        count = seconds.count;
        inside = λ c is. in-without choices.members n c
            ∙ and_from (not (c == n)) (has_member choices.members c) (other-number c n (λ same. not_both (has_member others c) is (ap (has_member others) same ∙ gone))) (seconds.inside c is);
      })

-- ---- who can belong to a group

module _ (m : ℕ) (committee : List ℕ) (level : ℕ) where
  eligible : (property : Property) (choices : Choices) (more others ballot : List ℕ) → IsTail 1 m choices.members choices.room others → IsIncreasing 1 m ballot
      → fits_pair property committee level (choices.shared ++ more, choices.within ++ others) ballot ≡ true → is_eligible property committee level choices ballot ≡ true
  eligible Jr choices more others ballot seconds up h =
      let parts = and_parts (includes ballot (choices.shared ++ more)) (nat_lt (hits ballot committee) level) h in
      and_from (includes ballot choices.shared) (nat_lt (length (common_members ballot committee)) level) (both-approved ballot choices.shared more parts.0).0 (ap (λ n. nat_lt n level) (length-common_members ballot committee) ∙ parts.1)
  eligible Ejr choices more others ballot seconds up h =
      let parts = and_parts (includes ballot (choices.shared ++ more)) (nat_lt (hits ballot committee) level) h in
      and_from (includes ballot choices.shared) (nat_lt (length (common_members ballot committee)) level) (both-approved ballot choices.shared more parts.0).0 (ap (λ n. nat_lt n level) (length-common_members ballot committee) ∙ parts.1)
  eligible EjrPlus choices more others ballot seconds up h =
      let parts = and_parts (includes ballot (choices.shared ++ more)) (nat_lt (hits ballot committee) level) h in
      and_from (includes ballot choices.shared) (nat_lt (length (common_members ballot committee)) level) (both-approved ballot choices.shared more parts.0).0 (ap (λ n. nat_lt n level) (length-common_members ballot committee) ∙ parts.1)
  eligible Pjr choices more others ballot seconds up h =
      stays m committee choices.shared choices.within choices.members choices.room level others ballot seconds up
      (fits-turned Pjr committee level (choices.shared ++ more) choices.shared (choices.within ++ others) (choices.within ++ others) ballot
      (λ all. (both-approved ballot choices.shared more all).0) (λ n is. is) h)

  pub belongs : (property : Property) (choices : Choices) (more others ballot : List ℕ) → IsTail 1 m choices.pool choices.left more → IsTail 1 m choices.members choices.room others → IsIncreasing 1 m ballot
      → fits_pair property committee level (choices.shared ++ more, choices.within ++ others) ballot ≡ true → may_belong property committee level choices ballot ≡ true
  belongs property choices more others ballot tail seconds up h =
      let all = (both-approved ballot choices.shared more (approves property committee level (choices.shared ++ more) (choices.within ++ others) ballot h)).1 in
      let few = length-within 1 m more (common_members ballot choices.pool) tail.increasing (IsIncreasing-filter (has_member choices.pool) 1 m ballot up)
      (λ c is. has_member-filter (has_member choices.pool) ballot c ∙ and_from (has_member choices.pool c) (has_member ballot c) (tail.inside c is) (passes_at (has_member ballot) more c all is)) in
      and_from (is_eligible property committee level choices ballot) (nat_le choices.left (length (common_members ballot choices.pool)))
      (eligible property choices more others ballot seconds up h)
      (le-leb choices.left (length (common_members ballot choices.pool)) (omega (arith, few, tail.count)))

module _ (property : Property) (e : Election) (committee : List ℕ) (level : ℕ) (choices : Choices) where
  -- too few voters can belong to a group
  pub refuted_by_voters : IsElection e → is_large e committee level (sum (possible_voters property e committee level choices)) ≡ false → IsRefuted property e committee level choices
  refuted_by_voters valid few more others tail seconds =
      small_ballots e committee level (fits_pair property committee level (choices.shared ++ more, choices.within ++ others)) (may_belong property committee level choices) valid
      (λ ballot up h. belongs e.m committee level property choices more others ballot tail seconds up h) few

  -- T has more candidates than the pool
  pub refuted_by_pool : IsIncreasing 1 e.m choices.pool → length choices.pool < choices.left → IsRefuted property e committee level choices
  refuted_by_pool up few more others tail seconds =
      absurd (omega (arith, few, tail.count, length-within 1 e.m more choices.pool tail.increasing up tail.inside))

  -- T takes only candidates with enough voters
  pub peeled : IsElection e → (keeps : ℕ → Bool) → ((n : ℕ) → keeps n ≡ is_large e committee level (sum (supporters property e committee level choices n)))
      → IsRefuted property e committee level (record choices { pool = filter keeps choices.pool }) → IsRefuted property e committee level choices
  peeled valid keeps is refuted more others tail seconds =
      true_or_false (list_all keeps more)
      (λ all. refuted more others record {
        increasing = tail.increasing;
        count = tail.count;
        inside = λ c h. has_member-filter keeps choices.pool c ∙ and_from (keeps c) (has_member choices.pool c) (passes_at keeps more c all h) (tail.inside c h);
      } seconds)
      (λ some.
      let found = fails_at keeps more some in
      let c = found.0 in
      small_ballots e committee level (fits_pair property committee level (choices.shared ++ more, choices.within ++ others)) (λ ballot. may_belong property committee level choices ballot && has_member ballot c) valid
      (λ ballot up h. and_from (may_belong property committee level choices ballot) (has_member ballot c) (belongs e.m committee level property choices more others ballot tail seconds up h)
      (passes_at (has_member ballot) more c (both-approved ballot choices.shared more (approves property committee level (choices.shared ++ more) (choices.within ++ others) ballot h)).1 found.1))
      (sym (is c) ∙ found.2))

-- ---- the members and the pool that are left

-- the members of a set within a range
pub member-bounds : (first last : ℕ) (set : List ℕ) (n : ℕ) → IsIncreasing first last set → has_member set n ≡ true → (first ≤ n) × (n ≤ last)
member-bounds first last set n up h =
    elim (cases_lt n first) [
      | inl low ↦ not_both (has_member set n) h (has_member-below first last set n up low)
      | inr from ↦ elim (cases_lt last n) [
        | inl high ↦ not_both (has_member set n) h (has_member-above first last set n up high)
        | inr to ↦ (from, to)
      ]
    ]

-- who comes later is not among the first
later-apart : (first last : ℕ) (front rest : List ℕ) (n : ℕ) → IsIncreasing first last (front ++ rest) → has_member rest n ≡ true → has_member front n ≡ false
later-apart first last [] rest n up h = refl
later-apart first last (x ∷ xs) rest n up h =
    let after = member-bounds (x + 1) last (xs ++ rest) n up.2 (in-both xs rest n ∙ or_right (has_member xs n) (has_member rest n) h) in
    has_member_tail x n xs (λ same. absurd (omega (arith, same, after.0))) ∙ later-apart (x + 1) last xs rest n up.2 h

module _ (m : ℕ) (committee : List ℕ) (choices : Choices) (are : AreOpen m committee choices) where
  pub open-peeled : (pool : List ℕ) → IsIncreasing 1 m pool → AreOpen m committee (record choices { pool = pool })
  open-peeled pool up = record { rises = up; among = are.among; apart = are.apart }

  pub open-with_candidate : (n : ℕ) → AreOpen m committee (with_candidate choices n)
  open-with_candidate n = record { rises = IsIncreasing-filter (λ x. not (x == n)) 1 m choices.pool are.rises; among = are.among; apart = are.apart }

  pub open-without_candidate : (n : ℕ) (clones : List ℕ) → AreOpen m committee (record choices { pool = other_members (without_member choices.pool n) clones })
  open-without_candidate n clones =
      open-peeled (other_members (without_member choices.pool n) clones)
      (IsIncreasing-filter (λ x. not (has_member clones x)) 1 m (without_member choices.pool n) (IsIncreasing-filter (λ x. not (x == n)) 1 m choices.pool are.rises))

  pub open-without_member : (n : ℕ) → AreOpen m committee (record choices { members = without_member choices.members n })
  open-without_member n = record {
    rises = are.rises;
    among = λ c h. are.among c (and_parts (not (c == n)) (has_member choices.members c) (sym (in-without choices.members n c) ∙ h)).1;
    apart = λ c h. are.apart c (and_parts (not (c == n)) (has_member choices.members c) (sym (in-without choices.members n c) ∙ h)).1;
  }

  pub open-with_member : (n : ℕ) → AreOpen m committee (with_committee_member choices n)
  open-with_member n = record {
    rises = are.rises;
    among = λ c h. are.among c (and_parts (not (c == n)) (has_member choices.members c) (sym (in-without choices.members n c) ∙ h)).1;
    apart = λ c h. let parts = and_parts (not (c == n)) (has_member choices.members c) (sym (in-without choices.members n c) ∙ h) in
        has_member-with_member choices.within n c ∙ neither (n == c) (has_member choices.within c) (turned c parts.0) (are.apart c parts.1);
  }
    where
      neither : (a b : Bool) → a ≡ false → b ≡ false → (a || b) ≡ false
      neither true b h k = cc
      neither false b h k = k

      turned : (c : ℕ) → not (c == n) ≡ true → (n == c) ≡ false
      turned c h = true_or_false (n == c) (λ same. not_both (not (c == n)) h (ap not (eq-eqb c n (sym (eqb-true n c same))))) (λ apart. apart)

-- with no member in U yet
pub open-start : (m level : ℕ) (committee shared pool : List ℕ) (left : ℕ) → IsIncreasing 1 m pool → AreOpen m committee (choices_of committee level shared pool left)
open-start m level committee shared pool left up = record { rises = up; among = λ n h. h; apart = λ n h. refl }

-- with members in U, and those after them
pub open-beside : (m : ℕ) (committee shared within : List ℕ) (x : ℕ) (rest : List ℕ) (room : ℕ) → IsIncreasing 1 m (within ++ x ∷ rest) → includes committee rest ≡ true
    → AreOpen m committee (choices_beside shared (with_member within x) rest room)
open-beside m committee shared within x rest room order all = record {
  rises = tt;
  among = λ n h. passes_at (has_member committee) rest n all h;
  apart = λ n h. later-apart 1 m (with_member within x) rest n (IsIncreasing-with 1 m within x rest order) h;
}

-- ---- the lists below a beginning

module _ (property : Property) (e : Election) (committee : List ℕ) (level : ℕ) where
  front_of : (n : ℕ) (set : List ℕ) (c : ℕ) → has_member (take n set) c ≡ true → has_member set c ≡ true
  front_of zero set c h = cc
  front_of (suc n) [] c h = cc
  front_of (suc n) (x ∷ xs) c h = or_mono (x == c) (has_member (take n xs) c) (has_member xs c) (front_of n xs c) h

  some-members : IsIncreasing 1 e.m committee → level - 1 ≤ length committee → IsTail 1 e.m committee (level - 1) (take (level - 1) committee)
  some-members up fits = record {
    increasing = IsIncreasing-take 1 e.m (level - 1) committee up;
    count = length-take-le (level - 1) committee fits;
    inside = λ c h. front_of (level - 1) committee c h;
  }

-- no U makes a group of T large
seconds_small : (property : Property) (e : Election) (committee : List ℕ) (level : ℕ) (shared : List ℕ) → IsIncreasing 1 e.m committee → level - 1 ≤ length committee
    → ((others : List ℕ) → IsTail 1 e.m committee (level - 1) others → Small property e committee level shared others)
    → AllByRecursion (λ within. pair_breaks property e committee level (shared, within) ≡ false) (lists_within property e.m committee level)
seconds_small Jr e committee level shared up fits each =
    (small_pair Jr e committee level (shared, []) (each (take (level - 1) committee) (some-members Jr e committee level up fits)), tt)
seconds_small Ejr e committee level shared up fits each =
    (small_pair Ejr e committee level (shared, []) (each (take (level - 1) committee) (some-members Ejr e committee level up fits)), tt)
seconds_small EjrPlus e committee level shared up fits each =
    (small_pair EjrPlus e committee level (shared, []) (each (take (level - 1) committee) (some-members EjrPlus e committee level up fits)), tt)
seconds_small Pjr e committee level shared up fits each =
    subst (AllByRecursion (λ within. pair_breaks Pjr e committee level (shared, within) ≡ false)) (sym (lists_of_members e.m (level - 1) committee up))
    (AllByRecursion-weaker (IsTail 1 e.m committee (level - 1)) (λ within. pair_breaks Pjr e committee level (shared, within) ≡ false)
    (λ within is. small_pair Pjr e committee level (shared, within) (each within is)) (sublists committee (level - 1)) (tails 1 e.m committee (level - 1) up))

-- no T of these choices shows a violation
pub none_shared : (property : Property) (e : Election) (committee : List ℕ) (level : ℕ) (shared pool : List ℕ) (left : ℕ) → IsIncreasing 1 e.m committee → level - 1 ≤ length committee → IsIncreasing 1 e.m pool
    → IsRefuted property e committee level (choices_of committee level shared pool left) → None ≡ first_of_lists property e committee level (completions shared pool left)
none_shared property e committee level shared pool left up fits rises refuted =
    no_lists property e committee level (completions shared pool left)
    (AllByRecursion-map (λ list. None ≡ first_of property e committee level (pairs_of list (lists_within property e.m committee level))) (λ rest. shared ++ rest) (sublists pool left)
    (AllByRecursion-weaker (IsTail 1 e.m pool left) (λ rest. None ≡ first_of property e committee level (pairs_of (shared ++ rest) (lists_within property e.m committee level)))
    (λ rest tail. no_pair property e committee level (shared ++ rest) (lists_within property e.m committee level)
    (seconds_small property e committee level (shared ++ rest) up fits (λ others is. refuted rest others tail is)))
    (sublists pool left) (tails 1 e.m pool left rises)))

-- no U beside this T is large
pub none_within : (e : Election) (committee : List ℕ) (level : ℕ) (shared within pool : List ℕ) (left : ℕ) → IsIncreasing 1 e.m pool
    → IsRefuted Pjr e committee level (choices_beside shared within pool left) → None ≡ find (is_enough_within e committee level shared) (completions within pool left)
none_within e committee level shared within pool left rises refuted =
    sym (none_passes (is_enough_within e committee level shared) (completions within pool left)
    (AllByRecursion-map (λ list. is_enough_within e committee level shared list ≡ false) (λ rest. within ++ rest) (sublists pool left)
    (AllByRecursion-weaker (IsTail 1 e.m pool left) (λ rest. is_enough_within e committee level shared (within ++ rest) ≡ false)
    (λ rest tail. subst (λ set. is_large e committee level (sum (pair_group Pjr e committee level (set, within ++ rest))) ≡ false) (append-nil shared)
    (refuted [] rest record { increasing = tt; count = refl; inside = λ n h. h } tail))
    (sublists pool left) (tails 1 e.m pool left rises))))
