-- EJR+ implies extended justified representation, that implies proportional justified representation, and that implies the plain one.
use Rattle.std.proofs.Common.{◌≡◌, ℕ, zero, suc, ◌*◌, ◌<◌, ◌≤◌, ◌==◌, ◌&&◌, ◌||◌, Bool, true, false, cond, List, [], ◌∷◌, refl, sym, ap, ◌∙◌, arith, length, filter, not, sum}
use Rattle.std.specs.Prelude.{nat_le, nat_lt, count_by}
use Rattle.std.specs.List.{list_all, list_any, range_with_len, AllByRecursion}
use Rattle.std.proofs.lemmas.Bool.{and_from, and_parts, or_left, or_right, leb-true, lt-ltb, ltb-true, eqb-true}
use Rattle.std.proofs.lemmas.Nat.{mul-le}
use Rattle.std.proofs.lemmas.List.Sums.{length-filter, sum_by-cons}
use Rattle.ballot_base.specs.Lists.{IsIncreasing}
use Rattle.ballot_base.specs.CandSet.{has_member}
use Rattle.ballot_base.specs.Ballots.{Row, Election, IsElection, hits, voter_count}
use Rattle.ballot_base.proofs.Committees.{IsIncreasing-range}
use Rattle.ballot_base.proofs.Increasing.{IsIncreasing-filter, has_member-filter, has_member_head}
use Rattle.group_check.specs.declared.property.Property.TheVariants.{Jr, Pjr, Ejr, EjrPlus}
use Rattle.group_check.specs.Groups.{IsGroup, member_ballots, common_candidates, represented, is_cohesive, is_large_enough, is_outside, all_below, HasProperty}
use Rattle.group_check.proofs.SetLemmas.{length-within, length-common}
use Rattle.group_check.proofs.GroupLemmas.{any_at}
use Rattle.group_check.proofs.BreakLemmas.{and_middle}
use Rattle.group_check.proofs.TestLemmas.{both_at}

-- the ballots of a group are those of rows
ballots-increasing : (m : ℕ) (rows : List Row) (group : List ℕ) → AllByRecursion (λ (row : Row). IsIncreasing 1 m row.0) rows → AllByRecursion (λ ballot. IsIncreasing 1 m ballot) (member_ballots rows group)
ballots-increasing m [] group all = tt
ballots-increasing m (row ∷ rows) [] all = tt
ballots-increasing m (row ∷ rows) (zero ∷ group) all = ballots-increasing m rows group all.1
ballots-increasing m (row ∷ rows) (suc n ∷ group) all = (all.0, ballots-increasing m rows group all.1)

-- whoever approves members of the committee has them among those represented
hits-le-represented : (m : ℕ) (ballots : List (List ℕ)) (committee ballot : List ℕ) → IsIncreasing 1 m committee → IsIncreasing 1 m ballot
    → ((n : ℕ) → has_member ballot n ≡ true → list_any (λ b. has_member b n) ballots ≡ true) → hits ballot committee ≤ length (represented ballots committee)
hits-le-represented m ballots committee ballot i j among =
    let some = λ (n : ℕ). list_any (λ b. has_member b n) ballots in
    let few = length-within 1 m (filter (has_member ballot) committee) (represented ballots committee) (IsIncreasing-filter (has_member ballot) 1 m committee i) (IsIncreasing-filter some 1 m committee i)
    (λ n h.
    let split = and_parts (has_member ballot n) (has_member committee n) (sym (has_member-filter (has_member ballot) committee n) ∙ h) in
    has_member-filter some committee n ∙ and_from (some n) (has_member committee n) (among n split.0) split.1) in
    omega (arith, few, length-filter (has_member committee) ballot, length-common 1 m ballot committee j i)

below_from_few : (m level : ℕ) (all ballots : List (List ℕ)) (committee : List ℕ) → IsIncreasing 1 m committee → AllByRecursion (λ ballot. IsIncreasing 1 m ballot) ballots
    → ((n : ℕ) → list_any (λ b. has_member b n) ballots ≡ true → list_any (λ b. has_member b n) all ≡ true) → length (represented all committee) < level → all_below level committee ballots ≡ true
below_from_few m level all [] committee i inc among few = refl
below_from_few m level all (ballot ∷ ballots) committee i inc among few =
    let most = hits-le-represented m all committee ballot i inc.0 (λ n h. among n (or_left (has_member ballot n) (list_any (λ b. has_member b n) ballots) h)) in
    and_from (nat_lt (hits ballot committee) level) (all_below level committee ballots) (lt-ltb (hits ballot committee) level (omega (arith, most, few)))
    (below_from_few m level all ballots committee i inc.1 (λ n h. among n (or_right (has_member ballot n) (list_any (λ b. has_member b n) ballots) h)) few)

pub ejr-pjr : (e : Election) (committee : List ℕ) → IsElection e → IsIncreasing 1 e.m committee → HasProperty Ejr e committee → HasProperty Pjr e committee
ejr-pjr e committee valid i has level least most some =
    let group = some.0 in
    let ballots = member_ballots e.rows group in
    let cohesive = is_cohesive e (length committee) level group in
    let parts = and_parts cohesive (nat_lt (length (represented ballots committee)) level) some.2 in
    let few = ltb-true (length (represented ballots committee)) level parts.1 in
    let below = below_from_few e.m level ballots ballots committee i (ballots-increasing e.m e.rows group valid.ballots) (λ n h. h) few in
    has level least most (group, some.1, and_from cohesive (all_below level committee ballots) parts.0 below)

abbrev as_number : Bool → ℕ
as_number b = cond b 1 0

-- where no ballot approves a member of the committee, none is represented
none_counted : (p : ℕ → Bool) (xs : List ℕ) (n : ℕ) → count_by p xs < 1 → has_member xs n ≡ true → p n ≡ true → ⊥
none_counted p [] n few h k = cc
none_counted p (x ∷ xs) n few h k =
    let counted = sum_by-cons (λ (y : ℕ). cond (p y) 1 0) x xs in
    cases (x == n) refl (omega (arith, counted, few)) (none_counted p xs n (omega (arith, counted, few))) h
  where
    cases : (b : Bool) → (x == n) ≡ b → as_number (p x) < 1 → (has_member xs n ≡ true → p n ≡ true → ⊥) → (b || has_member xs n) ≡ true → ⊥
    cases true e here later h =
        let one = ap as_number (ap p (eqb-true x n e) ∙ k) in omega (arith, one, here)
    cases false e here later h = later h k

nothing_kept : (p : ℕ → Bool) (xs : List ℕ) → ((n : ℕ) → has_member xs n ≡ true → p n ≡ true → ⊥) → length (filter p xs) ≡ 0
nothing_kept p [] none = refl
nothing_kept p (x ∷ xs) none =
    cases (p x) refl (nothing_kept p xs (λ n h. none n (or_right (x == n) (has_member xs n) h)))
  where
    cases : (b : Bool) → p x ≡ b → length (filter p xs) ≡ 0 → length (cond b (x ∷ filter p xs) (filter p xs)) ≡ 0
    cases true e rest = absurd (none x (has_member_head x xs) e)
    cases false e rest = rest

pub pjr-jr : (e : Election) (committee : List ℕ) → HasProperty Pjr e committee → HasProperty Jr e committee
pjr-jr e committee has level least most some =
    let group = some.0 in
    let ballots = member_ballots e.rows group in
    let cohesive = is_cohesive e (length committee) level group in
    let parts = and_middle (level == 1) cohesive (all_below 1 committee ballots) some.2 in
    let one : level ≡ 1 = eqb-true level 1 parts.0 in
    let some_approves = λ (n : ℕ). list_any (λ b. has_member b n) ballots in
    let none : length (represented ballots committee) ≡ 0 = nothing_kept some_approves committee (λ n h k.
    let found = both_at (λ b. nat_lt (hits b committee) 1) (λ b. has_member b n) ballots parts.2 k in
    none_counted (has_member committee) found.0 n (ltb-true (hits found.0 committee) 1 found.1) found.2 h) in
    has level least most (group, some.1, and_from cohesive (nat_lt (length (represented ballots committee)) level) parts.1 (lt-ltb (length (represented ballots committee)) level (omega (arith, none, one))))

-- ---- EJR+

-- a group without a ballot has no voter
no_voters : (rows : List Row) (group : List ℕ) → IsGroup rows group → member_ballots rows group ≡ [] → sum group ≡ 0
no_voters [] [] g h = refl
no_voters [] (n ∷ group) g h = absurd g
no_voters (row ∷ rows) [] g h = absurd g
no_voters (row ∷ rows) (zero ∷ group) g h = omega (arith, sum_by-cons (λ (x : ℕ). x) 0 group, no_voters rows group g.1 h)
no_voters (row ∷ rows) (suc n ∷ group) g h = cc

inside_unless : (a b : Bool) → (not a ≡ true → b ≡ true) → b ≡ false → a ≡ true
inside_unless true b h k = refl
inside_unless false b h k = let clash : true ≡ false = sym (h refl) ∙ k in cc

-- where all common candidates are members, whoever approves them approves as many members
no_ballots : (m level : ℕ) (ballots : List (List ℕ)) (committee : List ℕ) → IsIncreasing 1 m committee → AllByRecursion (λ ballot. IsIncreasing 1 m ballot) ballots
    → level ≤ length (common_candidates m ballots) → all_below level committee ballots ≡ true → list_any (is_outside committee) (common_candidates m ballots) ≡ false → ballots ≡ []
no_ballots m level [] committee i inc many below none = refl
no_ballots m level (ballot ∷ ballots) committee i inc many below none =
    let p = λ (n : ℕ). list_all (λ b. has_member b n) (ballot ∷ ballots) in
    let commons = common_candidates m (ballot ∷ ballots) in
    let j : IsIncreasing 1 m commons = IsIncreasing-filter p 1 m (range_with_len 1 m) (IsIncreasing-range 1 m m (omega arith)) in
    let few = length-within 1 m commons (filter (has_member ballot) committee) j (IsIncreasing-filter (has_member ballot) 1 m committee i) (λ n h.
    let approved = and_parts (p n) (has_member (range_with_len 1 m) n) (sym (has_member-filter p (range_with_len 1 m) n) ∙ h) in
    let member = inside_unless (has_member committee n) (list_any (is_outside committee) commons) (λ out. any_at (is_outside committee) commons n h out) none in
    has_member-filter (has_member ballot) committee n
    ∙ and_from (has_member ballot n) (has_member committee n) (and_parts (has_member ballot n) (list_all (λ b. has_member b n) ballots) approved.0).0 member) in
    let less = ltb-true (hits ballot committee) level (and_parts (nat_lt (hits ballot committee) level) (all_below level committee ballots) below).0 in
    absurd (omega (arith, few, many, less, length-filter (has_member committee) ballot, length-common 1 m ballot committee inc.0 i))

pub ejrplus-ejr : (e : Election) (committee : List ℕ) → IsElection e → 1 ≤ voter_count e.rows → IsIncreasing 1 e.m committee → HasProperty EjrPlus e committee → HasProperty Ejr e committee
ejrplus-ejr e committee valid voters i has level least most some =
    let group = some.0 in
    let ballots = member_ballots e.rows group in
    let commons = common_candidates e.m ballots in
    let large = is_large_enough e (length committee) level group in
    let parts = and_middle large (nat_le level (length commons)) (all_below level committee ballots) some.2 in
    let inc = ballots-increasing e.m e.rows group valid.ballots in
    cases (list_any (is_outside committee) commons) refl
    (λ out. has level least most (group, some.1, and_from (large && list_any (is_outside committee) commons) (all_below level committee ballots) (and_from large (list_any (is_outside committee) commons) parts.0 out) parts.2))
    (λ none.
    let nobody = no_voters e.rows group some.1 (no_ballots e.m level ballots committee i inc (leb-true level (length commons) parts.1) parts.2 none) in
    let enough = leb-true (level * voter_count e.rows) (sum group * length committee) parts.0 in
    let nothing : sum group * length committee ≡ 0 * length committee = ap (λ s. s * length committee) nobody in
    let one = mul-le 1 1 level (voter_count e.rows) least voters in
    omega (arith, enough, nothing, one))
  where
    cases : (b : Bool) → list_any (is_outside committee) (common_candidates e.m (member_ballots e.rows some.0)) ≡ b
        → (list_any (is_outside committee) (common_candidates e.m (member_ballots e.rows some.0)) ≡ true → ⊥)
        → (list_any (is_outside committee) (common_candidates e.m (member_ballots e.rows some.0)) ≡ false → ⊥) → ⊥
    cases true h outside inside = outside h
    cases false h outside inside = inside h
