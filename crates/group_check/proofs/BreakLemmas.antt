-- Some group breaks a property exactly where the whole group of some T and U does.
use Rattle.std.proofs.Common.{◌≡◌, ℕ, ◌-◌, ◌*◌, ◌<◌, ◌≤◌, ◌==◌, ◌&&◌, Bool, true, false, List, [], ◌∷◌, Option, Some, None, refl, sym, ap, subst, ◌∙◌, arith, length, map, sum}
use Rattle.std.specs.Prelude.{find, is_some, option_map, nat_le, nat_lt}
use Rattle.std.specs.List.{list_all, list_any}
use Rattle.std.proofs.lemmas.Bool.{and_from, and_parts, or_left, le-leb, leb-true, lt-ltb, ltb-true, eq-eqb, eqb-true}
use Rattle.std.proofs.lemmas.Nat.{mul-le}
use Rattle.ballot_base.specs.Lists.{IsIncreasing, increasing_lists}
use Rattle.ballot_base.specs.CandSet.{has_member, common_members, includes}
use Rattle.ballot_base.specs.Ballots.{Election, hits, voter_count}
use Rattle.ballot_base.proofs.Committees.{increasing_lists-contains}
use Rattle.group_check.specs.declared.property.Property.{Property}
use Rattle.group_check.specs.declared.property.Property.TheVariants.{Jr, Pjr, Ejr, EjrPlus}
use Rattle.group_check.specs.declared.property.Violation.{Violation}
use Rattle.group_check.specs.Groups.{IsGroup, member_ballots, common_candidates, represented, is_cohesive, is_outside, all_below, Breaks, SomeGroupBreaks}
use Rattle.group_check.specs.Report.{fits_pair, is_in_group, group_of, pair_group, lists_within, lists_shared, pairs_at, pair_breaks, violation_of, first_violation}
use Rattle.group_check.specs.Steps.Checking.{greatest_level, IsFirst, IsSecond, is_large}
use Rattle.group_check.proofs.TestLemmas.{list_all-weaker, list_all-both, is_some-find, found_passes, list_any-filter, list_any-contains, list_any-map, list_any-flat_map}
use Rattle.group_check.proofs.SetLemmas.{all_pass, widened}
use Rattle.group_check.proofs.GroupLemmas.{group_of-group, group_of-pass, group-le, shared_of, all_agree, represented-le, covered, some_outside, outside_of}

collapse_three : (a b c d : Bool) → a ≡ true → c ≡ true → d ≡ true → ((a && (b && c)) && d) ≡ b
collapse_three true true true true p q r = refl
collapse_three true false true true p q r = refl
collapse_three false b c d p q r = cc
collapse_three true b false d p q r = cc
collapse_three true b true false p q r = cc

collapse_two : (b c d : Bool) → c ≡ true → d ≡ true → ((b && c) && d) ≡ b
collapse_two b c d q r = collapse_three true b c d refl q r

-- the whole group of T and U breaks the property where it is large enough
pub pair_breaks-is : (property : Property) (e : Election) (committee : List ℕ) (level : ℕ) (shared within : List ℕ)
    → IsIncreasing 1 e.m committee → 1 ≤ level → level ≤ greatest_level property committee → IsFirst property e.m committee level shared → IsSecond property e.m level within
    → pair_breaks property e committee level (shared, within) ≡ is_large e committee level (sum (pair_group property e committee level (shared, within)))
pair_breaks-is Jr e committee level shared within i least most choice second =
    let group = pair_group Jr e committee level (shared, within) in
    let ballots = member_ballots e.rows group in
    let test = fits_pair Jr committee level (shared, within) in
    let all : list_all test ballots ≡ true = group_of-pass test e.rows in
    let one : level ≡ 1 = omega (arith, least, most) in
    let agree = le-leb level (length (common_candidates e.m ballots)) (all_agree e.m level ballots shared choice.0
    (list_all-weaker test (λ b. includes b shared) (λ b h. (and_parts (includes b shared) (nat_lt (hits b committee) level) h).0) ballots all)) in
    let below : all_below level committee ballots ≡ true = list_all-weaker test (λ b. nat_lt (hits b committee) level) (λ b h. (and_parts (includes b shared) (nat_lt (hits b committee) level) h).1) ballots all in
    let below_one : all_below 1 committee ballots ≡ true = ap (λ n. all_below n committee ballots) (sym one) ∙ below in
    collapse_three (level == 1) (is_large e committee level (sum group)) (nat_le level (length (common_candidates e.m ballots))) (all_below 1 committee ballots) (eq-eqb level 1 one) agree below_one
pair_breaks-is Pjr e committee level shared within i least most choice second =
    let group = pair_group Pjr e committee level (shared, within) in
    let ballots = member_ballots e.rows group in
    let test = fits_pair Pjr committee level (shared, within) in
    let all : list_all test ballots ≡ true = group_of-pass test e.rows in
    let agree = le-leb level (length (common_candidates e.m ballots)) (all_agree e.m level ballots shared choice.0
    (list_all-weaker test (λ b. includes b shared) (λ b h. (and_parts (includes b shared) (includes within (common_members b committee)) h).0) ballots all)) in
    let few = represented-le e.m ballots committee within i second.0
    (list_all-weaker test (λ b. includes within (common_members b committee)) (λ b h. (and_parts (includes b shared) (includes within (common_members b committee)) h).1) ballots all) in
    let size = second.1 in
    collapse_two (is_large e committee level (sum group)) (nat_le level (length (common_candidates e.m ballots))) (nat_lt (length (represented ballots committee)) level) agree
    (lt-ltb (length (represented ballots committee)) level (omega (arith, few, size, least)))
pair_breaks-is Ejr e committee level shared within i least most choice second =
    let group = pair_group Ejr e committee level (shared, within) in
    let ballots = member_ballots e.rows group in
    let test = fits_pair Ejr committee level (shared, within) in
    let all : list_all test ballots ≡ true = group_of-pass test e.rows in
    let agree = le-leb level (length (common_candidates e.m ballots)) (all_agree e.m level ballots shared choice.0
    (list_all-weaker test (λ b. includes b shared) (λ b h. (and_parts (includes b shared) (nat_lt (hits b committee) level) h).0) ballots all)) in
    let below : all_below level committee ballots ≡ true = list_all-weaker test (λ b. nat_lt (hits b committee) level) (λ b h. (and_parts (includes b shared) (nat_lt (hits b committee) level) h).1) ballots all in
    collapse_two (is_large e committee level (sum group)) (nat_le level (length (common_candidates e.m ballots))) (all_below level committee ballots) agree below
pair_breaks-is EjrPlus e committee level shared within i least most choice second =
    let group = pair_group EjrPlus e committee level (shared, within) in
    let ballots = member_ballots e.rows group in
    let test = fits_pair EjrPlus committee level (shared, within) in
    let all : list_all test ballots ≡ true = group_of-pass test e.rows in
    let approve = list_all-weaker test (λ b. includes b shared) (λ b h. (and_parts (includes b shared) (nat_lt (hits b committee) level) h).0) ballots all in
    let below : all_below level committee ballots ≡ true = list_all-weaker test (λ b. nat_lt (hits b committee) level) (λ b h. (and_parts (includes b shared) (nat_lt (hits b committee) level) h).1) ballots all in
    collapse_two (is_large e committee level (sum group)) (list_any (is_outside committee) (common_candidates e.m ballots)) (all_below level committee ballots)
    (some_outside e.m (is_outside committee) ballots shared choice.0 choice.1 approve) below

-- a larger group is large enough, too
pub large_more : (e : Election) (committee : List ℕ) (level few many : ℕ) → few ≤ many → is_large e committee level few ≡ true → is_large e committee level many ≡ true
large_more e committee level few many more h =
    let least = leb-true (level * voter_count e.rows) (few * length committee) h in
    let product = mul-le few (length committee) many (length committee) more (omega arith) in
    le-leb (level * voter_count e.rows) (many * length committee) (omega (arith, least, product))

-- T and U that a group supports which is large enough
enough : (property : Property) (e : Election) (committee : List ℕ) (level : ℕ) (group shared within : List ℕ)
    → IsIncreasing 1 e.m committee → 1 ≤ level → level ≤ greatest_level property committee → IsFirst property e.m committee level shared → IsSecond property e.m level within
    → IsGroup e.rows group → is_large e committee level (sum group) ≡ true → list_all (fits_pair property committee level (shared, within)) (member_ballots e.rows group) ≡ true
    → pair_breaks property e committee level (shared, within) ≡ true
enough property e committee level group shared within i least most choice second g large all =
    pair_breaks-is property e committee level shared within i least most choice second
    ∙ large_more e committee level (sum group) (sum (pair_group property e committee level (shared, within))) (group-le (fits_pair property committee level (shared, within)) e.rows group g all) large

-- a T that passes is one of the lists of its level
any_shared : (property : Property) (m : ℕ) (committee : List ℕ) (level : ℕ) (test : List ℕ → Bool) (shared : List ℕ) → IsFirst property m committee level shared → test shared ≡ true
    → list_any test (lists_shared property m committee level) ≡ true
any_shared Jr m committee level test shared first h = list_any-contains test (increasing_lists 1 m level) shared (increasing_lists-contains 1 m level shared first.0) h
any_shared Pjr m committee level test shared first h = list_any-contains test (increasing_lists 1 m level) shared (increasing_lists-contains 1 m level shared first.0) h
any_shared Ejr m committee level test shared first h = list_any-contains test (increasing_lists 1 m level) shared (increasing_lists-contains 1 m level shared first.0) h
any_shared EjrPlus m committee level test shared first h =
    let outside = list_all (is_outside committee) in
    list_any-filter test outside (increasing_lists 1 m 1)
    ∙ list_any-contains (λ set. outside set && test set) (increasing_lists 1 m 1) shared (increasing_lists-contains 1 m 1 shared first.0) (and_from (outside shared) (test shared) first.1 h)

-- a pair that breaks the property is one of the pairs
among_pairs : (property : Property) (e : Election) (committee : List ℕ) (level : ℕ) (shared : List ℕ) → IsFirst property e.m committee level shared
    → list_any (λ within. pair_breaks property e committee level (shared, within)) (lists_within property e.m committee level) ≡ true
    → list_any (pair_breaks property e committee level) (pairs_at property e.m committee level) ≡ true
among_pairs property e committee level shared choice some =
    let test = pair_breaks property e committee level in
    let lists = lists_within property e.m committee level in
    list_any-flat_map test (λ first. map (λ second. (first, second)) lists) (lists_shared property e.m committee level)
    ∙ any_shared property e.m committee level (λ first. list_any test (map (λ second. (first, second)) lists)) shared choice
    (list_any-map test (λ second. (shared, second)) lists ∙ some)

-- the group's parts of what it breaks
pub and_middle : (a b c : Bool) → ((a && b) && c) ≡ true → (a ≡ true) × (b ≡ true) × (c ≡ true)
and_middle a b c h =
    let front = and_parts (a && b) c h in
    let parts = and_parts a b front.0 in
    (parts.0, parts.1, front.1)

-- without a condition each candidate meets it
pub any_may : (set : List ℕ) → list_all (λ c. true) set ≡ true
any_may [] = refl
any_may (x ∷ xs) = any_may xs

pub some_pair : (property : Property) (e : Election) (committee : List ℕ) (level : ℕ) → IsIncreasing 1 e.m committee → 1 ≤ level → level ≤ length committee
    → SomeGroupBreaks property e committee level → list_any (pair_breaks property e committee level) (pairs_at property e.m committee level) ≡ true
some_pair Jr e committee level i least most some =
    let group = some.0 in
    let ballots = member_ballots e.rows group in
    let outer = and_middle (level == 1) (is_cohesive e (length committee) level group) (all_below 1 committee ballots) some.2 in
    let one : level ≡ 1 = eqb-true level 1 outer.0 in
    let parts = and_parts (is_large e committee level (sum group)) (nat_le level (length (common_candidates e.m ballots))) outer.1 in
    let shared = shared_of e.m level ballots (leb-true level (length (common_candidates e.m ballots)) parts.1) in
    let below : all_below level committee ballots ≡ true = ap (λ n. all_below n committee ballots) one ∙ outer.2 in
    let all = list_all-both (λ b. includes b shared.0) (λ b. nat_lt (hits b committee) level) ballots shared.2 below in
    among_pairs Jr e committee level shared.0 (shared.1, any_may shared.0)
    (or_left (pair_breaks Jr e committee level (shared.0, [])) false (enough Jr e committee level group shared.0 [] i least (omega (arith, one)) (shared.1, any_may shared.0) tt some.1 parts.0 all))
some_pair Pjr e committee level i least most some =
    let group = some.0 in
    let ballots = member_ballots e.rows group in
    let parts = and_middle (is_large e committee level (sum group)) (nat_le level (length (common_candidates e.m ballots))) (nat_lt (length (represented ballots committee)) level) some.2 in
    let shared = shared_of e.m level ballots (leb-true level (length (common_candidates e.m ballots)) parts.1) in
    let few : length (represented ballots committee) < level = ltb-true (length (represented ballots committee)) level parts.2 in
    let wide = widened 1 e.m (level - 1) (λ n. list_any (λ ballot. has_member ballot n) ballots) committee i (omega (arith, few)) (omega (arith, most)) in
    let cover = covered committee wide.0 ballots wide.1.holds in
    let all = list_all-both (λ b. includes b shared.0) (λ b. includes wide.0 (common_members b committee)) ballots shared.2 cover in
    let inside : includes committee wide.0 ≡ true = all_pass (has_member committee) wide.0 wide.1.inside in
    let breaking = enough Pjr e committee level group shared.0 wide.0 i least most (shared.1, any_may shared.0) (wide.1.increasing, wide.1.count) some.1 parts.0 all in
    among_pairs Pjr e committee level shared.0 (shared.1, any_may shared.0)
    (list_any-filter (λ within. pair_breaks Pjr e committee level (shared.0, within)) (includes committee) (increasing_lists 1 e.m (level - 1))
    ∙ list_any-contains (λ within. includes committee within && pair_breaks Pjr e committee level (shared.0, within)) (increasing_lists 1 e.m (level - 1)) wide.0
    (increasing_lists-contains 1 e.m (level - 1) wide.0 (wide.1.increasing, wide.1.count))
    (and_from (includes committee wide.0) (pair_breaks Pjr e committee level (shared.0, wide.0)) inside breaking))
some_pair Ejr e committee level i least most some =
    let group = some.0 in
    let ballots = member_ballots e.rows group in
    let parts = and_middle (is_large e committee level (sum group)) (nat_le level (length (common_candidates e.m ballots))) (all_below level committee ballots) some.2 in
    let shared = shared_of e.m level ballots (leb-true level (length (common_candidates e.m ballots)) parts.1) in
    let all = list_all-both (λ b. includes b shared.0) (λ b. nat_lt (hits b committee) level) ballots shared.2 parts.2 in
    among_pairs Ejr e committee level shared.0 (shared.1, any_may shared.0)
    (or_left (pair_breaks Ejr e committee level (shared.0, [])) false (enough Ejr e committee level group shared.0 [] i least most (shared.1, any_may shared.0) tt some.1 parts.0 all))
some_pair EjrPlus e committee level i least most some =
    let group = some.0 in
    let ballots = member_ballots e.rows group in
    let parts = and_middle (is_large e committee level (sum group)) (list_any (is_outside committee) (common_candidates e.m ballots)) (all_below level committee ballots) some.2 in
    let one = outside_of e.m (is_outside committee) ballots parts.1 in
    let shared = one.0 ∷ [] in
    let first : IsFirst EjrPlus e.m committee level shared = (one.1, and_from (is_outside committee one.0) true one.2 refl) in
    let all = list_all-both (λ b. includes b shared) (λ b. nat_lt (hits b committee) level) ballots one.3 parts.2 in
    among_pairs EjrPlus e committee level shared first
    (or_left (pair_breaks EjrPlus e committee level (shared, [])) false (enough EjrPlus e committee level group shared [] i least most first tt some.1 parts.0 all))

-- ---- the first violation

find-none : {X : Type 0} {Y : Type 0} (f : X → Y) (found : Option X) → option_map f found ≡ None → is_some found ≡ false
find-none f None e = refl
find-none f (Some x) e = cc

find-some : {X : Type 0} {Y : Type 0} (f : X → Y) (found : Option X) (y : Y) → option_map f found ≡ Some y → (x : X) × (found ≡ Some x) × (f x ≡ y)
find-some f None y e = cc
find-some f (Some x) y e = (x, refl, cc)

-- without a first violation no group breaks the property at this level
pub no_group : (property : Property) (e : Election) (committee : List ℕ) (level : ℕ) → IsIncreasing 1 e.m committee → 1 ≤ level → level ≤ length committee
    → first_violation property e committee level ≡ None → SomeGroupBreaks property e committee level → ⊥
no_group property e committee level i least most none some =
    let test = pair_breaks property e committee level in
    let pairs = pairs_at property e.m committee level in
    let clash : true ≡ false = sym (some_pair property e committee level i least most some) ∙ sym (is_some-find test pairs) ∙ find-none (violation_of property e committee level) (find test pairs) none in
    cc

-- with one, some group does
pub some_group : (property : Property) (e : Election) (committee : List ℕ) (level : ℕ) (report : Violation) → first_violation property e committee level ≡ Some report
    → SomeGroupBreaks property e committee level
some_group property e committee level report first =
    let test = pair_breaks property e committee level in
    let pairs = pairs_at property e.m committee level in
    let found = find-some (violation_of property e committee level) (find test pairs) report first in
    (pair_group property e committee level found.0, group_of-group (fits_pair property committee level found.0) e.rows, found_passes test pairs found.0 found.1)

-- no group breaks justified representation above level 1
pub above_greatest : (property : Property) (e : Election) (committee : List ℕ) (level : ℕ) → level ≤ length committee → greatest_level property committee < level → SomeGroupBreaks property e committee level → ⊥
above_greatest Jr e committee level most more some =
    let group = some.0 in
    let ballots = member_ballots e.rows group in
    let outer = and_middle (level == 1) (is_cohesive e (length committee) level group) (all_below 1 committee ballots) some.2 in
    let one : level ≡ 1 = eqb-true level 1 outer.0 in
    omega (arith, one, more)
above_greatest Pjr e committee level most more some = omega (arith, most, more)
above_greatest Ejr e committee level most more some = omega (arith, most, more)
above_greatest EjrPlus e committee level most more some = omega (arith, most, more)

-- the first violation names its level, and its group breaks the property
pub first_is : (property : Property) (e : Election) (committee : List ℕ) (level : ℕ) (report : Violation) → first_violation property e committee level ≡ Some report
    → (level ≡ report.level) × Breaks property e committee report.level (group_of (is_in_group report) e.rows)
first_is property e committee level report first =
    let test = pair_breaks property e committee level in
    let pairs = pairs_at property e.m committee level in
    let found = find-some (violation_of property e committee level) (find test pairs) report first in (
      ap (λ (v : Violation). v.level) found.2,
      subst (λ (v : Violation). Breaks property e committee v.level (group_of (is_in_group v) e.rows)) found.2 (found_passes test pairs found.0 found.1),
    )
