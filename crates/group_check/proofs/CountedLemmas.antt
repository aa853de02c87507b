-- The first violation of several pairs, and of one.
use Rattle.std.proofs.Common.{◌≡◌, ℕ, ◌-◌, ◌≤◌, ◌++◌, Bool, true, false, cond, List, [], ◌∷◌, Option, Some, None, refl, ap, ◌∙◌, arith, length, sum}
use Rattle.std.specs.Prelude.{find, is_some, option_map}
use Rattle.std.specs.Bool.{then_some}
use Rattle.std.specs.Option.{option_or}
use Rattle.std.proofs.lemmas.List.Folds.{find-append}
use Rattle.ballot_base.specs.Lists.{IsIncreasing}
use Rattle.ballot_base.specs.Ballots.{Election}
use Rattle.group_check.specs.declared.property.Property.{Property}
use Rattle.group_check.specs.declared.property.Property.TheVariants.{Jr, Pjr, Ejr, EjrPlus}
use Rattle.group_check.specs.declared.property.Violation.{Violation}
use Rattle.group_check.specs.Report.{pair_group, pair_breaks, violation_of}
use Rattle.group_check.specs.Steps.Checking.{greatest_level, IsFirst, IsSecond, first_of, is_large}
use Rattle.group_check.proofs.BreakLemmas.{pair_breaks-is}

-- the violation of these voters
abbrev pub violation_with : Property → List ℕ → ℕ → List ℕ → List ℕ → ℕ → Violation
violation_with property committee level shared within voters =
    record { property = property; committee = committee; level = level; shared = shared; within = within; voters = voters }

then_some-find : {X : Type 0} {Y : Type 0} (f : X → Y) (b : Bool) (x : X) → then_some b (f x) ≡ option_map f (cond b (Some x) None)
then_some-find f true x = refl
then_some-find f false x = refl

-- the group of T and U, counted
pub counted_is : (property : Property) (e : Election) (committee : List ℕ) (level : ℕ) (shared within : List ℕ)
    → IsIncreasing 1 e.m committee → 1 ≤ level → level ≤ greatest_level property committee → IsFirst property e.m committee level shared → IsSecond property e.m level within
    → (voters : ℕ) → voters ≡ sum (pair_group property e committee level (shared, within))
    → then_some (is_large e committee level voters) (violation_with property committee level shared within voters) ≡ first_of property e committee level ((shared, within) ∷ [])
counted_is property e committee level shared within i least most choice second voters a =
    let large = pair_breaks-is property e committee level shared within i least most choice second in
    rw (a, ← large) (then_some-find (violation_of property e committee level) (pair_breaks property e committee level (shared, within)) (shared, within))

option_map-or : {X : Type 0} {Y : Type 0} (f : X → Y) (a b : Option X) → option_map f (option_or a b) ≡ option_or (option_map f a) (option_map f b)
option_map-or f None b = refl
option_map-or f (Some x) b = refl

pub first_of-append : (property : Property) (e : Election) (committee : List ℕ) (level : ℕ) (pairs more : List (List ℕ × List ℕ))
    → first_of property e committee level (pairs ++ more) ≡ option_or (first_of property e committee level pairs) (first_of property e committee level more)
first_of-append property e committee level pairs more =
    let test = pair_breaks property e committee level in
    ap (option_map (violation_of property e committee level)) (find-append test pairs more)
    ∙ option_map-or (violation_of property e committee level) (find test pairs) (find test more)

-- what was found comes first
pub found_first : {X : Type 0} (found first : Option X) (rest : Option X) → found ≡ first → is_some found ≡ true → found ≡ option_or first rest
found_first None first rest e some = cc
found_first (Some x) first rest e some = ap (λ o. option_or o rest) e

-- where nothing was found, there is nothing
pub none_found-is : {X : Type 0} (found first : Option X) → found ≡ first → is_some found ≡ false → None ≡ first
none_found-is None first e none = e
none_found-is (Some x) first e none = cc

-- a nonempty committee has room for the greatest level
pub greatest_level-le : (property : Property) (committee : List ℕ) → (committee ≡ [] → ⊥) → greatest_level property committee ≤ length committee
greatest_level-le Jr [] some = absurd (some refl)
greatest_level-le Jr (x ∷ xs) some = omega arith
greatest_level-le Pjr committee some = omega arith
greatest_level-le Ejr committee some = omega arith
greatest_level-le EjrPlus committee some = omega arith

-- a committee has as many members as U
pub few_enough : (property : Property) (committee : List ℕ) (level : ℕ) → 1 ≤ length committee → level ≤ greatest_level property committee → level - 1 ≤ length committee
few_enough Jr committee level some most = omega (arith, some, most)
few_enough Pjr committee level some most = omega (arith, most)
few_enough Ejr committee level some most = omega (arith, most)
few_enough EjrPlus committee level some most = omega (arith, most)
