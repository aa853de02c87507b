-- Each definition of bounds, computed on a small example.
use Rattle.std.proofs.Common.{◌≡◌, ℕ, zero, suc, ◌*◌, ◌-◌, ◌≤◌, ◌∙◌, sym, ap, List, [], ◌∷◌, true, false, refl, lit≤, Some, None, arith, length, length-append, ◌++◌}
use Rattle.std.specs.List.{AllByRecursion}
use Rattle.std.proofs.lemmas.List.Elements.{All-from_recursion, All-contains}
use Rattle.ballot_base.specs.Lists.{lists_of, increasing_lists}
use Rattle.ballot_base.proofs.Committees.{increasing_lists-contains}
use Rattle.ballot_base.specs.Ballots.{Row}
use Rattle.ballot_base.specs.CommonMultiple.{common_multiple}
use Rattle.ballot_base.specs.Increments.{increments}
use Rattle.ballot_base.specs.declared.increments.ThieleRule.TheVariants.{Av, Pav}
use Rattle.tie_walk.specs.Ceilings.{greatest_sum, gain_at, IsSubmodular, IsBound, IsAdded, IsTight, IsExactAtBest, ceiling, greatest_distance_upto, closeness_upto, Prefix, is_open, is_ahead, IsLive, live_below, live_count}
use Rattle.ballot_base.specs.Worths.{IsThreshold}
use Rattle.tie_walk.specs.Values.{thiele_value, satisfaction_value}
use Rattle.tie_walk.proofs.GreatestSums.{ceiling-whole}
use Rattle.tie_walk.proofs.WaitLemmas.{tight-exact}

-- of the candidates 1 to 3, two voters approve 1 and 2, and one voter 3
two_and_one : List Row
two_and_one = (1 ∷ 2 ∷ [], 2) ∷ (3 ∷ [], 1) ∷ []

pav_of_two : List ℕ → ℕ
pav_of_two set = thiele_value (increments Pav 2) two_and_one set

sav_of_three : List ℕ → ℕ
sav_of_three set = satisfaction_value 3 two_and_one set

-- of 0, 0, 9 and 4, the greatest two
greatest_of_four : greatest_sum (λ n. 9 * (n - 2) - 14 * (n - 3)) 1 4 2 ≡ 13
unfolding lists_of
greatest_of_four = refl

-- two of them are 4 or more, and one is 5 or more
threshold_of_two : IsThreshold (λ n. 9 * (n - 2) - 14 * (n - 3)) (1 ∷ 2 ∷ 3 ∷ 4 ∷ []) 2 4
threshold_of_two = (lit≤ tt, lit≤ tt)

sizes_are_submodular : IsSubmodular length
sizes_are_submodular set added n =
    omega (
      arith,
      length-append (set ++ added) (n ∷ []),
      length-append set added,
      length-append set (n ∷ []),
    )

-- one more candidate makes two
bound_of_sizes : IsBound length 3 1 (1 ∷ []) 1 2
bound_of_sizes added up size = omega (arith, size)

gain_of_two : gain_at pav_of_two (1 ∷ []) 2 ≡ 2
unfolding pav_of_two two_and_one increments common_multiple
gain_of_two = refl

pav_of_none : ceiling pav_of_two 3 0 [] 2 ≡ 8
unfolding pav_of_two two_and_one increments common_multiple lists_of
pav_of_none = refl

pav_with_one : ceiling pav_of_two 3 1 (1 ∷ []) 1 ≡ 6
unfolding pav_of_two two_and_one increments common_multiple lists_of
pav_with_one = refl

pav_without_one : ceiling pav_of_two 3 1 [] 2 ≡ 6
unfolding pav_of_two two_and_one increments common_multiple lists_of
pav_without_one = refl

pav_of_the_last : ceiling pav_of_two 3 2 [] 1 ≡ 2
unfolding pav_of_two two_and_one increments common_multiple lists_of
pav_of_the_last = refl

sav_of_none : ceiling sav_of_three 3 0 [] 2 ≡ 12
unfolding sav_of_three two_and_one common_multiple lists_of
sav_of_none = refl

sav_of_the_last : ceiling sav_of_three 3 2 [] 1 ≡ 6
unfolding sav_of_three two_and_one common_multiple lists_of
sav_of_the_last = refl

-- as far as candidate 1 tells, only the ballot of 3 differs from the set of 1
distance_upto_one : greatest_distance_upto 1 two_and_one (1 ∷ []) ≡ 1
unfolding two_and_one
distance_upto_one = refl

minimax_of_none : closeness_upto 3 two_and_one 0 [] ≡ 3
unfolding two_and_one
minimax_of_none = refl

minimax_without_one : closeness_upto 3 two_and_one 1 [] ≡ 2
unfolding two_and_one
minimax_without_one = refl

minimax_without_two : closeness_upto 3 two_and_one 2 [] ≡ 1
unfolding two_and_one
minimax_without_two = refl

-- ---- live prefixes, under proportional approval voting, where 1 and 2 win with 6, 1 and 3 do, and 2 and 3 do
pav_ceiling : ℕ → List ℕ → ℕ → ℕ
pav_ceiling c set left = ceiling pav_of_two 3 c set left

nine_are_live : live_count pav_ceiling 3 2 6 None ≡ 9
unfolding pav_ceiling pav_of_two two_and_one increments common_multiple lists_of
nine_are_live = refl

four_are_live : live_count pav_ceiling 3 2 6 (Some (1 ∷ 3 ∷ [])) ≡ 4
unfolding pav_ceiling pav_of_two two_and_one increments common_multiple lists_of
four_are_live = refl

two_below_the_last : live_below pav_ceiling 3 2 6 None 1 2 (1 ∷ []) ≡ 2
unfolding pav_ceiling pav_of_two two_and_one increments common_multiple lists_of
two_below_the_last = refl

without_one : Prefix
without_one = record { c = 1; set = [] }

is_open_without_one : is_open pav_ceiling 3 2 6 1 [] ≡ true
unfolding pav_ceiling pav_of_two two_and_one increments common_multiple lists_of
is_open_without_one = refl

-- two of the three are left out, and two seats cannot be filled
shut_without_two : is_open pav_ceiling 3 2 6 2 [] ≡ false
unfolding pav_ceiling pav_of_two two_and_one increments common_multiple lists_of
shut_without_two = refl

-- 1 and 2 is not later than 1 and 3
past_one_and_two : is_ahead 3 2 (Some (1 ∷ 3 ∷ [])) 2 (1 ∷ 2 ∷ []) ≡ false
unfolding lists_of
past_one_and_two = refl

open_beginnings : (c : ℕ) → c ≤ 1 → is_open pav_ceiling 3 2 6 c [] ≡ true
unfolding pav_ceiling pav_of_two two_and_one increments common_multiple lists_of
open_beginnings zero h = refl
open_beginnings (suc zero) h = refl
open_beginnings (suc (suc c)) h = absurd (omega arith)

live_without_one : IsLive pav_ceiling 3 2 6 None without_one
unfolding without_one pav_ceiling pav_of_two two_and_one increments common_multiple lists_of
live_without_one = (tt, lit≤ tt, open_beginnings, refl)

-- ---- bounds that are the value of a completion

-- 3 is one of the candidates after 1
one_added : IsAdded 3 1 1 (3 ∷ [])
one_added = ((lit≤ tt, lit≤ tt, tt), refl)

-- one voter approves 1, and two voters 2
one_for_two : List Row
one_for_two = (1 ∷ [], 1) ∷ (2 ∷ [], 2) ∷ []

av_of_one : List ℕ → ℕ
av_of_one set = thiele_value (increments Av 1) one_for_two set

av_ceiling : ℕ → List ℕ → ℕ → ℕ
av_ceiling c set left = ceiling av_of_one 2 c set left

two_of_both : av_ceiling 0 [] 1 ≡ av_of_one (2 ∷ [])
unfolding av_ceiling av_of_one one_for_two increments lists_of
two_of_both = refl

two_without_one : av_ceiling 1 [] 1 ≡ av_of_one (2 ∷ [])
unfolding av_ceiling av_of_one one_for_two increments lists_of
two_without_one = refl

-- approval voting for one seat: each bound is the value of the candidate who is in, or of the best who still can be
av_is_tight : IsTight av_of_one av_ceiling 2 1
unfolding av_ceiling
av_is_tight zero [] left inside up size fits =
    let one : left ≡ 1 = omega (arith, size) in
    (2 ∷ [], ((lit≤ tt, lit≤ tt, tt), sym one), ap (av_ceiling 0 []) one ∙ two_of_both)
av_is_tight (suc zero) [] left inside up size fits =
    let one : left ≡ 1 = omega (arith, size) in
    (2 ∷ [], ((lit≤ tt, lit≤ tt, tt), sym one), ap (av_ceiling 1 []) one ∙ two_without_one)
av_is_tight (suc (suc c)) [] left inside up size fits = absurd (omega (arith, size, fits))
av_is_tight c (x ∷ []) left inside up size fits =
    let none : left ≡ 0 = omega (arith, size) in
    ([], (tt, sym none), ap (av_ceiling c (x ∷ [])) none ∙ ceiling-whole av_of_one 2 c (x ∷ []))
av_is_tight c (x ∷ y ∷ set) left inside up size fits = absurd (omega (arith, size))

av_is_exact : IsExactAtBest av_of_one av_ceiling 2 1 2
av_is_exact = tight-exact av_of_one av_ceiling 2 1 2 av_is_tight

pav_six_at_most : AllByRecursion (λ set. pav_of_two set ≤ 6) (increasing_lists 1 3 2)
unfolding pav_of_two two_and_one increments common_multiple lists_of
pav_six_at_most = (lit≤ tt, (lit≤ tt, (lit≤ tt, tt)))

pav_of_committees : (set : List ℕ) → IsAdded 3 0 2 set → pav_of_two set ≤ 6
pav_of_committees set is =
    All-contains (λ s. pav_of_two s ≤ 6) (increasing_lists 1 3 2) set
    (All-from_recursion (λ s. pav_of_two s ≤ 6) (increasing_lists 1 3 2) pav_six_at_most) (increasing_lists-contains 1 3 2 set is)

-- proportional approval voting: the bound of two seats is 8, and no committee has more than 6
pav_is_not_tight : IsTight pav_of_two pav_ceiling 3 2 → ⊥
unfolding pav_ceiling
pav_is_not_tight tight =
    let some = tight 0 [] 2 (lit≤ tt) tt refl (lit≤ tt) in
    absurd (omega (arith, some.2, pav_of_none, pav_of_committees some.0 some.1))

pav_is_not_exact_at_seven : IsExactAtBest pav_of_two pav_ceiling 3 2 7 → ⊥
unfolding pav_ceiling
pav_is_not_exact_at_seven exact =
    let some = exact 0 [] 2 (lit≤ tt) tt refl (lit≤ tt) (omega (arith, pav_of_none)) in
    absurd (omega (arith, some.2, pav_of_committees some.0 some.1))
