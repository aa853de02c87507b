-- Each definition, computed on small examples.
use Rattle.std.proofs.Common.{◌≡◌, zero, suc, [], ◌∷◌, true, false, Some, None, refl, lit≤, arith}
use Rattle.ballot_base.specs.Lists.{lists_of}
use Rattle.ballot_base.specs.Ballots.{Election, election}
use Rattle.ballot_base.specs.CandSet.{includes}
use Rattle.group_check.specs.declared.property.Property.TheVariants.{Jr, Pjr, Ejr, EjrPlus}
use Rattle.group_check.specs.Groups.{IsGroup, member_ballots, common_candidates, represented, is_large_enough, is_outside, is_cohesive, all_below, breaks, Breaks, SomeGroupBreaks, HasProperty}
use Rattle.group_check.specs.Report.{fits_pair, is_in_group, group_of, pair_group, lists_within, lists_shared, pairs_at, pair_breaks, violation_of, first_violation, IsReport}
use Rattle.group_check.specs.declared.refutation.Choices.{Choices}
use Rattle.group_check.specs.declared.refutation.Finding.TheVariants.{Member}
use Rattle.group_check.specs.Steps.Refuting.{AreOpen, IsRefuted, CannotAgree, IsFinding, choices_of, choices_beside, with_candidate, with_committee_member, is_eligible, may_belong, possible_voters, supporters, obstacles, charge}
use Rattle.group_check.specs.Steps.Checking.{IsTail, greatest_level, shared_size, may_share, IsChoice, IsFirst, IsSecond, Computes, first_of, first_of_lists, pairs_of, sublists, completions, is_large, is_below, is_around, is_enough_within, voters_around}
use Rattle.group_check.proofs.BreakLemmas.{no_group, above_greatest}
use Rattle.group_check.proofs.RefutationLemmas.{open-start, refuted_by_pool}

-- ---- three voters approve 1 and 2, and one approves 3 and 4; the committee has 3 and 4
divided : Election
divided = election 4 ([] ∷ [] ∷ [] ∷ [] ∷ []) ((1 ∷ 2 ∷ [], 3) ∷ (3 ∷ 4 ∷ [], 1) ∷ [])

-- two of the three voters are a group
part : IsGroup divided.rows (2 ∷ 0 ∷ [])
unfolding divided
part = (lit≤ tt, (lit≤ tt, tt))

their_ballots : member_ballots divided.rows (2 ∷ 0 ∷ []) ≡ (1 ∷ 2 ∷ []) ∷ []
unfolding divided
their_ballots = refl

all_ballots : member_ballots divided.rows (1 ∷ 1 ∷ []) ≡ (1 ∷ 2 ∷ []) ∷ (3 ∷ 4 ∷ []) ∷ []
unfolding divided
all_ballots = refl

their_common : common_candidates 4 ((1 ∷ 2 ∷ 3 ∷ []) ∷ (1 ∷ 2 ∷ 4 ∷ []) ∷ []) ≡ 1 ∷ 2 ∷ []
their_common = refl

nobodys_common : common_candidates 2 [] ≡ 1 ∷ 2 ∷ []
nobodys_common = refl

their_represented : represented ((1 ∷ 2 ∷ 3 ∷ []) ∷ (1 ∷ 2 ∷ []) ∷ []) (3 ∷ 4 ∷ []) ≡ 3 ∷ []
their_represented = refl

-- two of four voters may claim one of two seats, and one may not
two_are_cohesive : is_cohesive divided 2 1 (2 ∷ 0 ∷ []) ≡ true
unfolding divided
two_are_cohesive = refl

one_is_too_few : is_cohesive divided 2 1 (1 ∷ 0 ∷ []) ≡ false
unfolding divided
one_is_too_few = refl

nothing_in_common : is_cohesive divided 2 1 (3 ∷ 1 ∷ []) ≡ false
unfolding divided
nothing_in_common = refl

none_below : all_below 1 (3 ∷ 4 ∷ []) ((1 ∷ 2 ∷ []) ∷ (3 ∷ 4 ∷ []) ∷ []) ≡ false
none_below = refl

two_break : Breaks Jr divided (3 ∷ 4 ∷ []) 1 (2 ∷ 0 ∷ [])
unfolding divided
two_break = refl

-- with 1 in the committee they do not
two_are_represented : breaks Jr divided (1 ∷ 4 ∷ []) 1 (2 ∷ 0 ∷ []) ≡ false
unfolding divided
two_are_represented = refl

-- JR knows level 1 alone
not_at_level_two : breaks Jr divided (3 ∷ 4 ∷ []) 2 (3 ∷ 0 ∷ []) ≡ false
unfolding divided
not_at_level_two = refl

some_break : SomeGroupBreaks Jr divided (3 ∷ 4 ∷ []) 1
some_break = (2 ∷ 0 ∷ [], part, two_break)

first_jr : first_violation Jr divided (3 ∷ 4 ∷ []) 1 ≡ Some (record { property = Jr; committee = 3 ∷ 4 ∷ []; level = 1; shared = 1 ∷ []; within = []; voters = 3 })
unfolding divided lists_of
first_jr = refl

first_pjr : first_violation Pjr divided (3 ∷ 4 ∷ []) 1 ≡ Some (record { property = Pjr; committee = 3 ∷ 4 ∷ []; level = 1; shared = 1 ∷ []; within = []; voters = 3 })
unfolding divided lists_of
first_pjr = refl

its_group_breaks : Breaks Jr divided (3 ∷ 4 ∷ []) 1 (3 ∷ 0 ∷ [])
unfolding divided
its_group_breaks = refl

approves_one : is_in_group (record { property = Jr; committee = 3 ∷ 4 ∷ []; level = 1; shared = 1 ∷ []; within = []; voters = 3 }) (1 ∷ 2 ∷ []) ≡ true
approves_one = refl

report : IsReport Jr divided (3 ∷ 4 ∷ []) (record { property = Jr; committee = 3 ∷ 4 ∷ []; level = 1; shared = 1 ∷ []; within = []; voters = 3 })
unfolding divided
report = record {
  low = lit≤ tt;
  high = lit≤ tt;
  breaks = its_group_breaks;
  least = λ level from to some. omega (arith, from, to);
  first = first_jr;
}

-- ---- one voter approves 1, 2 and 3, and one approves 1, 2 and 4; the committee has 3 and 4
split : Election
split = election 4 ([] ∷ [] ∷ [] ∷ [] ∷ []) ((1 ∷ 2 ∷ 3 ∷ [], 1) ∷ (1 ∷ 2 ∷ 4 ∷ [], 1) ∷ [])

-- together they approve two members, and each approves one
two_represented : breaks Pjr split (3 ∷ 4 ∷ []) 2 (1 ∷ 1 ∷ []) ≡ false
unfolding split
two_represented = refl

each_has_one : breaks Ejr split (3 ∷ 4 ∷ []) 2 (1 ∷ 1 ∷ []) ≡ true
unfolding split
each_has_one = refl

no_ejr_at_one : first_violation Ejr split (3 ∷ 4 ∷ []) 1 ≡ None
unfolding split lists_of
no_ejr_at_one = refl

ejr_at_two : first_violation Ejr split (3 ∷ 4 ∷ []) 2 ≡ Some (record { property = Ejr; committee = 3 ∷ 4 ∷ []; level = 2; shared = 1 ∷ 2 ∷ []; within = []; voters = 2 })
unfolding split lists_of
ejr_at_two = refl

no_pjr_at_one : first_violation Pjr split (3 ∷ 4 ∷ []) 1 ≡ None
unfolding split lists_of
no_pjr_at_one = refl

no_pjr_at_two : first_violation Pjr split (3 ∷ 4 ∷ []) 2 ≡ None
unfolding split lists_of
no_pjr_at_two = refl

-- so the committee has PJR and lacks EJR
split_has_pjr : HasProperty Pjr split (3 ∷ 4 ∷ [])
unfolding split
split_has_pjr zero least most some = omega (arith, least)
split_has_pjr (suc zero) least most some = no_group Pjr split (3 ∷ 4 ∷ []) 1 (lit≤ tt, lit≤ tt, (lit≤ tt, lit≤ tt, tt)) (lit≤ tt) (lit≤ tt) no_pjr_at_one some
split_has_pjr (suc (suc zero)) least most some = no_group Pjr split (3 ∷ 4 ∷ []) 2 (lit≤ tt, lit≤ tt, (lit≤ tt, lit≤ tt, tt)) (lit≤ tt) (lit≤ tt) no_pjr_at_two some
split_has_pjr (suc (suc (suc level))) least most some = omega (arith, most)

-- ---- two voters approve 1, 2 and 3; the committee has 3 and 4
alike : Election
alike = election 4 ([] ∷ [] ∷ [] ∷ [] ∷ []) ((1 ∷ 2 ∷ 3 ∷ [], 2) ∷ [])

pjr_with_one_member : first_violation Pjr alike (3 ∷ 4 ∷ []) 2 ≡ Some (record { property = Pjr; committee = 3 ∷ 4 ∷ []; level = 2; shared = 1 ∷ 2 ∷ []; within = 3 ∷ []; voters = 2 })
unfolding alike lists_of
pjr_with_one_member = refl

ejr_of_both : first_violation Ejr alike (3 ∷ 4 ∷ []) 2 ≡ Some (record { property = Ejr; committee = 3 ∷ 4 ∷ []; level = 2; shared = 1 ∷ 2 ∷ []; within = []; voters = 2 })
unfolding alike lists_of
ejr_of_both = refl

no_jr : first_violation Jr alike (3 ∷ 4 ∷ []) 1 ≡ None
unfolding alike lists_of
no_jr = refl

-- so the committee has JR and lacks EJR
alike_has_jr : HasProperty Jr alike (3 ∷ 4 ∷ [])
unfolding alike
alike_has_jr zero least most some = omega (arith, least)
alike_has_jr (suc zero) least most some = no_group Jr alike (3 ∷ 4 ∷ []) 1 (lit≤ tt, lit≤ tt, (lit≤ tt, lit≤ tt, tt)) (lit≤ tt) (lit≤ tt) no_jr some
alike_has_jr (suc (suc level)) least most some = above_greatest Jr alike (3 ∷ 4 ∷ []) (suc (suc level)) most (omega arith) some

-- ---- one voter approves 1 and 2, and one approves 1 and 3; the committee has 2 and 3
pair : Election
pair = election 3 ([] ∷ [] ∷ [] ∷ []) ((1 ∷ 2 ∷ [], 1) ∷ (1 ∷ 3 ∷ [], 1) ∷ [])

one_is_outside : is_outside (2 ∷ 3 ∷ []) 1 ≡ true
one_is_outside = refl

two_is_not_outside : is_outside (2 ∷ 3 ∷ []) 2 ≡ false
two_is_not_outside = refl

both_are_large_enough : is_large_enough pair 2 2 (1 ∷ 1 ∷ []) ≡ true
unfolding pair
both_are_large_enough = refl

-- the two could claim two members, share 1 and have one member each
they_break : breaks EjrPlus pair (2 ∷ 3 ∷ []) 2 (1 ∷ 1 ∷ []) ≡ true
unfolding pair
they_break = refl

-- with 1 in the committee they share nobody outside it
they_share_a_member : breaks EjrPlus pair (1 ∷ 2 ∷ []) 2 (1 ∷ 1 ∷ []) ≡ false
unfolding pair
they_share_a_member = refl

no_plus_at_one : first_violation EjrPlus pair (2 ∷ 3 ∷ []) 1 ≡ None
unfolding pair lists_of
no_plus_at_one = refl

plus_at_two : first_violation EjrPlus pair (2 ∷ 3 ∷ []) 2 ≡ Some (record { property = EjrPlus; committee = 2 ∷ 3 ∷ []; level = 2; shared = 1 ∷ []; within = []; voters = 2 })
unfolding pair lists_of
plus_at_two = refl

-- they share too few candidates to break EJR
no_ejr_of_pair : first_violation Ejr pair (2 ∷ 3 ∷ []) 2 ≡ None
unfolding pair lists_of
no_ejr_of_pair = refl

none_at_one_with_one : first_violation EjrPlus pair (1 ∷ 2 ∷ []) 1 ≡ None
unfolding pair lists_of
none_at_one_with_one = refl

none_at_two_with_one : first_violation EjrPlus pair (1 ∷ 2 ∷ []) 2 ≡ None
unfolding pair lists_of
none_at_two_with_one = refl

-- so the committee of 1 and 2 has EJR+
pair_has_plus : HasProperty EjrPlus pair (1 ∷ 2 ∷ [])
unfolding pair
pair_has_plus zero least most some = omega (arith, least)
pair_has_plus (suc zero) least most some = no_group EjrPlus pair (1 ∷ 2 ∷ []) 1 (lit≤ tt, lit≤ tt, (lit≤ tt, lit≤ tt, tt)) (lit≤ tt) (lit≤ tt) none_at_one_with_one some
pair_has_plus (suc (suc zero)) least most some = no_group EjrPlus pair (1 ∷ 2 ∷ []) 2 (lit≤ tt, lit≤ tt, (lit≤ tt, lit≤ tt, tt)) (lit≤ tt) (lit≤ tt) none_at_two_with_one some
pair_has_plus (suc (suc (suc level))) least most some = omega (arith, most)

-- ---- T and U
one_and_two_fit : fits_pair Pjr (3 ∷ 4 ∷ []) 2 (1 ∷ 2 ∷ [], 3 ∷ []) (1 ∷ 2 ∷ 3 ∷ []) ≡ true
one_and_two_fit = refl

four_does_not_fit : fits_pair Pjr (3 ∷ 4 ∷ []) 2 (1 ∷ 2 ∷ [], 4 ∷ []) (1 ∷ 2 ∷ 3 ∷ []) ≡ false
four_does_not_fit = refl

fewer_members_fit : fits_pair Ejr (3 ∷ 4 ∷ []) 2 (1 ∷ 2 ∷ [], []) (1 ∷ 2 ∷ 3 ∷ []) ≡ true
fewer_members_fit = refl

too_many_members_do_not_fit : fits_pair Jr (3 ∷ 4 ∷ []) 1 (1 ∷ [], []) (1 ∷ 2 ∷ 3 ∷ []) ≡ false
too_many_members_do_not_fit = refl

large_ballots : group_of (includes (1 ∷ 2 ∷ 3 ∷ [])) ((1 ∷ [], 5) ∷ (4 ∷ [], 6) ∷ []) ≡ 5 ∷ 0 ∷ []
large_ballots = refl

who_supports : pair_group Jr divided (3 ∷ 4 ∷ []) 1 (1 ∷ [], []) ≡ 3 ∷ 0 ∷ []
unfolding divided
who_supports = refl

members_alone : lists_within Pjr 4 (3 ∷ 4 ∷ []) 2 ≡ (3 ∷ []) ∷ (4 ∷ []) ∷ []
unfolding lists_of
members_alone = refl

empty_alone : lists_within Ejr 4 (3 ∷ 4 ∷ []) 2 ≡ [] ∷ []
empty_alone = refl

two_of_three : lists_shared Ejr 3 (2 ∷ []) 2 ≡ (1 ∷ 2 ∷ []) ∷ (1 ∷ 3 ∷ []) ∷ (2 ∷ 3 ∷ []) ∷ []
unfolding lists_of
two_of_three = refl

one_outside : lists_shared EjrPlus 3 (2 ∷ []) 2 ≡ (1 ∷ []) ∷ (3 ∷ []) ∷ []
unfolding lists_of
one_outside = refl

pairs_in_order : pairs_at Pjr 3 (2 ∷ 3 ∷ []) 2 ≡
    (1 ∷ 2 ∷ [], 2 ∷ []) ∷ (1 ∷ 2 ∷ [], 3 ∷ []) ∷ (1 ∷ 3 ∷ [], 2 ∷ []) ∷ (1 ∷ 3 ∷ [], 3 ∷ []) ∷ (2 ∷ 3 ∷ [], 2 ∷ []) ∷ (2 ∷ 3 ∷ [], 3 ∷ []) ∷ []
unfolding lists_of
pairs_in_order = refl

it_breaks : pair_breaks Pjr alike (3 ∷ 4 ∷ []) 2 (1 ∷ 2 ∷ [], 3 ∷ []) ≡ true
unfolding alike
it_breaks = refl

it_is_violated : violation_of Pjr alike (3 ∷ 4 ∷ []) 2 (1 ∷ 2 ∷ [], 3 ∷ []) ≡ record { property = Pjr; committee = 3 ∷ 4 ∷ []; level = 2; shared = 1 ∷ 2 ∷ []; within = 3 ∷ []; voters = 2 }
unfolding alike
it_is_violated = refl

-- ---- the steps of the search
one_level : greatest_level Jr (3 ∷ 4 ∷ []) ≡ 1
one_level = refl

two_levels : greatest_level Pjr (3 ∷ 4 ∷ []) ≡ 2
two_levels = refl

two_are_shared : shared_size Ejr 2 ≡ 2
two_are_shared = refl

one_is_shared : shared_size EjrPlus 2 ≡ 1
one_is_shared = refl

a_member_may_share : may_share Ejr (3 ∷ 4 ∷ []) 3 ≡ true
a_member_may_share = refl

no_member_may_share : may_share EjrPlus (3 ∷ 4 ∷ []) 3 ≡ false
no_member_may_share = refl

first_of_plus : IsFirst EjrPlus 4 (3 ∷ 4 ∷ []) 2 (1 ∷ [])
first_of_plus = (((lit≤ tt, lit≤ tt, tt), refl), refl)

choice : IsChoice 4 2 (1 ∷ 3 ∷ [])
choice = ((lit≤ tt, lit≤ tt, (lit≤ tt, lit≤ tt, tt)), refl)

second : IsSecond Pjr 4 2 (3 ∷ [])
second = ((lit≤ tt, lit≤ tt, tt), refl)

pairs_of_one : pairs_of (1 ∷ 2 ∷ []) ((3 ∷ []) ∷ (4 ∷ []) ∷ []) ≡ (1 ∷ 2 ∷ [], 3 ∷ []) ∷ (1 ∷ 2 ∷ [], 4 ∷ []) ∷ []
pairs_of_one = refl

none_of_these : first_of Pjr alike (3 ∷ 4 ∷ []) 2 ((1 ∷ 2 ∷ [], 4 ∷ []) ∷ []) ≡ None
unfolding alike
none_of_these = refl

none_of_this_list : first_of_lists Pjr alike (3 ∷ 4 ∷ []) 2 ((1 ∷ 4 ∷ []) ∷ []) ≡ None
unfolding alike lists_of
none_of_this_list = refl

pairs_of_three : sublists (2 ∷ 5 ∷ 9 ∷ []) 2 ≡ (2 ∷ 5 ∷ []) ∷ (2 ∷ 9 ∷ []) ∷ (5 ∷ 9 ∷ []) ∷ []
pairs_of_three = refl

below_one : completions (1 ∷ []) (5 ∷ 9 ∷ []) 1 ≡ (1 ∷ 5 ∷ []) ∷ (1 ∷ 9 ∷ []) ∷ []
below_one = refl

half_are_enough : is_large divided (3 ∷ 4 ∷ []) 1 2 ≡ true
unfolding divided
half_are_enough = refl

fewer_are_not : is_large divided (3 ∷ 4 ∷ []) 1 1 ≡ false
unfolding divided
fewer_are_not = refl

one_member_is_below_two : is_below (3 ∷ 4 ∷ []) 2 (1 ∷ []) (1 ∷ 2 ∷ 3 ∷ []) ≡ true
one_member_is_below_two = refl

one_member_is_not_below_one : is_below (3 ∷ 4 ∷ []) 1 (1 ∷ []) (1 ∷ 2 ∷ 3 ∷ []) ≡ false
one_member_is_not_below_one = refl

can_still_be_chosen : is_around (3 ∷ 4 ∷ 5 ∷ []) (1 ∷ []) (3 ∷ []) (5 ∷ []) 1 (1 ∷ 3 ∷ 5 ∷ []) ≡ true
can_still_be_chosen = refl

was_passed_over : is_around (3 ∷ 4 ∷ 5 ∷ []) (1 ∷ []) (3 ∷ []) (5 ∷ []) 1 (1 ∷ 4 ∷ []) ≡ false
was_passed_over = refl

who_stays : voters_around split (3 ∷ 4 ∷ []) (1 ∷ 2 ∷ []) [] (4 ∷ []) 1 ≡ 0 ∷ 1 ∷ []
unfolding split
who_stays = refl

one_of_two_is_too_few : is_enough_within split (3 ∷ 4 ∷ []) 2 (1 ∷ 2 ∷ []) (3 ∷ []) ≡ false
unfolding split
one_of_two_is_too_few = refl

by_the_members : Computes (λ ballot answer. answer ≡ includes ballot (1 ∷ [])) (λ ballot. includes ballot (1 ∷ []))
by_the_members = λ ballot answer same. same

-- ---- lists T and U at level 2, as far as they are chosen, beside the committee of 3 and 4
chosen_none : Choices
chosen_none = choices_of (3 ∷ 4 ∷ []) 2 [] (1 ∷ 2 ∷ 3 ∷ 4 ∷ []) 2

room_for_one : chosen_none.room ≡ 1
unfolding chosen_none
room_for_one = refl

no_candidate_is_left : (choices_beside (1 ∷ 2 ∷ []) [] (3 ∷ 4 ∷ []) 1).left ≡ 0
no_candidate_is_left = refl

one_joins : (with_candidate chosen_none 2).pool ≡ 1 ∷ 3 ∷ 4 ∷ []
unfolding chosen_none
one_joins = refl

a_member_joins : (with_committee_member chosen_none 3).within ≡ 3 ∷ []
unfolding chosen_none
a_member_joins = refl

of_the_pool : IsTail 1 4 (2 ∷ 3 ∷ []) 2 (2 ∷ 3 ∷ [])
of_the_pool = record { increasing = (lit≤ tt, lit≤ tt, (lit≤ tt, lit≤ tt, tt)); count = refl; inside = λ n h. h }

all_are_open : AreOpen 4 (3 ∷ 4 ∷ []) chosen_none
unfolding chosen_none
all_are_open = open-start 4 2 (3 ∷ 4 ∷ []) [] (1 ∷ 2 ∷ 3 ∷ 4 ∷ []) 2 (lit≤ tt, lit≤ tt, (lit≤ tt, lit≤ tt, (lit≤ tt, lit≤ tt, (lit≤ tt, lit≤ tt, tt))))

one_member_is_eligible : is_eligible Pjr (3 ∷ 4 ∷ []) 2 chosen_none (1 ∷ 3 ∷ []) ≡ true
unfolding chosen_none
one_member_is_eligible = refl

two_members_are_not : is_eligible Pjr (3 ∷ 4 ∷ []) 2 chosen_none (1 ∷ 3 ∷ 4 ∷ []) ≡ false
unfolding chosen_none
two_members_are_not = refl

one_candidate_is_too_few : may_belong Ejr (3 ∷ 4 ∷ []) 2 chosen_none (1 ∷ []) ≡ false
unfolding chosen_none
one_candidate_is_too_few = refl

both_may_belong : possible_voters Pjr split (3 ∷ 4 ∷ []) 2 chosen_none ≡ 1 ∷ 1 ∷ []
unfolding chosen_none split
both_may_belong = refl

one_supports_three : supporters Pjr split (3 ∷ 4 ∷ []) 2 chosen_none 3 ≡ 1 ∷ 0 ∷ []
unfolding chosen_none split
one_supports_three = refl

lacking : obstacles (record { candidates = 1 ∷ 2 ∷ 4 ∷ []; spared = 1; approved = true }) (1 ∷ 3 ∷ []) ≡ 2 ∷ 4 ∷ []
lacking = refl

unwanted : obstacles (record { candidates = 3 ∷ 4 ∷ []; spared = 1; approved = false }) (1 ∷ 3 ∷ []) ≡ 3 ∷ []
unwanted = refl

half_of_three_votes : charge Pjr (3 ∷ 4 ∷ []) 2 chosen_none (record { candidates = 1 ∷ 2 ∷ 3 ∷ 4 ∷ []; spared = 2; approved = true }) 4 (1 ∷ 3 ∷ [], 3) ≡ 1572864
unfolding chosen_none
half_of_three_votes = refl

too_few_to_agree : CannotAgree Pjr split (3 ∷ 4 ∷ []) 2 (with_candidate chosen_none 3) (record { candidates = []; spared = 0; approved = true })
unfolding chosen_none split
too_few_to_agree = λ spared are. refl

two_of_one : IsRefuted Pjr split (3 ∷ 4 ∷ []) 2 (choices_of (3 ∷ 4 ∷ []) 2 [] (1 ∷ []) 2)
unfolding split
two_of_one = refuted_by_pool Pjr split (3 ∷ 4 ∷ []) 2 (choices_of (3 ∷ 4 ∷ []) 2 [] (1 ∷ []) 2) (lit≤ tt, lit≤ tt, tt) (lit≤ tt)

three_is_open : IsFinding Pjr split (3 ∷ 4 ∷ []) 2 chosen_none (Member 3)
unfolding chosen_none
three_is_open = refl
