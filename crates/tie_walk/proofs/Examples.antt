-- Each definition, computed on a small example: the value of a committee is the sum of its members modulo 4.
use Rattle.std.proofs.Common.{◌≡◌, ℕ, ◌%◌, List, [], ◌∷◌, true, false, refl, lit≤, Some, None}
use Rattle.std.specs.Prelude.{sum}
use Rattle.ballot_base.specs.Lists.{increasing_lists, later_than, lists_of}
use Rattle.tie_walk.specs.Winners.{Winning, IsNextWinner, IsStart, best_value, is_unbeaten, winners}

abbrev sum_of_four : List ℕ → ℕ
sum_of_four set = sum set % 4

-- the values of the six pairs of four candidates are 3, 0, 1, 1, 2 and 3
greatest_of_pairs : best_value sum_of_four 4 2 ≡ 3
unfolding lists_of
greatest_of_pairs = refl

two_winners : winners sum_of_four 4 2 ≡ (1 ∷ 2 ∷ []) ∷ (3 ∷ 4 ∷ []) ∷ []
unfolding lists_of
two_winners = refl

-- 3 and 1 exceed the value 0 of 1 and 3
beaten : is_unbeaten sum_of_four (increasing_lists 1 4 2) (1 ∷ 3 ∷ []) ≡ false
unfolding lists_of
beaten = refl

unbeaten : is_unbeaten sum_of_four (increasing_lists 1 4 2) (1 ∷ 2 ∷ []) ≡ true
unfolding lists_of
unbeaten = refl

-- all committees tie where each has the same value
all_tie : winners (λ _. 0) 3 2 ≡ (1 ∷ 2 ∷ []) ∷ (1 ∷ 3 ∷ []) ∷ (2 ∷ 3 ∷ []) ∷ []
unfolding lists_of
all_tie = refl

-- the walk of that election after its first winner
after_the_first : Winning ℕ
after_the_first = record { tally = 4; m = 4; k = 2; after = None; best = 3; left = (3 ∷ 4 ∷ []) ∷ []; entered = 6; ceilings = 6 }

one_is_left : after_the_first.left ≡ (3 ∷ 4 ∷ []) ∷ []
unfolding after_the_first
one_is_left = refl

the_second : Winning ℕ
the_second = record { tally = 4; m = 4; k = 2; after = None; best = 3; left = []; entered = 19; ceilings = 20 }

-- the second winner, and after it the end: of the prefixes 19 are live if each bound is 3
second_is_next : IsNextWinner ℕ (λ n set. sum set % n) (λ n c set left. 3) after_the_first (Some (3 ∷ 4 ∷ [])) the_second
unfolding after_the_first the_second
second_is_next = record {
  first = refl;
  same_tally = refl;
  same_m = refl;
  same_k = refl;
  same_best = refl;
  same_start = refl;
  all_entered = λ e. absurd (cc);
  none_else = λ e s. absurd (cc);
  entered_rises = lit≤ tt;
  ceilings_rise = lit≤ tt;
  short_wait = λ e. lit≤ tt;
}

end_is_next : IsNextWinner ℕ (λ n set. sum set % n) (λ n c set left. 3) the_second None the_second
unfolding lists_of the_second
end_is_next = record {
  first = (refl, refl);
  same_tally = refl;
  same_m = refl;
  same_k = refl;
  same_best = refl;
  same_start = refl;
  all_entered = λ e. lit≤ tt;
  none_else = λ e s. refl;
  entered_rises = lit≤ tt;
  ceilings_rise = lit≤ tt;
  short_wait = λ e. lit≤ tt;
}

start_of_two : IsStart 4 2 (Some (1 ∷ 3 ∷ []))
start_of_two = ((lit≤ tt, lit≤ tt, (lit≤ tt, lit≤ tt, tt)), refl)

no_start : IsStart 4 2 None
no_start = tt

-- the winners after 1 and 3, which does not win
one_after_a_start : later_than (Some (1 ∷ 3 ∷ [])) (winners sum_of_four 4 2) ≡ (3 ∷ 4 ∷ []) ∷ []
unfolding lists_of
one_after_a_start = refl
