-- What one choice does to a family, as the code finds it.
use Rattle.std.proofs.lemmas.Grind.{common_steps}
use Rattle.std.proofs.Common.{◌≡◌, ℕ, ◌+◌, ◌*◌, ◌-◌, ◌<◌, ◌≤◌, ◌==◌, ◌&&◌, ◌||◌, ◌∙◌, cond, length, not, Some, None, Bool, true, false, List, [], ◌∷◌, refl, sym, ap, arith, filter, map, subst, get_or}
use Rattle.std.specs.Prelude.{fold, nat_le, nat_lt, sum_by}
use Rattle.std.proofs.Math.Bool.{and-true}
use Rattle.std.specs.List.{list_all, range_with_len, AllByRecursion}
use Rattle.std.proofs.lemmas.Bool.{and_parts, and_from, not-true, both_ways, cases_eq, eq-eqb, ne_eqb, le-leb, le-ltb, leb-true}
use Rattle.ballot_base.specs.CandSet.{has_member, common_members, members_upto, other_members, without_member}
use Rattle.ballot_base.specs.Ballots.{Row, hits}
use Rattle.ballot_base.proofs.Increasing.{has_member-filter, has_member_head}
use Rattle.ballot_base.proofs.ListLemmas.{all_range, list_all-same}
use Rattle.tie_walk.proofs.LawLemmas.{IsIncreasing-range}
use Rattle.tie_walk.proofs.LevelLemmas.{in_bounds}
use Rattle.tie_walk.specs.Sequences.{weight, supporters, gain, others}
use Rattle.tie_walk.specs.Steps.Choices.{may_choose, change, worth, is_no_better, open_candidates, is_choice}
use Rattle.tie_walk.specs.declared.sequential.Step.{Step}
use Rattle.tie_walk.specs.declared.sequential.Step.TheVariants.{Grow, Shrink}
use Rattle.tie_walk.proofs.StepLemmas.{filter-twice, has_member-range}
use Rattle.tie_walk.proofs.WinnersLemmas.{greatest, bounds-greatest, same_filter}
use Rattle.ballot_base.specs.Clones.{are_clones, clones_among}
use Rattle.sequential_winners.specs.Steps.Near.{first_least}
use Rattle.sequential_winners.specs.Steps.Levels.{is_first_open, is_settled, has_settled, ties, shares_no_voter, tied_worth, is_near, share_voter, given, beginners_at, beginners, end, chosen, followed, followers}
use Rattle.sequential_winners.proofs.TiedClones.{choice-open, choice-best, choice-from}
use Rattle.sequential_winners.proofs.Lists.{all-at, all-from, same_tests, open-is, open-from}
use Rattle.ballot_base.specs.Clones.{AreClones}

no_more : (n : ℕ) → nat_le n 0 ≡ (n == 0)
no_more n = grind arith

nothing : nat_le 0 0 ≡ true
nothing = refl

-- nobody brings anything exactly where the greatest gain is 0
pub settled-is : (step : Step) (weights : List ℕ) (m : ℕ) (rows : List Row) (set : List ℕ) (best : ℕ) → best ≡ tied_worth step weights m rows set → is_settled step weights m rows set ≡ has_settled step best
settled-is Grow weights m rows set best is =
    let w : ℕ → ℕ = gain weights rows set in
    sym (ap (λ n. n == 0) is ∙ sym (no_more (greatest w 0 (others m set))) ∙ sym (bounds-greatest w 0 0 (others m set))
    ∙ ap (λ b. b && list_all (λ c. nat_le (w c) 0) (others m set)) nothing
    ∙ list_all-same (λ c. nat_le (w c) 0) (λ c. w c == 0) (others m set) (λ c. no_more (w c)))
settled-is Shrink weights m rows set best is = refl

-- ---- the first of the clones

-- clones have the same supporters
same-supporters : (c d : ℕ) (rows : List Row) → are_clones rows c d ≡ true → supporters rows c ≡ supporters rows d
same-supporters c d rows is = same_filter (λ (row : Row). has_member row.0 c) (λ (row : Row). has_member row.0 d) rows (each rows is)
  where
    same : (a b : Bool) → cond a b (not b) ≡ true → a ≡ b
    same true b is = sym is
    same false true is = is
    same false false is = refl

    each : (rows : List Row) → are_clones rows c d ≡ true → AllByRecursion (λ (row : Row). has_member row.0 c ≡ has_member row.0 d) rows
    each [] is = tt
    each (row ∷ rows) is = let parts = and_parts (cond (has_member row.0 c) (has_member row.0 d) (not (has_member row.0 d))) (are_clones rows c d) is in (same (has_member row.0 c) (has_member row.0 d) parts.0, each rows parts.1)

clone-worth : (step : Step) (weights : List ℕ) (rows : List Row) (set : List ℕ) (c d : ℕ) → are_clones rows c d ≡ true → worth step weights rows set c ≡ worth step weights rows set d
clone-worth Grow weights rows set c d is = ap (sum_by (λ (row : Row). row.1 * weight weights (hits row.0 set + 1))) (same-supporters c d rows is)
clone-worth Shrink weights rows set c d is = ap (sum_by (λ (row : Row). row.1 * weight weights (hits row.0 set))) (same-supporters c d rows is)

module _ (step : Step) (weights : List ℕ) (m : ℕ) (rows : List Row) (set : List ℕ) where
  tied-member : (d : ℕ) → 1 ≤ d → d ≤ m → has_member (filter (is_choice step weights m rows set) (range_with_len 1 m)) d ≡ is_choice step weights m rows set d
  tied-member d low high =
      has_member-filter (is_choice step weights m rows set) (range_with_len 1 m) d ∙ ap (λ b. is_choice step weights m rows set d && b) (has_member-range 1 m d low (omega (arith, high))) ∙ and-true (is_choice step weights m rows set d)

  -- a clone of a tied candidate ties if it may be chosen
  clone-tied : (c d : ℕ) → is_choice step weights m rows set c ≡ true → are_clones rows c d ≡ true → has_member (open_candidates step m set) d ≡ true → is_choice step weights m rows set d ≡ true
  clone-tied c d is clones free =
      choice-from step weights m rows set d free (λ e free'. subst (λ n. is_no_better step (worth step weights rows set e) n ≡ true) (clone-worth step weights rows set c d clones) (choice-best step weights m rows set c e is free'))

  -- a tied candidate has no clone below it that may be chosen exactly where none of those that tie is below it
  pub first-free : (c : ℕ) (b : Bool) → is_choice step weights m rows set c ≡ true
      → (b ≡ true → members_upto (common_members (clones_among m rows c) (filter (is_choice step weights m rows set) (range_with_len 1 m))) (c - 1) ≡ [])
      × (members_upto (common_members (clones_among m rows c) (filter (is_choice step weights m rows set) (range_with_len 1 m))) (c - 1) ≡ [] → b ≡ true)
      → is_first_open step (clones_among m rows c) set c ≡ b
  first-free c b choice is =
      same_tests (is_first_open step class set c) b (λ first. is.1 (none low refl first))
      (λ b-is. all-from test (range_with_len 1 (c - 1)) (λ d inside. false_not (has_member class d && may_choose step set d) (λ both. absurd (out d inside both (is.0 b-is)))))
    where
      class : List ℕ
      class = clones_among m rows c

      tied : List ℕ
      tied = filter (is_choice step weights m rows set) (range_with_len 1 m)

      low : List ℕ
      low = members_upto (common_members class tied) (c - 1)

      test : ℕ → Bool
      test d = not (has_member class d && may_choose step set d)

      false_not : (x : Bool) → (x ≡ true → not x ≡ true) → not x ≡ true
      false_not true f = f refl
      false_not false f = refl

      member : (d : ℕ) → has_member low d ≡ (nat_le d (c - 1) && (has_member tied d && has_member class d))
      member d = has_member-filter (λ n. nat_le n (c - 1)) (common_members class tied) d ∙ ap (λ x. nat_le d (c - 1) && x) (has_member-filter (has_member tied) class d)

      high : c ≤ m
      high = (open-is step m set c (choice-open step weights m rows set c choice)).0.1

      out : (d : ℕ) → has_member (range_with_len 1 (c - 1)) d ≡ true → (has_member class d && may_choose step set d) ≡ true → low ≡ [] → ⊥
      out d inside both empty =
          let bounds = in_bounds (c - 1) (range_with_len 1 (c - 1)) d (IsIncreasing-range 1 (c - 1) (c - 1) (omega arith)) inside in
          let parts = and_parts (has_member class d) (may_choose step set d) both in
          let clones = (and_parts (are_clones rows c d) (has_member (range_with_len 1 m) d) (sym (has_member-filter (are_clones rows c) (range_with_len 1 m) d) ∙ parts.0)).0 in
          let ties = clone-tied c d choice clones (open-from step m set d bounds.0 (omega (arith, bounds.1, high)) parts.1) in
          let here : has_member low d ≡ true =
          member d ∙ and_from (nat_le d (c - 1)) (has_member tied d && has_member class d) (le-leb d (c - 1) bounds.1)
          (and_from (has_member tied d) (has_member class d) (tied-member d bounds.0 (omega (arith, bounds.1, high)) ∙ ties) parts.0) in
          let f : false ≡ true = sym (ap (λ l. has_member l d) empty) ∙ here in cc

      none : (xs : List ℕ) → low ≡ xs → is_first_open step class set c ≡ true → low ≡ []
      none [] same first = same
      none (d ∷ xs) same first =
          let here : has_member low d ≡ true = ap (λ l. has_member l d) same ∙ has_member_head d xs in
          let parts = and_parts (nat_le d (c - 1)) (has_member tied d && has_member class d) (sym (member d) ∙ here) in
          let both = and_parts (has_member tied d) (has_member class d) parts.1 in
          let choice' = (and_parts (is_choice step weights m rows set d) (has_member (range_with_len 1 m) d) (sym (has_member-filter (is_choice step weights m rows set) (range_with_len 1 m) d) ∙ both.0)).0 in
          let free-is = open-is step m set d (choice-open step weights m rows set d choice') in
          let passes : test d ≡ true = all-at test (range_with_len 1 (c - 1)) d first (has_member-range 1 (c - 1) d free-is.0.0 (omega (arith, leb-true d (c - 1) parts.0))) in
          absurd (both_ways (has_member class d && may_choose step set d) (not-true (has_member class d && may_choose step set d) passes) (and_from (has_member class d) (may_choose step set d) both.1 free-is.1))

-- those whom the code finds are the first of the clones that tie
pub firsts-are : (step : Step) (weights : List ℕ) (m : ℕ) (rows : List Row) (set : List ℕ) (table : List (List ℕ)) → AreClones m rows table
    → filter (λ c. is_first_open step (get_or table c []) set c) (filter (is_choice step weights m rows set) (range_with_len 1 m)) ≡ ties step weights m rows set
firsts-are step weights m rows set table clones =
    filter-twice (is_choice step weights m rows set) (λ c. is_first_open step (get_or table c []) set c) (range_with_len 1 m)
    ∙ same_filter (λ c. is_choice step weights m rows set c && is_first_open step (get_or table c []) set c) (λ c. is_choice step weights m rows set c && is_first_open step (clones_among m rows c) set c) (range_with_len 1 m)
    (all_range (λ c. (is_choice step weights m rows set c && is_first_open step (get_or table c []) set c) ≡ (is_choice step weights m rows set c && is_first_open step (clones_among m rows c) set c)) 1 m
    (λ c low high. ap (λ s. is_choice step weights m rows set c && is_first_open step s set c) (clones c low (omega (arith, high)))))

-- ---- the end, as the code finds it

pub fold-without : (set choices : List ℕ) → other_members set choices ≡ fold without_member set choices
fold-without set [] = keep set
  where
    keep : (xs : List ℕ) → filter (λ n. not (has_member [] n)) xs ≡ xs
    keep [] = refl
    keep (x ∷ xs) = ap (λ l. x ∷ l) (keep xs)
fold-without set (c ∷ choices) =
    same_filter (λ n. not (has_member (c ∷ choices) n)) (λ n. not (n == c) && not (has_member choices n)) set (each set)
    ∙ sym (filter-twice (λ n. not (n == c)) (λ n. not (has_member choices n)) set) ∙ fold-without (without_member set c) choices
  where
    one : (n : ℕ) → not (has_member (c ∷ choices) n) ≡ (not (n == c) && not (has_member choices n))
    one n = grind (arith, common_steps, cases_eq, not, eq-eqb, ne_eqb)

    each : (xs : List ℕ) → AllByRecursion (λ n. not (has_member (c ∷ choices) n) ≡ (not (n == c) && not (has_member choices n))) xs
    each [] = tt
    each (x ∷ xs) = (one x, each xs)

pub end-found : (step : Step) (weights : List ℕ) (m : ℕ) (rows : List Row) (set : List ℕ) (best : ℕ) → best ≡ tied_worth step weights m rows set
    → end step weights m rows set ≡ cond (has_settled step best) (Some (range_with_len 1 m))
    (cond (nat_lt 0 best && (nat_le 2 (length (ties step weights m rows set)) && shares_no_voter rows (ties step weights m rows set))) (Some (fold (change step) set (ties step weights m rows set))) None)
unfolding end
end-found step weights m rows set best is = rw (settled-is step weights m rows set best is, is) refl

-- ---- who is followed, as the code finds it

module _ (step : Step) (weights : List ℕ) (m : ℕ) (rows : List Row) (left : ℕ) (set tied : List ℕ) (best : ℕ) (tied-are : tied ≡ ties step weights m rows set) (best-is : best ≡ tied_worth step weights m rows set) where
  pub beginners-are : (near : List ℕ) (middle : ℕ) (b : Bool) → near ≡ filter (is_near step weights rows set middle) tied
      → nat_lt (given step weights rows set (other_members tied near)) (left * best) ≡ b → cond b near tied ≡ beginners_at step weights m rows left set middle
  beginners-are near middle b near-is is =
      ap (λ c. cond c near tied) (sym is)
      ∙ ap (λ n. cond (nat_lt (given step weights rows set (other_members tied near)) (left * n)) near tied) best-is
      ∙ ap (λ l. cond (nat_lt (given step weights rows set (other_members tied l)) (left * tied_worth step weights m rows set)) l tied) near-is
      ∙ ap (λ t. cond (nat_lt (given step weights rows set (other_members t (filter (is_near step weights rows set middle) t))) (left * tied_worth step weights m rows set)) (filter (is_near step weights rows set middle) t) t) tied-are

  -- where nobody brings anything, all are followed
  pub beginners-flat : (middle : ℕ) → best ≡ 0 → tied ≡ beginners_at step weights m rows left set middle
  beginners-flat middle none =
      let near : List ℕ = filter (is_near step weights rows set middle) tied in
      let nothing : left * best ≡ left * 0 = ap (λ n. left * n) none in
      beginners-are near middle false refl (le-ltb (given step weights rows set (other_members tied near)) (left * best) (omega (arith, nothing)))

  -- and where only one ties
  pub beginners-one : length tied < 2 → tied ≡ beginners step weights m rows left set
  beginners-one few = tied-are ∙ by-length (ties step weights m rows set) (subst (λ (t : List ℕ). length t < 2) tied-are few)
    where
      by : List ℕ → List ℕ
      by t =
          let near = filter (is_near step weights rows set (first_least (λ c. length (filter (is_near step weights rows set c) t)) t)) t in
          cond (nat_lt (given step weights rows set (other_members t near)) (left * tied_worth step weights m rows set)) near t

      either : (b : Bool) (xs : List ℕ) → xs ≡ cond b xs xs
      either true xs = refl
      either false xs = refl

      same : (c n : ℕ) → cond (nat_lt n n) c c ≡ c
      same c n = sym (either-number (nat_lt n n) c)
        where
          either-number : (b : Bool) (x : ℕ) → x ≡ cond b x x
          either-number true x = refl
          either-number false x = refl

      by-length : (t : List ℕ) → length t < 2 → t ≡ by t
      by-length [] few = either (nat_lt (given step weights rows set []) (left * tied_worth step weights m rows set)) []
      by-length (x ∷ []) few =
          let first = same x (length (filter (is_near step weights rows set x) (x ∷ []))) in
          let near : filter (is_near step weights rows set x) (x ∷ []) ≡ x ∷ [] = ap (λ b. cond (b || share_voter step weights rows set x x) (x ∷ []) []) (eq-eqb x x refl) in
          either (nat_lt (given step weights rows set (other_members (x ∷ []) (x ∷ []))) (left * tied_worth step weights m rows set)) (x ∷ [])
          ∙ ap (λ l. cond (nat_lt (given step weights rows set (other_members (x ∷ []) l)) (left * tied_worth step weights m rows set)) l (x ∷ [])) (sym near ∙ ap (λ c. filter (is_near step weights rows set c) (x ∷ [])) (sym first))
      by-length (x ∷ y ∷ t) few = absurd (omega (arith, few))

-- ---- what follows a set, as the code finds it

pub followers-none : (step : Step) (weights : List ℕ) (m : ℕ) (rows : List Row) (total : ℕ) (set : List ℕ) → end step weights m rows set ≡ None
    → map (change step set) (beginners step weights m rows (total - chosen step m set) set) ≡ followers step weights m rows total set
unfolding followers
followers-none step weights m rows total set is = ap (followed step m total set (beginners step weights m rows (total - chosen step m set) set)) (sym is)

pub followers-last : (step : Step) (weights : List ℕ) (m : ℕ) (rows : List Row) (total : ℕ) (set last next : List ℕ) → end step weights m rows set ≡ Some last
    → next ≡ cond (nat_le (chosen step m last) total) last set → next ∷ [] ≡ followers step weights m rows total set
unfolding followers
followers-last step weights m rows total set last next is next-is = ap (λ s. s ∷ []) next-is ∙ ap (followed step m total set (beginners step weights m rows (total - chosen step m set) set)) (sym is)
