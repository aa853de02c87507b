-- Which sets lead to a committee that a question asks for.
use Rattle.std.proofs.Common.{◌≡◌, ℕ, ◌+◌, ◌-◌, ◌<◌, ◌≤◌, ◌∙◌, Bool, true, false, Option, Some, None, List, [], ◌∷◌, ◌++◌, refl, sym, ap, subst, arith, inl, inr, length, length-append, Contains, not, ◌==◌, filter}
use Rattle.std.specs.Prelude.{MatchOption, ⊤}
use Rattle.std.proofs.lemmas.Grind.{common_steps}
use Rattle.std.proofs.lemmas.List.Elements.{Contains-push_cases}
use Rattle.std.specs.List.{list_any, AllByRecursion}
use Rattle.std.proofs.lemmas.Bool.{cases_Bool, cases_eq, cases_lt, both_ways, and_from, eq-eqb, ne_eqb, not_from_false, false_from_ne_true}
use Rattle.ballot_base.specs.Lists.{IsIncreasing, increasing_lists}
use Rattle.ballot_base.specs.CandSet.{has_member, without_member}
use Rattle.ballot_base.proofs.Passed.{filter-member}
use Rattle.ballot_base.specs.Ballots.{Row, Election}
use Rattle.ballot_base.specs.Clones.{are_clones}
use Rattle.ballot_base.proofs.Committees.{increasing_lists-contains, chosen-from_contains}
use Rattle.tie_walk.specs.Sequences.{hit_weights, is_sequential_winner}
use Rattle.tie_walk.specs.Steps.Choices.{step_of, choices_of, change, is_choice, start}
use Rattle.tie_walk.proofs.Choices.{reached_none}
use Rattle.tie_walk.specs.declared.sequential.SeqRule.{SeqRule}
use Rattle.tie_walk.specs.declared.sequential.SeqRule.TheVariants.{SeqPav, SeqCc, RevSeqPav}
use Rattle.tie_walk.specs.declared.sequential.Step.{Step}
use Rattle.tie_walk.specs.declared.sequential.Step.TheVariants.{Grow, Shrink}
use Rattle.tie_walk.proofs.LawLemmas.{IsIncreasing-range}
use Rattle.tie_walk.proofs.RowSums.{AreBallots}
use Rattle.sequential_winners.specs.Clones.{is_between}
use Rattle.sequential_winners.specs.Families.{Sequential, sequential_of, is_winner, some_winner}
use Rattle.sequential_winners.specs.Steps.Families.{may_be_in}
use Rattle.sequential_winners.specs.Steps.Levels.{chosen, end_by, followers_by, IsAhead, LeadsTo}
use Rattle.sequential_winners.specs.Steps.Questions.{family_of, finish, IsAsked, LeadsOn, IsLive, IsDead}
use Rattle.sequential_winners.proofs.CompletionLemmas.{joined-increasing, may-is}
use Rattle.sequential_winners.proofs.FamilyLemmas.{is_spanned, spanned-from, spanned-at}
use Rattle.sequential_winners.proofs.Leads.{reached-chosen, ahead-turned, leads-ahead, leads-within, span-leads}
use Rattle.sequential_winners.proofs.LevelLemmas.{made-complete, made-from, made-sound, level-first, first-is, ends-contains, last-only}
use Rattle.sequential_winners.proofs.Lists.{Contains-only, count-others, member-without}
use Rattle.sequential_winners.proofs.SpanLemmas.{end-span}
use Rattle.sequential_winners.proofs.WinnerLemmas.{any-from, any-at, hit_weights-fall, hit_weights-count, rule-size, reached-wins, winner-reached}

-- the set after all choices is further on than any other
module _ (m : ℕ) (rows : List Row) (set : List ℕ) (up : IsIncreasing 1 m set) where
  pub finish-last : (step : Step) → IsAhead step m rows set (finish step m)
  finish-last Grow y = omega (arith, count-others (are_clones rows y) m set up)
  finish-last Shrink y = omega (arith, count-others (are_clones rows y) m set up, count-others (are_clones rows y) m [] tt)

pub finish-increasing : (step : Step) (m : ℕ) → IsIncreasing 1 m (finish step m)
finish-increasing Grow m = IsIncreasing-range 1 m m (omega arith)
finish-increasing Shrink m = tt

pub least-increasing : (step : Step) (m : ℕ) (from end : List ℕ) → IsIncreasing 1 m from → IsIncreasing 1 m end → IsIncreasing 1 m (family_of step from end).0
least-increasing Grow m from end up up' = up
least-increasing Shrink m from end up up' = up'

pub most-increasing : (step : Step) (m : ℕ) (from end : List ℕ) → IsIncreasing 1 m from → IsIncreasing 1 m end → IsIncreasing 1 m (family_of step from end).1
most-increasing Grow m from end up up' = up'
most-increasing Shrink m from end up up' = up

spanned-is : (step : Step) (m : ℕ) (rows : List Row) (committee from end : List ℕ) → is_spanned step m rows committee from end ≡ is_between m rows (family_of step from end).0 (family_of step from end).1 committee
spanned-is Grow m rows committee from end = refl
spanned-is Shrink m rows committee from end = refl

module _ (rule : SeqRule) (e : Election) (k : ℕ) (fits : k ≤ e.m) (c : ℕ) (set : List ℕ) (within : c ≤ e.m) (up : IsIncreasing 1 c set) (small : length set ≤ k) where
  abbrev asks : List ℕ × List ℕ → Bool
  asks family = may_be_in e.m e.rows c set (k - length set) family

  -- what is asked for is a set of candidates, which as many choices make
  pub asked-increasing : (made : List ℕ) → IsAsked e.m k c set made → IsIncreasing 1 e.m made
  asked-increasing made asked = subst (IsIncreasing 1 e.m) (sym asked.3) (joined-increasing c e.m 1 set asked.0 (omega arith) within up asked.1)

  pub asked-size : (made : List ℕ) → IsAsked e.m k c set made → chosen (step_of rule) e.m made ≡ choices_of rule e.m k
  asked-size made asked =
      (rule-size rule e.m k made fits (asked-increasing made asked)).0 (ap length asked.3 ∙ length-append set asked.0 ∙ asked.2)

  module _ (from end : List ℕ) (from-up : IsIncreasing 1 e.m from) (end-up : IsIncreasing 1 e.m end) where
    family : List ℕ × List ℕ
    family = family_of (step_of rule) from end

    asked-is : asks family ≡ list_any (λ added. is_between e.m e.rows family.0 family.1 (set ++ added)) (increasing_lists (c + 1) e.m (k - length set))
    unfolding family
    asked-is = may-is e.m e.rows c set (k - length set) (family_of (step_of rule) from end) within up (least-increasing (step_of rule) e.m from end from-up end-up)

    -- what lies between a set and another is in their family
    pub asked-spans : (made : List ℕ) → IsAsked e.m k c set made → IsAhead (step_of rule) e.m e.rows from made → IsAhead (step_of rule) e.m e.rows made end → asks (family_of (step_of rule) from end) ≡ true
    unfolding family
    asked-spans made asked ahead until =
        asked-is
        ∙ any-from (λ added. is_between e.m e.rows family.0 family.1 (set ++ added)) (increasing_lists (c + 1) e.m (k - length set)) asked.0
        (increasing_lists-contains (c + 1) e.m (k - length set) asked.0 (asked.1, omega (arith, asked.2)))
        (subst (λ (s : List ℕ). is_between e.m e.rows family.0 family.1 s ≡ true) asked.3
        (sym (spanned-is (step_of rule) e.m e.rows made from end) ∙ spanned-from e.m e.rows made from end (asked-increasing made asked) from-up end-up (step_of rule) ahead until))

    pub spans-asked : asks (family_of (step_of rule) from end) ≡ true
        → (made : List ℕ) × IsAsked e.m k c set made × IsAhead (step_of rule) e.m e.rows from made × IsAhead (step_of rule) e.m e.rows made end
    unfolding family
    spans-asked asks-is =
        let a = any-at (λ added. is_between e.m e.rows family.0 family.1 (set ++ added)) (increasing_lists (c + 1) e.m (k - length set)) (sym asked-is ∙ asks-is) in
        let chosen' = chosen-from_contains (c + 1) e.m (k - length set) a.0 a.1 in
        let made : List ℕ = set ++ a.0 in
        let asked : IsAsked e.m k c set made = (a.0, chosen'.0, omega (arith, chosen'.1, small), refl) in
        let parts = spanned-at e.m e.rows made from end (asked-increasing made asked) from-up end-up (step_of rule) (spanned-is (step_of rule) e.m e.rows made from end ∙ a.2) in
        (made, asked, parts.0, parts.1)

  module _ (from : List ℕ) (from-up : IsIncreasing 1 e.m from) where
    -- a set that leads to what is asked for has it between itself and the last set
    pub none-dead : asks (family_of (step_of rule) from (finish (step_of rule) e.m)) ≡ false → IsDead rule e k c set from
    none-dead none made asked leads =
        both_ways (asks (family_of (step_of rule) from (finish (step_of rule) e.m))) none
        (asked-spans from (finish (step_of rule) e.m) from-up (finish-increasing (step_of rule) e.m) made asked
        (leads-ahead (step_of rule) (hit_weights rule e.m) e.m e.rows (choices_of rule e.m k - chosen (step_of rule) e.m from) made from from-up leads)
        (finish-last e.m e.rows made (asked-increasing made asked) (step_of rule)))

    -- where all choices are made, it is alike
    pub whole-live : length from ≡ k → asks (family_of (step_of rule) from (finish (step_of rule) e.m)) ≡ true → IsLive rule e k c set from
    whole-live whole some =
        let m = spans-asked from (finish (step_of rule) e.m) from-up (finish-increasing (step_of rule) e.m) some in
        let sized : chosen (step_of rule) e.m from ≡ choices_of rule e.m k = (rule-size rule e.m k from fits from-up).0 whole in
        let none : 0 ≡ choices_of rule e.m k - chosen (step_of rule) e.m from = omega (arith, sized) in (
          m.0,
          m.1,
          subst (λ n. LeadsTo (step_of rule) (hit_weights rule e.m) e.m e.rows m.0 n from) none
              (m.2, ahead-turned (step_of rule) e.m e.rows from m.0 (omega (arith, asked-size m.0 m.1, sized)) m.2),
        )

    module _ (ballots : AreBallots e.m e.rows) (few : chosen (step_of rule) e.m from ≤ choices_of rule e.m k) where
      -- where the end lies beyond all choices, what is asked for lies between or nowhere
      module _ (last : List ℕ) (is : end_by rule e from ≡ Some last) (beyond : choices_of rule e.m k < chosen (step_of rule) e.m last) where
        pub between-live : asks (family_of (step_of rule) from last) ≡ true → IsLive rule e k c set from
        between-live some =
            let span = (end-span (step_of rule) (hit_weights rule e.m) e.m e.rows ballots (hit_weights-fall rule e.m) from last from-up is).0 in
            let m = spans-asked from last from-up span.increasing some in (
              m.0,
              m.1,
              span-leads (step_of rule) (hit_weights rule e.m) e.m e.rows ballots (hit_weights-fall rule e.m) from last span (choices_of rule e.m k - chosen (step_of rule) e.m from) m.0 from
                  from-up (asked-increasing m.0 m.1) (λ y. omega arith) m.2 m.3 (omega (arith, few, asked-size m.0 m.1)),
            )

        pub between-dead : asks (family_of (step_of rule) from last) ≡ false → IsDead rule e k c set from
        between-dead none made asked leads =
            let span = (end-span (step_of rule) (hit_weights rule e.m) e.m e.rows ballots (hit_weights-fall rule e.m) from last from-up is).0 in
            let between = leads-within (step_of rule) (hit_weights rule e.m) e.m e.rows ballots (hit_weights-fall rule e.m) from last span (choices_of rule e.m k - chosen (step_of rule) e.m from) made from
            from-up (λ y. omega arith) span.ahead (omega (arith, few, beyond)) leads in
            both_ways (asks (family_of (step_of rule) from last)) none (asked-spans from last from-up span.increasing made asked between.0 between.1)

-- more choices are left where the set is not of size k
pub choices-left : (rule : SeqRule) (m k : ℕ) (from : List ℕ) → k ≤ m → IsIncreasing 1 m from → chosen (step_of rule) m from ≤ choices_of rule m k → (length from ≡ k → ⊥) → chosen (step_of rule) m from < choices_of rule m k
choices-left rule m k from fits up few other = elim (cases_lt (chosen (step_of rule) m from) (choices_of rule m k)) [
  | inl less ↦ less
  | inr most ↦ absurd (other ((rule-size rule m k from fits up).1 (omega (arith, most, few))))
]

-- ---- sets that are remembered, and choices that are left

pub buried : {T : Type 0} (keys : T → List (List ℕ)) (P : List ℕ → Type 0) (set : List ℕ) (old new : Option T)
    → MatchOption new ⊤ (λ n. (other : List ℕ) → Contains (keys n) other → MatchOption old ⊥ (λ o. Contains (keys o ++ set ∷ []) other))
    → MatchOption old ⊤ (λ o. (other : List ℕ) → Contains (keys o) other → P other) → P set → MatchOption new ⊤ (λ n. (other : List ℕ) → Contains (keys n) other → P other)
buried keys P set old None put before here = tt
buried keys P set None (Some n) put before here = λ other inside. absurd (put other inside)
buried keys P set (Some o) (Some n) put before here = λ other inside. elim (Contains-push_cases (keys o) set other (put other inside)) [
  | inl early ↦ before other early
  | inr same ↦ subst P same here
]

pub without-is : (set : List ℕ) (n x : ℕ) → has_member (without_member set n) x ≡ true → has_member set x ≡ true
without-is set n = filter-member (λ y. not (y == n)) set

shorter : (p : ℕ → Bool) (xs : List ℕ) → length (filter p xs) ≤ length xs
shorter p [] = omega arith
shorter p (x ∷ xs) = grind (arith, common_steps, cases_Bool, shorter p xs)

pub without-shorter : (set : List ℕ) (n : ℕ) → has_member set n ≡ true → length (without_member set n) < length set
without-shorter [] n h = absurd cc
without-shorter (x ∷ set) n h = grind (arith, common_steps, without-shorter set n, shorter (λ y. not (y == n)) set, h, cases_eq x n, eq-eqb x n, ne_eqb x n)

-- who has left was the one who did
pub without-one : (set : List ℕ) (n x : ℕ) → has_member set x ≡ true → has_member (without_member set n) x ≡ false → x ≡ n
without-one set n x inside out = elim (cases_eq x n) [
  | inl same ↦ same
  | inr other ↦ absurd (both_ways (has_member (without_member set n) x) out (member-without set n x ∙ and_from (not (x == n)) (has_member set x) (not_from_false (x == n) (ne_eqb x n other)) inside))
]

-- ---- what follows a set

pub total-fits : (rule : SeqRule) (m k : ℕ) → k ≤ m → choices_of rule m k ≤ m
total-fits rule m k fits = set-fits rule
  where
    set-fits : (r : SeqRule) → choices_of r m k ≤ m
    set-fits SeqPav = fits
    set-fits SeqCc = fits
    set-fits RevSeqPav = omega arith

module _ (rule : SeqRule) (e : Election) (k : ℕ) (fits : k ≤ e.m) (c : ℕ) (set : List ℕ) (ballots : AreBallots e.m e.rows) (counts : AllByRecursion (λ (row : Row). 0 < row.1) e.rows) (from : List ℕ) (from-up : IsIncreasing 1 e.m from)
    (more : chosen (step_of rule) e.m from < choices_of rule e.m k)
  where
    abbrev total : ℕ
    total = choices_of rule e.m k

    pub follower-live : (next : List ℕ) → Contains (followers_by rule e (choices_of rule e.m k) from) next → IsLive rule e k c set next → IsLive rule e k c set from
    follower-live next inside live = (
      live.0,
      live.1,
      made-sound (step_of rule) (hit_weights rule e.m) e.m e.rows total ballots (hit_weights-fall rule e.m) counts (hit_weights-count rule e.m) (total-fits rule e.m k fits) from from-up more live.0 next
          (made-from (step_of rule) (hit_weights rule e.m) e.m e.rows total from next inside) live.2,
    )

    pub followers-dead : ((next : List ℕ) → Contains (followers_by rule e (choices_of rule e.m k) from) next → IsDead rule e k c set next) → IsDead rule e k c set from
    followers-dead dead made asked leads =
        let s = made-complete (step_of rule) (hit_weights rule e.m) e.m e.rows total ballots (hit_weights-fall rule e.m) counts (hit_weights-count rule e.m) (total-fits rule e.m k fits) from from-up more made leads in
        dead s.0 s.1 made asked s.2

    -- the end follows
    pub last-live : (last : List ℕ) → end_by rule e from ≡ Some last → chosen (step_of rule) e.m last ≤ total → IsLive rule e k c set last → IsLive rule e k c set from
    last-live last is over = follower-live last (ends-contains (step_of rule) (hit_weights rule e.m) e.m e.rows total from last is over)

    pub last-dead : (last : List ℕ) → end_by rule e from ≡ Some last → chosen (step_of rule) e.m last ≤ total → IsDead rule e k c set last → IsDead rule e k c set from
    last-dead last is over dead = followers-dead (λ next inside. subst (IsDead rule e k c set) (last-only (step_of rule) (hit_weights rule e.m) e.m e.rows total from last next is over inside) dead)

-- ---- the set before all choices

module _ (rule : SeqRule) (e : Election) (k : ℕ) (fits : k ≤ e.m) (c : ℕ) (set : List ℕ) (within : c ≤ e.m) (up : IsIncreasing 1 c set) (small : length set ≤ k) (ballots : AreBallots e.m e.rows) (counts : AllByRecursion (λ (row : Row). 0 < row.1) e.rows) where
  abbrev first : List (List ℕ)
  first = start (step_of rule) e.m ∷ []

  abbrev wins : List ℕ → Bool
  wins added = is_winner (sequential_of e rule k) (set ++ added)

  abbrev lists : List (List ℕ)
  lists = increasing_lists (c + 1) e.m (k - length set)

  pub start-live : IsLive rule e k c set (start (step_of rule) e.m) → some_winner (sequential_of e rule k) c set (k - length set) ≡ true
  start-live live =
      let level = level-first (step_of rule) (hit_weights rule e.m) e.m e.rows ballots (hit_weights-fall rule e.m) counts (hit_weights-count rule e.m) (choices_of rule e.m k) first refl in
      let asked = live.1 in
      let reached = level.made live.0 (start (step_of rule) e.m) (asked-increasing rule e k fits c set within up small live.0 asked) (0, omega arith, refl) live.2 in
      any-from wins lists asked.0 (increasing_lists-contains (c + 1) e.m (k - length set) asked.0 (asked.1, omega (arith, asked.2)))
      (subst (λ (s : List ℕ). is_sequential_winner rule e k s ≡ true) asked.3 (reached-wins rule e k live.0 reached))

  pub start-dead : IsDead rule e k c set (start (step_of rule) e.m) → some_winner (sequential_of e rule k) c set (k - length set) ≡ false
  start-dead dead = false_from_ne_true (list_any wins lists) (λ some.
      let level = level-first (step_of rule) (hit_weights rule e.m) e.m e.rows ballots (hit_weights-fall rule e.m) counts (hit_weights-count rule e.m) (choices_of rule e.m k) first refl in
      let a = any-at wins lists some in
      let chosen' = chosen-from_contains (c + 1) e.m (k - length set) a.0 a.1 in
      let s = level.reached (set ++ a.0) (winner-reached rule e k (set ++ a.0) a.2) in
      let same = Contains-only (start (step_of rule) e.m) s.0 s.1 in
      dead (set ++ a.0) (a.0, chosen'.0, omega (arith, chosen'.1, small), refl) (subst (λ f. LeadsOn rule e k f (set ++ a.0)) (sym same) s.2))

-- the same, where the choices are those of an equal rule and election
module _ (rule rule' : SeqRule) (e e' : Election) (from : List ℕ) (same-rule : rule' ≡ rule) (same : e' ≡ e) (first-one : from ≡ start (step_of rule) e.m) where
  pub start-up : IsIncreasing 1 e'.m from
  start-up = subst (λ (x : Election). IsIncreasing 1 x.m from) (sym same) (subst (IsIncreasing 1 e.m) (sym first-one) (first-is (step_of rule) e.m))

  pub start-few : (k : ℕ) → chosen (step_of rule') e'.m from ≤ choices_of rule' e'.m k
  start-few k =
      let none : chosen (step_of rule) e.m (start (step_of rule) e.m) ≡ 0 =
      reached-chosen (step_of rule) (hit_weights rule e.m) e.m e.rows 0 (start (step_of rule) e.m) (reached_none (is_choice (step_of rule) (hit_weights rule e.m) e.m e.rows) (change (step_of rule)) (start (step_of rule) e.m)) in
      subst (λ r. chosen (step_of r) e'.m from ≤ choices_of r e'.m k) (sym same-rule)
      (subst (λ (x : Election). chosen (step_of rule) x.m from ≤ choices_of rule x.m k) (sym same)
      (subst (λ f. chosen (step_of rule) e.m f ≤ choices_of rule e.m k) (sym first-one) (omega (arith, none))))

  pub reached-is : (k : ℕ) → k ≤ e.m → AreBallots e.m e.rows → AllByRecursion (λ (row : Row). 0 < row.1) e.rows → (s : Sequential) → sequential_of e rule k ≡ s → (c : ℕ) (set : List ℕ) → c ≤ s.election.m → IsIncreasing 1 c set
      → length set ≤ s.k → (result : Bool) → (result ≡ true → IsLive rule' e' k c set from) → (result ≡ false → IsDead rule' e' k c set from) → result ≡ some_winner s c set (s.k - length set)
  reached-is k fits ballots counts s is c set within up small result live dead =
      subst (λ (t : Sequential). c ≤ t.election.m → length set ≤ t.k → result ≡ some_winner t c set (t.k - length set)) is
      (λ within' small'. elim (cases_Bool result) [
        | inl has ↦
            let here : IsLive rule e k c set (start (step_of rule) e.m) =
            subst (λ r. IsLive r e k c set (start (step_of rule) e.m)) same-rule
            (subst (λ (x : Election). IsLive rule' x k c set (start (step_of rule) e.m)) same (subst (IsLive rule' e' k c set) first-one (live has))) in
            has ∙ sym (start-live rule e k fits c set within' up small' ballots counts here)
        | inr lacks ↦
            let here : IsDead rule e k c set (start (step_of rule) e.m) =
            subst (λ r. IsDead r e k c set (start (step_of rule) e.m)) same-rule
            (subst (λ (x : Election). IsDead rule' x k c set (start (step_of rule) e.m)) same (subst (IsDead rule' e' k c set) first-one (dead lacks))) in
            lacks ∙ sym (start-dead rule e k fits c set within' up small' ballots counts here)
      ]) within small
