-- The families of a level have exactly the sets that all choices make.
use Rattle.std.proofs.lemmas.Grind.{common_steps}
use Rattle.std.proofs.Common.{◌≡◌, ℕ, zero, suc, ◌+◌, ◌-◌, ◌*◌, ◌<◌, ◌≤◌, ◌==◌, Option, Some, None, ◌∙◌, Bool, true, false, cond, List, [], ◌∷◌, refl, sym, ap, subst, arith, inl, inr, filter, length, Contains}
use Rattle.std.specs.Prelude.{nat_le, nat_lt}
use Rattle.std.specs.List.{AllByRecursion}
use Rattle.std.proofs.lemmas.List.Elements.{recursion_from_All, All-weaker, All-contains_itself}
use Rattle.std.specs.List.Sorted.{IsStrictlySortedBy}
use Rattle.std.specs.Cmp.Lexicographic.{slice_cmp}
use Rattle.std.specs.Ordering.{nat_cmp}
use Rattle.std.proofs.lemmas.Bool.{cases_Bool, cases_eq, cases_lt, le-leb, lt-leb, ltb-true, leb-true, leb-false, eqb-true, eq-eqb, or_right}
use Rattle.ballot_base.specs.Lists.{IsIncreasing}
use Rattle.ballot_base.specs.CandSet.{has_member, other_members}
use Rattle.ballot_base.specs.Ballots.{Row}
use Rattle.ballot_base.proofs.ListLemmas.{Contains-later, Contains-map, Contains-from_map, Contains-from_flat_map}
use Rattle.ballot_base.proofs.Increasing.{has_member_head, has_member_tail}
use Rattle.ballot_base.proofs.Passed.{filter-member, filter-stays}
use Rattle.tie_walk.specs.Steps.Choices.{change, is_choice, start}
use Rattle.tie_walk.specs.declared.sequential.Step.{Step}
use Rattle.tie_walk.specs.declared.sequential.Step.TheVariants.{Grow, Shrink}
use Rattle.tie_walk.proofs.Choices.{Contains-flat_map, reached_none}
use Rattle.tie_walk.proofs.LawLemmas.{IsIncreasing-range}
use Rattle.tie_walk.proofs.RowSums.{AreBallots}
use Rattle.sequential_winners.specs.Steps.Levels.{ties, tied_worth, given, is_near, beginners_at, centre, beginners, end, chosen, followed, followers, family_changes, IsNextFamilies, IsFalling, AllCount, IsReachedBy, LeadsTo, IsPlaced, IsFamilyLevel}
use Rattle.sequential_winners.proofs.CloneLemmas.{clones-turned}
use Rattle.sequential_winners.proofs.Lists.{Contains-only}
use Rattle.sequential_winners.proofs.Picked.{change-increasing, chosen-change}
use Rattle.sequential_winners.proofs.Leads.{reached-chosen, chosen-ahead, leads-moved, leads-joined, leads-reached, reached-leads, span-leads, leads-past}
use Rattle.sequential_winners.proofs.SpanLemmas.{tied-is, tied-open, tied-class, end-span}
use Rattle.sequential_winners.proofs.PhaseLemmas.{begins-near}
use Rattle.sequential_winners.proofs.GivenLemmas.{some-factor}
use Rattle.sequential_winners.proofs.TableNear.{least-member}
use Rattle.sequential_winners.proofs.TiedClones.{change-ahead, choice-open}

-- ---- what follows a set

one-contains : {X : Type 0} (x y : X) → x ≡ y → Contains (x ∷ []) y
one-contains x y same = (0, omega arith, same)

pub first-is : (step : Step) (m : ℕ) → IsIncreasing 1 m (start step m)
first-is Grow m = tt
first-is Shrink m = IsIncreasing-range 1 m m (omega arith)

member-of : (xs : List ℕ) (x : ℕ) → Contains xs x → has_member xs x ≡ true
member-of [] x inside = absurd (omega (arith, inside.1))
member-of (y ∷ xs) x (zero, inside, is) = subst (λ z. has_member (z ∷ xs) x ≡ true) (sym is) (has_member_head x xs)
member-of (y ∷ xs) x (suc i, inside, is) = or_right (y == x) (has_member xs x) (member-of xs x (i, omega (arith, inside), is))

of-member : (xs : List ℕ) (x : ℕ) → has_member xs x ≡ true → Contains xs x
of-member [] x inside = absurd (let f : false ≡ true = inside in cc)
of-member (y ∷ xs) x inside = elim (cases_eq y x) [
  | inl same ↦ (0, omega arith, same)
  | inr other ↦ Contains-later y x xs (of-member xs x (sym (has_member_tail y x xs other) ∙ inside))
]

-- who is followed ties
pub begins-tied : (step : Step) (weights : List ℕ) (m : ℕ) (rows : List Row) (left : ℕ) (set : List ℕ) (middle c : ℕ) → has_member (beginners_at step weights m rows left set middle) c ≡ true → has_member (ties step weights m rows set) c ≡ true
begins-tied step weights m rows left set middle c = by (nat_lt (given step weights rows set (other_members (ties step weights m rows set) (filter (is_near step weights rows set middle) (ties step weights m rows set)))) (left * tied_worth step weights m rows set))
  where
    by : (b : Bool) → has_member (cond b (filter (is_near step weights rows set middle) (ties step weights m rows set)) (ties step weights m rows set)) c ≡ true → has_member (ties step weights m rows set) c ≡ true
    by true inside = filter-member (is_near step weights rows set middle) (ties step weights m rows set) c inside
    by false inside = inside

-- the centre is one of those who tie
pub centre-tied : (step : Step) (weights : List ℕ) (m : ℕ) (rows : List Row) (set : List ℕ) (d : ℕ) → has_member (ties step weights m rows set) d ≡ true → has_member (ties step weights m rows set) (centre step weights m rows set) ≡ true
centre-tied step weights m rows set = least-member (λ c. length (filter (is_near step weights rows set c) (ties step weights m rows set))) (ties step weights m rows set)

module _ (step : Step) (weights : List ℕ) (m : ℕ) (rows : List Row) (ballots : AreBallots m rows) (falls : IsFalling weights) (set : List ℕ) (up : IsIncreasing 1 m set) (made : List ℕ) (left : ℕ) (leads : LeadsTo step weights m rows made (suc left) set) where
  -- what the choices from a set lead to, they lead to from the set with one who ties
  pub tied-first : (d : ℕ) × (has_member (ties step weights m rows set) d ≡ true) × LeadsTo step weights m rows made left (change step set d)
  tied-first =
      let c : ℕ = leads.0 in
      let free = choice-open step weights m rows set c leads.1 in
      let d = tied-class step weights m rows ballots falls set up c leads.1 in
      let free' = tied-open step weights m rows set d.0 d.1 in (
        d.0,
        d.1,
        leads-moved step weights m rows ballots falls left made (change step set c) (change step set d.0) (change-increasing step m set c up free) (change-increasing step m set d.0 up free') (
          change-ahead step weights m rows set set c d.0 up up free free' d.2 (λ x. omega arith),
          change-ahead step weights m rows set set d.0 c up up free' free (clones-turned rows c d.0 d.2) (λ x. omega arith),
        )
            leads.2,
      )

  -- and with one of those who are followed, whoever of the tied candidates is the centre
  pub begun-first : (counts : AllByRecursion (λ (row : Row). 0 < row.1) rows) (all-count : AllCount step m weights) (middle : ℕ) → has_member (ties step weights m rows set) middle ≡ true
      → (v : ℕ) × (has_member (beginners_at step weights m rows (suc left) set middle) v ≡ true) × LeadsTo step weights m rows made left (change step set v)
  begun-first counts all-count middle tie = by (nat_lt far-given (suc left * tied_worth step weights m rows set)) refl
    where
      far-given : ℕ
      far-given = given step weights rows set (other_members (ties step weights m rows set) (filter (is_near step weights rows set middle) (ties step weights m rows set)))

      by : (b : Bool) → nat_lt far-given (suc left * tied_worth step weights m rows set) ≡ b
          → (v : ℕ) × (has_member (cond b (filter (is_near step weights rows set middle) (ties step weights m rows set)) (ties step weights m rows set)) v ≡ true) × LeadsTo step weights m rows made left (change step set v)
      by false room = tied-first
      by true room =
          let less = ltb-true far-given (suc left * tied_worth step weights m rows set) room in
          let v = begins-near step weights m rows ballots falls counts all-count set up (some-factor far-given (suc left) (tied_worth step weights m rows set) less) middle tie (suc left) less made leads in
          let n : suc left - 1 ≡ left = omega arith in
          (v.0, filter-stays (is_near step weights rows set middle) (ties step weights m rows set) v.0 v.1 v.2, subst (λ i. LeadsTo step weights m rows made i (change step set v.0)) n v.3)

module _ (step : Step) (weights : List ℕ) (m : ℕ) (rows : List Row) (total : ℕ) where
  -- the sets that follow one
  pub data IsMade (set made : List ℕ) : Type 0 where
    stays : (last : List ℕ) → end step weights m rows set ≡ Some last → total < chosen step m last → set ≡ made → IsMade set made
    ends : (last : List ℕ) → end step weights m rows set ≡ Some last → chosen step m last ≤ total → last ≡ made → IsMade set made
    changed : (c : ℕ) → end step weights m rows set ≡ None → is_choice step weights m rows set c ≡ true → change step set c ≡ made → IsMade set made

  pub made-from : (set made : List ℕ) → Contains (followers step weights m rows total set) made → IsMade set made
  unfolding followers
  made-from set made inside = by (end step weights m rows set) refl inside
    where
      by : (o : Option (List ℕ)) → end step weights m rows set ≡ o → Contains (followed step m total set (beginners step weights m rows (total - chosen step m set) set) o) made → IsMade set made
      by (Some last) is here =
          let same = Contains-only (cond (nat_le (chosen step m last) total) last set) made here in
          elim (cases_Bool (nat_le (chosen step m last) total)) [
            | inl over ↦ ends last is (leb-true (chosen step m last) total over) (sym (ap (λ b. cond b last set) over) ∙ same)
            | inr less ↦ stays last is (leb-false (chosen step m last) total less) (sym (ap (λ b. cond b last set) less) ∙ same)
          ]
      by None is here =
          let some = Contains-from_map (change step set) (beginners step weights m rows (total - chosen step m set) set) made here in
          changed some.0 is (tied-is step weights m rows set some.0 (begins-tied step weights m rows (total - chosen step m set) set (centre step weights m rows set) some.0 (member-of (beginners step weights m rows (total - chosen step m set) set) some.0 some.1))) some.2

  stays-contains : (set last : List ℕ) → end step weights m rows set ≡ Some last → total < chosen step m last → Contains (followers step weights m rows total set) set
  unfolding followers
  stays-contains set last is more = grind (arith, common_steps, Contains, is, one-contains, lt-leb)

  pub ends-contains : (set last : List ℕ) → end step weights m rows set ≡ Some last → chosen step m last ≤ total → Contains (followers step weights m rows total set) last
  unfolding followers
  ends-contains set last is over = grind (arith, common_steps, Contains, is, one-contains, le-leb)

  pub changed-contains : (set : List ℕ) (c : ℕ) → end step weights m rows set ≡ None → has_member (beginners step weights m rows (total - chosen step m set) set) c ≡ true
      → Contains (followers step weights m rows total set) (change step set c)
  unfolding followers
  changed-contains set c none begins =
      let all = beginners step weights m rows (total - chosen step m set) set in
      subst (λ o. Contains (followed step m total set all o) (change step set c)) (sym none) (Contains-map (change step set) all c (of-member all c begins))

  -- only the end follows, or what those make who begin
  pub last-only : (set last next : List ℕ) → end step weights m rows set ≡ Some last → chosen step m last ≤ total → Contains (followers step weights m rows total set) next → last ≡ next
  unfolding followers
  last-only set last next is over inside =
      sym (ap (λ b. cond b last set) (le-leb (chosen step m last) total over))
      ∙ Contains-only (cond (nat_le (chosen step m last) total) last set) next (subst (λ o. Contains (followed step m total set (beginners step weights m rows (total - chosen step m set) set) o) next) is inside)

  pub changed-from : (set next : List ℕ) → end step weights m rows set ≡ None → Contains (followers step weights m rows total set) next
      → (c : ℕ) × (has_member (beginners step weights m rows (total - chosen step m set) set) c ≡ true) × (change step set c ≡ next)
  unfolding followers
  changed-from set next none inside =
      let begin = beginners step weights m rows (total - chosen step m set) set in
      let some = Contains-from_map (change step set) begin next (subst (λ o. Contains (followed step m total set begin o) next) none inside) in
      (some.0, member-of begin some.0 some.1, some.2)

  -- the choices still to be made lead from the set to one like `made`
  abbrev pub Completes : List ℕ → List ℕ → Type 0
  Completes made set = LeadsTo step weights m rows made (total - chosen step m set) set

  module _ (ballots : AreBallots m rows) (falls : IsFalling weights) (counts : AllByRecursion (λ (row : Row). 0 < row.1) rows) (all-count : AllCount step m weights) (fits : total ≤ m) (set : List ℕ) (up : IsIncreasing 1 m set) (more : chosen step m set < total) where
    -- what follows a set is a set further on, or the set itself for good
    made-placed : (next : List ℕ) → IsMade set next → IsIncreasing 1 m next × IsPlaced step weights m rows total (chosen step m set + 1) next
    made-placed next (stays last e beyond same) =
        (subst (IsIncreasing 1 m) same up, subst (IsPlaced step weights m rows total (chosen step m set + 1)) same (omega (arith, more), inr (last, e, beyond)))
    made-placed next (ends last e within same) =
        let span = end-span step weights m rows ballots falls set last up e in (
          subst (IsIncreasing 1 m) same span.0.increasing,
          subst (IsPlaced step weights m rows total (chosen step m set + 1)) same (within, inl (omega (arith, span.1 (omega (arith, more, fits))))),
        )
    made-placed next (changed c none choice is) =
        let free = choice-open step weights m rows set c choice in
        let one = chosen-change step m set c up free in (
          subst (IsIncreasing 1 m) is (change-increasing step m set c up free),
          subst (IsPlaced step weights m rows total (chosen step m set + 1)) is (omega (arith, one, more), inl (omega (arith, one))),
        )

    -- what the choices lead to from what follows, they lead to from the set
    pub made-sound : (made next : List ℕ) → IsMade set next → Completes made next → Completes made set
    made-sound made next (stays last e beyond same) leads = subst (Completes made) (sym same) leads
    made-sound made next (ends last e within same) leads =
        let span = (end-span step weights m rows ballots falls set last up e).0 in
        let less = chosen-ahead step m rows set last span.ahead in
        let n : chosen step m last - chosen step m set + (total - chosen step m last) ≡ total - chosen step m set = omega (arith, less, within) in
        subst (λ i. LeadsTo step weights m rows made i set) n
        (leads-joined step weights m rows ballots falls (chosen step m last - chosen step m set) (total - chosen step m last) set last made up span.increasing
        (span-leads step weights m rows ballots falls set last span (chosen step m last - chosen step m set) last set up span.increasing (λ x. omega arith) span.ahead (λ x. omega arith) (omega (arith, less)))
        (subst (Completes made) (sym same) leads))
    made-sound made next (changed c none choice is) leads =
        let free = choice-open step weights m rows set c choice in
        let one = chosen-change step m set c up free in
        let n : suc (total - chosen step m (change step set c)) ≡ total - chosen step m set = omega (arith, one, more) in
        subst (λ i. LeadsTo step weights m rows made i set) n (c, choice, subst (Completes made) (sym is) leads)

    -- what the choices lead to from the set, they lead to from something that follows
    pub made-complete : (made : List ℕ) → Completes made set → (next : List ℕ) × Contains (followers step weights m rows total set) next × Completes made next
    made-complete made leads = by (end step weights m rows set) refl
      where
        by : (o : Option (List ℕ)) → end step weights m rows set ≡ o → (next : List ℕ) × Contains (followers step weights m rows total set) next × Completes made next
        by (Some last) e = elim (cases_lt total (chosen step m last)) [
          | inl beyond ↦ (set, stays-contains set last e beyond, leads)
          | inr within ↦
              let span = (end-span step weights m rows ballots falls set last up e).0 in
              let n : chosen step m set + (total - chosen step m set) - chosen step m last ≡ total - chosen step m last = omega (arith, more) in (
                last,
                ends-contains set last e within,
                subst (λ i. LeadsTo step weights m rows made i last) n
                    (leads-past step weights m rows ballots falls set last span (total - chosen step m set) made set up (λ x. omega arith) span.ahead (omega (arith, within, more)) leads),
              )
        ]
        by None none =
            let n : total - chosen step m set ≡ suc (total - chosen step m set - 1) = omega (arith, more) in
            let first : LeadsTo step weights m rows made (suc (total - chosen step m set - 1)) set = subst (λ i. LeadsTo step weights m rows made i set) n leads in
            let d = tied-first step weights m rows ballots falls set up made (total - chosen step m set - 1) first in
            let begun = begun-first step weights m rows ballots falls set up made (total - chosen step m set - 1) first counts all-count (centre step weights m rows set) (centre-tied step weights m rows set d.0 d.1) in
            let inside : has_member (beginners step weights m rows (total - chosen step m set) set) begun.0 ≡ true =
            subst (λ i. has_member (beginners step weights m rows i set) begun.0 ≡ true) (sym n) begun.1 in
            let one = chosen-change step m set begun.0 up (tied-open step weights m rows set begun.0 (begins-tied step weights m rows (total - chosen step m set) set (centre step weights m rows set) begun.0 inside)) in
            let i : total - chosen step m set - 1 ≡ total - chosen step m (change step set begun.0) = omega (arith, one) in
            (change step set begun.0, changed-contains set begun.0 none inside, subst (λ j. LeadsTo step weights m rows made j (change step set begun.0)) i begun.2)

-- ---- levels

module _ (step : Step) (weights : List ℕ) (m : ℕ) (rows : List Row) (ballots : AreBallots m rows) (falls : IsFalling weights) (counts : AllByRecursion (λ (row : Row). 0 < row.1) rows) (all-count : AllCount step m weights) (total : ℕ) where
  pub level-first : (sets : List (List ℕ)) → sets ≡ start step m ∷ [] → IsFamilyLevel step weights m rows total 0 sets
  unfolding IsStrictlySortedBy
  level-first sets is = record {
    order = subst (λ l. IsStrictlySortedBy (slice_cmp nat_cmp) l) (sym is) (tt, tt);
    candidates = λ set inside. subst (IsIncreasing 1 m) (one set inside) (first-is step m);
    placed = λ set inside. (omega (arith, first-chosen, ap (chosen step m) (one set inside)), inl (omega arith));
    reached = λ made r. (
      start step m,
      subst (λ l. Contains l (start step m)) (sym is) (0, omega arith, refl),
      subst (λ n. LeadsTo step weights m rows made n (start step m)) all-left (reached-leads step weights m rows ballots falls total made r),
    );
    made = λ made set up inside leads.
        let e : 0 + total ≡ total = omega arith in
        subst (λ n. IsReachedBy step weights m rows n made) e
        (leads-reached step weights m rows ballots falls total 0 (start step m) made (reached_none (is_choice step weights m rows) (change step) (start step m)) up
        (subst (λ n. LeadsTo step weights m rows made n (start step m)) (sym all-left) (subst (Completes step weights m rows total made) (sym (one set inside)) leads)));
  }
    where
      one : (set : List ℕ) → Contains sets set → start step m ≡ set
      one set inside = Contains-only (start step m) set (subst (λ l. Contains l set) is inside)

      first-chosen : chosen step m (start step m) ≡ 0
      first-chosen = reached-chosen step weights m rows 0 (start step m) (reached_none (is_choice step weights m rows) (change step) (start step m))

      all-left : total ≡ total - chosen step m (start step m)
      all-left = omega (arith, first-chosen)

  module _ (size : ℕ) (more : size < total) (fits : total ≤ m) (sets next : List (List ℕ)) (level : IsFamilyLevel step weights m rows total size sets) (follow : IsNextFamilies step weights m rows total size sets next) where
    -- a set of the next level: one that was there, or one that follows a set that `size` choices lead to
    data IsFrom (set : List ℕ) : Type 0 where
      kept : Contains sets set → (chosen step m set ≡ size → ⊥) → IsFrom set
      made-of : (old : List ℕ) → Contains sets old → chosen step m old ≡ size → IsMade step weights m rows total old set → IsFrom set

    from-next : (set : List ℕ) → Contains next set → IsFrom set
    from-next set inside =
        let some = Contains-from_flat_map (family_changes step weights m rows total size) sets set ((follow.members set).0 inside) in
        let old : List ℕ = some.0 in
        elim (cases_Bool (chosen step m old == size)) [
          | inl is ↦
              made-of old some.1 (eqb-true (chosen step m old) size is)
              (made-from step weights m rows total old set (subst (λ b. Contains (cond b (followers step weights m rows total old) (old ∷ [])) set) is some.2))
          | inr other ↦
              let same = Contains-only old set (subst (λ b. Contains (cond b (followers step weights m rows total old) (old ∷ [])) set) other some.2) in
              kept (subst (Contains sets) same some.1) (λ is. absurd (let f : false ≡ true = sym other ∙ eq-eqb (chosen step m old) size (ap (chosen step m) same ∙ is) in cc))
        ]

    next-has : (old set : List ℕ) → Contains sets old → Contains (family_changes step weights m rows total size old) set → Contains next set
    next-has old set inside here = (follow.members set).1 (Contains-flat_map (family_changes step weights m rows total size) sets old set inside here)

    next-placed : (set : List ℕ) → Contains next set → IsIncreasing 1 m set × IsPlaced step weights m rows total (size + 1) set
    next-placed set inside = by (from-next set inside)
      where
        further : (chosen step m set ≡ size → ⊥) → IsPlaced step weights m rows total size set → IsPlaced step weights m rows total (size + 1) set
        further other (few, inl many) = (few, inl (elim (cases_lt size (chosen step m set)) [ inl less ↦ omega (arith, less) | inr most ↦ absurd (other (omega (arith, most, many))) ]))
        further other (few, inr lasts) = (few, inr lasts)

        by : IsFrom set → IsIncreasing 1 m set × IsPlaced step weights m rows total (size + 1) set
        by (kept here other) = (level.candidates set here, further other (level.placed set here))
        by (made-of old here is made) =
            let next' = made-placed step weights m rows total ballots falls counts all-count fits old (level.candidates old here) (omega (arith, is, more)) set made in
            (next'.0, subst (λ n. IsPlaced step weights m rows total (n + 1) set) is next'.1)

    next-reached : (made : List ℕ) → IsReachedBy step weights m rows total made → (set : List ℕ) × Contains next set × Completes step weights m rows total made set
    next-reached made r =
        let some = level.reached made r in
        let old : List ℕ = some.0 in
        elim (cases_Bool (chosen step m old == size)) [
          | inl is ↦
              let sized = eqb-true (chosen step m old) size is in
              let s = made-complete step weights m rows total ballots falls counts all-count fits old (level.candidates old some.1) (omega (arith, sized, more)) made some.2 in
              (s.0, next-has old s.0 some.1 (subst (λ b. Contains (cond b (followers step weights m rows total old) (old ∷ [])) s.0) (sym is) s.1), s.2)
          | inr other ↦ (old, next-has old old some.1 (subst (λ b. Contains (cond b (followers step weights m rows total old) (old ∷ [])) old) (sym other) (one-contains old old refl)), some.2)
        ]

    next-made : (made set : List ℕ) → IsIncreasing 1 m made → Contains next set → Completes step weights m rows total made set → IsReachedBy step weights m rows total made
    next-made made set up inside leads = by (from-next set inside)
      where
        by : IsFrom set → IsReachedBy step weights m rows total made
        by (kept here other) = level.made made set up here leads
        by (made-of old here is made') = level.made made old up here (made-sound step weights m rows total ballots falls counts all-count fits old (level.candidates old here) (omega (arith, is, more)) made set made' leads)

    pub level-next : IsFamilyLevel step weights m rows total (size + 1) next
    level-next = record { order = follow.order; candidates = λ set inside. (next-placed set inside).0; placed = λ set inside. (next-placed set inside).1; reached = next-reached; made = next-made }

pub level-candidates : (step : Step) (weights : List ℕ) (m : ℕ) (rows : List Row) (total size : ℕ) (sets : List (List ℕ)) → IsFamilyLevel step weights m rows total size sets → AllByRecursion (λ set. IsIncreasing 1 m set) sets
level-candidates step weights m rows total size sets level =
    recursion_from_All (λ s. IsIncreasing 1 m s) sets (All-weaker (Contains sets) (λ s. IsIncreasing 1 m s) (λ s inside. level.candidates s inside) sets (All-contains_itself sets))
