-- Of whom one is chosen next, if the choices lead to a committee that a question asks for.
use Rattle.std.proofs.Common.{◌≡◌, ℕ, suc, ◌-◌, ◌<◌, ◌≤◌, ◌==◌, ◌∙◌, Bool, true, false, not, List, [], sym, subst, arith, inl, inr, length}
use Rattle.std.specs.Prelude.{fold}
use Rattle.std.specs.List.{AllByRecursion}
use Rattle.std.proofs.lemmas.Bool.{cases_Bool, both_ways, and_from, not_from_false, ne_eqb}
use Rattle.ballot_base.specs.Lists.{IsIncreasing}
use Rattle.ballot_base.specs.CandSet.{has_member, with_member, without_member}
use Rattle.ballot_base.proofs.Increasing.{IsIncreasing-filter}
use Rattle.ballot_base.specs.Ballots.{Row, Election}
use Rattle.tie_walk.specs.Sequences.{hit_weights}
use Rattle.tie_walk.specs.Steps.Choices.{step_of, choices_of, change, open_candidates}
use Rattle.tie_walk.specs.declared.sequential.SeqRule.{SeqRule}
use Rattle.tie_walk.proofs.RowSums.{AreBallots}
use Rattle.sequential_winners.specs.Steps.Families.{may_be_in}
use Rattle.sequential_winners.specs.Steps.Levels.{chosen, tied_worth, ties_by, begun_by, LeadsTo, AreApartBy, HasEnoughTiedBy}
use Rattle.sequential_winners.specs.Steps.Questions.{family_of, IsAsked, LeadsOn, IsLive, IsDead, AreBranches}
use Rattle.sequential_winners.proofs.PhaseLemmas.{IsApart, IsSpread, member-with, apart-leads, spreads, within-all, chosen-first}
use Rattle.sequential_winners.proofs.QuestionLemmas.{asked-increasing, asked-size, asked-spans, spans-asked, without-is}
use Rattle.sequential_winners.proofs.LevelLemmas.{begins-tied, tied-first, begun-first}
use Rattle.sequential_winners.proofs.SpanLemmas.{changed-all, tied-increasing, tied-is, tied-open}
use Rattle.sequential_winners.proofs.Lists.{member-without, with-itself}
use Rattle.sequential_winners.proofs.Picked.{chosen-change}
use Rattle.sequential_winners.proofs.Leads.{leads-ahead}
use Rattle.sequential_winners.proofs.WinnerLemmas.{hit_weights-fall, hit_weights-count}

module _ (rule : SeqRule) (e : Election) (from : List ℕ) where
  -- the set after the choice of tied candidates
  pub after-increasing : IsIncreasing 1 e.m from → (among : List ℕ) → IsIncreasing 1 e.m among → ((t : ℕ) → has_member among t ≡ true → has_member (ties_by rule e from) t ≡ true) → (after : List ℕ) → after ≡ fold (change (step_of rule)) from among → IsIncreasing 1 e.m after
  after-increasing from-up among up tied after is =
      subst (IsIncreasing 1 e.m) (sym is) (changed-all (step_of rule) e.m 1 from among from-up up (λ t inside. tied-open (step_of rule) (hit_weights rule e.m) e.m e.rows from t (tied t inside))).0

  all-increasing : IsIncreasing 1 e.m (ties_by rule e from)
  all-increasing = tied-increasing (step_of rule) (hit_weights rule e.m) e.m e.rows from

  pub all-tied : (among : List ℕ) → among ≡ ties_by rule e from → IsIncreasing 1 e.m among × ((t : ℕ) → has_member among t ≡ true → has_member (ties_by rule e from) t ≡ true)
  all-tied among is = (subst (IsIncreasing 1 e.m) (sym is) all-increasing, λ t inside. subst (λ l. has_member l t ≡ true) is inside)

  pub without-tied : (among : List ℕ) (n : ℕ) → among ≡ without_member (ties_by rule e from) n → IsIncreasing 1 e.m among × ((t : ℕ) → has_member among t ≡ true → has_member (ties_by rule e from) t ≡ true)
  without-tied among n is =
      (subst (IsIncreasing 1 e.m) (sym is) (IsIncreasing-filter (λ x. not (x == n)) 1 e.m (ties_by rule e from) all-increasing), λ t inside. without-is (ties_by rule e from) n t (subst (λ l. has_member l t ≡ true) is inside))

module _ (rule : SeqRule) (e : Election) (k : ℕ) (fits : k ≤ e.m) (c : ℕ) (set : List ℕ) (ballots : AreBallots e.m e.rows) (counts : AllByRecursion (λ (row : Row). 0 < row.1) e.rows) (from : List ℕ) (from-up : IsIncreasing 1 e.m from)
    (more : chosen (step_of rule) e.m from < choices_of rule e.m k)
  where
    one-less : (u : ℕ) → has_member (ties_by rule e from) u ≡ true → suc (choices_of rule e.m k - chosen (step_of rule) e.m (change (step_of rule) from u)) ≡ choices_of rule e.m k - chosen (step_of rule) e.m from
    one-less u tie = omega (arith, more, chosen-change (step_of rule) e.m from u from-up (tied-open (step_of rule) (hit_weights rule e.m) e.m e.rows from u tie))

    -- tied candidates with one of whom some choices begin, whatever is made of the set
    tied-branches : (among : List ℕ) → ((n : ℕ) → has_member among n ≡ true → has_member (ties_by rule e from) n ≡ true)
        → ((made : List ℕ) (left : ℕ) → suc left ≡ choices_of rule e.m k - chosen (step_of rule) e.m from → LeadsTo (step_of rule) (hit_weights rule e.m) e.m e.rows made (suc left) from
        → (v : ℕ) × (has_member among v ≡ true) × LeadsTo (step_of rule) (hit_weights rule e.m) e.m e.rows made left (change (step_of rule) from v))
        → AreBranches rule e k c set from among
    tied-branches among tied first = record {
      free = λ n inside. tied-open (step_of rule) (hit_weights rule e.m) e.m e.rows from n (tied n inside);
      live = λ n inside live. (
        live.0,
        live.1,
        subst (λ i. LeadsTo (step_of rule) (hit_weights rule e.m) e.m e.rows live.0 i from) (one-less n (tied n inside)) (n, tied-is (step_of rule) (hit_weights rule e.m) e.m e.rows from n (tied n inside), live.2),
      );
      dead = λ all made asked leads.
          let n : suc (choices_of rule e.m k - chosen (step_of rule) e.m from - 1) ≡ choices_of rule e.m k - chosen (step_of rule) e.m from = omega (arith, more) in
          let v = first made (choices_of rule e.m k - chosen (step_of rule) e.m from - 1) n (subst (λ i. LeadsTo (step_of rule) (hit_weights rule e.m) e.m e.rows made i from) (sym n) leads) in
          let i : choices_of rule e.m k - chosen (step_of rule) e.m from - 1 ≡ choices_of rule e.m k - chosen (step_of rule) e.m (change (step_of rule) from v.0) = omega (arith, one-less v.0 (tied v.0 v.1)) in
          all v.0 v.1 made asked (subst (λ j. LeadsTo (step_of rule) (hit_weights rule e.m) e.m e.rows made j (change (step_of rule) from v.0)) i v.2);
    }

    -- all who tie
    pub all-branches : (among : List ℕ) → among ≡ ties_by rule e from → AreBranches rule e k c set from among
    all-branches among is =
        subst (AreBranches rule e k c set from) (sym is) (tied-branches (ties_by rule e from) (λ n inside. inside) (λ made left sized leads. tied-first (step_of rule) (hit_weights rule e.m) e.m e.rows ballots (hit_weights-fall rule e.m) from from-up made left leads))

    -- those with whom the choices begin, whoever is the centre
    pub begun-branches : (middle : ℕ) → has_member (ties_by rule e from) middle ≡ true → (left : ℕ) → left ≡ choices_of rule e.m k - chosen (step_of rule) e.m from
        → (among : List ℕ) → among ≡ begun_by rule e left from middle → AreBranches rule e k c set from among
    begun-branches middle tie left left-is among is =
        subst (AreBranches rule e k c set from) (sym is)
        (tied-branches (begun_by rule e left from middle) (λ n inside. begins-tied (step_of rule) (hit_weights rule e.m) e.m e.rows left from middle n inside)
        (λ made less sized leads.
        let v = begun-first (step_of rule) (hit_weights rule e.m) e.m e.rows ballots (hit_weights-fall rule e.m) from from-up made less leads counts (hit_weights-count rule e.m) middle tie in
        (v.0, subst (λ i. has_member (begun_by rule e i from middle) v.0 ≡ true) (sized ∙ sym left-is) v.1, v.2)))

    -- nobody, where the set leads to nothing
    pub no-branches : IsDead rule e k c set from → AreBranches rule e k c set from []
    no-branches none = record {
      free = λ n inside. absurd (let f : false ≡ true = inside in cc);
      live = λ n inside live. absurd (let f : false ≡ true = inside in cc);
      dead = λ all. none;
    }

    module _ (within : c ≤ e.m) (up : IsIncreasing 1 c set) (small : length set ≤ k) (some-worth : 0 < tied_worth (step_of rule) (hit_weights rule e.m) e.m e.rows from) where
      -- what candidates apart make is made
      pub apart-live : (together : List ℕ) → AreApartBy rule e from together → may_be_in e.m e.rows c set (k - length set) (family_of (step_of rule) from (fold (change (step_of rule)) from together)) ≡ true → IsLive rule e k c set from
      apart-live together are some =
          let step = step_of rule in
          let weights = hit_weights rule e.m in
          let is : IsApart step weights e.m e.rows ballots (hit_weights-fall rule e.m) counts (hit_weights-count rule e.m) from from-up some-worth together = record { increasing = are.increasing; tied = are.tied; apart = are.apart } in
          let last = fold (change step) from together in
          let last-up = (changed-all step e.m 1 from together from-up are.increasing (λ t inside. tied-open step weights e.m e.rows from t (are.tied t inside))).0 in
          let m = spans-asked rule e k fits c set within up small from last from-up last-up some in (
            m.0,
            m.1,
            apart-leads step weights e.m e.rows ballots (hit_weights-fall rule e.m) counts (hit_weights-count rule e.m) from from-up some-worth together is m.0
                (asked-increasing rule e k fits c set within up small m.0 m.1) m.2 m.3 (choices_of rule e.m k - chosen step e.m from) (omega (arith, more, asked-size rule e k fits c set within up small m.0 m.1)),
          )

      -- where enough candidates tie
      module _ (enough : HasEnoughTiedBy rule e (choices_of rule e.m k - chosen (step_of rule) e.m from) from) where
        abbrev asks : List ℕ → Bool
        asks among = may_be_in e.m e.rows c set (k - length set) (family_of (step_of rule) from (fold (change (step_of rule)) from among))

        -- what is made has all who were chosen, so a list of tied candidates that no committee asked for is made of lacks one
        asked-among : (made : List ℕ) → IsAsked e.m k c set made → LeadsOn rule e k from made
            → (is : IsSpread (step_of rule) (hit_weights rule e.m) e.m e.rows ballots (hit_weights-fall rule e.m) counts (hit_weights-count rule e.m) from from-up some-worth (choices_of rule e.m k - chosen (step_of rule) e.m from) enough.0 enough.1 made)
            → (among : List ℕ) → IsIncreasing 1 e.m among → ((t : ℕ) → has_member among t ≡ true → has_member (ties_by rule e from) t ≡ true) → ((t : ℕ) → has_member is.together t ≡ true → has_member among t ≡ true) → asks among ≡ true
        asked-among made asked leads is among among-up tied within' =
            let step = step_of rule in
            let weights = hit_weights rule e.m in
            let last = fold (change step) from among in
            let last-up = (changed-all step e.m 1 from among from-up among-up (λ t inside. tied-open step weights e.m e.rows from t (tied t inside))).0 in
            asked-spans rule e k fits c set within up small from last from-up last-up made asked (leads-ahead step weights e.m e.rows (choices_of rule e.m k - chosen step e.m from) made from from-up leads)
            (within-all step weights e.m e.rows ballots (hit_weights-fall rule e.m) counts (hit_weights-count rule e.m) from from-up some-worth (choices_of rule e.m k - chosen step e.m from) enough.0 enough.1 made is among among-up tied within')

        spread-of : (made : List ℕ) → LeadsOn rule e k from made
            → IsSpread (step_of rule) (hit_weights rule e.m) e.m e.rows ballots (hit_weights-fall rule e.m) counts (hit_weights-count rule e.m) from from-up some-worth (choices_of rule e.m k - chosen (step_of rule) e.m from) enough.0 enough.1 made
        spread-of made leads = spreads (step_of rule) (hit_weights rule e.m) e.m e.rows ballots (hit_weights-fall rule e.m) counts (hit_weights-count rule e.m) from from-up some-worth (choices_of rule e.m k - chosen (step_of rule) e.m from) enough.0 enough.1 made leads

        -- nothing else is made than by their choice
        pub enough-dead : asks (ties_by rule e from) ≡ false → IsDead rule e k c set from
        enough-dead none made asked leads =
            let is = spread-of made leads in
            both_ways (asks (ties_by rule e from)) none
            (asked-among made asked leads is (ties_by rule e from) (tied-increasing (step_of rule) (hit_weights rule e.m) e.m e.rows from) (λ t inside. inside) (λ t inside. is.apart.tied t inside))

        -- and who is needed is chosen first
        pub needed-branches : (u : ℕ) → has_member (ties_by rule e from) u ≡ true → asks (without_member (ties_by rule e from) u) ≡ false → AreBranches rule e k c set from (with_member [] u)
        needed-branches u tie none = record {
          free = λ n inside. subst (λ x. has_member (open_candidates (step_of rule) e.m from) x ≡ true) (only n inside) free;
          live = λ n inside live. (
            live.0,
            live.1,
            subst (λ i. LeadsTo (step_of rule) (hit_weights rule e.m) e.m e.rows live.0 i from) size (u, tied-is (step_of rule) (hit_weights rule e.m) e.m e.rows from u tie, subst (λ x. LeadsOn rule e k (change (step_of rule) from x) live.0) (sym (only n inside)) live.2),
          );
          dead = λ all made asked leads.
              let is = spread-of made leads in
              elim (cases_Bool (has_member is.together u)) [
                | inl inside ↦
                    all u (with-itself [] u) made asked
                    (subst (λ i. LeadsTo (step_of rule) (hit_weights rule e.m) e.m e.rows made i (change (step_of rule) from u)) (omega (arith, size))
                    (chosen-first (step_of rule) (hit_weights rule e.m) e.m e.rows ballots (hit_weights-fall rule e.m) counts (hit_weights-count rule e.m) from from-up some-worth (choices_of rule e.m k - chosen (step_of rule) e.m from) enough.0 enough.1 made is
                    (asked-increasing rule e k fits c set within up small made asked) u inside (omega (arith, more, asked-size rule e k fits c set within up small made asked))))
                | inr out ↦
                    both_ways (asks (without_member (ties_by rule e from) u)) none
                    (asked-among made asked leads is (without_member (ties_by rule e from) u) (IsIncreasing-filter (λ x. not (x == u)) 1 e.m (ties_by rule e from) (tied-increasing (step_of rule) (hit_weights rule e.m) e.m e.rows from)) (λ t inside. without-is (ties_by rule e from) u t inside)
                    (λ t inside. member-without (ties_by rule e from) u t
                    ∙ and_from (not (t == u)) (has_member (ties_by rule e from) t) (not_from_false (t == u) (ne_eqb t u (λ same. both_ways (has_member is.together u) out (subst (λ x. has_member is.together x ≡ true) same inside)))) (is.apart.tied t inside)))
              ];
        }
          where
            free : has_member (open_candidates (step_of rule) e.m from) u ≡ true
            free = tied-open (step_of rule) (hit_weights rule e.m) e.m e.rows from u tie

            size : suc (choices_of rule e.m k - chosen (step_of rule) e.m (change (step_of rule) from u)) ≡ choices_of rule e.m k - chosen (step_of rule) e.m from
            size = omega (arith, more, chosen-change (step_of rule) e.m from u from-up free)

            only : (n : ℕ) → has_member (with_member [] u) n ≡ true → u ≡ n
            only n inside = elim (member-with [] u n inside) [ inl same ↦ same | inr old ↦ absurd (let f : false ≡ true = old in cc) ]
