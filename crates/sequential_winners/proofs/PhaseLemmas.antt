-- While the best worth stays the same, those who share no voter who still gives are chosen in any order.
use Rattle.std.proofs.Common.{◌≡◌, ℕ, zero, suc, ◌+◌, ◌-◌, ◌*◌, ◌<◌, ◌≤◌, ◌==◌, ◌&&◌, ◌||◌, ◌⊎◌, ◌∙◌, Bool, true, false, cond, not, List, [], ◌∷◌, refl, sym, ap, subst, arith, inl, inr, filter, length, count_by}
use Rattle.std.specs.Prelude.{nat_lt, fold}
use Rattle.std.specs.List.{AllByRecursion, list_any}
use Rattle.std.proofs.lemmas.Bool.{cases_Bool, cases_lt, and_parts, and_from, both_ways, eqb-true, ltb-true, lt-ltb}
use Rattle.std.proofs.lemmas.List.Sums.{sum_by-cons, length-filter}
use Rattle.ballot_base.specs.Lists.{IsIncreasing}
use Rattle.ballot_base.specs.CandSet.{has_member, with_member, without_member, other_members}
use Rattle.ballot_base.specs.Ballots.{Row, hits}
use Rattle.ballot_base.specs.Clones.{are_clones}
use Rattle.ballot_base.proofs.Increasing.{has_member-with_member, has_member-filter}
use Rattle.tie_walk.specs.Sequences.{weight}
use Rattle.tie_walk.specs.Steps.Choices.{change, is_choice, is_no_better, open_candidates, worth}
use Rattle.tie_walk.specs.declared.sequential.Step.{Step}
use Rattle.tie_walk.specs.declared.sequential.Step.TheVariants.{Grow, Shrink}
use Rattle.tie_walk.proofs.RowSums.{AreBallots}
use Rattle.tie_walk.proofs.WorthLemmas.{share, partial, worth-whole}
use Rattle.sequential_winners.specs.Clones.{clone_count}
use Rattle.sequential_winners.specs.Steps.Levels.{ties, next_hit, given, share_voter, picked, chosen, tied_worth, IsAhead, IsFalling, AllCount, LeadsTo}
use Rattle.sequential_winners.proofs.CloneLemmas.{IsWhole, clones-itself, clones-turned, clones-joined, clones-sameness, hits-members}
use Rattle.sequential_winners.proofs.Lists.{open-is, member-without, with-increasing, count-included}
use Rattle.sequential_winners.proofs.Numbers.{bit, some-uncovered, some-passes, member-counts, count-cons, count-class, count-with, count-without, length-sum, count-both}
use Rattle.sequential_winners.proofs.Picked.{count-open, change-increasing, count-change, chosen-change}
use Rattle.sequential_winners.proofs.RowLemmas.{each-row, no-better_given, worse-shared, falling_share, IsQuiet}
use Rattle.sequential_winners.proofs.TiedClones.{no_better-joined, no-better-ahead, open-moves, choice-from, choice-best, choice-open}
use Rattle.std.proofs.Math.Bool.{and_comm}
use Rattle.ballot_base.proofs.Committees.{length-increasing}
use Rattle.sequential_winners.proofs.SpanLemmas.{tied-is, tied-open, at-most, tied-class, tied-reaches, tied-positive, changed-all}
use Rattle.sequential_winners.proofs.Leads.{leads-moved, leads-joined, may-leads}
use Rattle.sequential_winners.proofs.GivenLemmas.{or-parts, not-equal, apart-given}

-- ---- of lists

none-each : (P : ℕ → Type 0) (test : ℕ → Row → Bool) (rows : List Row) → ((s : ℕ) → P s → list_any (test s) rows ≡ false) → AllByRecursion (λ (row : Row). (s : ℕ) → P s → test s row ≡ false) rows
none-each P test [] none = tt
none-each P test (row ∷ rows) none = (
  λ s here. (or-parts (test s row) (list_any (test s) rows) (none s here)).0,
  none-each P test rows (λ s here. (or-parts (test s row) (list_any (test s) rows) (none s here)).1),
)

pub member-with : (set : List ℕ) (n k : ℕ) → has_member (with_member set n) k ≡ true → (n ≡ k) ⊎ (has_member set k ≡ true)
member-with set n k is = by (n == k) refl (sym (has_member-with_member set n k) ∙ is)
  where
    by : (b : Bool) → (n == k) ≡ b → (b || has_member set k) ≡ true → (n ≡ k) ⊎ (has_member set k ≡ true)
    by true same here = inl (eqb-true n k same)
    by false other here = inr here

-- whom no voter who gives approves brings nothing
alone-nothing : (step : Step) (weights set : List ℕ) (t : ℕ) (rows : List Row)
    → list_any (λ (row : Row). nat_lt 0 (next_hit step weights set row) && (has_member row.0 t && has_member row.0 t)) rows ≡ false → partial step weights set t rows ≡ 0
alone-nothing step weights set t [] none = refl
alone-nothing step weights set t (row ∷ rows) none =
    let p : Bool = nat_lt 0 (next_hit step weights set row) && (has_member row.0 t && has_member row.0 t) in
    let parts = or-parts p (list_any (λ (r : Row). nat_lt 0 (next_hit step weights set r) && (has_member r.0 t && has_member r.0 t)) rows) none in
    omega (arith, sum_by-cons (λ (r : Row). r.1 * share step weights set t r) row rows, no-share row parts.0, alone-nothing step weights set t rows parts.1)
  where
    times-none : (n : ℕ) → n * 0 ≡ 0
    times-none n = grind arith

    no-share : (row : Row) → (nat_lt 0 (next_hit step weights set row) && (has_member row.0 t && has_member row.0 t)) ≡ false → row.1 * share step weights set t row ≡ 0
    no-share row none = elim (cases_Bool (has_member row.0 t)) [
      | inl approved ↦ elim (cases_lt 0 (next_hit step weights set row)) [
        | inl some ↦
            absurd (both_ways (nat_lt 0 (next_hit step weights set row) && (has_member row.0 t && has_member row.0 t)) none
            (and_from (nat_lt 0 (next_hit step weights set row)) (has_member row.0 t && has_member row.0 t) (lt-ltb 0 (next_hit step weights set row) some) (and_from (has_member row.0 t) (has_member row.0 t) approved approved)))
        | inr zero-is ↦
            let e : share step weights set t row ≡ 0 = ap (λ b. cond b (next_hit step weights set row) 0) approved ∙ omega (arith, zero-is) in
            ap (λ n. row.1 * n) e ∙ times-none row.1
      ]
      | inr fails ↦ ap (λ n. row.1 * n) (ap (λ b. cond b (next_hit step weights set row) 0) fails) ∙ times-none row.1
    ]

module _ (step : Step) (weights : List ℕ) (m : ℕ) (rows : List Row) (ballots : AreBallots m rows) (falls : IsFalling weights) (counts : AllByRecursion (λ (row : Row). 0 < row.1) rows) (all-count : AllCount step m weights) (set : List ℕ)
    (up : IsIncreasing 1 m set) (some-worth : 0 < tied_worth step weights m rows set)
  where
    abbrev sharing-row : ℕ → ℕ → Row → Bool
    sharing-row c d row = nat_lt 0 (next_hit step weights set row) && (has_member row.0 c && has_member row.0 d)

    sharing-from : (c d : ℕ) (row : Row) → 0 < next_hit step weights set row → has_member row.0 c ≡ true → has_member row.0 d ≡ true → sharing-row c d row ≡ true
    sharing-from c d row some of-c of-d =
        and_from (nat_lt 0 (next_hit step weights set row)) (has_member row.0 c && has_member row.0 d) (lt-ltb 0 (next_hit step weights set row) some) (and_from (has_member row.0 c) (has_member row.0 d) of-c of-d)

    sharing-turned : (c d : ℕ) (rows' : List Row) → list_any (sharing-row c d) rows' ≡ false → list_any (sharing-row d c) rows' ≡ false
    sharing-turned c d [] none = refl
    sharing-turned c d (row ∷ rows') none =
        let parts = or-parts (sharing-row c d row) (list_any (sharing-row c d) rows') none in
        ap (λ b. nat_lt 0 (next_hit step weights set row) && b || list_any (sharing-row d c) rows') (and_comm (has_member row.0 d) (has_member row.0 c))
        ∙ ap (λ b. b || list_any (sharing-row d c) rows') parts.0 ∙ sharing-turned c d rows' parts.1

    -- each of those who tie shares a voter with itself
    shares-itself : (t : ℕ) → has_member (ties step weights m rows set) t ≡ true → share_voter step weights rows set t t ≡ true
    shares-itself t tie = elim (cases_Bool (share_voter step weights rows set t t)) [
      | inl is ↦ is
      | inr fails ↦
          absurd (omega (
            arith,
            tied-positive step weights m rows ballots falls set up some-worth t (tied-is step weights m rows set t tie),
            worth-whole step weights rows set t,
            alone-nothing step weights set t rows fails,
          ))
    ]

    far-parts : (u t : ℕ) → ((t == u) || share_voter step weights rows set u t) ≡ false → ((t == u) ≡ false) × (share_voter step weights rows set u t ≡ false)
    far-parts u t far = or-parts (t == u) (share_voter step weights rows set u t) far

    -- tied candidates of whom no two share a voter who still gives
    pub record IsApart (together : List ℕ) : Type 0 where
      pub increasing : IsIncreasing 1 m together
      pub tied : (t : ℕ) → has_member together t ≡ true → has_member (ties step weights m rows set) t ≡ true
      pub apart : (c d : ℕ) → has_member together c ≡ true → has_member together d ≡ true → (c ≡ d → ⊥) → share_voter step weights rows set c d ≡ false

    class-same : (c d : ℕ) → are_clones rows c d ≡ true → (xs : List ℕ) → clone_count rows xs c ≡ clone_count rows xs d
    class-same c d cd xs = count-class (are_clones rows) (clones-sameness rows) c d xs cd

    bits-same : (c d x : ℕ) → are_clones rows c d ≡ true → bit (are_clones rows x c) ≡ bit (are_clones rows x d)
    bits-same c d x cd = elim (cases_Bool (are_clones rows x c)) [
      | inl is ↦ omega (arith, ap bit is, ap bit (clones-joined rows x c d is cd))
      | inr fails ↦ elim (cases_Bool (are_clones rows x d)) [
        | inl holds ↦ absurd (both_ways (are_clones rows x c) fails (clones-joined rows x d c holds (clones-turned rows c d cd)))
        | inr also ↦ omega (arith, ap bit fails, ap bit also)
      ]
    ]

    -- how many hits a voter has, where a candidate whom the voter approves may be taken out
    hits-some : (made : List ℕ) (c : ℕ) (row : Row) → IsIncreasing 1 m made → IsIncreasing 1 m row.0 → has_member (open_candidates Shrink m made) c ≡ true → has_member row.0 c ≡ true → (1 ≤ hits row.0 made) × (hits row.0 made ≤ m)
    hits-some made c row up' ballot free approved = (
      omega (arith, hits-members m row.0 made ballot up', member-counts (has_member row.0) made c (open-is Shrink m made c free).1 approved),
      omega (arith, hits-members m row.0 made ballot up', count-both (has_member row.0) made, length-increasing 1 m made up'),
    )

    -- each of them still has the same worth once others of them were chosen
    module _ (together : List ℕ) (is : IsApart together) (made : List ℕ) (up' : IsIncreasing 1 m made) (ahead : IsAhead step m rows set made) (c : ℕ) (free : has_member (open_candidates step m made) c ≡ true)
        (above : (x : ℕ) → clone_count rows (picked step m (change step made c)) x ≤ clone_count rows (picked step m set) x + clone_count rows together x)
      where
        still-worth : (t : ℕ) × (has_member together t ≡ true) × (is_no_better step (worth step weights rows set t) (worth step weights rows made c) ≡ true)
        still-worth =
            let more = λ (x : ℕ). count-change step (are_clones rows x) m made c up' free in
            let t = some-passes (are_clones rows c) together (omega (arith, ahead c, above c, more c, ap bit (clones-itself rows c))) in
            let fewer = λ (p : ℕ → Bool). count-without p 1 m together t.0 is.increasing t.1 in (
              t.0,
              t.1,
              no-better_given m rows weights made set c t.0 step [] (without_member together t.0) ballots falls
                  (record {
                    up = up';
                    up' = up;
                    clones = t.2;
                    free = tied-open step weights m rows set t.0 (is.tied t.0 t.1);
                    within = λ x. omega (arith, above x, more x, fewer (are_clones rows x), bits-same c t.0 x t.2);
                  })
                  (each-row m rows (λ (row : Row). (s : ℕ) → (has_member together s ≡ true) × (s ≡ t.0 → ⊥) → sharing-row t.0 s row ≡ false)
                  (λ (row : Row). has_member row.0 t.0 ≡ true → (count_by (has_member row.0) (without_member together t.0) ≤ 0) ⊎ IsQuiet m rows weights made set c t.0 step row) ballots
                  (none-each (λ s. (has_member together s ≡ true) × (s ≡ t.0 → ⊥)) (sharing-row t.0) rows (λ s here. is.apart t.0 s t.1 here.0 (λ e. here.1 (sym e))))
                  (λ row ballot whole none approved. voters-of t.0 t.1 row ballot approved none)),
            )
          where
            voters-of : (t : ℕ) → has_member together t ≡ true → (row : Row) → IsIncreasing 1 m row.0 → has_member row.0 t ≡ true
                → ((s : ℕ) → (has_member together s ≡ true) × (s ≡ t → ⊥) → sharing-row t s row ≡ false) → (count_by (has_member row.0) (without_member together t) ≤ 0) ⊎ IsQuiet m rows weights made set c t step row
            voters-of t inside row ballot approved none = elim (cases_lt 0 (next_hit step weights set row)) [
              | inl some ↦ elim (cases_lt 0 (count_by (has_member row.0) (without_member together t))) [
                | inl more ↦
                    let s = some-passes (has_member row.0) (without_member together t) (omega (arith, more)) in
                    let parts = and_parts (not (s.0 == t)) (has_member together s.0) (sym (member-without together t s.0) ∙ s.1) in
                    absurd (both_ways (sharing-row t s.0 row) (none s.0 (parts.1, not-equal s.0 t parts.0)) (sharing-from t s.0 row some approved s.2))
                | inr no-more ↦ inl (omega (arith, no-more))
              ]
              | inr zero-is ↦ by-step step all-count (omega (arith, zero-is)) (tied-open step weights m rows set t (is.tied t inside))
            ]
              where
                by-step : (s : Step) → AllCount s m weights → next_hit s weights set row ≡ 0 → has_member (open_candidates s m set) t ≡ true
                    → (count_by (has_member row.0) (without_member together t) ≤ 0) ⊎ IsQuiet m rows weights made set c t s row
                by-step Grow all zero-is free' = inr zero-is
                by-step Shrink all zero-is free' =
                    let some = hits-some set t row up ballot free' approved in
                    absurd (omega (arith, zero-is, all (hits row.0 set) some.0 some.1))

        still-tied : is_choice step weights m rows made c ≡ true
        still-tied =
            let t = still-worth in
            choice-from step weights m rows made c free
            (λ d free'. no_better-joined step (worth step weights rows made d) (worth step weights rows set t.0) (worth step weights rows made c)
            (at-most step weights m rows ballots falls set up made up' ahead d free' t.0 (tied-is step weights m rows set t.0 (is.tied t.0 t.1))) t.2)

    -- the set with them
    abbrev with-all : List ℕ → List ℕ
    with-all together = fold (change step) set together

    with-is : (together : List ℕ) → IsApart together
        → IsIncreasing 1 m (with-all together) × ((p : ℕ → Bool) → count_by p (picked step m (with-all together)) ≡ count_by p (picked step m set) + count_by p together)
    with-is together is = changed-all step m 1 set together up is.increasing (λ t inside. tied-open step weights m rows set t (is.tied t inside))

    -- one more of them
    apart-more : (together : List ℕ) → IsApart together → (t : ℕ) → has_member (ties step weights m rows set) t ≡ true → ((s : ℕ) → has_member together s ≡ true → share_voter step weights rows set t s ≡ false) → IsApart (with_member together t)
    apart-more together is t tie none =
        let bounds = (open-is step m set t (tied-open step weights m rows set t tie)).0 in record {
          increasing = with-increasing m together t is.increasing bounds.0 bounds.1;
          tied = λ s inside. elim (member-with together t s inside) [ inl same ↦ subst (λ x. has_member (ties step weights m rows set) x ≡ true) same tie | inr old ↦ is.tied s old ];
          apart = λ c d inside inside' other. elim (member-with together t c inside) [
            | inl same ↦ elim (member-with together t d inside') [
              | inl also ↦ absurd (other (sym same ∙ also))
              | inr old ↦ subst (λ x. share_voter step weights rows set x d ≡ false) same (none d old)
            ]
            | inr old ↦ elim (member-with together t d inside') [
              | inl also ↦ subst (λ x. share_voter step weights rows set c x ≡ false) also (sharing-turned t c rows (none c old))
              | inr old' ↦ is.apart c d old old' other
            ]
          ];
        }

    -- one choice after some of them, while one more of them would do
    module _ (together : List ℕ) (is : IsApart together) (u : ℕ) (tie : has_member (ties step weights m rows set) u ≡ true) (none : (s : ℕ) → has_member together s ≡ true → share_voter step weights rows set u s ≡ false)
        (now : List ℕ) (up' : IsIncreasing 1 m now) (at : (x : ℕ) → clone_count rows (picked step m now) x ≡ clone_count rows (picked step m set) x + clone_count rows together x)
      where
        ahead-now : IsAhead step m rows set now
        ahead-now x = omega (arith, at x)

        u-out : has_member together u ≡ false
        u-out = elim (cases_Bool (has_member together u)) [ inl inside ↦ absurd (both_ways (share_voter step weights rows set u u) (none u inside) (shares-itself u tie)) | inr out ↦ out ]

        -- nobody who may be chosen then is worse than those who tied
        no-worse : (c : ℕ) → is_choice step weights m rows now c ≡ true → (t : ℕ) × (has_member (ties step weights m rows set) t ≡ true) × (is_no_better step (worth step weights rows set t) (worth step weights rows now c) ≡ true)
        no-worse c choice =
            let more = apart-more together is u tie none in
            let all = with-is (with_member together u) more in
            let one = λ (p : ℕ → Bool). count-with p together u u-out in
            let v = some-passes (are_clones rows u) (open_candidates step m now)
            (omega (
              arith,
              at u,
              one (are_clones rows u),
              all.1 (are_clones rows u),
              ap bit (clones-itself rows u),
              count-open step (are_clones rows u) m now up',
              count-open step (are_clones rows u) m (with-all (with_member together u)) all.0,
            )) in
            let t = still-worth (with_member together u) more now up' ahead-now v.0 v.1
            (λ x. omega (arith, at x, one (are_clones rows x), count-change step (are_clones rows x) m now v.0 up' v.1, bits-same u v.0 x v.2)) in
            (t.0, more.tied t.0 t.1, no_better-joined step (worth step weights rows set t.0) (worth step weights rows now v.0) (worth step weights rows now c) t.2 (choice-best step weights m rows now c v.0 choice v.1))

        next-tied : (c : ℕ) → is_choice step weights m rows now c ≡ true
            → (t : ℕ) × (has_member (ties step weights m rows set) t ≡ true) × (are_clones rows c t ≡ true) × ((s : ℕ) → has_member together s ≡ true → share_voter step weights rows set t s ≡ false)
        next-tied c choice =
            let free = choice-open step weights m rows now c choice in
            let low = no-worse c choice in
            let d = open-moves step weights m rows now set c up' up ahead-now free in
            let fine = no_better-joined step (worth step weights rows set low.0) (worth step weights rows now c) (worth step weights rows set d.0) low.2
            (no-better-ahead step weights m rows ballots falls set now d.0 c up up' ahead-now (clones-turned rows c d.0 d.2) free) in
            let t = tied-class step weights m rows ballots falls set up d.0
            (choice-from step weights m rows set d.0 d.1
            (λ e free'. no_better-joined step (worth step weights rows set e) (worth step weights rows set low.0) (worth step weights rows set d.0)
            (choice-best step weights m rows set low.0 e (tied-is step weights m rows set low.0 low.1) free') fine)) in
            let clone = clones-joined rows c d.0 t.0 d.2 t.2 in
            (t.0, t.1, clone, λ s inside. out c choice free low t.0 t.1 clone s inside)
          where
            out : (c : ℕ) → is_choice step weights m rows now c ≡ true → has_member (open_candidates step m now) c ≡ true
                → (low : (t : ℕ) × (has_member (ties step weights m rows set) t ≡ true) × (is_no_better step (worth step weights rows set t) (worth step weights rows now c) ≡ true))
                → (t : ℕ) → has_member (ties step weights m rows set) t ≡ true → are_clones rows c t ≡ true → (s : ℕ) → has_member together s ≡ true → share_voter step weights rows set t s ≡ false
            out c choice free low t tie' clone s inside = elim (cases_Bool (share_voter step weights rows set t s)) [
              | inl shared ↦
                  absurd (both_ways (is_no_better step (worth step weights rows set t) (worth step weights rows now c))
                  (worse-shared m rows weights set now t c step s ballots counts falls
                  (record {
                    up = up;
                    up' = up';
                    clones = clones-turned rows c t clone;
                    free = free;
                    within = λ x. elim (cases_Bool (are_clones rows x s)) [
                      | inl alike ↦ omega (arith, at x, count-cons (are_clones rows x) s [], ap bit alike, member-counts (are_clones rows x) together s inside alike)
                      | inr differs ↦ omega (arith, at x, count-cons (are_clones rows x) s [], ap bit differs)
                    ];
                  })
                  (sharing-row t s) (λ row ballot whole passes. sharing-falls c free t clone s row ballot whole passes) shared)
                  (no_better-joined step (worth step weights rows set t) (worth step weights rows set low.0) (worth step weights rows now c)
                  (choice-best step weights m rows set low.0 t (tied-is step weights m rows set low.0 low.1) (tied-open step weights m rows set t tie')) low.2))
              | inr not-shared ↦ not-shared
            ]
              where
                sharing-falls : (c : ℕ) → has_member (open_candidates step m now) c ≡ true → (t : ℕ) → are_clones rows c t ≡ true → (s : ℕ) → (row : Row) → IsIncreasing 1 m row.0 → IsWhole (are_clones rows) row → sharing-row t s row ≡ true
                    → (has_member row.0 s ≡ true) × (0 < falling_share m rows weights set now t c step row)
                sharing-falls c free t clone s row ballot whole passes =
                    let parts = and_parts (nat_lt 0 (next_hit step weights set row)) (has_member row.0 t && has_member row.0 s) passes in
                    let both = and_parts (has_member row.0 t) (has_member row.0 s) parts.1 in
                    (both.1, by step all-count (ltb-true 0 (next_hit step weights set row) parts.0) free both.0 (whole c t clone ∙ both.0))
                  where
                    by : (x : Step) → AllCount x m weights → 0 < next_hit x weights set row → has_member (open_candidates x m now) c ≡ true → has_member row.0 t ≡ true → has_member row.0 c ≡ true
                        → 0 < falling_share m rows weights set now t c x row
                    by Grow all some free' of-t of-c = omega (arith, some, ap (λ b. cond b (weight weights (hits row.0 set + 1)) 0) of-t)
                    by Shrink all some free' of-t of-c =
                        let few = hits-some now c row up' ballot free' of-c in
                        omega (arith, all (hits row.0 now) few.0 few.1, ap (λ b. cond b (weight weights (hits row.0 now)) 0) of-c)

    -- ---- of the tied candidates who share a voter with one of them, some one is chosen first

    -- who shares a voter with u, or is u
    abbrev pub near : ℕ → ℕ → Bool
    near u t = (t == u) || share_voter step weights rows set u t

    -- the tied candidates far from u
    abbrev pub far-from : ℕ → List ℕ
    far-from u = other_members (ties step weights m rows set) (filter (near u) (ties step weights m rows set))

    far-member : (u t : ℕ) → has_member (ties step weights m rows set) t ≡ true → near u t ≡ false → has_member (far-from u) t ≡ true
    far-member u t tie far =
        let all = ties step weights m rows set in
        let none : not (has_member (filter (near u) all) t) ≡ true = ap not (has_member-filter (near u) all t ∙ ap (λ b. b && has_member all t) far) in
        has_member-filter (λ n. not (has_member (filter (near u) all) n)) all t ∙ and_from (not (has_member (filter (near u) all) t)) (has_member all t) none tie

    -- Where the voters of those far from u cannot give the best worth in each of so many choices, each set that these
    -- choices make is made by a choice of one near u.
    module _ (u : ℕ) (tie : has_member (ties step weights m rows set) u ≡ true) (total : ℕ) (room : given step weights rows set (far-from u) < total * tied_worth step weights m rows set) (made : List ℕ) where
      abbrev pub Begins : Type 0
      Begins = (v : ℕ) × (has_member (ties step weights m rows set) v ≡ true) × (near u v ≡ true) × LeadsTo step weights m rows made (total - 1) (change step set v)

      walk : (n : ℕ) (together now : List ℕ) → IsApart together → ((s : ℕ) → has_member together s ≡ true → near u s ≡ false) → length together + n ≡ total → IsIncreasing 1 m now
          → ((x : ℕ) → clone_count rows (picked step m now) x ≡ clone_count rows (picked step m set) x + clone_count rows together x) → LeadsTo step weights m rows made n now → Begins
      walk zero together now is far long up' at leads =
          let best = tied_worth step weights m rows set in
          let used : length together * best ≤ given step weights rows set (far-from u) =
          apart-given step weights set m together (far-from u) is.increasing (λ t inside. far-member u t (is.tied t inside) (far t inside)) rows best is.apart
          (λ t inside. tied-reaches step weights m rows ballots falls set up t (tied-is step weights m rows set t (is.tied t inside))) in
          let all : length together * best ≡ total * best = ap (λ n. n * best) (omega (arith, long)) in
          absurd (omega (arith, used, all, room))
      walk (suc n) together now is far long up' at leads =
          let c : ℕ = leads.0 in
          let free = choice-open step weights m rows now c leads.1 in
          let t = next-tied together is u tie (λ s inside. (far-parts u s (far s inside)).1) now up' at c leads.1 in
          let more = apart-more together is t.0 t.1 t.3 in
          let out = u-out together is t.0 t.1 t.3 now up' at in
          let next = change step now c in
          let next-up = change-increasing step m now c up' free in
          let next-at : (x : ℕ) → clone_count rows (picked step m next) x ≡ clone_count rows (picked step m set) x + clone_count rows (with_member together t.0) x =
          λ x. omega (arith, at x, count-change step (are_clones rows x) m now c up' free, count-with (are_clones rows x) together t.0 out, bits-same c t.0 x t.2) in
          elim (cases_Bool (near u t.0)) [
            | inl is-near ↦ (t.0, t.1, is-near, first-of together is t.0 t.1 t.3 out n next next-up next-at (omega (arith, long)) leads.2)
            | inr is-far ↦
                walk n (with_member together t.0) next more
                (λ s inside. elim (member-with together t.0 s inside) [ inl same ↦ subst (λ x. near u x ≡ false) same is-far | inr old ↦ far s old ])
                (omega (arith, long, count-with (λ (x : ℕ). true) together t.0 out, length-sum together, length-sum (with_member together t.0))) next-up next-at leads.2
          ]
        where
          -- it may be chosen before them
          first-of : (together : List ℕ) (is : IsApart together) (t : ℕ) → has_member (ties step weights m rows set) t ≡ true → ((s : ℕ) → has_member together s ≡ true → share_voter step weights rows set t s ≡ false) → has_member together t ≡ false
              → (n : ℕ) (next : List ℕ) → IsIncreasing 1 m next → ((x : ℕ) → clone_count rows (picked step m next) x ≡ clone_count rows (picked step m set) x + clone_count rows (with_member together t) x) → length together + n + 1 ≡ total
              → LeadsTo step weights m rows made n next → LeadsTo step weights m rows made (total - 1) (change step set t)
          first-of together is t tie' none out n next next-up next-at long leads =
              let more = apart-more together is t tie' none in
              let all = with-is (with_member together t) more in
              let last = with-all (with_member together t) in
              let free = tied-open step weights m rows set t tie' in
              let one = λ (x : ℕ). count-change step (are_clones rows x) m set t up free in
              let e : length together + n ≡ total - 1 = omega (arith, long) in
              subst (λ i. LeadsTo step weights m rows made i (change step set t)) e
              (leads-joined step weights m rows ballots falls (length together) n (change step set t) last made (change-increasing step m set t up free) all.0
              (may-leads step weights m rows ballots falls set last
              (λ made' c' up'' ahead free' above. still-tied (with_member together t) more made' up'' ahead c' free' (λ x. omega (arith, above x, all.1 (are_clones rows x))))
              (length together) last (change step set t) (change-increasing step m set t up free) all.0 (λ x. omega (arith, one x))
              (λ x. omega (arith, one x, all.1 (are_clones rows x), count-with (are_clones rows x) together t out)) (λ x. omega arith)
              (omega (
                arith,
                chosen-change step m set t up free,
                all.1 (λ (x : ℕ). true),
                length-sum (picked step m set),
                length-sum (picked step m last),
                length-sum together,
                count-with (λ (x : ℕ). true) together t out,
              )))
              (leads-moved step weights m rows ballots falls n made next last next-up all.0
              (λ x. omega (arith, next-at x, all.1 (are_clones rows x)), λ x. omega (arith, next-at x, all.1 (are_clones rows x))) leads))

      pub begins-near : LeadsTo step weights m rows made total set → Begins
      begins-near leads =
          walk total [] set (record { increasing = tt; tied = λ t inside. absurd (let f : false ≡ true = inside in cc); apart = λ c d inside. absurd (let f : false ≡ true = inside in cc) }) (λ s inside. absurd (let f : false ≡ true = inside in cc))
          (omega arith) up (λ x. omega arith) leads

    -- ---- candidates apart, and ties that last

    -- each set between the set and that with candidates apart is made by choices among them
    pub apart-leads : (together : List ℕ) → IsApart together → (made : List ℕ) → IsIncreasing 1 m made → IsAhead step m rows set made → IsAhead step m rows made (with-all together) → (n : ℕ) → chosen step m made ≡ chosen step m set + n
        → LeadsTo step weights m rows made n set
    apart-leads together is made up' ahead until n sized =
        let all = with-is together is in
        may-leads step weights m rows ballots falls set (with-all together)
        (λ made' c up'' from free above. still-tied together is made' up'' from c free (λ x. omega (arith, above x, all.1 (are_clones rows x)))) n made set up up' (λ x. omega arith) ahead until sized

    -- Where each candidate is near so few of those who tie that some of them still tie after all choices but one, the
    -- choices are made among those who tie now.
    module _ (total : ℕ) (some : 0 < length (ties step weights m rows set)) (few : (t : ℕ) → has_member (ties step weights m rows set) t ≡ true → (total - 1) * length (filter (near t) (ties step weights m rows set)) < length (ties step weights m rows set)) (made : List ℕ) where
      -- those who are chosen
      pub record IsSpread : Type 0 where
        pub together : List ℕ
        pub apart : IsApart together
        pub long : length together ≡ total
        pub made-is : (x : ℕ) → clone_count rows (picked step m made) x ≡ clone_count rows (picked step m set) x + clone_count rows together x

      spread : (n : ℕ) (together now : List ℕ) → IsApart together → length together + n ≡ total → IsIncreasing 1 m now → ((x : ℕ) → clone_count rows (picked step m now) x ≡ clone_count rows (picked step m set) x + clone_count rows together x) → LeadsTo step weights m rows made n now → IsSpread
      spread zero together now is long up' at leads = record { together = together; apart = is; long = omega (arith, long); made-is = λ x. omega (arith, leads.0 x, leads.1 x, at x) }
      spread (suc n) together now is long up' at leads =
          let c : ℕ = leads.0 in
          let free = choice-open step weights m rows now c leads.1 in
          let tied = ties step weights m rows set in
          let u = some-uncovered near tied (total - 1) together (omega (arith, long)) some (λ s inside. omega (arith, few s (is.tied s inside), ap (λ i. (total - 1) * i) (length-filter (near s) tied))) in
          let t = next-tied together is u.0 u.1 (λ s inside. sharing-turned s u.0 rows (far-parts s u.0 (u.2 s inside)).1) now up' at c leads.1 in
          let more = apart-more together is t.0 t.1 t.3 in
          let out = u-out together is t.0 t.1 t.3 now up' at in
          spread n (with_member together t.0) (change step now c) more (omega (arith, long, count-with (λ (x : ℕ). true) together t.0 out, length-sum together, length-sum (with_member together t.0)))
          (change-increasing step m now c up' free) (λ x. omega (arith, at x, count-change step (are_clones rows x) m now c up' free, count-with (are_clones rows x) together t.0 out, bits-same c t.0 x t.2)) leads.2

      pub spreads : LeadsTo step weights m rows made total set → IsSpread
      spreads leads = spread total [] set (record { increasing = tt; tied = λ t inside. absurd (let f : false ≡ true = inside in cc); apart = λ c d inside. absurd (let f : false ≡ true = inside in cc) }) (omega arith) up (λ y. omega arith) leads

      -- then nobody is chosen outside a list of tied candidates that has them all
      pub within-all : (is : IsSpread) (among : List ℕ) → IsIncreasing 1 m among → ((t : ℕ) → has_member among t ≡ true → has_member (ties step weights m rows set) t ≡ true) → ((t : ℕ) → has_member is.together t ≡ true → has_member among t ≡ true) → IsAhead step m rows made (with-all among)
      within-all is among up'' tied within x =
          omega (
            arith,
            is.made-is x,
            (changed-all step m 1 set among up up'' (λ t inside. tied-open step weights m rows set t (tied t inside))).1 (are_clones rows x),
            count-included (are_clones rows x) m is.together among is.apart.increasing up'' within,
          )

      -- and each of them may be chosen at once
      pub chosen-first : (is : IsSpread) → IsIncreasing 1 m made → (u : ℕ) → has_member is.together u ≡ true → chosen step m made ≡ chosen step m set + total → LeadsTo step weights m rows made (total - 1) (change step set u)
      chosen-first is up' u inside sized =
          let together = is.together in
          let all = with-is together is.apart in
          let free = tied-open step weights m rows set u (is.apart.tied u inside) in
          let one = λ (x : ℕ). count-change step (are_clones rows x) m set u up free in
          may-leads step weights m rows ballots falls set (with-all together)
          (λ made' c up'' from free' above. still-tied together is.apart made' up'' from c free' (λ x. omega (arith, above x, all.1 (are_clones rows x)))) (total - 1) made (change step set u) (change-increasing step m set u up free) up'
          (λ x. omega (arith, one x)) (λ x. omega (arith, one x, is.made-is x, count-without (are_clones rows x) 1 m together u is.apart.increasing inside)) (λ x. omega (arith, is.made-is x, all.1 (are_clones rows x)))
          (omega (arith, sized, chosen-change step m set u up free, is.long, length-sum together, count-without (λ (x : ℕ). true) 1 m together u is.apart.increasing inside))
