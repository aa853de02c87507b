-- Who is near a tied candidate, as the code finds it.
use Rattle.std.proofs.lemmas.Grind.{common_steps}
use Rattle.std.proofs.Common.{◌≡◌, ℕ, ◌+◌, ◌<◌, ◌≤◌, ◌==◌, ◌&&◌, ◌||◌, ◌++◌, ◌∙◌, Bool, true, false, cond, List, [], ◌∷◌, Some, slice_get, take, filter, length, refl, sym, ap, subst, arith, inl, inr}
use Rattle.std.specs.Prelude.{nat_lt}
use Rattle.std.specs.List.{list_any}
use Rattle.std.proofs.Math.Bool.{and-false, and_comm}
use Rattle.std.proofs.lemmas.Bool.{cases_Bool, cases_eq, and_from, eq-eqb, ne_eqb, lt-ltb, le-ltb}
use Rattle.std.proofs.lemmas.List.{take_more}
use Rattle.std.proofs.lemmas.Option.{slice_get_within, get_or_from_slice_get}
use Rattle.ballot_base.specs.Limits.{most_candidates}
use Rattle.ballot_base.specs.Lists.{IsIncreasing}
use Rattle.ballot_base.specs.CandSet.{has_member, with_member, either_members, common_members}
use Rattle.ballot_base.specs.Ballots.{Row}
use Rattle.ballot_base.proofs.Increasing.{IsIncreasing-filter, IsIncreasing-with_member, IsIncreasing-either, has_member-filter, has_member-either, has_member-with_member, has_member_tail, same_increasing}
use Rattle.tie_walk.specs.declared.sequential.Step.{Step}
use Rattle.sequential_winners.specs.Steps.Levels.{ties, next_hit, share_voter, is_near, centre}
use Rattle.sequential_winners.specs.Steps.Near.{near_of, first_least}
use Rattle.sequential_winners.proofs.TableNear.{same-least}

or-joined : (a b c : Bool) → (a || (b || c)) ≡ ((a || b) || c)
or-joined true b c = refl
or-joined false b c = refl

any-push : (p : Row → Bool) (rows : List Row) (row : Row) → list_any p (rows ++ row ∷ []) ≡ (list_any p rows || p row)
any-push p [] row = or-none (p row)
  where
    or-none : (b : Bool) → (b || false) ≡ b
    or-none true = refl
    or-none false = refl
any-push p (x ∷ rows) row = ap (λ b. p x || b) (any-push p rows row) ∙ or-joined (p x) (list_any p rows) (p row)

one-member : (xs : List ℕ) (a b : ℕ) → length xs ≤ 1 → has_member xs a ≡ true → has_member xs b ≡ true → a ≡ b
one-member [] a b few here there = absurd (let f : false ≡ true = here in cc)
one-member (x ∷ []) a b few here there = sym (only x a here) ∙ only x b there
  where
    only : (x a : ℕ) → has_member (x ∷ []) a ≡ true → x ≡ a
    only x a here = elim (cases_eq x a) [ inl same ↦ same | inr other ↦ absurd (let f : false ≡ true = sym (has_member_tail x a [] other) ∙ here in cc) ]
one-member (x ∷ y ∷ xs) a b few here there = absurd (omega (arith, few))

-- the rows up to one and the next one
pub take-row : (rows : List Row) (i : ℕ) (row : Row) → slice_get rows i ≡ Some row → take (i + 1) rows ≡ take i rows ++ row ∷ []
take-row rows i row found = take_more rows i row (slice_get_within rows i row found) ∙ ap (λ r. take i rows ++ r ∷ []) (get_or_from_slice_get rows i row row found)

module _ (step : Step) (weights set : List ℕ) (first : ℕ) (ties : List ℕ) where
  -- the candidate and those of the ties who share a voter of these rows with it
  pub record IsNear (rows : List Row) (near : List ℕ) : Type 0 where
    pub increasing : IsIncreasing 1 most_candidates near
    pub members : (t : ℕ) → has_member near t ≡ (has_member ties t && is_near step weights rows set first t)

  pub near-first : has_member ties first ≡ true → 1 ≤ first → first ≤ most_candidates → IsNear [] (with_member [] first)
  near-first inside low high = record { increasing = IsIncreasing-with_member 1 most_candidates [] first low high tt; members = λ t. by t }
    where
      by : (t : ℕ) → ((first == t) || false) ≡ (has_member ties t && ((t == first) || false))
      by t = elim (cases_eq first t) [
        | inl same ↦
            ap (λ b. b || false) (eq-eqb first t same)
            ∙ sym (ap (λ b. b && ((t == first) || false)) (ap (has_member ties) (sym same) ∙ inside) ∙ ap (λ b. b || false) (eq-eqb t first (sym same)))
        | inr other ↦ ap (λ b. b || false) (ne_eqb first t other) ∙ sym (ap (λ b. has_member ties t && (b || false)) (ne_eqb t first (λ e. other (sym e))) ∙ and-false (has_member ties t))
      ]

  more-of : (a g h f t s : Bool) → (g && f) ≡ true → ((t && (a || s)) || (t && h)) ≡ (t && (a || (s || (g && (f && h)))))
  more-of a g h f t s is = grind (arith, common_steps, cases_Bool)

  same-of : (a g h f t s : Bool) → (g && f) ≡ false → (t && (a || s)) ≡ (t && (a || (s || (g && (f && h)))))
  same-of a g h f t s is = grind (arith, common_steps, cases_Bool)

  pub near-more : (rows : List Row) (near : List ℕ) (row : Row) → (nat_lt 0 (next_hit step weights set row) && has_member row.0 first) ≡ true → IsIncreasing 1 most_candidates row.0 → IsNear rows near
      → IsNear (rows ++ row ∷ []) (either_members near (common_members row.0 ties))
  near-more rows near row is ballot so-far = record {
    increasing = IsIncreasing-either 1 most_candidates near (common_members row.0 ties) so-far.increasing (IsIncreasing-filter (has_member ties) 1 most_candidates row.0 ballot);
    members = λ t.
        has_member-either near (common_members row.0 ties) t ∙ ap (λ b. b || has_member (common_members row.0 ties) t) (so-far.members t)
        ∙ ap (λ b. (has_member ties t && is_near step weights rows set first t) || b) (has_member-filter (has_member ties) row.0 t)
        ∙ more-of (t == first) (nat_lt 0 (next_hit step weights set row)) (has_member row.0 t) (has_member row.0 first) (has_member ties t) (share_voter step weights rows set first t) is
        ∙ ap (λ b. has_member ties t && ((t == first) || b)) (sym (any-push (λ (r : Row). nat_lt 0 (next_hit step weights set r) && (has_member r.0 first && has_member r.0 t)) rows row));
  }

  pub near-same : (rows : List Row) (near : List ℕ) (row : Row) → (nat_lt 0 (next_hit step weights set row) && has_member row.0 first) ≡ false → IsNear rows near → IsNear (rows ++ row ∷ []) near
  near-same rows near row is so-far = record {
    increasing = so-far.increasing;
    members = λ t.
        so-far.members t
        ∙ same-of (t == first) (nat_lt 0 (next_hit step weights set row)) (has_member row.0 t) (has_member row.0 first) (has_member ties t) (share_voter step weights rows set first t) is
        ∙ ap (λ b. has_member ties t && ((t == first) || b)) (sym (any-push (λ (r : Row). nat_lt 0 (next_hit step weights set r) && (has_member r.0 first && has_member r.0 t)) rows row));
  }

  -- what a table has of the candidate, where others join
  pub near-joined : (rows : List Row) (others : List ℕ) (row : Row) → (nat_lt 0 (next_hit step weights set row) && has_member row.0 first) ≡ true → IsIncreasing 1 most_candidates row.0 → 1 ≤ first → first ≤ most_candidates → IsIncreasing 1 most_candidates others
      → IsNear rows (with_member others first) → IsNear (rows ++ row ∷ []) (with_member (either_members others (common_members row.0 ties)) first)
  near-joined rows others row is ballot low high up so-far =
      let group : List ℕ = common_members row.0 ties in
      let more = near-more rows (with_member others first) row is ballot so-far in record {
        increasing = IsIncreasing-with_member 1 most_candidates (either_members others group) first low high (IsIncreasing-either 1 most_candidates others group up (IsIncreasing-filter (has_member ties) 1 most_candidates row.0 ballot));
        members = λ t.
            has_member-with_member (either_members others group) first t ∙ ap (λ b. (first == t) || b) (has_member-either others group t) ∙ or-joined (first == t) (has_member others t) (has_member group t)
            ∙ ap (λ b. b || has_member group t) (sym (has_member-with_member others first t)) ∙ sym (has_member-either (with_member others first) group t) ∙ more.members t;
      }

  alone-of : (a g h f t s : Bool) → ((t && h) ≡ true → f ≡ true → a ≡ true) → (t && (a || s)) ≡ (t && (a || (s || (g && (f && h)))))
  alone-of true g h f t s same = refl
  alone-of false g h f false s same = refl
  alone-of false g false f true s same = none-of g f s
    where
      none-of : (g f s : Bool) → s ≡ (s || (g && (f && false)))
      none-of g f s = grind (arith, common_steps, cases_Bool)
  alone-of false g true false true s same = none-of g s
    where
      none-of : (g s : Bool) → s ≡ (s || (g && false))
      none-of g s = grind (arith, common_steps, cases_Bool)
  alone-of false g true true true s same = absurd (let f : false ≡ true = same refl refl in cc)

  -- a ballot with one tied candidate at most brings nobody near another one
  pub near-alone : (rows : List Row) (near : List ℕ) (row : Row) → length (common_members row.0 ties) ≤ 1 → has_member ties first ≡ true → IsNear rows near → IsNear (rows ++ row ∷ []) near
  near-alone rows near row few tie so-far = record {
    increasing = so-far.increasing;
    members = λ t.
        so-far.members t
        ∙ alone-of (t == first) (nat_lt 0 (next_hit step weights set row)) (has_member row.0 t) (has_member row.0 first) (has_member ties t) (share_voter step weights rows set first t)
        (λ both of-first. eq-eqb t first (one-member (common_members row.0 ties) t first few (has_member-filter (has_member ties) row.0 t ∙ both)
        (has_member-filter (has_member ties) row.0 first ∙ ap (λ b. b && has_member row.0 first) tie ∙ of-first)))
        ∙ ap (λ b. has_member ties t && ((t == first) || b)) (sym (any-push (λ (r : Row). nat_lt 0 (next_hit step weights set r) && (has_member r.0 first && has_member r.0 t)) rows row));
  }

  pub near-is : (rows : List Row) (near : List ℕ) → IsIncreasing 1 most_candidates ties → IsNear rows near → near ≡ filter (is_near step weights rows set first) ties
  near-is rows near up so-far =
      same_increasing 1 most_candidates near (filter (is_near step weights rows set first) ties) so-far.increasing (IsIncreasing-filter (is_near step weights rows set first) 1 most_candidates ties up)
      (λ t. so-far.members t ∙ and_comm (has_member ties t) (is_near step weights rows set first t) ∙ sym (has_member-filter (is_near step weights rows set first) ties t))

  -- where a group joins
  pub joined-near : (rows : List Row) (old new : List ℕ) (row : Row) (group : List ℕ) → group ≡ common_members row.0 ties → new ≡ cond (has_member group first) (either_members old group) old → 0 < next_hit step weights set row → IsIncreasing 1 most_candidates row.0
      → has_member ties first ≡ true → 1 ≤ first → first ≤ most_candidates → IsIncreasing 1 most_candidates old → IsNear rows (with_member old first) → IsNear (rows ++ row ∷ []) (with_member new first)
  joined-near rows old new row group group-is new-is some ballot tie low high up so-far = elim (cases_Bool (has_member group first)) [
    | inl inside ↦
        let entry : new ≡ either_members old (common_members row.0 ties) = new-is ∙ ap (λ b. cond b (either_members old group) old) inside ∙ ap (either_members old) group-is in
        subst (λ l. IsNear (rows ++ row ∷ []) (with_member l first)) (sym entry)
        (near-joined rows old row (and_from (nat_lt 0 (next_hit step weights set row)) (has_member row.0 first) (lt-ltb 0 (next_hit step weights set row) some) (sym member ∙ inside)) ballot low high up so-far)
    | inr out ↦
        let entry : new ≡ old = new-is ∙ ap (λ b. cond b (either_members old group) old) out in
        subst (λ l. IsNear (rows ++ row ∷ []) (with_member l first)) (sym entry)
        (near-same rows (with_member old first) row (ap (λ b. nat_lt 0 (next_hit step weights set row) && b) (sym member ∙ out) ∙ and-false (nat_lt 0 (next_hit step weights set row))) so-far)
  ]
    where
      member : has_member group first ≡ has_member row.0 first
      member = ap (λ l. has_member l first) group-is ∙ has_member-filter (has_member ties) row.0 first ∙ ap (λ b. b && has_member row.0 first) tie

  -- a voter who gives nothing brings nobody near
  pub quiet-near : (rows : List Row) (near : List ℕ) (row : Row) → next_hit step weights set row ≡ 0 → IsNear rows near → IsNear (rows ++ row ∷ []) near
  quiet-near rows near row none so-far =
      near-same rows near row (ap (λ b. b && has_member row.0 first) (le-ltb 0 (next_hit step weights set row) (omega (arith, none)))) so-far

pub joined-rises : (b : Bool) (old group : List ℕ) → IsIncreasing 1 most_candidates old → IsIncreasing 1 most_candidates group → IsIncreasing 1 most_candidates (cond b (either_members old group) old)
joined-rises true old group up up' = IsIncreasing-either 1 most_candidates old group up up'
joined-rises false old group up up' = up

common-own : (p : ℕ → Bool) (set : List ℕ) → IsIncreasing 1 most_candidates set → common_members (filter p set) set ≡ filter p set
common-own p set up =
    let up' = IsIncreasing-filter p 1 most_candidates set up in
    same_increasing 1 most_candidates (common_members (filter p set) set) (filter p set) (IsIncreasing-filter (has_member set) 1 most_candidates (filter p set) up') up'
    (λ n. has_member-filter (has_member set) (filter p set) n ∙ ap (λ b. has_member set n && b) (has_member-filter p set n) ∙ twice (has_member set n) (p n) ∙ sym (has_member-filter p set n))
  where
    twice : (h p : Bool) → (h && (p && h)) ≡ (p && h)
    twice h p = grind (arith, common_steps, cases_Bool)

-- the centre that the code finds
pub centre-is : (step : Step) (weights : List ℕ) (m : ℕ) (rows : List Row) (set tied : List ℕ) (table : List (List ℕ)) (middle : ℕ) → tied ≡ ties step weights m rows set → IsIncreasing 1 most_candidates tied
    → ((c : ℕ) → has_member tied c ≡ true → near_of table c ≡ filter (is_near step weights rows set c) tied) → middle ≡ first_least (λ n. length (common_members (near_of table n) tied)) tied → middle ≡ centre step weights m rows set
centre-is step weights m rows set tied table middle tied-are up near is =
    is
    ∙ same-least (λ n. length (common_members (near_of table n) tied)) (λ n. length (filter (is_near step weights rows set n) tied)) tied
    (λ n tie. ap length (ap (λ l. common_members l tied) (near n tie) ∙ common-own (is_near step weights rows set n) tied up))
    ∙ ap (λ t. first_least (λ n. length (filter (is_near step weights rows set n) t)) t) tied-are
