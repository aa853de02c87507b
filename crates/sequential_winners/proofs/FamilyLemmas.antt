-- The families of the last level have the winners of a sequential rule.
use Rattle.std.proofs.Common.{◌≡◌, ℕ, zero, suc, ◌-◌, ◌<◌, ◌≤◌, ◌==◌, ◌||◌, ◌∙◌, Bool, true, false, cond, Some, List, [], ◌∷◌, refl, sym, ap, subst, arith, inl, inr, length, map, Contains}
use Rattle.std.specs.Prelude.{slice_index_or}
use Rattle.std.specs.List.{list_all, list_any, zip, AllByRecursion}
use Rattle.std.specs.List.Sorted.{IsStrictlySortedBy}
use Rattle.std.specs.Cmp.Lexicographic.{slice_cmp}
use Rattle.std.specs.Ordering.{nat_cmp}
use Rattle.std.proofs.lemmas.Bool.{cases_Bool, both_ways, and_parts, and_from, eqb-true, eq-eqb}
use Rattle.std.proofs.lemmas.List.{length-map}
use Rattle.ballot_base.specs.Lists.{IsIncreasing}
use Rattle.ballot_base.specs.Ballots.{Row, Election}
use Rattle.ballot_base.specs.Clones.{are_clones}
use Rattle.ballot_base.proofs.ListLemmas.{Contains-later}
use Rattle.tie_walk.specs.Sequences.{hit_weights, is_sequential_winner}
use Rattle.tie_walk.specs.Steps.Choices.{step_of, choices_of}
use Rattle.tie_walk.specs.declared.sequential.SeqRule.{SeqRule}
use Rattle.tie_walk.specs.declared.sequential.Step.{Step}
use Rattle.tie_walk.specs.declared.sequential.Step.TheVariants.{Grow, Shrink}
use Rattle.tie_walk.proofs.RowSums.{AreBallots}
use Rattle.sequential_winners.specs.Clones.{has_as_many, is_between}
use Rattle.sequential_winners.specs.Steps.Levels.{end, end_or, chosen, other_end, IsBelow, IsAhead, LeadsTo, IsPlaced, IsFamilyLevel, AreFamilies, AreReached, other_end_by}
use Rattle.sequential_winners.proofs.Lists.{same_tests, count-others}
use Rattle.sequential_winners.proofs.Leads.{span-leads, leads-within}
use Rattle.sequential_winners.proofs.LevelLemmas.{Completes, level-candidates}
use Rattle.sequential_winners.proofs.SpanLemmas.{IsSpan, end-span}
use Rattle.sequential_winners.proofs.WinnerLemmas.{many-from, below-from, any-from, any-at, hit_weights-fall, rule-size, reached-wins, winner-reached}

-- ---- two lists side by side

all-mapped : (P : List ℕ → Type 0) (f : List ℕ → List ℕ) (xs : List (List ℕ)) → ((x : List ℕ) → Contains xs x → P (f x)) → AllByRecursion P (map f xs)
all-mapped P f [] each = tt
all-mapped P f (x ∷ xs) each = (each x (0, omega arith, refl), all-mapped P f xs (λ y inside. each y (Contains-later x y xs inside)))

at-mapped : (R : List ℕ → List ℕ → Type 0) (f : List ℕ → List ℕ) (xs : List (List ℕ)) → ((x : List ℕ) → Contains xs x → R x (f x)) → (i : ℕ) → i < length xs
    → R (slice_index_or xs i []) (slice_index_or (map f xs) i [])
at-mapped R f [] each i inside = absurd (omega (arith, inside))
at-mapped R f (x ∷ xs) each zero inside = each x (0, omega arith, refl)
at-mapped R f (x ∷ xs) each (suc i) inside = at-mapped R f xs (λ y there. each y (Contains-later x y xs there)) i (omega (arith, inside))

same-mapped : (f : List ℕ → List ℕ) (p : List ℕ → Bool) (xs : List (List ℕ)) → ((x : List ℕ) → Contains xs x → p (f x) ≡ true → f x ≡ x) → list_all p (map f xs) ≡ true → map f xs ≡ xs
same-mapped f p [] each all = refl
same-mapped f p (x ∷ xs) each all =
    let parts = and_parts (p (f x)) (list_all p (map f xs)) all in
    ap (λ y. y ∷ map f xs) (each x (0, omega arith, refl) parts.0) ∙ ap (λ l. x ∷ l) (same-mapped f p xs (λ y inside. each y (Contains-later x y xs inside)) parts.1)

-- the least sets of families, and the most, where the other ends are these
abbrev pub leasts_of : Step → List (List ℕ) → List (List ℕ) → List (List ℕ)
leasts_of Grow sets ends = sets
leasts_of Shrink sets ends = ends

abbrev pub mosts_of : Step → List (List ℕ) → List (List ℕ) → List (List ℕ)
mosts_of Grow sets ends = ends
mosts_of Shrink sets ends = sets

abbrev pub is_spanned : Step → ℕ → List Row → List ℕ → List ℕ → List ℕ → Bool
is_spanned Grow m rows committee set other = is_between m rows set other committee
is_spanned Shrink m rows committee set other = is_between m rows other set committee

zipped : (step : Step) (m : ℕ) (rows : List Row) (committee : List ℕ) (f : List ℕ → List ℕ) (sets : List (List ℕ))
    → list_any (λ family. is_between m rows family.0 family.1 committee) (zip (leasts_of step sets (map f sets)) (mosts_of step sets (map f sets)))
    ≡ list_any (λ set. is_spanned step m rows committee set (f set)) sets
zipped Grow m rows committee f [] = refl
zipped Grow m rows committee f (x ∷ xs) = ap (λ b. is_between m rows x (f x) committee || b) (zipped Grow m rows committee f xs)
zipped Shrink m rows committee f [] = refl
zipped Shrink m rows committee f (x ∷ xs) = ap (λ b. is_between m rows (f x) x committee || b) (zipped Shrink m rows committee f xs)

-- where a set shrinks, later ones have fewer of each class
ahead-turned_below : (m : ℕ) (rows : List Row) (x y : List ℕ) → IsIncreasing 1 m x → IsIncreasing 1 m y → IsAhead Shrink m rows x y → IsBelow rows y x
ahead-turned_below m rows x y up up' ahead c = omega (arith, ahead c, count-others (are_clones rows c) m x up, count-others (are_clones rows c) m y up')

below-turned_ahead : (m : ℕ) (rows : List Row) (x y : List ℕ) → IsIncreasing 1 m x → IsIncreasing 1 m y → IsBelow rows y x → IsAhead Shrink m rows x y
below-turned_ahead m rows x y up up' below c = omega (arith, below c, count-others (are_clones rows c) m x up, count-others (are_clones rows c) m y up')

module _ (m : ℕ) (rows : List Row) (committee set other : List ℕ) (up : IsIncreasing 1 m committee) (up' : IsIncreasing 1 m set) (up'' : IsIncreasing 1 m other) where
  pub spanned-from : (step : Step) → IsAhead step m rows set committee → IsAhead step m rows committee other → is_spanned step m rows committee set other ≡ true
  spanned-from Grow ahead until = and_from (has_as_many m rows committee set) (has_as_many m rows other committee) (many-from m rows set committee ahead) (many-from m rows committee other until)
  spanned-from Shrink ahead until =
      and_from (has_as_many m rows committee other) (has_as_many m rows set committee)
      (many-from m rows other committee (ahead-turned_below m rows committee other up up'' until)) (many-from m rows committee set (ahead-turned_below m rows set committee up' up ahead))

  pub spanned-at : (step : Step) → is_spanned step m rows committee set other ≡ true → IsAhead step m rows set committee × IsAhead step m rows committee other
  spanned-at Grow is =
      let parts = and_parts (has_as_many m rows committee set) (has_as_many m rows other committee) is in
      (below-from m rows set committee up' parts.0, below-from m rows committee other up parts.1)
  spanned-at Shrink is =
      let parts = and_parts (has_as_many m rows committee other) (has_as_many m rows set committee) is in
      (below-turned_ahead m rows set committee up' up (below-from m rows committee set up parts.1), below-turned_ahead m rows committee other up up'' (below-from m rows other committee up'' parts.0))

-- ---- the families of a level, and their other ends

module _ (rule : SeqRule) (e : Election) (k : ℕ) (fits : k ≤ e.m) (ballots : AreBallots e.m e.rows) (sets : List (List ℕ))
    (level : IsFamilyLevel (step_of rule) (hit_weights rule e.m) e.m e.rows (choices_of rule e.m k) (choices_of rule e.m k) sets)
  where
    abbrev step : Step
    step = step_of rule

    abbrev size : ℕ
    size = choices_of rule e.m k

    abbrev other : List ℕ → List ℕ
    other set = other_end step (hit_weights rule e.m) e.m e.rows k set

    -- what is true of a set and the other end of its family
    pub record IsOther (set last : List ℕ) : Type 0 where
      pub increasing : IsIncreasing 1 e.m last
      pub ahead : IsAhead step e.m e.rows set last
      pub same : length last ≡ k → last ≡ set
      pub within : (committee : List ℕ) → Completes step (hit_weights rule e.m) e.m e.rows size committee set → IsAhead step e.m e.rows set committee × IsAhead step e.m e.rows committee last
      pub has : (committee : List ℕ) → IsIncreasing 1 e.m committee → chosen step e.m committee ≡ size → IsAhead step e.m e.rows set committee → IsAhead step e.m e.rows committee last
          → Completes step (hit_weights rule e.m) e.m e.rows size committee set

    -- the other end is the set itself where it is of size k, else its end
    other-is : (set : List ℕ) → Contains sets set → IsOther set (other set)
    other-is set inside = elim (cases_Bool (length set == k)) [
      | inl is ↦
          let many = (rule-size rule e.m k set fits up).0 (eqb-true (length set) k is) in
          subst (IsOther set) (sym (ap (λ b. cond b set (end_or set (end step (hit_weights rule e.m) e.m e.rows set))) is))
          (record {
            increasing = up;
            ahead = λ c. omega arith;
            same = λ long. refl;
            within = λ committee leads. let here = subst (λ n. LeadsTo step (hit_weights rule e.m) e.m e.rows committee n set) (none-left many) leads in (here.0, here.1);
            has = λ committee up' sized ahead until. subst (λ n. LeadsTo step (hit_weights rule e.m) e.m e.rows committee n set) (sym (none-left many)) (ahead, until);
          })
      | inr differs ↦ by differs (level.placed set inside)
    ]
      where
        up : IsIncreasing 1 e.m set
        up = level.candidates set inside

        span : (last : List ℕ) → end step (hit_weights rule e.m) e.m e.rows set ≡ Some last → IsSpan step (hit_weights rule e.m) e.m e.rows set last
        span last is = (end-span step (hit_weights rule e.m) e.m e.rows ballots (hit_weights-fall rule e.m) set last up is).0

        none-left : chosen step e.m set ≡ size → size - chosen step e.m set ≡ 0
        none-left many = omega (arith, many)

        by : (length set == k) ≡ false → IsPlaced step (hit_weights rule e.m) e.m e.rows size size set → IsOther set (other set)
        by differs (few, inl many) = absurd (both_ways (length set == k) differs (eq-eqb (length set) k ((rule-size rule e.m k set fits up).1 (omega (arith, few, many)))))
        by differs (few, inr lasting) =
            let last : List ℕ = lasting.0 in
            let between = span last lasting.1 in
            subst (IsOther set) (sym (ap (λ b. cond b set (end_or set (end step (hit_weights rule e.m) e.m e.rows set))) differs ∙ ap (end_or set) lasting.1))
            (record {
              increasing = between.increasing;
              ahead = between.ahead;
              same = λ long. absurd (omega (arith, (rule-size rule e.m k last fits between.increasing).0 long, lasting.2));
              within = λ committee. leads-within step (hit_weights rule e.m) e.m e.rows ballots (hit_weights-fall rule e.m) set last between (size - chosen step e.m set) committee set up (λ c. omega arith) between.ahead (omega (arith, few, lasting.2));
              has = λ committee up' sized ahead until.
                  span-leads step (hit_weights rule e.m) e.m e.rows ballots (hit_weights-fall rule e.m) set last between (size - chosen step e.m set) committee set up up' (λ c. omega arith) ahead until (omega (arith, few, sized));
            })

    families-win : (committee : List ℕ) → IsIncreasing 1 e.m committee → length committee ≡ k → is_sequential_winner rule e k committee ≡ list_any (λ set. is_spanned step e.m e.rows committee set (other set)) sets
    families-win committee up many =
        let spanned : List ℕ → Bool = λ (set : List ℕ). is_spanned step e.m e.rows committee set (other set) in
        let sized = (rule-size rule e.m k committee fits up).0 many in
        same_tests (is_sequential_winner rule e k committee) (list_any spanned sets)
        (λ wins.
        let s = level.reached committee (winner-reached rule e k committee wins) in
        let last = other-is s.0 s.1 in
        let parts = last.within committee s.2 in
        any-from spanned sets s.0 s.1 (spanned-from e.m e.rows committee s.0 (other s.0) up (level.candidates s.0 s.1) last.increasing step parts.0 parts.1))
        (λ some.
        let s = any-at spanned sets some in
        let last = other-is s.0 s.1 in
        let parts = spanned-at e.m e.rows committee s.0 (other s.0) up (level.candidates s.0 s.1) last.increasing step s.2 in
        reached-wins rule e k committee (level.made committee s.0 up s.1 (last.has committee up sized parts.0 parts.1)))

-- ---- the families of the last level

leasts-are : (step : Step) (P : List ℕ → Type 0) (f : List ℕ → List ℕ) (sets : List (List ℕ)) → AllByRecursion P sets → AllByRecursion P (map f sets) → AllByRecursion P (leasts_of step sets (map f sets))
leasts-are Grow P f sets are ends = are
leasts-are Shrink P f sets are ends = ends

mosts-are : (step : Step) (P : List ℕ → Type 0) (f : List ℕ → List ℕ) (sets : List (List ℕ)) → AllByRecursion P sets → AllByRecursion P (map f sets) → AllByRecursion P (mosts_of step sets (map f sets))
mosts-are Grow P f sets are ends = ends
mosts-are Shrink P f sets are ends = are

are-paired : (step : Step) (f : List ℕ → List ℕ) (sets : List (List ℕ)) → length (mosts_of step sets (map f sets)) ≡ length (leasts_of step sets (map f sets))
are-paired Grow f sets = length-map sets f
are-paired Shrink f sets = sym (length-map sets f)

spans-are : (step : Step) (m : ℕ) (rows : List Row) (f : List ℕ → List ℕ) (sets : List (List ℕ)) → ((set : List ℕ) → Contains sets set → IsIncreasing 1 m set × IsIncreasing 1 m (f set) × IsAhead step m rows set (f set))
    → (i : ℕ) → i < length (leasts_of step sets (map f sets)) → has_as_many m rows (slice_index_or (mosts_of step sets (map f sets)) i []) (slice_index_or (leasts_of step sets (map f sets)) i []) ≡ true
spans-are Grow m rows f sets ahead i inside = at-mapped (λ x y. has_as_many m rows y x ≡ true) f sets (λ x here. many-from m rows x (f x) (ahead x here).2) i inside
spans-are Shrink m rows f sets ahead i inside =
    at-mapped (λ x y. has_as_many m rows x y ≡ true) f sets (λ x here. let a = ahead x here in many-from m rows (f x) x (ahead-turned_below m rows x (f x) a.0 a.1 a.2)) i (omega (arith, inside, length-map sets f))

order-is : (step : Step) (k : ℕ) (f : List ℕ → List ℕ) (sets : List (List ℕ)) → IsStrictlySortedBy (slice_cmp nat_cmp) sets → ((set : List ℕ) → Contains sets set → (length (f set) == k) ≡ true → f set ≡ set)
    → list_all (λ set. length set == k) (leasts_of step sets (map f sets)) ≡ true → IsStrictlySortedBy (slice_cmp nat_cmp) (leasts_of step sets (map f sets))
order-is Grow k f sets order same all = order
order-is Shrink k f sets order same all = subst (IsStrictlySortedBy (slice_cmp nat_cmp)) (sym (same-mapped f (λ set. length set == k) sets same all)) order

level-families : (rule : SeqRule) (e : Election) (k : ℕ) → k ≤ e.m → AreBallots e.m e.rows → (sets : List (List ℕ)) → IsFamilyLevel (step_of rule) (hit_weights rule e.m) e.m e.rows (choices_of rule e.m k) (choices_of rule e.m k) sets
    → AreFamilies rule e k (leasts_of (step_of rule) sets (map (other_end (step_of rule) (hit_weights rule e.m) e.m e.rows k) sets))
    (mosts_of (step_of rule) sets (map (other_end (step_of rule) (hit_weights rule e.m) e.m e.rows k) sets))
level-families rule e k fits ballots sets level =
    let step = step_of rule in
    let f : List ℕ → List ℕ = other_end step (hit_weights rule e.m) e.m e.rows k in
    let last = other-is rule e k fits ballots sets level in
    let ups = level-candidates step (hit_weights rule e.m) e.m e.rows (choices_of rule e.m k) (choices_of rule e.m k) sets level in
    let ends = all-mapped (IsIncreasing 1 e.m) f sets (λ set inside. (last set inside).increasing) in
    record {
      paired = are-paired step f sets;
      least_sets = leasts-are step (IsIncreasing 1 e.m) f sets ups ends;
      most_sets = mosts-are step (IsIncreasing 1 e.m) f sets ups ends;
      spans = spans-are step e.m e.rows f sets (λ set inside. (level.candidates set inside, (last set inside).increasing, (last set inside).ahead));
      order = order-is step k f sets level.order (λ set inside long. (last set inside).same (eqb-true (length (f set)) k long));
      reached = λ committee up many. families-win rule e k fits ballots sets level committee up many ∙ sym (zipped step e.m e.rows committee f sets);
    }

-- the same, by other names for the parts of the level
pub last-families : (rule rule' : SeqRule) (e e' : Election) (k size : ℕ) (step : Step) (sets ends : List (List ℕ)) → rule' ≡ rule → e' ≡ e → k ≤ e.m → AreBallots e.m e.rows → step ≡ step_of rule → size ≡ choices_of rule e.m k
    → AreReached rule' e' size size sets → ends ≡ map (other_end_by rule e k) sets → AreFamilies rule e k (leasts_of step sets ends) (mosts_of step sets ends)
last-families rule rule' e e' k size step sets ends same same' fits ballots by many level ends-are =
    rw (ends-are, by) (level-families rule e k fits ballots sets (rw (same, same', many) at level))
