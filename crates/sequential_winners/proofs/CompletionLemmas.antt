-- Which families have a committee of a set and of some of the candidates after it: those that the set lacks of each
-- class are added one by one, and fit, and more of them can be added up to the most.
use Rattle.std.proofs.lemmas.Grind.{common_steps}
use Rattle.std.proofs.Common.{◌≡◌, ℕ, zero, suc, ◌+◌, ◌-◌, ◌≤◌, ◌∙◌, Bool, true, false, cond, not, ◌&&◌, ◌<◌, List, [], ◌∷◌, ◌++◌, sym, ap, subst, arith, inl, inr, filter, length, length-append, append_assoc, count_by, append-nil}
use Rattle.std.specs.Prelude.{fold, nat_le}
use Rattle.std.specs.List.{list_any, range_with_len}
use Rattle.std.proofs.lemmas.Bool.{cases_Bool, cases_lt, both_ways, le-leb, leb-true, not-true, and_parts, and_from}
use Rattle.std.proofs.Math.Bool.{and_comm}
use Rattle.ballot_base.specs.Lists.{IsIncreasing, increasing_lists}
use Rattle.ballot_base.specs.CandSet.{has_member, with_member}
use Rattle.ballot_base.specs.Ballots.{Row}
use Rattle.ballot_base.proofs.Committees.{increasing_lists-contains, chosen-from_contains}
use Rattle.ballot_base.proofs.Increasing.{IsIncreasing-filter, IsIncreasing-higher, IsIncreasing-lower, IsIncreasing-push, IsIncreasing-with_member, has_member-above, has_member-below, has_member-filter, length-with_member, same_increasing, with_member-above}
use Rattle.ballot_base.proofs.Sums.{sum-among}
use Rattle.tie_walk.proofs.LawLemmas.{IsIncreasing-range}
use Rattle.tie_walk.proofs.StepLemmas.{has_member-range}
use Rattle.ballot_base.specs.Clones.{are_clones}
use Rattle.sequential_winners.specs.Clones.{clone_count, has_as_many, is_between}
use Rattle.sequential_winners.specs.Steps.Families.{may_be_in}
use Rattle.sequential_winners.specs.Steps.Levels.{IsBelow}
use Rattle.sequential_winners.specs.Steps.Tables.{completed, completed_by}
use Rattle.sequential_winners.proofs.CloneLemmas.{clones-sameness}
use Rattle.sequential_winners.proofs.Lists.{same_tests}
use Rattle.sequential_winners.proofs.Numbers.{bit, count-append, count-cons, count-class, count-parts, count-with, length-within, some-passes, some-more}
use Rattle.sequential_winners.proofs.TableLemmas.{completed-with, completed-same}
use Rattle.sequential_winners.proofs.WinnerLemmas.{many-from, below-from, any-from, any-at}

-- a set and candidates after it
pub joined-increasing : (c m : ℕ) (first : ℕ) (set added : List ℕ) → first ≤ c + 1 → c ≤ m → IsIncreasing first c set → IsIncreasing (c + 1) m added → IsIncreasing first m (set ++ added)
joined-increasing c m first [] added low fits up up' = IsIncreasing-lower first (c + 1) m added low up'
joined-increasing c m first (x ∷ set) added low fits up up' =
    (up.0, omega (arith, up.1, fits), joined-increasing c m (x + 1) set added (omega (arith, up.1)) fits up.2 up')

bounded : (first last : ℕ) (xs : List ℕ) (x : ℕ) → IsIncreasing first last xs → has_member xs x ≡ true → (first ≤ x) × (x ≤ last)
bounded first last xs x up inside =
    grind (arith, common_steps, cases_lt, both_ways, has_member-below, last, has_member-above)

-- of a list with more that pass there is one outside the other
missing : (p : ℕ → Bool) (first last : ℕ) (xs ys : List ℕ) → IsIncreasing first last xs → IsIncreasing first last ys → count_by p xs < count_by p ys
    → (x : ℕ) × (has_member ys x ≡ true) × (p x ≡ true) × (has_member xs x ≡ false)
missing p first last xs ys up up' less =
    let both : filter (has_member xs) ys ≡ filter (has_member ys) xs =
    same_increasing first last (filter (has_member xs) ys) (filter (has_member ys) xs) (IsIncreasing-filter (has_member xs) first last ys up') (IsIncreasing-filter (has_member ys) first last xs up)
    (λ n. has_member-filter (has_member xs) ys n ∙ and_comm (has_member xs n) (has_member ys n) ∙ sym (has_member-filter (has_member ys) xs n)) in
    let x = some-passes p (filter (λ n. not (has_member xs n)) ys)
    (omega (arith, less, ap (count_by p) both, count-parts p (has_member xs) ys, count-parts p (has_member ys) xs)) in
    let parts = and_parts (not (has_member xs x.0)) (has_member ys x.0) (sym (has_member-filter (λ n. not (has_member xs n)) ys x.0) ∙ x.1) in
    (x.0, parts.1, x.2, not-true (has_member xs x.0) parts.0)

-- a list of as many, from one list that has no more of each class than another
module _ (rows : List Row) (first last : ℕ) (full : List ℕ) (up' : IsIncreasing first last full) where
  pub record IsFilled (left : ℕ) (taken : List ℕ) : Type 0 where
    pub added : List ℕ
    pub candidates : IsIncreasing first last added
    pub size : length added ≡ left
    pub least : IsBelow rows taken added
    pub most : IsBelow rows added full

  filled : (n left : ℕ) (taken : List ℕ) → length taken + n ≡ left → IsIncreasing first last taken → IsBelow rows taken full → left ≤ length full → IsFilled left taken
  filled zero left taken all up below fits = record { added = taken; candidates = up; size = omega (arith, all); least = λ y. omega arith; most = below }
  filled (suc n) left taken all up below fits =
      let y = some-more (are_clones rows) (clones-sameness rows) taken full (omega (arith, all, fits)) in
      let x = missing (are_clones rows y.0) first last taken full up up' y.2 in
      let bounds = bounded first last full x.0 up' x.1 in
      let grown = λ (z : ℕ). count-with (are_clones rows z) taken x.0 x.3 in
      let rest = filled n left (with_member taken x.0) (omega (arith, all, length-with_member taken x.0 x.3)) (IsIncreasing-with_member first last taken x.0 bounds.0 bounds.1 up)
      (λ z. elim (cases_Bool (are_clones rows z x.0)) [
        | inl same ↦
            let zy : are_clones rows z y.0 ≡ true = (clones-sameness rows).joined z x.0 y.0 same ((clones-sameness rows).turned y.0 x.0 x.2) in
            omega (arith, grown z, ap bit same, y.2, count-class (are_clones rows) (clones-sameness rows) z y.0 taken zy, count-class (are_clones rows) (clones-sameness rows) z y.0 full zy)
        | inr apart ↦ omega (arith, grown z, ap bit apart, below z)
      ])
      fits in
      record { added = rest.added; candidates = rest.candidates; size = rest.size; least = λ z. omega (arith, grown z, rest.least z); most = rest.most }

-- ---- a set with what it lacks

module _ (rows : List Row) (family : List ℕ) where
  -- what the completed set has, with n candidates after c
  pub record IsCompleted (c n : ℕ) (set whole : List ℕ) : Type 0 where
    pub taken : List ℕ
    pub candidates : IsIncreasing (c + 1) (c + n) taken
    pub is : whole ≡ set ++ taken
    pub least : (other : List ℕ) → IsBelow rows family other → IsBelow rows set other → IsBelow rows whole other
    pub enough : (y k : ℕ) → k ≤ clone_count rows family y → k ≤ clone_count rows set y + count_by (are_clones rows y) (range_with_len (c + 1) n) → k ≤ clone_count rows whole y

  pub completed-is : (n c : ℕ) (set : List ℕ) → IsIncreasing 1 c set → IsCompleted c n set (fold (completed_by rows family) set (range_with_len (c + 1) n))
  completed-is zero c set up = record {
    taken = [];
    candidates = tt;
    is = sym (append-nil set);
    least = λ other below below'. below';
    enough = λ y k few h. omega (arith, h);
  }
  completed-is (suc n) c set up = elim (cases_lt (clone_count rows set (c + 1)) (clone_count rows family (c + 1))) [
    | inl less ↦
        let x : ℕ = c + 1 in
        let new : has_member set x ≡ false = has_member-above 1 c set x up (omega arith) in
        let grown : completed_by rows family set x ≡ set ++ x ∷ [] = completed-with rows family set x less ∙ with_member-above 1 c set x up (omega arith) in
        let rest = completed-is n x (set ++ x ∷ []) (IsIncreasing-push 1 c set x up (omega arith) (omega arith)) in
        let own = λ (y : ℕ). count-append (are_clones rows y) set (x ∷ []) in
        let one = λ (y : ℕ). count-cons (are_clones rows y) x [] in
        subst (λ s. IsCompleted c (suc n) set (fold (completed_by rows family) s (range_with_len (x + 1) n))) (sym grown)
        (record {
          taken = x ∷ rest.taken;
          candidates = (omega arith, omega arith, IsIncreasing-higher (x + 1) (x + n) (c + suc n) rest.taken (omega arith) rest.candidates);
          is = rest.is ∙ append_assoc set (x ∷ []) rest.taken;
          least = λ other below below'. rest.least other below (λ y. elim (cases_Bool (are_clones rows y x)) [
            | inl same ↦
                omega (
                  arith,
                  own y,
                  one y,
                  ap bit same,
                  below x,
                  count-class (are_clones rows) (clones-sameness rows) y x set same,
                  count-class (are_clones rows) (clones-sameness rows) y x other same,
                )
            | inr apart ↦ omega (arith, own y, one y, ap bit apart, below' y)
          ]);
          enough = λ y k few h. rest.enough y k few (omega (arith, h, own y, one y, count-cons (are_clones rows y) x (range_with_len (x + 1) n)));
        })
    | inr enough' ↦
        let x : ℕ = c + 1 in
        let rest = completed-is n x set (IsIncreasing-higher 1 c x set (omega arith) up) in
        subst (λ s. IsCompleted c (suc n) set (fold (completed_by rows family) s (range_with_len (x + 1) n))) (sym (completed-same rows family set x enough'))
        (record {
          taken = rest.taken;
          candidates = IsIncreasing-lower (c + 1) (x + 1) (c + suc n) rest.taken (omega arith) (IsIncreasing-higher (x + 1) (x + n) (c + suc n) rest.taken (omega arith) rest.candidates);
          is = rest.is;
          least = rest.least;
          enough = λ y k few h. rest.enough y k few (elim (cases_Bool (are_clones rows y x)) [
            | inl same ↦
                omega (
                  arith,
                  count-class (are_clones rows) (clones-sameness rows) y x set same,
                  count-class (are_clones rows) (clones-sameness rows) y x family same,
                )
            | inr apart ↦ omega (arith, h, ap bit apart, count-cons (are_clones rows y) x (range_with_len (x + 1) n))
          ]);
        })
  ]

-- a family may have a committee of the set and of `left` candidates after c exactly where it has one
module _ (m : ℕ) (rows : List Row) (c : ℕ) (set : List ℕ) (left : ℕ) (family : List ℕ × List ℕ) (within : c ≤ m) (up : IsIncreasing 1 c set) (inside : IsIncreasing 1 m family.0) where
  all : List ℕ
  all = completed c m rows set family.0

  full : List ℕ
  full = completed c m rows set family.1

  last : c + (m - c) ≡ m
  last = omega (arith, within)

  to_all : IsCompleted rows family.0 c (m - c) set all
  unfolding all
  to_all = completed-is rows family.0 (m - c) c set up

  to_full : IsCompleted rows family.1 c (m - c) set full
  unfolding full
  to_full = completed-is rows family.1 (m - c) c set up

  -- a set and candidates after it have no more of a class than the set and all of them
  joined-most : (added : List ℕ) → IsIncreasing (c + 1) m added → (y : ℕ) → clone_count rows (set ++ added) y ≤ clone_count rows set y + count_by (are_clones rows y) (range_with_len (c + 1) (m - c))
  joined-most added up' y =
      let range = range_with_len (c + 1) (m - c) in
      let lower = λ (list : List ℕ). IsIncreasing-lower 1 (c + 1) m list (omega arith) in
      omega (
        arith,
        count-append (are_clones rows y) set added,
        sum-among (λ x. cond (are_clones rows y x) 1 0) m added range (lower added up') (lower range (IsIncreasing-range (c + 1) (m - c) m (omega (arith, within))))
            (λ n here. let bounds = bounded (c + 1) m added n up' here in has_member-range (c + 1) (m - c) n bounds.0 (omega (arith, bounds.1))),
      )

  may-from : (added : List ℕ) → IsIncreasing (c + 1) m added → length added ≡ left → is_between m rows family.0 family.1 (set ++ added) ≡ true → may_be_in m rows c set left family ≡ true
  unfolding all full
  may-from added up' size between =
      let joined : List ℕ = set ++ added in
      let parts = and_parts (has_as_many m rows joined family.0) (has_as_many m rows family.1 joined) between in
      let above : IsBelow rows family.0 joined = below-from m rows family.0 joined inside parts.0 in
      let under : IsBelow rows joined family.1 = below-from m rows joined family.1 (joined-increasing c m 1 set added (omega arith) within up up') parts.1 in
      let least : IsBelow rows all joined = to_all.least joined above (λ y. omega (arith, count-append (are_clones rows y) set added)) in
      let most : IsBelow rows joined full = λ y. to_full.enough y (clone_count rows joined y) (under y) (joined-most added up' y) in
      let short : length all ≤ length set + left = omega (arith, size, length-append set added, length-within (are_clones rows) (clones-sameness rows) all joined least) in
      let long : length set + left ≤ length full = omega (arith, size, length-append set added, length-within (are_clones rows) (clones-sameness rows) joined full most) in
      let enough : IsBelow rows family.0 all = λ y. to_all.enough y (clone_count rows family.0 y) (omega arith) (omega (arith, above y, joined-most added up' y)) in
      let room : IsBelow rows all family.1 = λ y. omega (arith, least y, under y) in
      and_from (nat_le (length all) (length set + left) && is_between m rows family.0 family.1 all) (nat_le (length set + left) (length full))
      (and_from (nat_le (length all) (length set + left)) (is_between m rows family.0 family.1 all) (le-leb (length all) (length set + left) short)
      (and_from (has_as_many m rows all family.0) (has_as_many m rows family.1 all) (many-from m rows family.0 all enough) (many-from m rows all family.1 room)))
      (le-leb (length set + left) (length full) long)

  may-to : may_be_in m rows c set left family ≡ true → (added : List ℕ) × IsIncreasing (c + 1) m added × (length added ≡ left) × (is_between m rows family.0 family.1 (set ++ added) ≡ true)
  unfolding all full
  may-to may =
      let parts = and_parts (nat_le (length all) (length set + left) && is_between m rows family.0 family.1 all) (nat_le (length set + left) (length full)) may in
      let parts' = and_parts (nat_le (length all) (length set + left)) (is_between m rows family.0 family.1 all) parts.0 in
      let both = and_parts (has_as_many m rows all family.0) (has_as_many m rows family.1 all) parts'.1 in
      let taken : IsIncreasing (c + 1) m to_all.taken = subst (λ n. IsIncreasing (c + 1) n to_all.taken) last to_all.candidates in
      let taken' : IsIncreasing (c + 1) m to_full.taken = subst (λ n. IsIncreasing (c + 1) n to_full.taken) last to_full.candidates in
      let few : length to_all.taken ≤ left = omega (arith, leb-true (length all) (length set + left) parts'.0, ap length to_all.is, length-append set to_all.taken) in
      let many : left ≤ length to_full.taken = omega (arith, leb-true (length set + left) (length full) parts.1, ap length to_full.is, length-append set to_full.taken) in
      let above : IsBelow rows family.0 all = below-from m rows family.0 all inside both.0 in
      let under : IsBelow rows all family.1 =
      below-from m rows all family.1 (subst (IsIncreasing 1 m) (sym to_all.is) (joined-increasing c m 1 set to_all.taken (omega arith) within up taken)) both.1 in
      let own = λ (y : ℕ). ap (count_by (are_clones rows y)) to_all.is in
      let own' = λ (y : ℕ). ap (count_by (are_clones rows y)) to_full.is in
      let most : IsBelow rows full family.1 = to_full.least family.1 (λ y. omega arith) (λ y. omega (arith, under y, own y, count-append (are_clones rows y) set to_all.taken)) in
      let below : IsBelow rows to_all.taken to_full.taken = λ y.
      omega (
        arith,
        to_full.enough y (clone_count rows all y) (under y) (omega (arith, own y, joined-most to_all.taken taken y)),
        own y,
        own' y,
        count-append (are_clones rows y) set to_all.taken,
        count-append (are_clones rows y) set to_full.taken,
      ) in
      let more = filled rows (c + 1) m to_full.taken taken' (left - length to_all.taken) left to_all.taken (omega (arith, few)) taken below many in
      let joined : List ℕ = set ++ more.added in (
        more.added,
        more.candidates,
        more.size,
        and_from (has_as_many m rows joined family.0) (has_as_many m rows family.1 joined)
            (many-from m rows family.0 joined
            (λ y. omega (arith, above y, own y, count-append (are_clones rows y) set to_all.taken, count-append (are_clones rows y) set more.added, more.least y)))
            (many-from m rows joined family.1
            (λ y. omega (arith, most y, own' y, count-append (are_clones rows y) set to_full.taken, count-append (are_clones rows y) set more.added, more.most y))),
      )

  pub may-is : may_be_in m rows c set left family ≡ list_any (λ added. is_between m rows family.0 family.1 (set ++ added)) (increasing_lists (c + 1) m left)
  may-is =
      let test : List ℕ → Bool = λ (added : List ℕ). is_between m rows family.0 family.1 (set ++ added) in
      let lists = increasing_lists (c + 1) m left in
      same_tests (may_be_in m rows c set left family) (list_any test lists)
      (λ may.
      let some = may-to may in
      any-from test lists some.0 (increasing_lists-contains (c + 1) m left some.0 (some.1, some.2)) some.3)
      (λ any.
      let some = any-at test lists any in
      let chosen = chosen-from_contains (c + 1) m left some.0 some.1 in
      may-from some.0 chosen.0 chosen.1 some.2)
