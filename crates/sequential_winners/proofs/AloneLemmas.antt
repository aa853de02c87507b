-- Candidates without clones: a set has one of the class or none. So they are counted and added as sets.
use Rattle.std.proofs.Common.{◌≡◌, ℕ, zero, suc, ◌+◌, ◌-◌, ◌<◌, ◌≤◌, ◌==◌, ◌&&◌, ◌||◌, ◌∙◌, Bool, true, false, not, List, [], ◌∷◌, ◌++◌, refl, sym, ap, subst, arith, inl, inr, filter, length, get_or, append_assoc, append-nil, count_by}
use Rattle.std.specs.Prelude.{fold, nat_le}
use Rattle.std.specs.List.{list_all, range_with_len}
use Rattle.std.proofs.lemmas.Bool.{cases_Bool, cases_lt, both_ways, and_parts, and_from, eqb-true, le-leb, lt-leb, leb-true}
use Rattle.ballot_base.specs.Lists.{IsIncreasing}
use Rattle.ballot_base.specs.CandSet.{has_member, with_member, common_members, either_members, other_members, members_upto, includes}
use Rattle.ballot_base.specs.Ballots.{Row}
use Rattle.ballot_base.specs.Clones.{are_clones, clones_among, AreClones}
use Rattle.ballot_base.proofs.Increasing.{IsIncreasing-filter, IsIncreasing-higher, IsIncreasing-lower, IsIncreasing-push, IsIncreasing-either, has_member-above, has_member-below, has_member-either, has_member-filter, has_member_head, has_member_tail, same_increasing, with_member-above, with_member-lt, with_member-gt}
use Rattle.ballot_base.proofs.ListLemmas.{all_range}
use Rattle.tie_walk.proofs.LawLemmas.{IsIncreasing-range}
use Rattle.tie_walk.proofs.LevelLemmas.{in_bounds}
use Rattle.tie_walk.proofs.StepLemmas.{has_member-range}
use Rattle.tie_walk.proofs.WinnersLemmas.{same_filter}
use Rattle.sequential_winners.specs.Clones.{clone_count, has_as_many, without_clones}
use Rattle.sequential_winners.specs.Steps.Families.{may_be_in}
use Rattle.sequential_winners.specs.Steps.Tables.{completed, completed_by}
use Rattle.sequential_winners.proofs.CloneLemmas.{clones-sameness}
use Rattle.sequential_winners.proofs.CompletionLemmas.{IsCompleted, completed-is}
use Rattle.sequential_winners.proofs.Lists.{all-at, all-from, all-fails, same_tests, some-fails}
use Rattle.sequential_winners.proofs.Numbers.{bit, count-append, count-cons, some-passes}
use Rattle.sequential_winners.proofs.PlainLemmas.{only-one}
use Rattle.sequential_winners.proofs.TableLemmas.{completed-with, completed-same}

-- ---- lists and filters

pub keeps : (p : ℕ → Bool) (x : ℕ) (xs : List ℕ) → p x ≡ true → filter p (x ∷ xs) ≡ x ∷ filter p xs
keeps p x xs is = rw is refl

pub drops : (p : ℕ → Bool) (x : ℕ) (xs : List ℕ) → p x ≡ false → filter p (x ∷ xs) ≡ filter p xs
drops p x xs is = rw is refl

-- a set and candidates after it
joined : (c last : ℕ) (set added : List ℕ) → IsIncreasing 1 c set → IsIncreasing (c + 1) last added → either_members set added ≡ set ++ added
joined c last set [] up up' = sym (append-nil set)
joined c last set (x ∷ added) up up' =
    ap (λ s. fold with_member s added) (with_member-above 1 c set x up (omega (arith, up'.0)))
    ∙ joined x last (set ++ x ∷ []) added (IsIncreasing-push 1 c set x up (omega (arith, up'.0)) (omega (arith, up'.0))) up'.2
    ∙ append_assoc set (x ∷ []) added

-- a candidate after a set and before others
between : (first c z last : ℕ) (set added : List ℕ) → IsIncreasing first c set → c < z → IsIncreasing (z + 1) last added → with_member (set ++ added) z ≡ set ++ z ∷ added
between first c z last [] [] up after up' = refl
between first c z last [] (x ∷ added) up after up' = with_member-lt x added z (omega (arith, up'.0))
between first c z last (y ∷ set) added up after up' =
    with_member-gt y (set ++ added) z (omega (arith, up.1, after)) ∙ ap (λ l. y ∷ l) (between (y + 1) c z last set added up.2 after up')

module _ (m : ℕ) (rows : List Row) where
  abbrev alone : List ℕ
  alone = without_clones m rows

  -- ---- who is alone has no clone

  lone-parts : (x : ℕ) → has_member alone x ≡ true → (length (clones_among m rows x) ≡ 1) × (1 ≤ x) × (x ≤ m)
  lone-parts x is =
      let parts = and_parts (length (clones_among m rows x) == 1) (has_member (range_with_len 1 m) x) (sym (has_member-filter (λ c. length (clones_among m rows c) == 1) (range_with_len 1 m) x) ∙ is) in
      let bounds = in_bounds m (range_with_len 1 m) x (IsIncreasing-range 1 m m (omega arith)) parts.1 in
      (eqb-true (length (clones_among m rows x)) 1 parts.0, bounds.0, bounds.1)

  lone : (x y : ℕ) → has_member alone x ≡ true → 1 ≤ y → y ≤ m → are_clones rows x y ≡ true → x ≡ y
  lone x y is low high same =
      let parts = lone-parts x is in
      only-one (clones_among m rows x) x y parts.0 (among x parts.1 parts.2 ((clones-sameness rows).itself x)) (among y low high same)
    where
      among : (z : ℕ) → 1 ≤ z → z ≤ m → are_clones rows x z ≡ true → has_member (clones_among m rows x) z ≡ true
      among z low' high' same' =
          has_member-filter (are_clones rows x) (range_with_len 1 m) z ∙ and_from (are_clones rows x z) (has_member (range_with_len 1 m) z) same' (has_member-range 1 m z low' (omega (arith, high')))

  -- a set has one of its class, or none
  pub lone-count : (x : ℕ) (set : List ℕ) → has_member alone x ≡ true → IsIncreasing 1 m set → clone_count rows set x ≡ bit (has_member set x)
  lone-count x set is up = each 1 set (omega arith) up
    where
      each : (first : ℕ) (xs : List ℕ) → 1 ≤ first → IsIncreasing first m xs → count_by (are_clones rows x) xs ≡ bit (has_member xs x)
      each first [] low up' = refl
      each first (y ∷ xs) low up' =
          let next = each (y + 1) xs (omega arith) up'.2 in
          elim (cases_Bool (are_clones rows x y)) [
            | inl same ↦
                let is-y : x ≡ y = lone x y is (omega (arith, low, up'.0)) up'.1 same in
                let here : has_member (y ∷ xs) x ≡ true = subst (λ z. has_member (y ∷ xs) z ≡ true) (sym is-y) (has_member_head y xs) in
                let past : has_member xs x ≡ false = has_member-below (y + 1) m xs x up'.2 (omega (arith, is-y)) in
                omega (arith, count-cons (are_clones rows x) y xs, ap bit same, ap bit here, ap bit past, next)
            | inr apart ↦
                let other : y ≡ x → ⊥ = λ e. both_ways (are_clones rows x y) apart (subst (λ z. are_clones rows x z ≡ true) (sym e) ((clones-sameness rows).itself x)) in
                omega (arith, count-cons (are_clones rows x) y xs, ap bit apart, next, ap bit (has_member_tail y x xs other))
          ]

  -- none of those who are alone is a clone of a candidate before them
  none-near : (q : ℕ → Bool) (first n z : ℕ) → ((a : ℕ) → q a ≡ true → has_member alone a ≡ true) → 1 ≤ z → z ≤ m → z < first → clone_count rows (filter q (range_with_len first n)) z ≡ 0
  none-near q first n z are low high before = elim (cases_lt 0 (clone_count rows (filter q (range_with_len first n)) z)) [
    | inl some ↦
        let t = some-passes (are_clones rows z) (filter q (range_with_len first n)) (omega (arith, some)) in
        let parts = and_parts (q t.0) (has_member (range_with_len first n) t.0) (sym (has_member-filter q (range_with_len first n) t.0) ∙ t.1) in
        let same : t.0 ≡ z = lone t.0 z (are t.0 parts.0) low high ((clones-sameness rows).turned z t.0 t.2) in
        let outside : has_member (range_with_len first n) t.0 ≡ false = has_member-below first (first + n) (range_with_len first n) t.0 (IsIncreasing-range first n (first + n) (omega arith)) (omega (arith, same, before)) in
        absurd (both_ways (has_member (range_with_len first n) t.0) outside parts.1)
    | inr none ↦ omega (arith, none)
  ]

  -- ---- a set that is completed

  module _ (other : List ℕ) (up : IsIncreasing 1 m other) where
    abbrev joins : ℕ → Bool
    joins = λ x. has_member alone x && has_member other x

    abbrev follows : ℕ → Bool
    follows = λ x. not (has_member alone x)

    split : (n c : ℕ) (set : List ℕ) → c + n ≤ m → IsIncreasing 1 c set
        → fold (completed_by rows other) set (range_with_len (c + 1) n)
        ≡ fold (completed_by rows other) (set ++ filter joins (range_with_len (c + 1) n)) (filter follows (range_with_len (c + 1) n))
    split zero c set fits up' = sym (append-nil set)
    split (suc n) c set fits up' =
        let f = completed_by rows other in
        let z : ℕ = c + 1 in
        let rest = range_with_len (z + 1) n in
        let few : clone_count rows other z ≡ clone_count rows other z = refl in
        let grown : IsIncreasing 1 z (set ++ z ∷ []) = IsIncreasing-push 1 c set z up' (omega arith) (omega arith) in
        let higher : IsIncreasing 1 z set = IsIncreasing-higher 1 c z set (omega arith) up' in
        let here : IsIncreasing 1 m set = IsIncreasing-higher 1 c m set (omega (arith, fits)) up' in
        let new : has_member set z ≡ false = has_member-above 1 c set z up' (omega arith) in
        let next = split n z set (omega (arith, fits)) higher in
        let next-with = split n z (set ++ z ∷ []) (omega (arith, fits)) grown in
        let with-z : with_member set z ≡ set ++ z ∷ [] = with_member-above 1 c set z up' (omega arith) in
        elim (cases_Bool (has_member alone z)) [
          | inl lone-z ↦
              let stays : follows z ≡ false = ap not lone-z in
              elim (cases_Bool (has_member other z)) [
                | inl asked ↦
                    let first : completed_by rows other set z ≡ set ++ z ∷ [] =
                    completed-with rows other set z (omega (arith, lone-count z set lone-z here, lone-count z other lone-z up, ap bit new, ap bit asked)) ∙ with-z in
                    ap (λ s. fold f s rest) first ∙ next-with
                    ∙ ap (λ s. fold f s (filter follows rest)) (append_assoc set (z ∷ []) (filter joins rest))
                    ∙ ap (λ l. fold f (set ++ l) (filter follows rest)) (sym (keeps joins z rest (and_from (has_member alone z) (has_member other z) lone-z asked)))
                    ∙ ap (fold f (set ++ filter joins (z ∷ rest))) (sym (drops follows z rest stays))
                | inr free ↦
                    let first : completed_by rows other set z ≡ set = completed-same rows other set z (omega (arith, lone-count z other lone-z up, ap bit free)) in
                    let leaves : joins z ≡ false = ap (λ b. has_member alone z && b) free ∙ none (has_member alone z) in
                    ap (λ s. fold f s rest) first ∙ next
                    ∙ ap (λ l. fold f (set ++ l) (filter follows rest)) (sym (drops joins z rest leaves))
                    ∙ ap (fold f (set ++ filter joins (z ∷ rest))) (sym (drops follows z rest stays))
              ]
          | inr has-clones ↦
              let goes : follows z ≡ true = ap not has-clones in
              let leaves : joins z ≡ false = ap (λ b. b && has_member other z) has-clones in
              let added = filter joins rest in
              let added-up : IsIncreasing (z + 1) (z + 1 + n) added = IsIncreasing-filter joins (z + 1) (z + 1 + n) rest (IsIncreasing-range (z + 1) n (z + 1 + n) (omega arith)) in
              let same-count : clone_count rows (set ++ added) z ≡ clone_count rows set z =
              omega (arith, count-append (are_clones rows z) set added, none-near joins (z + 1) n z (λ a is. (and_parts (has_member alone a) (has_member other a) is).0) (omega arith) (omega (arith, fits)) (omega arith)) in
              let last = ap (λ l. fold f (set ++ l) (z ∷ filter follows rest)) (sym (drops joins z rest leaves)) ∙ ap (fold f (set ++ filter joins (z ∷ rest))) (sym (keeps follows z rest goes)) in
              elim (cases_lt (clone_count rows set z) (clone_count rows other z)) [
                | inl less ↦
                    let first : completed_by rows other set z ≡ set ++ z ∷ [] = completed-with rows other set z less ∙ with-z in
                    let later : completed_by rows other (set ++ added) z ≡ set ++ z ∷ added =
                    completed-with rows other (set ++ added) z (omega (arith, less, same-count)) ∙ between 1 c z (z + 1 + n) set added up' (omega arith) added-up in
                    ap (λ s. fold f s rest) first ∙ next-with ∙ ap (λ s. fold f s (filter follows rest)) (append_assoc set (z ∷ []) added ∙ sym later) ∙ last
                | inr enough ↦
                    let first : completed_by rows other set z ≡ set = completed-same rows other set z enough in
                    let later : completed_by rows other (set ++ added) z ≡ set ++ added = completed-same rows other (set ++ added) z (omega (arith, enough, same-count)) in
                    ap (λ s. fold f s rest) first ∙ next ∙ ap (λ s. fold f s (filter follows rest)) (sym later) ∙ last
              ]
        ]
      where
        none : (b : Bool) → (b && false) ≡ false
        none true = refl
        none false = refl

    -- those who are alone join at once, and then the others one by one
    pub completed-parts : (c : ℕ) (set : List ℕ) → c ≤ m → IsIncreasing 1 c set
        → completed c m rows set other
        ≡ fold (completed_by rows other) (either_members set (common_members (common_members other (range_with_len (c + 1) (m - c))) (without_clones m rows)))
        (other_members (range_with_len (c + 1) (m - c)) (without_clones m rows))
    completed-parts c set within up' =
        let after = range_with_len (c + 1) (m - c) in
        let after-up : IsIncreasing (c + 1) m after = IsIncreasing-range (c + 1) (m - c) m (omega (arith, within)) in
        let added = common_members (common_members other after) alone in
        let added-up : IsIncreasing 1 m added = IsIncreasing-filter (has_member alone) 1 m (common_members other after) (IsIncreasing-filter (has_member after) 1 m other up) in
        let same : filter joins after ≡ added =
        same_increasing 1 m (filter joins after) added (IsIncreasing-filter joins 1 m after (IsIncreasing-lower 1 (c + 1) m after (omega arith) after-up)) added-up
        (λ n. has_member-filter joins after n ∙ moved (has_member alone n) (has_member other n) (has_member after n)
        ∙ sym (has_member-filter (has_member alone) (common_members other after) n ∙ ap (λ b. has_member alone n && b) (has_member-filter (has_member after) other n))) in
        split (m - c) c set (omega (arith, within)) up'
        ∙ ap (λ s. fold (completed_by rows other) s (filter follows after)) (sym (joined c m set (filter joins after) up' (IsIncreasing-filter joins (c + 1) m after after-up)) ∙ ap (either_members set) same)
      where
        moved : (a b d : Bool) → ((a && b) && d) ≡ (a && (d && b))
        moved true true d = after-true d
          where
            after-true : (x : Bool) → x ≡ (x && true)
            after-true true = refl
            after-true false = refl
        moved true false d = after-false d
          where
            after-false : (x : Bool) → false ≡ (x && false)
            after-false true = refl
            after-false false = refl
        moved false b d = refl

  -- ---- as many of each class

  abbrev has-enough : List ℕ → List ℕ → ℕ → Bool
  has-enough set other c = nat_le (clone_count rows other c) (clone_count rows set c)

  module _ (set other : List ℕ) (up : IsIncreasing 1 m set) (up' : IsIncreasing 1 m other) where
    is-both : (x : ℕ) → has_member (common_members other (without_clones m rows)) x ≡ true → (has_member alone x ≡ true) × (has_member other x ≡ true)
    is-both x is = and_parts (has_member alone x) (has_member other x) (sym (has_member-filter (has_member alone) other x) ∙ is)

    pub many-fails : includes set (common_members other (without_clones m rows)) ≡ false → has_as_many m rows set other ≡ false
    many-fails lacks =
        let x = some-fails (has_member set) (common_members other alone) lacks in
        let parts = is-both x.0 x.1 in
        let bounds = in_bounds m other x.0 up' parts.1 in
        all-fails (has-enough set other) (range_with_len 1 m) x.0 (has_member-range 1 m x.0 bounds.0 (omega (arith, bounds.1)))
        (lt-leb (clone_count rows other x.0) (clone_count rows set x.0) (omega (arith, lone-count x.0 set parts.0 up, lone-count x.0 other parts.0 up', ap bit x.2, ap bit parts.1)))

    pub many-rest : includes set (common_members other (without_clones m rows)) ≡ true
        → has_as_many m rows set other ≡ list_all (has-enough set other) (other_members (range_with_len 1 m) (without_clones m rows))
    many-rest has =
        let range = range_with_len 1 m in
        let rest = other_members range alone in
        same_tests (list_all (has-enough set other) range) (list_all (has-enough set other) rest)
        (λ all. all-from (has-enough set other) rest (λ c inside. all-at (has-enough set other) range c all
        (and_parts (not (has_member alone c)) (has_member range c) (sym (has_member-filter (λ n. not (has_member alone n)) range c) ∙ inside)).1))
        (λ all. all-from (has-enough set other) range (λ c inside. elim (cases_Bool (has_member alone c)) [
          | inl is ↦ elim (cases_Bool (has_member other c)) [
            | inl asked ↦
                let both : has_member (common_members other alone) c ≡ true = has_member-filter (has_member alone) other c ∙ and_from (has_member alone c) (has_member other c) is asked in
                let here : has_member set c ≡ true = all-at (has_member set) (common_members other alone) c has both in
                le-leb (clone_count rows other c) (clone_count rows set c) (omega (arith, lone-count c set is up, lone-count c other is up', ap bit here, ap bit asked))
            | inr free ↦ le-leb (clone_count rows other c) (clone_count rows set c) (omega (arith, lone-count c other is up', ap bit free))
          ]
          | inr other-c ↦ all-at (has-enough set other) rest c all
              (has_member-filter (λ n. not (has_member alone n)) range c ∙ and_from (not (has_member alone c)) (has_member range c) (ap not other-c) inside)
        ]))

  -- ---- a candidate without clones that is decided already decides on a family

  module _ (c : ℕ) (set : List ℕ) (left : ℕ) (family : List ℕ × List ℕ) (within : c ≤ m) (up : IsIncreasing 1 c set) (least-up : IsIncreasing 1 m family.0) (most-up : IsIncreasing 1 m family.1) where
    all : List ℕ
    all = completed c m rows set family.0

    made : IsCompleted rows family.0 c (m - c) set all
    unfolding all
    made = completed-is rows family.0 (m - c) c set up

    taken-up : IsIncreasing (c + 1) m made.taken
    taken-up = subst (λ n. IsIncreasing (c + 1) n made.taken) (omega (arith, within)) made.candidates

    is-either : either_members set made.taken ≡ all
    is-either = joined c m set made.taken up taken-up ∙ sym made.is

    all-up : IsIncreasing 1 m all
    all-up =
        subst (IsIncreasing 1 m) is-either
        (IsIncreasing-either 1 m set made.taken (IsIncreasing-higher 1 c m set within up) (IsIncreasing-lower 1 (c + 1) m made.taken (omega arith) taken-up))

    member-all : (x : ℕ) → has_member all x ≡ (has_member set x || has_member made.taken x)
    member-all x = ap (λ l. has_member l x) (sym is-either) ∙ has_member-either set made.taken x

    short : Bool
    short = nat_le (length all) (length set + left)

    long : Bool
    long = nat_le (length set + left) (length (completed c m rows set family.1))

    last-false : (a b d e : Bool) → b ≡ false → ((a && (d && b)) && e) ≡ false
    last-false true b true e is = ap (λ x. x && e) is
    last-false true b false e is = refl
    last-false false b d e is = refl

    first-false : (a b d e : Bool) → d ≡ false → ((a && (d && b)) && e) ≡ false
    first-false true b d e is = ap (λ x. (x && b) && e) is
    first-false false b d e is = refl

    pub most-lacks : includes family.1 (common_members set (without_clones m rows)) ≡ false → may_be_in m rows c set left family ≡ false
    unfolding all short long
    most-lacks lacks =
        let x = some-fails (has_member family.1) (common_members set alone) lacks in
        let parts = and_parts (has_member alone x.0) (has_member set x.0) (sym (has_member-filter (has_member alone) set x.0) ∙ x.1) in
        let here : has_member all x.0 ≡ true = member-all x.0 ∙ ap (λ b. b || has_member made.taken x.0) parts.1 in
        let both : has_member (common_members all alone) x.0 ≡ true = has_member-filter (has_member alone) all x.0 ∙ and_from (has_member alone x.0) (has_member all x.0) parts.0 here in
        last-false short (has_as_many m rows family.1 all) (has_as_many m rows all family.0) long
        (many-fails family.1 all most-up all-up (all-fails (has_member family.1) (common_members all alone) x.0 both x.2))

    pub least-lacks : includes set (members_upto (common_members family.0 (without_clones m rows)) c) ≡ false → may_be_in m rows c set left family ≡ false
    unfolding all short long
    least-lacks lacks =
        let asked = common_members family.0 alone in
        let x = some-fails (has_member set) (members_upto asked c) lacks in
        let parts = and_parts (nat_le x.0 c) (has_member asked x.0) (sym (has_member-filter (λ n. nat_le n c) asked x.0) ∙ x.1) in
        let before : x.0 ≤ c = leb-true x.0 c parts.0 in
        let past : has_member made.taken x.0 ≡ false = has_member-below (c + 1) m made.taken x.0 taken-up (omega (arith, before)) in
        let outside : has_member all x.0 ≡ false = member-all x.0 ∙ ap (λ b. b || has_member made.taken x.0) x.2 ∙ past in
        first-false short (has_as_many m rows family.1 all) (has_as_many m rows all family.0) long
        (many-fails all family.0 all-up least-up (all-fails (has_member all) asked x.0 parts.1 outside))

-- those whose class in a table is their own
pub table-alone : (m : ℕ) (rows : List Row) (table : List (List ℕ)) → AreClones m rows table → filter (λ c. length (get_or table c []) == 1) (range_with_len 1 m) ≡ without_clones m rows
table-alone m rows table clones =
    same_filter (λ c. length (get_or table c []) == 1) (λ c. length (clones_among m rows c) == 1) (range_with_len 1 m)
    (all_range (λ c. (length (get_or table c []) == 1) ≡ (length (clones_among m rows c) == 1)) 1 m (λ c low high. ap (λ l. length l == 1) (clones c low (omega (arith, high)))))
