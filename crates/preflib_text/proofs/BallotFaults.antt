-- What the marks of the classes of a ballot say.
use Rattle.std.proofs.Math.Bool.{or-false}
use Rattle.std.proofs.Common.{◌≡◌, ℕ, ◌+◌, ◌≤◌, Bool, true, false, cond, not, eqb, ◌==◌, ◌||◌, ◌&&◌, List, [], ◌∷◌, ◌++◌, length, Option, Some, None, refl, sym, ap, ◌∙◌, arith, inl, inr}
use Rattle.std.specs.Prelude.{fold, flat_map, unwrap_or, nat_lt}
use Rattle.std.specs.List.{list_any, range_with_len}
use Rattle.std.proofs.lemmas.Bool.{or_parts, lt-ltb, ltb-false, eqb-false, ne_eqb, cases_lt}
use Rattle.ballot_base.specs.Lists.{IsIncreasing}
use Rattle.ballot_base.specs.CandSet.{has_member, with_member}
use Rattle.ballot_base.specs.Limits.{most_voters}
use Rattle.preflib_text.specs.declared.fault.FaultName.{FaultName}
use Rattle.preflib_text.specs.declared.fault.FaultName.TheVariants.{BadCount, NoSuchCandidate, RepeatedCandidate, NotStrict, Incomplete, TooManyClasses}
use Rattle.preflib_text.specs.declared.pick.Kind.{Kind}
use Rattle.preflib_text.specs.declared.approvals.Taking.{Taking}
use Rattle.preflib_text.specs.declared.approvals.Marks.{Marks}
use Rattle.preflib_text.specs.Approvals.{set_of}
use Rattle.preflib_text.specs.Reading.{or_else, fault_if, is_strict, is_complete, is_cat, number_in_ballot_fault, ballot_fault}
use Rattle.preflib_text.specs.Steps.Tokens.{capped}
use Rattle.preflib_text.specs.Steps.Marks.{no_marks, takes, wrong_with, with_number, with_class, with_classes, fault_of}
use Rattle.ballot_base.proofs.Increasing.{has_member-with_member, IsIncreasing-with_member}
use Rattle.preflib_text.proofs.BallotSets.{has_member-fold, any-same, any-missing}
use Rattle.preflib_text.proofs.BallotTaken.{taken_from}
use Rattle.preflib_text.proofs.BallotSteps.{with_number-wrong}

-- ---- faults in order

pub or_else-none : {X : Type 0} (o : Option X) → or_else o None ≡ o
or_else-none None = refl
or_else-none (Some x) = refl

pub or_else-assoc : {X : Type 0} (a b c : Option X) → or_else (or_else a b) c ≡ or_else a (or_else b c)
or_else-assoc None b c = refl
or_else-assoc (Some x) b c = refl

pub or_else-parts : {X : Type 0} (a b : Option X) → or_else a b ≡ None → (a ≡ None) × (b ≡ None)
or_else-parts None b e = (refl, e)
or_else-parts (Some name) b e = absurd cc

-- what comes later counts only where there is no fault before
or_else-same : (a b c : Option FaultName) → (a ≡ None → b ≡ c) → or_else a b ≡ or_else a c
or_else-same None b c same = same refl
or_else-same (Some name) b c same = refl

pub fault_if-none : (test : Bool) (name : FaultName) → fault_if test name ≡ None → test ≡ false
fault_if-none true name e = absurd cc
fault_if-none false name e = refl

-- ---- a number more

module _ (m : ℕ) (way : Taking) where
  -- a number that is not wrong
  good_number : (marks : Marks) (n : ℕ) → wrong_with m marks n ≡ None → with_number m way marks n ≡ record marks { numbers = marks.numbers + 1; seen = with_member marks.seen n; approved = cond (takes way marks.classes marks.before) (with_member marks.approved n) marks.approved }
  good_number marks n e = rw e refl

  wrong_is : (marks : Marks) (n : ℕ) → (with_number m way marks n).wrong ≡ wrong_with m marks n
  wrong_is marks n = by (wrong_with m marks n) refl
    where
      by : (o : Option FaultName) → wrong_with m marks n ≡ o → (with_number m way marks n).wrong ≡ wrong_with m marks n
      by None e =
          let none = (or_else-parts marks.wrong (or_else (fault_if ((eqb n 0) || nat_lt m n) NoSuchCandidate) (fault_if (has_member marks.seen n) RepeatedCandidate)) e).0 in
          ap (λ (after : Marks). after.wrong) (good_number marks n e) ∙ none ∙ sym e
      by (Some name) e = ap (λ (after : Marks). after.wrong) (with_number-wrong m way marks n name e) ∙ sym e

  -- what no number changes, and how many there are
  record Kept (old new : Marks) (more : ℕ) : Type 0 where
    pub numbers : new.numbers ≡ old.numbers + more
    pub classes : new.classes ≡ old.classes
    pub before : new.before ≡ old.before
    pub strict : new.strict ≡ old.strict

  kept_one : (marks : Marks) (n : ℕ) → Kept marks (with_number m way marks n) 1
  kept_one marks n = by (wrong_with m marks n) refl
    where
      by : (o : Option FaultName) → wrong_with m marks n ≡ o → Kept marks (with_number m way marks n) 1
      by None e = rw (good_number marks n e) (record { numbers = refl; classes = refl; before = refl; strict = refl })
      by (Some name) e = rw (with_number-wrong m way marks n name e) (record { numbers = refl; classes = refl; before = refl; strict = refl })

  kept : (marks : Marks) (ns : List ℕ) → Kept marks (fold (with_number m way) marks ns) (length ns)
  kept marks [] = record { numbers = omega arith; classes = refl; before = refl; strict = refl }
  kept marks (n ∷ ns) =
      let one = kept_one marks n in
      let more = kept (with_number m way marks n) ns in
      record { numbers = omega (arith, more.numbers, one.numbers); classes = more.classes ∙ one.classes; before = more.before ∙ one.before; strict = more.strict ∙ one.strict }

  -- ---- the first wrong number

  -- the numbers that were seen have the same members as the set, where none was wrong
  abbrev Seen : Marks → List ℕ → Type 0
  Seen marks seen = marks.wrong ≡ None → (x : ℕ) → has_member marks.seen x ≡ has_member seen x

  seen_more : (marks : Marks) (seen : List ℕ) (n : ℕ) → Seen marks seen → Seen (with_number m way marks n) (n ∷ seen)
  seen_more marks seen n same none x =
      let good : wrong_with m marks n ≡ None = sym (wrong_is marks n) ∙ none in
      let before = (or_else-parts marks.wrong (or_else (fault_if ((eqb n 0) || nat_lt m n) NoSuchCandidate) (fault_if (has_member marks.seen n) RepeatedCandidate)) good).0 in
      ap (λ (after : Marks). has_member after.seen x) (good_number marks n good) ∙ has_member-with_member marks.seen n x ∙ ap (λ (b : Bool). eqb n x || b) (same before x)

  wrong_more : (marks : Marks) (seen : List ℕ) (n : ℕ) (ns : List ℕ) → Seen marks seen → or_else marks.wrong (number_in_ballot_fault m seen (n ∷ ns)) ≡ or_else (with_number m way marks n).wrong (number_in_ballot_fault m (n ∷ seen) ns)
  wrong_more marks seen n ns same =
      let a = fault_if ((eqb n 0) || nat_lt m n) NoSuchCandidate in
      let rest = number_in_ballot_fault m (n ∷ seen) ns in
      or_else-same marks.wrong (or_else a (or_else (fault_if (has_member seen n) RepeatedCandidate) rest)) (or_else a (or_else (fault_if (has_member marks.seen n) RepeatedCandidate) rest)) (λ none. ap (λ (b : Bool). or_else a (or_else (fault_if b RepeatedCandidate) rest)) (sym (same none n)))
      ∙ ap (or_else marks.wrong) (sym (or_else-assoc a (fault_if (has_member marks.seen n) RepeatedCandidate) rest))
      ∙ sym (or_else-assoc marks.wrong (or_else a (fault_if (has_member marks.seen n) RepeatedCandidate)) rest)
      ∙ ap (λ (w : Option FaultName). or_else w rest) (sym (wrong_is marks n))

  wrong_class : (marks : Marks) (ns tail seen : List ℕ) → Seen marks seen → (later : List ℕ) × (or_else marks.wrong (number_in_ballot_fault m seen (ns ++ tail)) ≡ or_else (fold (with_number m way) marks ns).wrong (number_in_ballot_fault m later tail)) × Seen (fold (with_number m way) marks ns) later
  wrong_class marks [] tail seen same = (seen, refl, same)
  wrong_class marks (n ∷ ns) tail seen same =
      let more = wrong_class (with_number m way marks n) ns tail (n ∷ seen) (seen_more marks seen n same) in
      (more.0, wrong_more marks seen n (ns ++ tail) same ∙ more.1, more.2)

  wrong_classes : (marks : Marks) (classes : List (List ℕ)) (seen : List ℕ) → Seen marks seen → (with_classes m way marks classes).wrong ≡ or_else marks.wrong (number_in_ballot_fault m seen (flat_map (λ class. class) classes))
  wrong_classes marks [] seen same = sym (or_else-none marks.wrong)
  wrong_classes marks (class ∷ classes) seen same =
      let more = wrong_class marks class (flat_map (λ class. class) classes) seen same in
      wrong_classes (with_class m way marks class) classes more.0 more.2 ∙ sym more.1

  -- ---- the sets, where no number is wrong

  none_number : (marks : Marks) (n : ℕ) → (with_number m way marks n).wrong ≡ None → marks.wrong ≡ None
  none_number marks n e =
      (or_else-parts marks.wrong (or_else (fault_if ((eqb n 0) || nat_lt m n) NoSuchCandidate) (fault_if (has_member marks.seen n) RepeatedCandidate)) (sym (wrong_is marks n) ∙ e)).0

  none_class : (marks : Marks) (ns : List ℕ) → (fold (with_number m way) marks ns).wrong ≡ None → marks.wrong ≡ None
  none_class marks [] e = e
  none_class marks (n ∷ ns) e = none_number marks n (none_class (with_number m way marks n) ns e)

  none_classes : (marks : Marks) (classes : List (List ℕ)) → (with_classes m way marks classes).wrong ≡ None → marks.wrong ≡ None
  none_classes marks [] e = e
  none_classes marks (class ∷ classes) e =
      none_class marks class (none_classes (with_class m way marks class) classes e)

  record Added (old new : Marks) (ns taken : List ℕ) : Type 0 where
    pub seen : new.seen ≡ fold with_member old.seen ns
    pub approved : new.approved ≡ fold with_member old.approved taken

  picked : (b : Bool) (set : List ℕ) (n : ℕ) (ns : List ℕ) → fold with_member (cond b (with_member set n) set) (cond b ns []) ≡ fold with_member set (cond b (n ∷ ns) [])
  picked true set n ns = refl
  picked false set n ns = refl

  none_of : (b : Bool) (set : List ℕ) → set ≡ fold with_member set (cond b [] [])
  none_of true set = refl
  none_of false set = refl

  added : (marks : Marks) (ns : List ℕ) → (fold (with_number m way) marks ns).wrong ≡ None → Added marks (fold (with_number m way) marks ns) ns (cond (takes way marks.classes marks.before) ns [])
  added marks [] e = record { seen = refl; approved = none_of (takes way marks.classes marks.before) marks.approved }
  added marks (n ∷ ns) e =
      let next = with_number m way marks n in
      let good : wrong_with m marks n ≡ None = sym (wrong_is marks n) ∙ none_class next ns e in
      let one = good_number marks n good in
      let more = added next ns e in
      let k = kept_one marks n in
      let taking : takes way next.classes next.before ≡ takes way marks.classes marks.before = ap (λ (j : ℕ). takes way j next.before) k.classes ∙ ap (takes way marks.classes) k.before in
      record {
        seen = more.seen ∙ ap (λ (after : Marks). fold with_member after.seen ns) one;
        approved = more.approved ∙ ap (λ (b : Bool). fold with_member next.approved (cond b ns [])) taking ∙ ap (λ (after : Marks). fold with_member after.approved (cond (takes way marks.classes marks.before) ns [])) one ∙ picked (takes way marks.classes marks.before) marks.approved n ns;
      }

  fold-append : (set xs ys : List ℕ) → fold with_member set (xs ++ ys) ≡ fold with_member (fold with_member set xs) ys
  fold-append set [] ys = refl
  fold-append set (x ∷ xs) ys = fold-append (with_member set x) xs ys

  added_classes : (marks : Marks) (classes : List (List ℕ)) → marks.numbers ≡ 0 → (with_classes m way marks classes).wrong ≡ None → Added marks (with_classes m way marks classes) (flat_map (λ class. class) classes) (taken_from way marks.classes marks.before classes)
  added_classes marks [] none e = record { seen = refl; approved = refl }
  added_classes marks (class ∷ classes) none e =
      let next = with_class m way marks class in
      let one = added marks class (none_classes next classes e) in
      let k = kept marks class in
      let more = added_classes next classes refl e in
      let taking = cond (takes way marks.classes marks.before) class [] in
      let at : next.classes ≡ marks.classes + 1 = ap (λ (j : ℕ). j + 1) k.classes in
      let so_far : next.before ≡ marks.before + length class = omega (arith, k.before, k.numbers) in
      let rest : taken_from way next.classes next.before classes ≡ taken_from way (marks.classes + 1) (marks.before + length class) classes = ap (λ (j : ℕ). taken_from way j next.before classes) at ∙ ap (λ (b : ℕ). taken_from way (marks.classes + 1) b classes) so_far in
      record {
        seen = more.seen ∙ ap (λ (set : List ℕ). fold with_member set (flat_map (λ class. class) classes)) one.seen ∙ sym (fold-append marks.seen class (flat_map (λ class. class) classes));
        approved = more.approved ∙ ap (λ (set : List ℕ). fold with_member set (taken_from way next.classes next.before classes)) one.approved ∙ ap (fold with_member (fold with_member marks.approved taking)) rest ∙ sym (fold-append marks.approved taking (taken_from way (marks.classes + 1) (marks.before + length class) classes));
      }

  -- ---- the sets stay increasing

  record Increasing (marks : Marks) : Type 0 where
    pub seen : IsIncreasing 1 m marks.seen
    pub approved : IsIncreasing 1 m marks.approved

  increasing_one : (marks : Marks) (n : ℕ) → Increasing marks → Increasing (with_number m way marks n)
  increasing_one marks n inc = by (wrong_with m marks n) refl
    where
      with_if : (b : Bool) → 1 ≤ n → n ≤ m → IsIncreasing 1 m (cond b (with_member marks.approved n) marks.approved)
      with_if true low high = IsIncreasing-with_member 1 m marks.approved n low high inc.approved
      with_if false low high = inc.approved

      by : (o : Option FaultName) → wrong_with m marks n ≡ o → Increasing (with_number m way marks n)
      by None e =
          let parts = or_else-parts marks.wrong (or_else (fault_if ((eqb n 0) || nat_lt m n) NoSuchCandidate) (fault_if (has_member marks.seen n) RepeatedCandidate)) e in
          let range = or_else-parts (fault_if ((eqb n 0) || nat_lt m n) NoSuchCandidate) (fault_if (has_member marks.seen n) RepeatedCandidate) parts.1 in
          let both = or_parts (eqb n 0) (nat_lt m n) (fault_if-none ((eqb n 0) || nat_lt m n) NoSuchCandidate range.0) in
          let some : n ≡ 0 → ⊥ = eqb-false n 0 both.0 in
          let low : 1 ≤ n = omega (arith, some) in
          let high : n ≤ m = ltb-false m n both.1 in
          rw (good_number marks n e) (record { seen = IsIncreasing-with_member 1 m marks.seen n low high inc.seen; approved = with_if (takes way marks.classes marks.before) low high })
      by (Some name) e = rw (with_number-wrong m way marks n name e) (record { seen = inc.seen; approved = inc.approved })

  increasing_class : (marks : Marks) (ns : List ℕ) → Increasing marks → Increasing (fold (with_number m way) marks ns)
  increasing_class marks [] inc = inc
  increasing_class marks (n ∷ ns) inc =
      increasing_class (with_number m way marks n) ns (increasing_one marks n inc)

  increasing_classes : (marks : Marks) (classes : List (List ℕ)) → Increasing marks → Increasing (with_classes m way marks classes)
  increasing_classes marks [] inc = inc
  increasing_classes marks (class ∷ classes) inc =
      let one = increasing_class marks class inc in
      increasing_classes (with_class m way marks class) classes (record { seen = one.seen; approved = one.approved })

  -- ---- the classes

  abbrev not_one : List ℕ → Bool
  not_one class = not (length class == 1)

  strict_more : (s one : Bool) (rest : Bool) → (not (s && one) || rest) ≡ (not s || (not one || rest))
  strict_more true one rest = refl
  strict_more false one rest = refl

  strict_classes : (marks : Marks) (classes : List (List ℕ)) → marks.numbers ≡ 0 → not (with_classes m way marks classes).strict ≡ (not marks.strict || list_any not_one classes)
  strict_classes marks [] none = sym (or-false (not marks.strict))
  strict_classes marks (class ∷ classes) none =
      let k = kept marks class in
      let size : (fold (with_number m way) marks class).numbers ≡ length class = omega (arith, k.numbers) in
      strict_classes (with_class m way marks class) classes refl
      ∙ ap (λ (s : Bool). not (s && ((fold (with_number m way) marks class).numbers == 1)) || list_any not_one classes) k.strict
      ∙ ap (λ (j : ℕ). not (marks.strict && (j == 1)) || list_any not_one classes) size
      ∙ strict_more marks.strict (length class == 1) (list_any not_one classes)

  count_classes : (marks : Marks) (classes : List (List ℕ)) → (with_classes m way marks classes).classes ≡ marks.classes + length classes
  count_classes marks [] = omega arith
  count_classes marks (class ∷ classes) =
      let k = kept marks class in
      omega (arith, count_classes (with_class m way marks class) classes, k.classes)

  -- ---- the ballot

  no_increasing : Increasing no_marks
  no_increasing = record { seen = tt; approved = tt }

  pub approved_increasing : (classes : List (List ℕ)) → IsIncreasing 1 m (with_classes m way no_marks classes).approved
  approved_increasing classes = (increasing_classes no_marks classes no_increasing).approved

  pub approved_is : (classes : List (List ℕ)) → (with_classes m way no_marks classes).wrong ≡ None → (with_classes m way no_marks classes).approved ≡ set_of (taken_from way 0 0 classes)
  approved_is classes e = (added_classes no_marks classes refl e).approved

  missing_is : (classes : List (List ℕ)) → (with_classes m way no_marks classes).wrong ≡ None → nat_lt (length (with_classes m way no_marks classes).seen) m ≡ list_any (λ n. not (has_member (flat_map (λ class. class) classes) n)) (range_with_len 1 m)
  missing_is classes e =
      let marks = with_classes m way no_marks classes in
      let numbers = flat_map (λ class. class) classes in
      let set = (added_classes no_marks classes refl e).seen in
      let members : (n : ℕ) → has_member marks.seen n ≡ has_member numbers n = λ n. ap (λ (s : List ℕ). has_member s n) set ∙ has_member-fold numbers [] n in
      sym (any-missing 1 m m marks.seen (omega arith) (increasing_classes no_marks classes no_increasing).seen)
      ∙ any-same (λ n. not (has_member marks.seen n)) (λ n. not (has_member numbers n)) 1 m (λ n _. ap not (members n))

  wrong_numbers : (classes : List (List ℕ)) → (with_classes m way no_marks classes).wrong ≡ number_in_ballot_fault m [] (flat_map (λ class. class) classes)
  wrong_numbers classes = wrong_classes no_marks classes [] (λ _ x. refl)

  capped_zero : (n : ℕ) → (capped n == 0) ≡ (n == 0)
  capped_zero n =
      elim (cases_lt n (most_voters + 1)) [
        | inl low ↦ let same : capped n ≡ n = omega arith in ap (λ (k : ℕ). k == 0) same
        | inr high ↦ ne_eqb (capped n) 0 (λ e. omega (arith, e)) ∙ sym (ne_eqb n 0 (λ e. omega (arith, e)))
      ]

  capped_large : (n : ℕ) → nat_lt most_voters (capped n) ≡ nat_lt most_voters n
  capped_large n =
      elim (cases_lt n (most_voters + 1)) [
        | inl low ↦ let same : capped n ≡ n = omega arith in ap (nat_lt most_voters) same
        | inr high ↦ lt-ltb most_voters (capped n) (omega arith) ∙ sym (lt-ltb most_voters n (omega arith))
      ]

  -- the marks tell what is wrong with the ballot
  pub fault_is : (kind : Kind) (categories : Option ℕ) (n : ℕ) (classes : List (List ℕ)) → fault_of kind m categories (capped n) (with_classes m way no_marks classes) ≡ ballot_fault kind m categories n classes
  fault_is kind categories n classes =
      let marks = with_classes m way no_marks classes in
      let numbers = flat_map (λ class. class) classes in
      let few = list_any (λ n. not (has_member numbers n)) (range_with_len 1 m) in
      let bad_count = fault_if ((n == 0) || nat_lt most_voters n) BadCount in
      let many = λ (k : ℕ). fault_if (is_cat kind && nat_lt (unwrap_or categories k) k) TooManyClasses in
      let missing = λ (b : Bool) (k : ℕ). or_else (fault_if (is_complete kind && b) Incomplete) (many k) in
      let ties = λ (s b : Bool) (k : ℕ). or_else (fault_if (is_strict kind && s) NotStrict) (missing b k) in
      let missing_marks = nat_lt (length marks.seen) m in
      ap (λ (b : Bool). or_else (fault_if (b || nat_lt most_voters (capped n)) BadCount) (or_else marks.wrong (ties (not marks.strict) missing_marks marks.classes))) (capped_zero n)
      ∙ ap (λ (b : Bool). or_else (fault_if ((n == 0) || b) BadCount) (or_else marks.wrong (ties (not marks.strict) missing_marks marks.classes))) (capped_large n)
      ∙ ap (λ (b : Bool). or_else bad_count (or_else marks.wrong (ties b missing_marks marks.classes))) (strict_classes no_marks classes refl)
      ∙ ap (λ (k : ℕ). or_else bad_count (or_else marks.wrong (ties (list_any not_one classes) missing_marks k))) (count_classes no_marks classes ∙ zero_add (length classes))
      ∙ ap (or_else bad_count) (or_else-same marks.wrong (ties (list_any not_one classes) missing_marks (length classes)) (ties (list_any not_one classes) few (length classes)) (λ none. ap (λ (b : Bool). ties (list_any not_one classes) b (length classes)) (missing_is classes none)))
      ∙ ap (λ (w : Option FaultName). or_else bad_count (or_else w (ties (list_any not_one classes) few (length classes)))) (wrong_numbers classes)
    where
      zero_add : (k : ℕ) → 0 + k ≡ k
      zero_add k = omega arith

  -- a ballot without a fault
  pub record Good (n : ℕ) (classes : List (List ℕ)) : Type 0 where
    pub least : 1 ≤ n
    pub most : n ≤ most_voters
    pub is : (with_classes m way no_marks classes).approved ≡ set_of (taken_from way 0 0 classes)

  pub good_ballot : (kind : Kind) (categories : Option ℕ) (n : ℕ) (classes : List (List ℕ)) → ballot_fault kind m categories n classes ≡ None → Good n classes
  good_ballot kind categories n classes e =
      let numbers = flat_map (λ class. class) classes in
      let tail = or_else (fault_if (is_strict kind && list_any not_one classes) NotStrict) (or_else (fault_if (is_complete kind && list_any (λ n. not (has_member numbers n)) (range_with_len 1 m)) Incomplete) (fault_if (is_cat kind && nat_lt (unwrap_or categories (length classes)) (length classes)) TooManyClasses)) in
      let parts = or_else-parts (fault_if ((n == 0) || nat_lt most_voters n) BadCount) (or_else (number_in_ballot_fault m [] numbers) tail) e in
      let both = or_parts (n == 0) (nat_lt most_voters n) (fault_if-none ((n == 0) || nat_lt most_voters n) BadCount parts.0) in
      let some : n ≡ 0 → ⊥ = eqb-false n 0 both.0 in
      let wrong = (or_else-parts (number_in_ballot_fault m [] numbers) tail parts.1).0 in
      record { least = omega (arith, some); most = ltb-false most_voters n both.1; is = approved_is classes (wrong_numbers classes ∙ wrong) }
