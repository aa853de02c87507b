-- Sequences of choices, where each choice changes the set that the next one is made at.
use Rattle.std.proofs.lemmas.Grind.{common_steps}
use Rattle.std.proofs.Common.{◌≡◌, ℕ, zero, suc, ◌+◌, ◌≤◌, ◌&&◌, Bool, true, List, [], ◌∷◌, ◌++◌, refl, sym, ap, ◌∙◌, subst, arith, length, map, Contains}
use Rattle.std.specs.Prelude.{fold}
use Rattle.std.specs.List.{list_any, flat_map, range_with_len, AllByRecursion, All}
use Rattle.std.specs.Str.{bytes_eq}
use Rattle.std.proofs.lemmas.Bool.{and_parts, and_from}
use Rattle.std.proofs.lemmas.List.Elements.{Contains-append_left, Contains-append_right, All-append, All-map, All-nil, All-cons, All-contains}
use Rattle.std.proofs.lemmas.List.Folds.{Any-from_list_any, list_any-from_Any}
use Rattle.std.proofs.lemmas.List.FromFn.{get_or-range_with_len, length-range_with_len}
use Rattle.std.proofs.lemmas.Slice.Eq.{bytes_eq-Decides}
use Rattle.ballot_base.proofs.ListLemmas.{Contains-map}
use Rattle.tie_walk.specs.Sequences.{sequences}
use Rattle.tie_walk.specs.Steps.Choices.{follows, IsReached}

module _ (may : List ℕ → ℕ → Bool) (change : List ℕ → ℕ → List ℕ) where
  -- a set that one choice makes of a reached one
  pub record IsChange (start : List ℕ) (i : ℕ) (set : List ℕ) : Type 0 where
    pub old : List ℕ
    pub reached : IsReached may change start i old
    pub choice : ℕ
    pub allowed : may old choice ≡ true
    pub is : change old choice ≡ set

  pub reached_none : (start : List ℕ) → IsReached may change start 0 start
  reached_none start = record { list = []; long = refl; made = refl; ends = refl }

  reached_by_none : (start : List ℕ) (list : List ℕ) (set : List ℕ) → length list ≡ 0 → fold change start list ≡ set → set ≡ start
  reached_by_none start [] set long ends = sym ends
  reached_by_none start (c ∷ list) set long ends = absurd (omega arith)

  pub reached_start : (start set : List ℕ) → IsReached may change start 0 set → set ≡ start
  reached_start start set r = reached_by_none start r.list set r.long r.ends

  follows-push : (start list : List ℕ) (c : ℕ) → follows may change start list ≡ true → may (fold change start list) c ≡ true → follows may change start (list ++ c ∷ []) ≡ true
  follows-push start [] c made allowed = and_from (may start c) true allowed refl
  follows-push start (d ∷ list) c made allowed =
      let parts = and_parts (may start d) (follows may change (change start d) list) made in
      and_from (may start d) (follows may change (change start d) (list ++ c ∷ [])) parts.0 (follows-push (change start d) list c parts.1 allowed)

  fold-push : (start list : List ℕ) (c : ℕ) → fold change start (list ++ c ∷ []) ≡ change (fold change start list) c
  fold-push start [] c = refl
  fold-push start (d ∷ list) c = fold-push (change start d) list c

  length-push : (list : List ℕ) (c : ℕ) → length (list ++ c ∷ []) ≡ length list + 1
  length-push [] c = refl
  length-push (d ∷ list) c = omega (arith, length-push list c)

  pub reached_more : (start : List ℕ) (i : ℕ) (old : List ℕ) (c : ℕ) → IsReached may change start i old → may old c ≡ true → IsReached may change start (i + 1) (change old c)
  reached_more start i old c r allowed =
      grind (arith, common_steps, length-push r.list c, follows-push, fold-push start r.list c)

  -- one choice before a change
  change_before : (start : List ℕ) (c i : ℕ) (set : List ℕ) → may start c ≡ true → IsChange (change start c) i set → IsChange start (i + 1) set
  change_before start c i set allowed h = record {
    old = h.old;
    reached = record {
      list = c ∷ h.reached.list;
      long = omega (arith, h.reached.long);
      made = and_from (may start c) (follows may change (change start c) h.reached.list) allowed h.reached.made;
      ends = h.reached.ends;
    };
    choice = h.choice;
    allowed = h.allowed;
    is = h.is;
  }

  change_at_last : (start : List ℕ) (c : ℕ) (list : List ℕ) (set : List ℕ) → follows may change start (c ∷ list) ≡ true → fold change start (c ∷ list) ≡ set → IsChange start (length list) set
  change_at_last start c [] set made ends = record { old = start; reached = reached_none start; choice = c; allowed = (and_parts (may start c) true made).0; is = ends }
  change_at_last start c (d ∷ list) set made ends =
      let parts = and_parts (may start c) (follows may change (change start c) (d ∷ list)) made in
      subst (λ n. IsChange start n set) (omega arith) (change_before start c (length list) set parts.0 (change_at_last (change start c) d list set parts.1 ends))

  change_by_list : (start : List ℕ) (i : ℕ) (list : List ℕ) (set : List ℕ) → length list ≡ i + 1 → follows may change start list ≡ true → fold change start list ≡ set → IsChange start i set
  change_by_list start i [] set long made ends = absurd (omega arith)
  change_by_list start i (c ∷ list) set long made ends = subst (λ n. IsChange start n set) (omega arith) (change_at_last start c list set made ends)

  -- the last of some choices
  pub reached_last : (start : List ℕ) (i : ℕ) (set : List ℕ) → IsReached may change start (i + 1) set → IsChange start i set
  reached_last start i set r = change_by_list start i r.list set r.long r.made r.ends

-- ---- all lists of choices

pub Contains-flat_map : {X Y : Type 0} (f : X → List Y) (xs : List X) (x : X) (y : Y) → Contains xs x → Contains (f x) y → Contains (flat_map f xs) y
Contains-flat_map f [] x y c d = absurd (omega (arith, c.1))
Contains-flat_map f (z ∷ zs) x y (zero, inside, is) d = Contains-append_left (f z) (flat_map f zs) y (subst (λ w. Contains (f w) y) (sym is) d)
Contains-flat_map f (z ∷ zs) x y (suc i, inside, is) d = Contains-append_right (f z) (flat_map f zs) y (Contains-flat_map f zs x y (i, omega (arith, inside), is) d)

All-flat_map : {X Y : Type 0} (P : Y → Type 0) (f : X → List Y) (xs : List X) → ((x : X) → All P (f x)) → All P (flat_map f xs)
All-flat_map P f [] each = All-nil P
All-flat_map P f (x ∷ xs) each = All-append P (f x) (flat_map f xs) (each x) (All-flat_map P f xs each)

pub Contains-range : (m c : ℕ) → 1 ≤ c → c ≤ m → Contains (range_with_len 1 m) c
Contains-range m zero low high = absurd (omega arith)
Contains-range m (suc c) low high = (c, omega (arith, length-range_with_len 1 m), get_or-range_with_len 1 m c (suc c) (omega arith) ∙ omega arith)

abbrev pub AreCandidates : ℕ → List ℕ → Type 0
AreCandidates m list = AllByRecursion (λ c. (1 ≤ c) × (c ≤ m)) list

pub sequences-contains : (m : ℕ) (list : List ℕ) → AreCandidates m list → Contains (sequences m (length list)) list
sequences-contains m [] all = (0, omega arith, refl)
sequences-contains m (c ∷ list) all =
    Contains-flat_map (λ d. map (λ rest. d ∷ rest) (sequences m (length list))) (range_with_len 1 m) c (c ∷ list) (Contains-range m c all.0.0 all.0.1)
    (Contains-map (λ rest. c ∷ rest) (sequences m (length list)) list (sequences-contains m list all.1))

sequences-length : (m size : ℕ) → All (λ list. length list ≡ size) (sequences m size)
sequences-length m zero = All-cons (λ list. length list ≡ 0) [] [] refl (All-nil (λ list. length list ≡ 0))
sequences-length m (suc size) =
    All-flat_map (λ list. length list ≡ suc size) (λ c. map (λ list. c ∷ list) (sequences m size)) (range_with_len 1 m)
    (λ c. All-map (λ list. length list ≡ suc size) (λ list. c ∷ list) (sequences m size) (λ k d inside. ap suc (sequences-length m size k d inside)))

module _ (may : List ℕ → ℕ → Bool) (change : List ℕ → ℕ → List ℕ) (m : ℕ) (start : List ℕ) where
  -- whether some list of choices makes the set
  abbrev pub is_made : ℕ → List ℕ → Bool
  is_made size set = list_any (λ list. follows may change start list && bytes_eq (fold change start list) set) (sequences m size)

  pub reached_from_made : (size : ℕ) (set : List ℕ) → is_made size set ≡ true → IsReached may change start size set
  reached_from_made size set made =
      grind (arith, common_steps, Any-from_list_any, and_parts, All-contains, sequences-length, bytes_eq-Decides)

  pub made_from_reached : (size : ℕ) (set : List ℕ) (r : IsReached may change start size set) → AreCandidates m r.list → is_made size set ≡ true
  made_from_reached size set r all =
      grind (arith, common_steps, sequences-contains, list_any-from_Any, and_from, bytes_eq-Decides)
