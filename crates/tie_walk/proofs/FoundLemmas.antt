-- The sets of a level as they are found, each once.
use Rattle.std.proofs.Common.{◌≡◌, ℕ, ◌+◌, ◌<◌, ◌≤◌, ◌++◌, Bool, true, false, cond, List, [], ◌∷◌, sym, ap, ◌∙◌, subst, inl, inr, arith, length, take, get_or, Contains, append_assoc, append-nil}
use Rattle.std.specs.List.{list_any, flat_map}
use Rattle.std.specs.Str.{bytes_eq}
use Rattle.std.proofs.lemmas.Bool.{cases_Bool}
use Rattle.std.proofs.lemmas.Cmp.{nat_list_eq_equiv}
use Rattle.std.proofs.lemmas.Grind.{flat_map-append}
use Rattle.std.proofs.lemmas.List.{take_all, take_more}
use Rattle.std.proofs.lemmas.List.Elements.{Contains-append_cases, Contains-append_left, Contains-append_right, Contains-push_cases}
use Rattle.std.proofs.lemmas.Map.Views.{Contains-from_any, list_any-from_Contains}
use Rattle.std.proofs.lemmas.Slice.Eq.{bytes_eq-Decides}
use Rattle.tie_walk.specs.Steps.Choices.{HasSetsOf, IsInOrder}

-- ---- sets that are inserted

-- an inserted set is there, and no other one comes or goes
pub found-inserted : (old new : List (List ℕ)) (set : List ℕ) → ((other : List ℕ) → list_any (bytes_eq other) new ≡ cond (bytes_eq set other) true (list_any (bytes_eq other) old)) → HasSetsOf (old ++ set ∷ []) new
found-inserted old new set is other = elim (cases_Bool (bytes_eq set other)) [
  | inl same ↦ (
    λ _. Contains-append_right old (set ∷ []) other (0, omega arith, (bytes_eq-Decides set other).0 same),
    λ _. there new (is other ∙ ap found same),
  )
  | inr apart ↦
      let alike : list_any (bytes_eq other) new ≡ list_any (bytes_eq other) old = is other ∙ ap found apart in (
        λ inside. Contains-append_left old (set ∷ []) other (there old (sym alike ∙ is_there new inside)),
        λ inside. elim (Contains-push_cases old set other inside) [
          | inl before ↦ there new (alike ∙ is_there old before)
          | inr same ↦ absurd (let f : true ≡ false = sym ((bytes_eq-Decides set other).1 same) ∙ apart in cc)
        ],
      )
]
  where
    found : Bool → Bool
    found b = cond b true (list_any (bytes_eq other) old)

    there : (keys : List (List ℕ)) → list_any (bytes_eq other) keys ≡ true → Contains keys other
    there keys = Contains-from_any (λ x y e. (bytes_eq-Decides x y).0 e) other keys

    is_there : (keys : List (List ℕ)) → Contains keys other → list_any (bytes_eq other) keys ≡ true
    is_there keys = list_any-from_Contains nat_list_eq_equiv other keys

-- more sets are added to those that were found
pub found-more : (sets old more new : List (List ℕ)) → HasSetsOf sets old → HasSetsOf (old ++ more) new → HasSetsOf (sets ++ more) new
found-more sets old more new before after set = (
  λ inside. elim (Contains-append_cases old more set ((after set).0 inside)) [
    | inl early ↦ Contains-append_left sets more set ((before set).0 early)
    | inr late ↦ Contains-append_right sets more set late
  ],
  λ inside. elim (Contains-append_cases sets more set inside) [
    | inl early ↦ (after set).1 (Contains-append_left old more set ((before set).1 early))
    | inr late ↦ (after set).1 (Contains-append_right old more set late)
  ],
)

-- the first of the sets that are left is inserted
pub found-first : (all keys new left : List (List ℕ)) (set : List ℕ) → HasSetsOf all (keys ++ set ∷ left) → HasSetsOf (keys ++ set ∷ []) new → HasSetsOf all (new ++ left)
found-first all keys new left set before one other = (λ inside. (before other).0 ((same other).0 inside), λ inside. (same other).1 ((before other).1 inside))
  where
    same : HasSetsOf (keys ++ set ∷ left) (new ++ left)
    same = subst (λ l. HasSetsOf l (new ++ left)) (append_assoc keys (set ∷ []) left)
        (found-more (keys ++ set ∷ []) new left (new ++ left) one (λ s. (λ inside. inside, λ inside. inside)))

-- ---- the sets that one choice makes of those of a level, set by set

module _ (make : List ℕ → List (List ℕ)) (level : List (List ℕ)) where
  pub found-next : (i : ℕ) (set : List ℕ) (old new : List (List ℕ)) → i < length level → set ≡ get_or level i set → HasSetsOf (flat_map make (take i level)) old → HasSetsOf (old ++ make set) new → HasSetsOf (flat_map make (take (i + 1) level)) new
  found-next i set old new inside at before after =
      let upto = flat_map make (take i level) in
      let is : flat_map make (take (i + 1) level) ≡ upto ++ make set =
      ap (flat_map make) (take_more level i set inside ∙ ap (λ s. take i level ++ s ∷ []) (sym at)) ∙ flat_map-append make (take i level) (set ∷ []) ∙ ap (λ l. upto ++ l) (append-nil (make set)) in
      subst (λ l. HasSetsOf l new) (sym is) (found-more upto old (make set) new before after)

  -- all that were found, put in order
  pub found-in_order : (i : ℕ) (found next : List (List ℕ)) → length level ≤ i → HasSetsOf (flat_map make (take i level)) found → IsInOrder found next → IsInOrder (flat_map make level) next
  found-in_order i found next all has made = record {
    order = made.order;
    members = λ set. (
      λ inside. (is set).0 ((made.members set).0 inside),
      λ inside. (made.members set).1 ((is set).1 inside),
    );
  }
    where
      is : HasSetsOf (flat_map make level) found
      is = subst (λ l. HasSetsOf (flat_map make l) found) (take_all i level all) has
