-- The names and the ballots of the lines, line by line.
use Rattle.std.proofs.Common.{◌≡◌, ◌≢◌, ℕ, zero, suc, ◌+◌, ◌-◌, ◌<◌, ◌≤◌, ◌||◌, Bool, true, false, cond, List, [], ◌∷◌, ◌++◌, refl, sym, ap, ◌∙◌, arith, map, filter, filter_map, length, sum_by, append-nil, Option, Some, None, unwrap_or}
use Rattle.std.specs.Prelude.{slice_set, slice_get}
use Rattle.std.specs.List.{list_any, range_with_len, cons_option}
use Rattle.std.proofs.lemmas.List.{reverse-append}
use Rattle.std.proofs.lemmas.List.Sums.{fold-append, sum_by-append}
use Rattle.std.proofs.lemmas.List.Elements.{filter_map-append, filter-append}
use Rattle.std.proofs.lemmas.Bool.{eq-eqb, ne_eqb}
use Rattle.std.specs.Str.{bytes_eq}
use Rattle.ballot_base.specs.Ballots.{Row, has_ballot, with_votes}
use Rattle.preflib_text.specs.declared.pick.Kind.{Kind}
use Rattle.preflib_text.specs.declared.pick.Pick.{Pick}
use Rattle.preflib_text.specs.declared.pick.Way.{Way}
use Rattle.preflib_text.specs.Lines.{is_ballot_line}
use Rattle.preflib_text.specs.Metadata.{Fact, NameIs}
use Rattle.preflib_text.specs.Approvals.{approved}
use Rattle.preflib_text.specs.Reading.{Cast, last_of, name_value, casts_in, votes_in}
use Rattle.preflib_text.specs.Steps.After.{last_name, last_names, cast_rows}

-- ---- names

pub map-range-same : (f g : ℕ → List ℕ) (first count : ℕ) → ((k : ℕ) → first ≤ k → k < first + count → f k ≡ g k) → map f (range_with_len first count) ≡ map g (range_with_len first count)
map-range-same f g first zero same = refl
map-range-same f g first (suc count) same =
    ap (λ x. x ∷ map f (range_with_len (first + 1) count)) (same first (omega arith) (omega arith))
    ∙ ap (λ l. g first ∷ l) (map-range-same f g (first + 1) count (λ k low high. same k (omega arith) (omega arith)))

-- one of the values is another
map-range-set : (f g : ℕ → List ℕ) (first count at : ℕ) (value : List ℕ) → at < count → g (first + at) ≡ value → ((k : ℕ) → k ≢ first + at → f k ≡ g k)
    → slice_set (map f (range_with_len first count)) at value ≡ map g (range_with_len first count)
map-range-set f g first zero at value within is other = absurd (omega arith)
map-range-set f g first (suc count) zero value within is other =
    let here : value ≡ g first = sym is ∙ ap g (omega arith) in
    ap (λ x. x ∷ map f (range_with_len (first + 1) count)) here
    ∙ ap (λ l. g first ∷ l) (map-range-same f g (first + 1) count (λ k low high. other k (λ e. absurd (omega arith))))
map-range-set f g first (suc count) (suc at) value within is other =
    let place : first + suc at ≡ (first + 1) + at = omega arith in
    ap (λ x. x ∷ slice_set (map f (range_with_len (first + 1) count)) at value) (other first (λ e. absurd (omega arith)))
    ∙ ap (λ l. g first ∷ l) (map-range-set f g (first + 1) count at value (omega arith) (sym (ap g place) ∙ is) (λ k h. other k (λ e. h (e ∙ place))))

last_name-told : (tolds : List Fact) (n : ℕ) (value : List ℕ) → last_name (tolds ++ NameIs n value ∷ []) n ≡ value
last_name-told tolds n value =
    ap (λ l. unwrap_or (last_of l) []) (filter_map-append (name_value n) tolds (NameIs n value ∷ []) ∙ ap (λ t. filter_map (name_value n) tolds ++ cons_option (cond t (Some value) None) []) (eq-eqb n n refl))
    ∙ ap (λ l. unwrap_or (slice_get l 0) []) (reverse-append (filter_map (name_value n) tolds) (value ∷ []))

last_name-other : (tolds : List Fact) (told : Fact) (n : ℕ) → name_value n told ≡ None → last_name tolds n ≡ last_name (tolds ++ told ∷ []) n
last_name-other tolds told n none = sym (ap (λ l. unwrap_or (last_of l) []) (filter_map-append (name_value n) tolds (told ∷ []) ∙ ap (λ o. filter_map (name_value n) tolds ++ cons_option o []) none ∙ append-nil (filter_map (name_value n) tolds)))

pub name_value-other : (n k : ℕ) (value : List ℕ) → k ≢ n → name_value k (NameIs n value) ≡ None
name_value-other n k value other = ap (λ t. cond t (Some value) None) (ne_eqb n k (λ e. other (sym e)))

-- a name is told
pub last_names-told : (tolds : List Fact) (n count : ℕ) (value : List ℕ) → 1 ≤ n → n ≤ count → slice_set (last_names tolds count) (n - 1) value ≡ last_names (tolds ++ NameIs n value ∷ []) count
last_names-told tolds n count value low high =
    let place : 1 + (n - 1) ≡ n = omega arith in
    map-range-set (last_name tolds) (last_name (tolds ++ NameIs n value ∷ [])) 1 count (n - 1) value (omega arith)
    (ap (last_name (tolds ++ NameIs n value ∷ [])) place ∙ last_name-told tolds n value)
    (λ k other. last_name-other tolds (NameIs n value) k (name_value-other n k value (λ e. other (e ∙ sym place))))

-- no candidate's name is told
pub last_names-kept : (tolds : List Fact) (told : Fact) (count : ℕ) → ((k : ℕ) → 1 ≤ k → k ≤ count → name_value k told ≡ None) → last_names tolds count ≡ last_names (tolds ++ told ∷ []) count
last_names-kept tolds told count none = map-range-same (last_name tolds) (last_name (tolds ++ told ∷ [])) 1 count (λ k low high. last_name-other tolds told k (none k low (omega arith)))

-- ---- ballots

module _ (pick : Pick) (read : List ℕ → Option Cast) where
  pub casts_in-other : (before : List (List ℕ)) (line : List ℕ) → is_ballot_line line ≡ false → casts_in pick read (before ++ line ∷ []) ≡ casts_in pick read before
  casts_in-other before line other =
      ap (filter_map read) (filter-append is_ballot_line before (line ∷ []) ∙ ap (λ t. filter is_ballot_line before ++ cond t (line ∷ []) []) other ∙ append-nil (filter is_ballot_line before))

  pub casts_in-ballot : (before : List (List ℕ)) (line : List ℕ) (cast : Cast) → is_ballot_line line ≡ true → read line ≡ Some cast → casts_in pick read (before ++ line ∷ []) ≡ casts_in pick read before ++ cast ∷ []
  casts_in-ballot before line cast is read_is =
      ap (filter_map read) (filter-append is_ballot_line before (line ∷ []) ∙ ap (λ t. filter is_ballot_line before ++ cond t (line ∷ []) []) is)
      ∙ filter_map-append read (filter is_ballot_line before) (line ∷ []) ∙ ap (λ o. casts_in pick read before ++ cons_option o []) read_is

  pub casts_in-none : (before : List (List ℕ)) → list_any is_ballot_line before ≡ false → casts_in pick read before ≡ []
  casts_in-none before none = ap (filter_map read) (filtered before none)
    where
      filtered : (lines : List (List ℕ)) → list_any is_ballot_line lines ≡ false → filter is_ballot_line lines ≡ []
      filtered [] h = refl
      filtered (line ∷ lines) h = by (is_ballot_line line) h (filtered lines)
        where
          by : (t : Bool) → (t || list_any is_ballot_line lines) ≡ false → (list_any is_ballot_line lines ≡ false → filter is_ballot_line lines ≡ []) → cond t (line ∷ filter is_ballot_line lines) (filter is_ballot_line lines) ≡ []
          by true g rest = absurd (cc)
          by false g rest = rest g

  pub votes_in-ballot : (before : List (List ℕ)) (line : List ℕ) (cast : Cast) → is_ballot_line line ≡ true → read line ≡ Some cast → votes_in pick read (before ++ line ∷ []) ≡ votes_in pick read before + cast.count
  votes_in-ballot before line cast is read_is =
      let one : 0 + cast.count ≡ cast.count = omega arith in
      ap (sum_by (λ (c : Cast). c.count)) (casts_in-ballot before line cast is read_is) ∙ sum_by-append (λ (c : Cast). c.count) (casts_in pick read before) (cast ∷ []) ∙ ap (λ n. votes_in pick read before + n) one

pub cast_rows-push : (kind : Kind) (way : Way) (casts : List Cast) (cast : Cast) → cast_rows kind way (casts ++ cast ∷ []) ≡ with_votes (cast_rows kind way casts) (approved kind way cast.classes) cast.count
cast_rows-push kind way casts cast = fold-append (λ rows (c : Cast). with_votes rows (approved kind way c.classes) c.count) [] casts (cast ∷ [])

pub with_votes-some : (rows : List Row) (ballot : List ℕ) (count : ℕ) → with_votes rows ballot count ≢ []
with_votes-some [] ballot count none = absurd (cc)
with_votes-some (row ∷ rows) ballot count none = by (bytes_eq ballot row.0) none
  where
    by : (t : Bool) → cond t ((row.0, row.1 + count) ∷ rows) (row ∷ with_votes rows ballot count) ≡ [] → ⊥
    by true e = absurd (cc)
    by false e = absurd (cc)

-- a ballot that no row has makes a new one
pub length-with_votes : (rows : List Row) (ballot : List ℕ) (count : ℕ) → has_ballot rows ballot ≡ false → length rows < length (with_votes rows ballot count)
length-with_votes [] ballot count none = omega arith
length-with_votes (row ∷ rows) ballot count none = by (bytes_eq ballot row.0) none (length-with_votes rows ballot count)
  where
    by : (t : Bool) → (t || has_ballot rows ballot) ≡ false → (has_ballot rows ballot ≡ false → length rows < length (with_votes rows ballot count))
        → length (row ∷ rows) < length (cond t ((row.0, row.1 + count) ∷ rows) (row ∷ with_votes rows ballot count))
    by true e rest = absurd (cc)
    by false e rest = let more = rest e in omega arith
