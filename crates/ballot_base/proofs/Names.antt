-- Names of candidates: where they are kept, and what a write of one name, and fewer candidates, make of an election.
use Rattle.std.proofs.lemmas.Grind.{common_steps}
use Rattle.std.proofs.Common.{◌≡◌, ℕ, zero, suc, ◌-◌, ◌<◌, ◌≤◌, ◌==◌, true, false, List, [], ◌∷◌, refl, sym, ap, ◌∙◌, arith, take, length, get_or, Some, None, option_map, unwrap_or}
use Rattle.std.specs.Prelude.{Vec, slice_get, slice_set}
use Rattle.std.proofs.lemmas.List.{length-map, map-set, take-map}
use Rattle.std.proofs.lemmas.Option.{slice_get-map, slice_get_read}
use Rattle.ballot_base.specs.Ballots.{Election, Row, election, name_of, some_name}
use Rattle.ballot_base.specs.Steps.Profiles.{texts}

module _ {A : Type 0} where
  -- a name in the place of another
  pub election-named : (m k n : ℕ) (names : List (Vec ℕ A)) (rows : List Row) (e : Election) (name : Vec ℕ A) (text : List ℕ) → election m (texts names) rows ≡ e → k ≡ n → name.items ≡ text
      → election m (texts (slice_set names (k - 1) name)) rows ≡ record e { names = slice_set e.names (n - 1) text }
  election-named m k n names rows e name text view place is = grind (arith, common_steps, map-set)

  -- fewer candidates
  pub election-narrowed : (m k fewer : ℕ) (names kept : List (Vec ℕ A)) (rows : List Row) (e : Election) → election m (texts names) rows ≡ e → kept ≡ take k names → k ≡ fewer → e.rows ≡ []
      → election fewer (texts kept) rows ≡ election fewer (take fewer e.names) []
  election-narrowed m k fewer names kept rows e view cut place none = grind (arith, common_steps, take-map)

  -- the name of a candidate is kept one place before the number
  pub name_of-kept : (m k n : ℕ) (names : List (Vec ℕ A)) (rows : List Row) (e : Election) (name : Vec ℕ A) → election m (texts names) rows ≡ e → length (texts names) ≡ m → 1 ≤ n → n ≤ m → k ≡ n
      → name ≡ get_or names (k - 1) name → name_of e n ≡ some_name name.items
  name_of-kept m k zero names rows e name view long low high place is = absurd (omega arith)
  name_of-kept m k (suc i) names rows e name view long low high place is =
      let at : k - 1 ≡ i = omega arith in
      let within : i < length names = omega (arith, length-map names (λ (v : Vec ℕ A). v.items)) in
      let kept : slice_get names i ≡ Some name = slice_get_read names (length names) i name refl within (is ∙ ap (λ j. get_or names j name) at) in
      ap (λ (f : Election). name_of f (suc i)) (sym view)
      ∙ ap (λ o. some_name (unwrap_or o [])) (slice_get-map (λ (v : Vec ℕ A). v.items) names i ∙ ap (option_map (λ (v : Vec ℕ A). v.items)) kept)

pub some_name-none : (bytes : List ℕ) → (length bytes == 0) ≡ true → some_name bytes ≡ None
some_name-none [] none = refl
some_name-none (b ∷ bytes) none = absurd (grind arith)

pub some_name-some : (bytes : List ℕ) → (length bytes == 0) ≡ false → some_name bytes ≡ Some bytes
some_name-some [] some = absurd (cc)
some_name-some (b ∷ bytes) some = refl
