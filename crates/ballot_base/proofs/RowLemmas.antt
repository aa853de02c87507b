-- Rows of ballots: what adding votes does, by the words of a map and by our own.
use Rattle.std.proofs.lemmas.Grind.{common_steps}
use Rattle.std.proofs.Common.{◌≡◌, ℕ, ◌+◌, ◌<◌, ◌≤◌, Bool, true, false, cond, List, [], ◌∷◌, Option, Some, None, refl, sym, ap, ◌∙◌, arith, zero, suc, ◌≢◌, ◌++◌, length, get_or, AllPairs}
use Rattle.std.specs.List.{AllByRecursion, position_or_len}
use Rattle.std.specs.Str.{bytes_eq}
use Rattle.std.specs.Cmp.Lexicographic.{bytes_decides}
use Rattle.std.proofs.lemmas.Bool.{or_left, or_parts}
use Rattle.std.proofs.lemmas.List.Quantifiers.{all_pairs_push}
use Rattle.std.specs.Map.{lookup, keys_of}
use Rattle.std.proofs.lemmas.List.Sums.{sum_by-cons}
use Rattle.indexmap.specs.IndexMap.{insert_entry, set_value_at}
use Rattle.ballot_base.specs.Limits.{most_voters}
use Rattle.ballot_base.specs.Lists.{IsIncreasing}
use Rattle.ballot_base.specs.Ballots.{Row, has_ballot, with_votes, ballots_of, voter_count, election, IsElection}
use Rattle.ballot_base.specs.Steps.Profiles.{IsCounted}

-- an element after the first
later_value : (row : Row) (rows : List Row) (i n : ℕ) → set_value_at (row ∷ rows) (1 + i) n ≡ row ∷ set_value_at rows i n
later_value row rows i n = let e : 1 + i ≡ suc i = omega arith in ap (λ k. set_value_at (row ∷ rows) k n) e

module _ (ballot : List ℕ) (count : ℕ) where
  pub has_ballot-absent : (rows : List Row) → lookup (bytes_eq ballot) rows ≡ None → has_ballot rows ballot ≡ false
  has_ballot-absent [] none = refl
  has_ballot-absent (row ∷ rows) none = grind (arith, common_steps, has_ballot-absent rows)

  with_votes-new : (rows : List Row) → lookup (bytes_eq ballot) rows ≡ None → insert_entry bytes_eq rows ballot count ≡ with_votes rows ballot count
  with_votes-new [] none = refl
  with_votes-new (row ∷ rows) none = grind (arith, common_steps, with_votes-new rows)

  with_votes-old : (rows : List Row) (before : ℕ) → lookup (bytes_eq ballot) rows ≡ Some before
      → set_value_at (insert_entry bytes_eq rows ballot count) (position_or_len (bytes_eq ballot) (keys_of rows)) (before + count) ≡ with_votes rows ballot count
  with_votes-old [] before some = absurd (cc)
  with_votes-old (row ∷ rows) before some =
      grind (arith, common_steps, with_votes-old rows before, later_value)

  -- the same, of a map that `insert_full` has changed, where it found the voters of the row so far
  pub with_votes-put : (rows mid : List Row) (place before : ℕ) (found : Option ℕ) → mid ≡ insert_entry bytes_eq rows ballot count
      → place ≡ position_or_len (bytes_eq ballot) (keys_of rows) → found ≡ lookup (bytes_eq ballot) rows → found ≡ Some before
      → set_value_at mid place (before + count) ≡ with_votes rows ballot count
  with_votes-put rows mid place before found changed at old some = grind (arith, common_steps, with_votes-old)

  pub with_votes-put_new : (rows mid : List Row) (found : Option ℕ) → mid ≡ insert_entry bytes_eq rows ballot count
      → found ≡ lookup (bytes_eq ballot) rows → found ≡ None → mid ≡ with_votes rows ballot count
  with_votes-put_new rows mid found changed old none = changed ∙ with_votes-new rows (sym old ∙ none)

  -- a row's voters are some of all
  count-le : (rows : List Row) (before : ℕ) → lookup (bytes_eq ballot) rows ≡ Some before → before ≤ voter_count rows
  count-le [] before some = absurd (cc)
  count-le (row ∷ rows) before some = grind (arith, common_steps, count-le rows before, sum_by-cons)

  pub count-le-put : (rows : List Row) (before : ℕ) (found : Option ℕ) → found ≡ lookup (bytes_eq ballot) rows → found ≡ Some before → before ≤ voter_count rows
  count-le-put rows before found old some = count-le rows before (sym old ∙ some)

-- ---- what votes leave true

pub voter_count-with_votes : (rows : List Row) (ballot : List ℕ) (count : ℕ) → voter_count (with_votes rows ballot count) ≡ voter_count rows + count
voter_count-with_votes [] ballot count = omega arith
voter_count-with_votes (row ∷ rows) ballot count =
    grind (arith, common_steps, voter_count-with_votes rows ballot count, sum_by-cons)

pub ballots-with_votes : (m : ℕ) (rows : List Row) (ballot : List ℕ) (count : ℕ) → IsIncreasing 1 m ballot
    → AllByRecursion (λ (row : Row). IsIncreasing 1 m row.0) rows → AllByRecursion (λ (row : Row). IsIncreasing 1 m row.0) (with_votes rows ballot count)
ballots-with_votes m [] ballot count own all = (own, tt)
ballots-with_votes m (row ∷ rows) ballot count own all =
    grind (arith, common_steps, ballots-with_votes m rows ballot count own all.1)

pub counts-with_votes : (rows : List Row) (ballot : List ℕ) (count : ℕ) → 1 ≤ count
    → AllByRecursion (λ (row : Row). 0 < row.1) rows → AllByRecursion (λ (row : Row). 0 < row.1) (with_votes rows ballot count)
counts-with_votes [] ballot count own all = (omega arith, tt)
counts-with_votes (row ∷ rows) ballot count own all =
    grind (arith, common_steps, counts-with_votes rows ballot count own all.1)

-- a ballot that is there keeps its place, and a new one comes last
pub ballots_of-with_votes : (rows : List Row) (ballot : List ℕ) (count : ℕ)
    → ballots_of (with_votes rows ballot count) ≡ cond (has_ballot rows ballot) (ballots_of rows) (ballots_of rows ++ ballot ∷ [])
ballots_of-with_votes [] ballot count = refl
ballots_of-with_votes (row ∷ rows) ballot count =
    grind (arith, common_steps, ballots_of-with_votes rows ballot count)

-- a ballot that nobody cast is none of the rows'
others-from_has_ballot : (rows : List Row) (ballot : List ℕ) → has_ballot rows ballot ≡ false
    → (k : ℕ) (d : List ℕ) → k < length (ballots_of rows) → get_or (ballots_of rows) k d ≢ ballot
others-from_has_ballot [] ballot none k d h = absurd (omega arith)
others-from_has_ballot (row ∷ rows) ballot none zero d h = λ e.
    let found : bytes_eq ballot row.0 ≡ true = (bytes_decides ballot row.0).1 (sym e) in
    let here : has_ballot (row ∷ rows) ballot ≡ true = or_left (bytes_eq ballot row.0) (has_ballot rows ballot) found in cc
others-from_has_ballot (row ∷ rows) ballot none (suc k) d h =
    others-from_has_ballot rows ballot (or_parts (bytes_eq ballot row.0) (has_ballot rows ballot) none).1 k d (omega arith)

pub distinct-with_votes : (rows : List Row) (ballot : List ℕ) (count : ℕ)
    → AllPairs (λ (x y : List ℕ). x ≢ y) (ballots_of rows) → AllPairs (λ (x y : List ℕ). x ≢ y) (ballots_of (with_votes rows ballot count))
distinct-with_votes rows ballot count all =
    rw ballots_of-with_votes (by (has_ballot rows ballot) refl)
  where
    by : (there : Bool) → has_ballot rows ballot ≡ there → AllPairs (λ (x y : List ℕ). x ≢ y) (cond there (ballots_of rows) (ballots_of rows ++ ballot ∷ []))
    by true e = all
    by false e = all_pairs_push (λ (x y : List ℕ). x ≢ y) (ballots_of rows) ballot all (others-from_has_ballot rows ballot e)

-- a profile with a row has a voter
pub some_voter : (rows : List Row) → AllByRecursion (λ (row : Row). 0 < row.1) rows → (rows ≡ [] → ⊥) → 1 ≤ voter_count rows
some_voter [] all some = absurd (some refl)
some_voter (row ∷ rows) all some = let one = all.0 in omega (arith, sum_by-cons (λ (r : Row). r.1) row rows)

-- an election with votes added
pub IsElection-with_votes : (m : ℕ) (names : List (List ℕ)) (rows : List Row) (ballot : List ℕ) (count : ℕ) → IsElection (election m names rows) → IsIncreasing 1 m ballot → 1 ≤ count
    → voter_count rows + count ≤ most_voters → IsElection (election m names (with_votes rows ballot count))
IsElection-with_votes m names rows ballot count valid own some room =
    grind (arith, common_steps, ballots-with_votes, distinct-with_votes, counts-with_votes, voter_count-with_votes)

-- the same, with its number of voters
pub IsCounted-with_votes : (m : ℕ) (names : List (List ℕ)) (rows new : List Row) (voters : ℕ) (ballot : List ℕ) (count : ℕ)
    → IsCounted (election m names rows) voters → IsIncreasing 1 m ballot → 1 ≤ count → voters + count ≤ most_voters
    → new ≡ with_votes rows ballot count → IsCounted (election m names new) (voters + count)
IsCounted-with_votes m names rows new voters ballot count counted own some room is =
    grind (arith, common_steps, IsElection-with_votes, voter_count-with_votes)
