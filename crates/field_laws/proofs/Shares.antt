-- The seats that a committee gives parties, and D'Hondt's method.
use Rattle.std.proofs.Common.{◌≡◌, ℕ, zero, suc, ◌+◌, ◌-◌, ◌*◌, ◌≤◌, ◌∙◌, ◌&&◌, ◌||◌, ◌==◌, Bool, true, false, not, List, [], ◌∷◌, refl, sym, ap, arith, map, length, sum, sum_by}
use Rattle.std.specs.Prelude.{nat_le}
use Rattle.std.specs.List.{list_all, zip}
use Rattle.std.proofs.lemmas.Bool.{and_from, and_parts, eq-eqb, eqb-true, le-leb, leb-true, ne_eqb}
use Rattle.std.proofs.lemmas.List.{length-map}
use Rattle.std.proofs.lemmas.List.Folds.{list_all-map}
use Rattle.std.proofs.lemmas.List.Sums.{sum-map}
use Rattle.ballot_base.specs.Ballots.{Row, hits}
use Rattle.seat_share.specs.declared.method.Method.TheVariants.{Dhondt}
use Rattle.seat_share.specs.Fair.{Party, keeps_its_seat, has_votes_for_seats, is_right, IsFair}
use Rattle.seat_share.specs.Quotients.{Quotient, quotient, is_at_least}
use Rattle.field_laws.specs.PartyLists.{votes_of, seats_of}
use Rattle.field_laws.proofs.PartyRows.{Among, all-among, among-all}

-- ---- quotients

-- proper quotients are compared by products
at-least : (x y : Quotient) → 1 ≤ x.1 → 1 ≤ y.1 → is_at_least x y ≡ nat_le (y.0 * x.1) (x.0 * y.1)
at-least x y some other = rw (ne_eqb x.1 0 (λ e. absurd (omega (arith, e, some))), ne_eqb y.1 0 (λ e. absurd (omega (arith, e, other)))) refl

third : (a b c d : Bool) → c ≡ true → (a || b || c || d) ≡ true
third true b c d h = refl
third false true c d h = refl
third false false c d h = ap (λ x. x || d) h

fourth : (a b c d : Bool) → d ≡ true → (a || b || c || d) ≡ true
fourth true b c d h = refl
fourth false true c d h = refl
fourth false false true d h = refl
fourth false false false d h = h

only-fourth : (a b c d : Bool) → (a || b || c || d) ≡ true → a ≡ false → b ≡ false → c ≡ false → d ≡ true
only-fourth true b c d h first second last = absurd (let e : true ≡ false = first in cc)
only-fourth false true c d h first second last = absurd (let e : true ≡ false = second in cc)
only-fourth false false true d h first second last = absurd (let e : true ≡ false = last in cc)
only-fourth false false false d h first second last = h

four-from : (a b c d : Bool) → a ≡ true → b ≡ true → c ≡ true → d ≡ true → (a && b && c && d) ≡ true
four-from a b c d first second next last = and_from (a && b && c) d (and_from (a && b) c (and_from a b first second) next) last

second-and-fourth : (a b c d : Bool) → (a && b && c && d) ≡ true → (b ≡ true) × (d ≡ true)
second-and-fourth a b c d all =
    let parts = and_parts (a && b && c) d all in
    ((and_parts a b (and_parts (a && b) c parts.0).0).1, parts.1)

-- no seat of the first is worth more to the second, which has t seats
pub keeps : (v s u t : ℕ) → (1 ≤ s → u * s ≤ v * (t + 1)) → keeps_its_seat Dhondt (v, s) (u, t) ≡ true
keeps v zero u t enough = third (v == 0) (u == 0) true (is_at_least (quotient Dhondt v (zero - 1)) (quotient Dhondt u t)) refl
keeps v (suc s) u t enough =
    let more = enough (omega arith) in
    let same = ap (λ n. u * n) (let seat : suc s - 1 + 1 ≡ suc s = omega arith in seat) in
    let fair : u * (suc s - 1 + 1) ≤ v * (t + 1) = omega (arith, more, same) in
    fourth (v == 0) (u == 0) (suc s == 0) (is_at_least (v, suc s - 1 + 1) (u, t + 1))
    (at-least (v, suc s - 1 + 1) (u, t + 1) (omega arith) (omega arith) ∙ le-leb (u * (suc s - 1 + 1)) (v * (t + 1)) fair)

pub kept : (v s u t : ℕ) → keeps_its_seat Dhondt (v, s) (u, t) ≡ true → 1 ≤ v → 1 ≤ u → 1 ≤ s → u * s ≤ v * (t + 1)
kept v zero u t is some other seat = absurd (omega (arith, seat))
kept v (suc s) u t is some other seat =
    let fair =
    only-fourth (v == 0) (u == 0) (suc s == 0) (is_at_least (v, suc s - 1 + 1) (u, t + 1)) is (ne_eqb v 0 (λ e. absurd (omega (arith, e, some)))) (ne_eqb u 0 (λ e. absurd (omega (arith, e, other))))
    (ne_eqb (suc s) 0 (λ e. absurd (omega (arith, e)))) in
    let same = ap (λ n. u * n) (let last : suc s - 1 + 1 ≡ suc s = omega arith in last) in
    let most : u * (suc s - 1 + 1) ≤ v * (t + 1) =
    leb-true (u * (suc s - 1 + 1)) (v * (t + 1)) (sym (at-least (v, suc s - 1 + 1) (u, t + 1) (omega arith) (omega arith)) ∙ fair) in
    omega (arith, most, same)

-- ---- the parties of an election

-- a party, as its votes and its seats
abbrev pub party_of : List ℕ → Row → Party
party_of committee row = (row.1, hits row.0 committee)

zip-maps : (committee : List ℕ) (rows : List Row) → zip (votes_of rows) (seats_of rows committee) ≡ map (party_of committee) rows
zip-maps committee [] = refl
zip-maps committee (row ∷ rows) = ap (λ ps. party_of committee row ∷ ps) (zip-maps committee rows)

-- what makes a committee share out its seats by D'Hondt's method: no list would give more for a seat than a list that has
-- the seat gives for its last one
pub record IsShared (k : ℕ) (rows : List Row) (committee : List ℕ) : Type 0 where
  pub all : sum_by (λ (row : Row). hits row.0 committee) rows ≡ k
  pub best : (one other : Row) → Among rows one → Among rows other → 1 ≤ hits one.0 committee → other.1 * hits one.0 committee ≤ one.1 * (hits other.0 committee + 1)

module _ (k : ℕ) (rows : List Row) (committee : List ℕ) (counts : (row : Row) → Among rows row → 1 ≤ row.1) where
  abbrev votes : List ℕ
  votes = votes_of rows

  abbrev seats : List ℕ
  seats = seats_of rows committee

  long : (length seats == length votes) ≡ true
  long = eq-eqb (length seats) (length votes) (omega (arith, length-map rows (λ (row : Row). hits row.0 committee), length-map rows (λ (row : Row). row.1)))

  parties : zip votes seats ≡ map (party_of committee) rows
  parties = zip-maps committee rows

  each-party : (test : Party → Bool) → list_all test (zip votes seats) ≡ list_all (λ (row : Row). test (party_of committee row)) rows
  each-party test = ap (list_all test) parties ∙ list_all-map test (party_of committee) rows

  -- so it is fair ..
  pub fair-from_shared : IsShared k rows committee → IsFair Dhondt votes k seats
  fair-from_shared is =
      let sums : (sum seats == k) ≡ true = eq-eqb (sum seats) k (sum-map (λ (row : Row). hits row.0 committee) rows ∙ is.all) in
      let voted : list_all has_votes_for_seats (zip votes seats) ≡ true =
      each-party has_votes_for_seats
      ∙ all-among (λ (row : Row). has_votes_for_seats (party_of committee row)) rows
      (λ row inside. ap (λ b. not b || hits row.0 committee == 0) (ne_eqb row.1 0 (λ e. absurd (omega (arith, e, counts row inside))))) in
      let right : is_right Dhondt (sum votes) k (zip votes seats) ≡ true =
      each-party (λ one. list_all (keeps_its_seat Dhondt one) (zip votes seats))
      ∙ all-among (λ (one : Row). list_all (keeps_its_seat Dhondt (party_of committee one)) (zip votes seats)) rows
      (λ one inside.
      each-party (keeps_its_seat Dhondt (party_of committee one))
      ∙ all-among (λ (other : Row). keeps_its_seat Dhondt (party_of committee one) (party_of committee other)) rows
      (λ other inside'. keeps one.1 (hits one.0 committee) other.1 (hits other.0 committee) (is.best one other inside inside'))) in
      four-from (length seats == length votes) (sum seats == k) (list_all has_votes_for_seats (zip votes seats)) (is_right Dhondt (sum votes) k (zip votes seats)) long sums voted right

  -- .. and the other way
  pub shared-from_fair : IsFair Dhondt votes k seats → IsShared k rows committee
  shared-from_fair is =
      let parts = second-and-fourth (length seats == length votes) (sum seats == k) (list_all has_votes_for_seats (zip votes seats)) (is_right Dhondt (sum votes) k (zip votes seats)) is in
      record {
        all = sym (sum-map (λ (row : Row). hits row.0 committee) rows) ∙ eqb-true (sum seats) k parts.0;
        best = λ one other inside inside' seat.
            let pairs = among-all (λ (row : Row). list_all (keeps_its_seat Dhondt (party_of committee row)) (zip votes seats)) rows one
            (sym (each-party (λ party. list_all (keeps_its_seat Dhondt party) (zip votes seats))) ∙ parts.1) inside in
            let pair = among-all (λ (row : Row). keeps_its_seat Dhondt (party_of committee one) (party_of committee row)) rows other
            (sym (each-party (keeps_its_seat Dhondt (party_of committee one))) ∙ pairs) inside' in
            kept one.1 (hits one.0 committee) other.1 (hits other.0 committee) pair (counts one inside) (counts other inside') seat;
      }
