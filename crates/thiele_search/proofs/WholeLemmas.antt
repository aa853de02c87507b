-- No committee is worth more than all its candidates together with others.
use Rattle.std.proofs.Common.{◌≡◌, ℕ, zero, suc, ◌+◌, ◌-◌, ◌*◌, ◌<◌, ◌≤◌, ◌==◌, ◌||◌, ◌∙◌, Bool, true, false, List, [], ◌∷◌, ◌++◌, refl, sym, ap, arith, sum, take}
use Rattle.std.proofs.Math.Nat.{mul-le-mul_left}
use Rattle.std.proofs.lemmas.List.Folds.{list_any-append}
use Rattle.std.proofs.lemmas.List.Sums.{sum_by-cons}
use Rattle.ballot_base.specs.CandSet.{has_member, with_member}
use Rattle.ballot_base.specs.Ballots.{Row, IsElection, hits}
use Rattle.ballot_base.specs.Increments.{increments}
use Rattle.ballot_base.proofs.Increasing.{has_member-with_member}
use Rattle.tie_walk.specs.Sequences.{gain}
use Rattle.tie_walk.specs.Values.{Thiele, tally_value, thiele_value}
use Rattle.tie_walk.proofs.Gains.{thiele-gain}
use Rattle.tie_walk.proofs.Submodular.{hits-more}
use Rattle.tie_walk.proofs.TableLemmas.{sum-take_more}
use Rattle.row_multipliers.specs.Completions.{IsOutOfReach}
use Rattle.row_multipliers.proofs.CompletionLemmas.{hits-same}

-- values see only the members
pub thiele-same : (w : List ℕ) (rows : List Row) (xs ys : List ℕ) → ((n : ℕ) → has_member xs n ≡ has_member ys n) → thiele_value w rows xs ≡ thiele_value w rows ys
thiele-same w [] xs ys same = refl
thiele-same w (row ∷ rows) xs ys same =
    omega (
      arith,
      ap (λ h. row.1 * sum (take h w)) (hits-same row.0 xs ys same),
      thiele-same w rows xs ys same,
      sum_by-cons (λ (r : Row). r.1 * sum (take (hits r.0 xs) w)) row rows,
      sum_by-cons (λ (r : Row). r.1 * sum (take (hits r.0 ys) w)) row rows,
    )

-- more hits give no less
more-hits : (w : List ℕ) (x d : ℕ) → sum (take x w) ≤ sum (take (x + d) w)
more-hits w x zero = omega (arith, ap (λ y. sum (take y w)) (let e : x + 0 ≡ x = omega arith in e))
more-hits w x (suc d) =
    let e : x + suc d ≡ (x + d) + 1 = omega arith in
    omega (arith, more-hits w x d, sum-take_more w (x + d), ap (λ y. sum (take y w)) e)

thiele-more : (w : List ℕ) (rows : List Row) (set added : List ℕ) → thiele_value w rows set ≤ thiele_value w rows (set ++ added)
thiele-more w [] set added = omega arith
thiele-more w (row ∷ rows) set added =
    let less : hits row.0 set ≤ hits row.0 (set ++ added) = hits-more row.0 set added in
    let here : sum (take (hits row.0 set) w) ≤ sum (take (hits row.0 set + (hits row.0 (set ++ added) - hits row.0 set)) w) =
    more-hits w (hits row.0 set) (hits row.0 (set ++ added) - hits row.0 set) in
    let e : hits row.0 set + (hits row.0 (set ++ added) - hits row.0 set) ≡ hits row.0 (set ++ added) = omega (arith, less) in
    let up : sum (take (hits row.0 set) w) ≤ sum (take (hits row.0 (set ++ added)) w) = omega (arith, here, ap (λ y. sum (take y w)) e) in
    omega (
      arith,
      mul-le-mul_left row.1 up,
      thiele-more w rows set added,
      sum_by-cons (λ (r : Row). r.1 * sum (take (hits r.0 set) w)) row rows,
      sum_by-cons (λ (r : Row). r.1 * sum (take (hits r.0 (set ++ added)) w)) row rows,
    )

-- a set with all members of a committee is worth no less
pub thiele-whole : (w : List ℕ) (rows : List Row) (committee whole : List ℕ) → ((n : ℕ) → has_member committee n ≡ true → has_member whole n ≡ true)
    → thiele_value w rows committee ≤ thiele_value w rows whole
thiele-whole w rows committee whole among =
    omega (
      arith,
      thiele-more w rows committee whole,
      thiele-same w rows (committee ++ whole) whole (λ n. list_any-append (λ y. y == n) committee whole ∙ absorbed (has_member committee n) (has_member whole n) (among n)),
    )
  where
    absorbed : (p q : Bool) → (p ≡ true → q ≡ true) → (p || q) ≡ q
    absorbed true q h = sym (h refl)
    absorbed false q h = refl

-- nothing completes a set to a value that all its free candidates together do not lift it to
pub whole-none : (w : List ℕ) (rows : List Row) (m : ℕ) (set free whole : List ℕ) (least : ℕ)
    → ((n : ℕ) → has_member whole n ≡ (has_member set n || has_member free n)) → thiele_value w rows whole < least
    → (left : ℕ) → IsOutOfReach (thiele_value w rows) m set free left least
whole-none w rows m set free whole least are short left committee completes =
    omega (arith, short, thiele-whole w rows committee whole (λ n is. are n ∙ completes.within n is))

-- a candidate who joins a set adds what the set gains
pub value-with : (tally : Thiele) (set : List ℕ) (n : ℕ) → IsElection tally.election → has_member set n ≡ false
    → tally_value tally (with_member set n) ≡ tally_value tally set + gain (increments tally.rule tally.k) tally.election.rows set n
value-with tally set n valid new =
    let more : tally_value tally set ≤ tally_value tally (with_member set n) =
    thiele-whole (increments tally.rule tally.k) tally.election.rows set (with_member set n) (λ x is. has_member-with_member set n x ∙ or-more (n == x) (has_member set x) is) in
    omega (arith, more, thiele-gain tally.election.m (increments tally.rule tally.k) tally.election.rows set n valid.ballots new)
  where
    or-more : (p q : Bool) → q ≡ true → (p || q) ≡ true
    or-more true q is = refl
    or-more false q is = is
