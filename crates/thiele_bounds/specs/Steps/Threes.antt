-- What is kept for triples of members, and their row sums.
use Rattle.std.specs.Prelude.{ℕ, ◌≡◌, ◌+◌, ◌-◌, ◌*◌, ◌/◌, ◌^◌, ◌<◌, ◌≤◌, true, List, length, slice_index}
use Rattle.ballot_base.specs.Ballots.{Row}
use Rattle.ballot_base.specs.CandSet.{has_member}
use Rattle.ballot_base.specs.Limits.{most_candidates}
use Rattle.ballot_base.specs.Lists.{IsIncreasing}
use Rattle.row_multipliers.specs.declared.node.Node.{Node}
use Rattle.thiele_bounds.specs.Pairs.{all_constants, all_overlap, all_worth}
use Rattle.thiele_bounds.specs.Triples.{all_triples, sum_of_one, sum_of_two, threshold_sum, worth_of_three}
use Rattle.thiele_bounds.specs.Steps.Cubics.{bend_at, row_constant, row_overlap, row_triple, row_worth, touch_of}
use Rattle.thiele_bounds.specs.Steps.Paired.{overlap_at, pair_place}
use Rattle.thiele_bounds.specs.Steps.Places.{HasRoom, triple_place, word_at}
use Rattle.thiele_bounds.specs.Steps.Totals.{AreSmall}
use Rattle.thiele_bounds.specs.declared.pairs.Totals.{Totals}
use Rattle.thiele_bounds.specs.declared.triples.Bends.{Bends}
use Rattle.thiele_bounds.specs.declared.triples.Threes.{Threes}

-- the totals are those of the rows' cubics
pub record AreCubics (sums : List ℕ) (shift : ℕ) (rows : List Row) (node : Node) (constant : ℕ)
    (worths table : List ℕ) : Type 0 where
  pub constant_is : constant ≡ all_constants (row_constant sums shift node.set node.free node.left) rows
  pub worths_are : (n : ℕ) → has_member node.free n ≡ true
      → slice_index worths n ≡ all_worth (row_worth sums shift node.set node.free node.left) rows n
  pub overlaps_are : (i j : ℕ) → has_member node.free i ≡ true → has_member node.free j ≡ true
      → overlap_at table i j ≡ all_overlap (row_overlap sums shift node.set node.free node.left) rows i j

-- the triples of the rows' cubics
abbrev pub AreTriples : List ℕ → ℕ → List Row → Node → List ℕ → Type 0
AreTriples sums shift rows node table = (z y x : ℕ) → x < y → y < z
    → has_member node.free z ≡ true → has_member node.free y ≡ true → has_member node.free x ≡ true
    → word_at table z y x ≡ all_triples (row_triple sums shift node.set node.free node.left) rows z y x

-- where cubics at a node are exact first, and their triples
pub record AreBends (sums : List ℕ) (shift : ℕ) (node : Node) (bends : Bends) : Type 0 where
  pub touches_are : (n : ℕ) → n ≤ most_candidates
      → slice_index bends.touches n ≡ touch_of shift node.left (length node.free) n
  pub triples_are : (n : ℕ) → n ≤ 61 → slice_index bends.triples n ≡ bend_at sums n / 6

-- the worth of three, by totals
abbrev pub three_at : Totals → (ℕ → ℕ → ℕ → ℕ) → ℕ → ℕ → ℕ → ℕ → ℕ → ℕ
three_at totals triple left raise =
    worth_of_three (slice_index totals.worths) (overlap_at totals.overlaps) triple left raise

-- at least a row sum of row sums, by some thresholds
abbrev pub IsSumOfOne : (ℕ → ℕ → ℕ → ℕ) → List ℕ → ℕ → ℕ → ℕ → Type 0
IsSumOfOne three free left i sum = (third : ℕ → ℕ) × (second : ℕ)
    × (sum_of_one (sum_of_two three free left (λ i. third)) free left (λ i. second) i ≤ sum)

-- worths are raised enough, and not too much
pub record AreRaised (totals : Totals) (left raise : ℕ) : Type 0 where
  pub several : 3 ≤ left
  pub few : left < 2 ^ 8
  pub small : AreSmall totals
  pub raise_small : raise ≤ 2 ^ 70
  pub enough : (i j l : ℕ) → i ≤ most_candidates → j ≤ most_candidates → l ≤ most_candidates
      → (left - 1) * (overlap_at totals.overlaps i j + overlap_at totals.overlaps i l + overlap_at totals.overlaps j l)
      ≤ raise

-- how many units of worths of three a unit of the rounded ones has
abbrev pub roughly : ℕ
roughly = 2 ^ 30

-- the most that a rounded worth can be
abbrev pub most_rough : ℕ
most_rough = 2 ^ 55

-- the most that a pair can bring to rounded worths
abbrev pub most_part : ℕ
most_part = 2 ^ 40

-- worths and overlaps of pairs are small enough
pub record CanShare (worths overlaps free : List ℕ) (left most : ℕ) : Type 0 where
  pub some : 1 ≤ left
  pub few : left < 2 ^ 8
  pub candidates : IsIncreasing 1 most_candidates free
  pub worths_small : (n : ℕ) → slice_index worths n ≤ 2 ^ 66
  pub most_small : most ≤ 2 ^ 58

-- rounded, at least half of the worth of each, and by how much their overlap is below the greatest, once for each of
-- the others that join
pub record IsPart (worths overlaps : List ℕ) (left most i j part : ℕ) : Type 0 where
  pub enough : slice_index worths i + slice_index worths j + 2 * (left - 1) * (most - overlap_at overlaps i j)
      ≤ 2 * roughly * part
  pub small : part ≤ most_part

-- the parts of all two free candidates
abbrev pub AreShared : List ℕ → List ℕ → List ℕ → ℕ → ℕ → List ℕ → Type 0
AreShared worths overlaps free left most pairs = (i j : ℕ) → has_member free i ≡ true → has_member free j ≡ true
    → j < i → IsPart worths overlaps left most i j (overlap_at pairs i j)

-- no part is too large, and the table of triples is long enough
pub record AreThrees (threes : Threes) : Type 0 where
  pub several : 3 ≤ threes.node.now.left
  pub few : threes.node.now.left < 2 ^ 8
  pub candidates : IsIncreasing 1 most_candidates threes.node.now.free
  pub room : HasRoom threes.node.now.free threes.triples.now
  pub small : (i j : ℕ) → has_member threes.node.now.free i ≡ true → has_member threes.node.now.free j ≡ true → j < i
      → overlap_at threes.pairs.now i j ≤ most_part

-- the places of three pairs and a triple
pub record ArePlaces (threes : Threes) (first second third triple : ℕ) : Type 0 where
  pub first_low : first < 2145
  pub second_low : second < 2145
  pub third_low : third < 2145
  pub triple_low : triple < length threes.triples.now
  pub small : slice_index threes.pairs.now first + slice_index threes.pairs.now second
      + slice_index threes.pairs.now third ≤ 3 * most_part

-- a worth of three, by places
abbrev pub worth_by : Threes → ℕ → ℕ → ℕ → ℕ → ℕ
worth_by threes first second third triple =
    slice_index threes.pairs.now first + slice_index threes.pairs.now second + slice_index threes.pairs.now third
    + 3 * (threes.node.now.left - 1) * (threes.node.now.left - 2) * slice_index threes.triples.now triple / roughly + 1

-- the rounded worth of three
abbrev pub three_rough : Threes → ℕ → ℕ → ℕ → ℕ
three_rough threes i j l =
    worth_by threes (pair_place i j) (pair_place i l) (pair_place j l) (triple_place i j l)

-- the same, not in the rounded unit
abbrev pub three_of : Threes → ℕ → ℕ → ℕ → ℕ
three_of threes i j l = roughly * three_rough threes i j l

-- rounded, at least a sum of two, by some threshold
abbrev pub IsSumOfTwo : Threes → ℕ → ℕ → ℕ → Type 0
IsSumOfTwo threes i j sum = (third : ℕ)
    × (sum_of_two (three_of threes) threes.node.now.free threes.node.now.left (λ i j. third) i j ≤ roughly * sum)

-- the sums of all two free candidates
abbrev pub AreTwos : Threes → List ℕ → Type 0
AreTwos threes twos = (i j : ℕ) → has_member threes.node.now.free i ≡ true → has_member threes.node.now.free j ≡ true
    → j < i → IsSumOfTwo threes i j (overlap_at twos i j)

-- at least a bound on the sum of the worths of `count` of the candidates, by some threshold
abbrev pub IsBound : List ℕ → List ℕ → ℕ → ℕ → Type 0
IsBound worths candidates count sum =
    (threshold : ℕ) × (threshold_sum (slice_index worths) candidates count threshold ≤ sum)
