-- Cubic majorants of what a voter gives, each by the hits before and by how many free candidates the voter approves.
use Rattle.std.specs.Prelude.{ℕ, zero, suc, ◌≡◌, ◌+◌, ◌-◌, ◌*◌, ◌/◌, ◌^◌, ◌<◌, ◌≤◌, List, get_or, length, max, min, slice_index, Option, None, MatchOption, ⊤}
use Rattle.ballot_base.specs.Ballots.{Row, hits}
use Rattle.thiele_bounds.specs.declared.majorant.Majorant.{Majorant}
use Rattle.thiele_bounds.specs.Steps.Majorants.{places_before, places_open}
use Rattle.thiele_bounds.specs.Steps.Paired.{most_sum}

-- what the hit after the first ones adds
abbrev pub increment_at : List ℕ → ℕ → ℕ
increment_at sums hits = slice_index sums (hits + 1) - slice_index sums hits

-- how much less the next hit adds
abbrev pub fall_at : List ℕ → ℕ → ℕ
fall_at sums hits = increment_at sums hits - increment_at sums (hits + 1)

-- how much less the next hit falls by
abbrev pub bend_at : List ℕ → ℕ → ℕ
bend_at sums hits = fall_at sums hits - fall_at sums (hits + 1)

-- where a cubic is exact: with this many hits in all, and with one, two and three more
abbrev pub contact : ℕ → ℕ → ℕ
contact before touch = min (before + touch) 61

-- the numbers of the cubic
abbrev pub worth_at : List ℕ → ℕ → ℕ → ℕ
worth_at sums before touch =
    min (increment_at sums (contact before touch) + touch * fall_at sums (contact before touch)
    + touch * (touch + 1) / 2 * bend_at sums (contact before touch)) (most_sum sums)

abbrev pub overlap_of : List ℕ → ℕ → ℕ → ℕ
overlap_of sums before touch =
    min ((fall_at sums (contact before touch) + touch * bend_at sums (contact before touch)) / 2) (most_sum sums)

abbrev pub triple_at : List ℕ → ℕ → ℕ → ℕ
triple_at sums before touch = bend_at sums (contact before touch) / 6

-- no number of a cubic is too large beside what all hits give
pub record IsSmallCubic (all_give worth overlap triple : ℕ) : Type 0 where
  pub worth_small : worth ≤ all_give
  pub overlap_small : overlap ≤ all_give
  pub triple_small : 6 * triple ≤ all_give

-- what a cubic without a constant lacks with this many further hits
abbrev pub lack : List ℕ → ℕ → ℕ → ℕ → ℕ → ℕ → ℕ
lack sums before worth overlap triple hits =
    slice_index sums (before + hits) + overlap * (hits * (hits - 1))
    - (worth * hits + triple * (hits * ((hits - 1) * (hits - 2))))

-- the highest of the first numbers
unfoldable pub highest : (ℕ → ℕ) → ℕ → ℕ
highest number zero = 0
highest number (suc n) = max (number n) (highest number n)

-- the number of further hits at which the cubic of a ballot is exact first: nine eighths of the mean number of hits if
-- `left` of the free candidates are drawn at random, since good committees have more hits, less `shift` eighths
abbrev pub touch_of : ℕ → ℕ → ℕ → ℕ → ℕ
touch_of shift left free approved =
    min ((9 * left * approved - shift * free) / (8 * free)) (max (min left approved) 3 - 3)

-- the cubic of a row at a node
abbrev pub row_touch : ℕ → List ℕ → ℕ → Row → ℕ
row_touch shift free left row = touch_of shift left (length free) (hits row.0 free)

abbrev pub row_worth : List ℕ → ℕ → List ℕ → List ℕ → ℕ → Row → ℕ
row_worth sums shift set free left row = worth_at sums (hits row.0 set) (row_touch shift free left row)

abbrev pub row_overlap : List ℕ → ℕ → List ℕ → List ℕ → ℕ → Row → ℕ
row_overlap sums shift set free left row = overlap_of sums (hits row.0 set) (row_touch shift free left row)

abbrev pub row_triple : List ℕ → ℕ → List ℕ → List ℕ → ℕ → Row → ℕ
row_triple sums shift set free left row = triple_at sums (hits row.0 set) (row_touch shift free left row)

abbrev pub row_constant : List ℕ → ℕ → List ℕ → List ℕ → ℕ → Row → ℕ
row_constant sums shift set free left row =
    highest (lack sums (hits row.0 set) (row_worth sums shift set free left row)
    (row_overlap sums shift set free left row) (row_triple sums shift set free left row))
    (min left (hits row.0 free) + 1)

-- what the cubics of ballots are made for: what each number of hits gives, how many eighths of a hit they are exact
-- sooner, how many candidates are to join, and of how many
pub record Cubed : Type 0 where
  pub sums : List ℕ
  pub shift : ℕ
  pub left : ℕ
  pub free : ℕ

-- the cubic of a ballot by its hits before and the free candidates that it approves, without its triple
pub record IsCubicOf (cubed : Cubed) (before approved : ℕ) (cubic : Majorant) : Type 0 where
  pub worth_is : cubic.worth ≡ worth_at cubed.sums before (touch_of cubed.shift cubed.left cubed.free approved)
  pub overlap_is : cubic.overlap ≡ overlap_of cubed.sums before (touch_of cubed.shift cubed.left cubed.free approved)
  pub constant_is : cubic.constant ≡ highest (lack cubed.sums before
      (worth_at cubed.sums before (touch_of cubed.shift cubed.left cubed.free approved))
      (overlap_of cubed.sums before (touch_of cubed.shift cubed.left cubed.free approved))
      (triple_at cubed.sums before (touch_of cubed.shift cubed.left cubed.free approved))) (min cubed.left approved + 1)
  pub constant_small : cubic.constant ≤ most_sum cubed.sums * 2 ^ 13
  pub worth_small : cubic.worth ≤ most_sum cubed.sums
  pub overlap_small : cubic.overlap ≤ most_sum cubed.sums

-- what was made are cubics, each at its place
abbrev pub AreKept : Cubed → List (Option Majorant) → Type 0
AreKept cubed table = (before approved : ℕ) → before < places_before → approved < places_open
    → MatchOption (get_or table (places_open * before + approved) None) ⊤ (IsCubicOf cubed before approved)
