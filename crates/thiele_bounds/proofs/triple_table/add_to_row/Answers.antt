use Rattle.std.proofs.Common.{ℕ, ◌+◌, ◌<◌, ◌==◌, ◌∙◌, cond, length, ap, arith}
use Rattle.std.proofs.lemmas.List.{length-set}
use Rattle.ballot_base.specs.CandSet.{has_member}
use Rattle.ballot_base.specs.Limits.{most_candidates}
use Rattle.row_multipliers.proofs.MemberLemmas.{first-in, later-in}
use Rattle.row_multipliers.proofs.SearchLemmas.{rest-increasing}
use Rattle.thiele_bounds.proofs.PairBounds.PlaceLemmas.{cond-most, one-low, one-more, word-set, word-within}
use Rattle.thiele_bounds.specs.Steps.Paired.{triangle}
use Rattle.thiele_bounds.specs.Steps.Places.{tetrahedron, word_at}
use Rattle.thiele_bounds.proofs.triple_table.add_to_row.Goals as goal
use Rattle.thiele_bounds.proofs.triple_table.add_to_row.Goals.{In-Some}

pub loop-column-init : goal.loop-column-init
loop-column-init c =
    let all = c.into_iter-column-iterator.ensures.into_iter_gives ∙ c.members-column-items.ensures.items in
    rw all record {
      kept = omega arith;
      rises = c.members-column-items.ensures.valid;
      before = c.requires.before;
      made = λ z y x low less. omega arith;
    }

column-low : (c : In-Some) → c.in-Some.column < c.args.middle
column-low c = c.loop-column.invariant.before c.in-Some.column (first-in c.loop-column.column-iterator c.next.new.self c.in-Some.column c.in-Some.ensures.steps c.loop-column.invariant.rises)

-- the place of the column is in the table
column-within : (c : In-Some) → tetrahedron c.args.high + triangle c.args.middle + c.in-Some.column < length c.loop-column.table
column-within c =
    omega (arith, c.requires.room, c.loop-column.invariant.kept, word-within c.args.high c.args.middle c.in-Some.column (omega (arith, column-low c)) (omega (arith, c.requires.below)))

pub bounds-table-start : goal.bounds-table-start
bounds-table-start c =
    let within = column-within (goal.at.bounds-table-start c).In-Some in
    omega (arith, c.plane_start.ensures, c.row_start.ensures, c.from.ensures, within)

pub overflow_add-table-in-loop-column : goal.overflow_add-table-in-loop-column
overflow_add-table-in-loop-column c =
    let low = column-low (goal.at.overflow_add-table-in-loop-column c).In-Some in
    let column = c.in-Some.column in
    let part : ℕ = cond (c.args.high == c.args.high) (cond (c.args.middle == c.args.middle) c.args.amount 0) 0 in
    let fit = one-low c.loop-column.column-iterator c.next.new.self column c.in-Some.ensures.steps c.loop-column.invariant.rises (word_at c.loop-column.table c.args.high c.args.middle column) (word_at c.args.table.now c.args.high c.args.middle column)
    (cond (has_member c.args.columns column) part 0) part (cond-most (has_member c.args.columns column) part)
    (c.loop-column.invariant.made c.args.high c.args.middle column low c.requires.below) in
    rw (c.plane_start.ensures, c.row_start.ensures, c.from.ensures) (omega (arith, fit, c.requires.fits column low))

pub bounds-table-start-in-loop-column : goal.bounds-table-start-in-loop-column
bounds-table-start-in-loop-column c =
    let within = column-within (goal.at.bounds-table-start-in-loop-column c).In-Some in
    omega (arith, c.plane_start.ensures, c.row_start.ensures, c.from.ensures, within)

pub loop-column-preserved : goal.loop-column-preserved
loop-column-preserved c =
    let low = column-low (goal.at.loop-column-preserved c).In-Some in
    let table = c.loop-column.table in
    let left = c.loop-column.column-iterator in
    let rest = c.next.new.self in
    let first = c.in-Some.column in
    let steps = c.in-Some.ensures.steps in
    let inv = c.loop-column.invariant in
    let high = c.args.high in
    let middle = c.args.middle in
    let amount = c.args.amount in
    rw (c.plane_start.ensures, c.row_start.ensures, c.from.ensures) record {
      kept = length-set table (tetrahedron high + triangle middle + first) _ ∙ inv.kept;
      rises = (rest-increasing most_candidates left rest first steps inv.rises).1;
      before = λ n is. inv.before n (later-in left rest first steps inv.rises n is);
      made = λ z y x one two.
          one-more left rest first steps inv.rises x (word_at table z y x) _ (word_at c.args.table.now z y x) (cond (has_member c.args.columns x) (cond (z == high) (cond (y == middle) amount 0) 0) 0)
          (cond (z == high) (cond (y == middle) amount 0) 0)
          (word-set table z y x high middle first amount one two low c.requires.below (omega (arith, inv.kept, c.requires.room)))
          (inv.made z y x one two);
    }

pub returns : goal.returns
returns c = record {
  kept = c.loop-column.invariant.kept;
  added = λ z y x one two.
      omega (arith, c.loop-column.invariant.made z y x one two, ap (λ l. cond (has_member l x) (cond (z == c.args.high) (cond (y == c.args.middle) c.args.amount 0) 0) 0) c.in-None.ensures.steps.0);
}
