use Rattle.std.proofs.Common.{◌∙◌, ◌^◌, ◌≤◌, ◌==◌, ap, arith, max, min}
use Rattle.std.proofs.Math.ListN.{length-set}
use Rattle.ballot_base.specs.CandSet.{has_member}
use Rattle.ballot_base.specs.Limits.{most_candidates}
use Rattle.thiele_bounds.proofs.PairBounds.OverlapLemmas.{portion, portion-none, place-within, row-fits, row-more}
use Rattle.row_multipliers.proofs.MemberLemmas.{first-in, later-in}
use Rattle.row_multipliers.proofs.SearchLemmas.{rest-increasing}
use Rattle.thiele_bounds.proofs.pairs.add_to_pairs.Goals as goal
use Rattle.thiele_bounds.proofs.pairs.add_to_pairs.Goals.{In-Some}

pub loop-column-init : goal.loop-column-init
loop-column-init c =
    let all = c.into_iter-column-iterator.ensures.into_iter_gives ∙ c.members-column-items.ensures.items in
    rw all record {
      long = omega (arith, c.told-table);
      rises = c.members-column-items.ensures.valid;
      made = λ i j. omega arith;
      within = c.requires.columns;
    }

-- the column is no later than the row
column-low : (c : In-Some) → c.in-Some.column ≤ c.args.row
column-low c = c.loop-column.invariant.within c.in-Some.column (first-in c.loop-column.column-iterator c.next.new.self c.in-Some.column c.in-Some.ensures.steps c.loop-column.invariant.rises)

pub bounds-table-start : goal.bounds-table-start
bounds-table-start c =
    omega (arith, c.row_start-start.ensures, c.from.ensures, c.loop-column.invariant.long, place-within c.args.row c.in-Some.column c.requires.within (column-low (goal.at.bounds-table-start c).In-Some))

pub overflow_add-table-in-loop-column : goal.overflow_add-table-in-loop-column
overflow_add-table-in-loop-column c =
    let fit = row-fits c.loop-column.column-iterator c.next.new.self c.in-Some.column c.in-Some.ensures.steps c.loop-column.invariant.rises c.loop-column.table c.args.table.now c.args.columns c.args.row c.args.amount
    (column-low (goal.at.overflow_add-table-in-loop-column c).In-Some) c.loop-column.invariant.made (2 ^ 64) (c.requires.fits c.in-Some.column (column-low (goal.at.overflow_add-table-in-loop-column c).In-Some)) in
    rw (c.row_start-start.ensures, c.from.ensures) (omega (arith, fit))

pub bounds-table-start-in-loop-column : goal.bounds-table-start-in-loop-column
bounds-table-start-in-loop-column c =
    omega (arith, c.row_start-start.ensures, c.from.ensures, c.loop-column.invariant.long, place-within c.args.row c.in-Some.column c.requires.within (column-low (goal.at.bounds-table-start-in-loop-column c).In-Some))

pub loop-column-preserved : goal.loop-column-preserved
loop-column-preserved c =
    let rest = rest-increasing most_candidates c.loop-column.column-iterator c.next.new.self c.in-Some.column c.in-Some.ensures.steps c.loop-column.invariant.rises in
    let more = row-more c.loop-column.column-iterator c.next.new.self c.in-Some.column c.in-Some.ensures.steps c.loop-column.invariant.rises c.loop-column.table c.args.table.now c.args.columns c.args.row c.args.amount
    (column-low (goal.at.loop-column-preserved c).In-Some) c.loop-column.invariant.made (omega (arith, c.loop-column.invariant.long)) (omega (arith, c.requires.within)) in
    rw (c.row_start-start.ensures, c.from.ensures) record {
      long = simp length-set c.loop-column.invariant.long;
      rises = rest.1;
      made = more;
      within = λ n is. c.loop-column.invariant.within n (later-in c.loop-column.column-iterator c.next.new.self c.in-Some.column c.in-Some.ensures.steps c.loop-column.invariant.rises n is);
    }

pub returns : goal.returns
returns c i j =
    omega (
      arith,
      c.loop-column.invariant.made i j,
      ap (λ l. portion (max i j == c.args.row) (has_member l (min i j)) c.args.amount) c.in-None.ensures.steps.0,
      portion-none (max i j == c.args.row) c.args.amount,
    )
