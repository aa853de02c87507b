use Rattle.std.proofs.Common.{ℕ, ◌+◌, ◌<◌, ◌^◌, ◌==◌, ◌∙◌, cond, ap, arith, max, min}
use Rattle.std.proofs.Math.ListN.{length-set}
use Rattle.ballot_base.specs.CandSet.{has_member}
use Rattle.ballot_base.specs.Limits.{most_candidates}
use Rattle.row_multipliers.proofs.MemberLemmas.{first-in, later-in}
use Rattle.row_multipliers.proofs.SearchLemmas.{rest-increasing}
use Rattle.thiele_bounds.proofs.PairBounds.OverlapLemmas.{portion, portion-none, place-within, row-fits, row-more}
use Rattle.thiele_bounds.proofs.PairBounds.PlaceLemmas.{cond-most, first-some, one-low, one-more, row-part, upto-before}
use Rattle.thiele_bounds.specs.Steps.Places.{word_at}
use Rattle.thiele_bounds.proofs.triple_table.add_to_plane.Goals as goal
use Rattle.thiele_bounds.proofs.triple_table.add_to_plane.Goals.{In-Some}

middle-low : (c : In-Some) → c.in-Some.middle < c.args.high
middle-low c = c.loop-middle.invariant.before c.in-Some.middle (first-in c.loop-middle.middle-iterator c.next.new.self c.in-Some.middle c.in-Some.ensures.steps c.loop-middle.invariant.rises)

pub loop-middle-init : goal.loop-middle-init
loop-middle-init c =
    let all = c.into_iter-middle-iterator.ensures.into_iter_gives ∙ c.members-middle-items.ensures.items in
    rw all record {
      long = omega (arith, c.told-pairs);
      kept = omega arith;
      rises = c.members-middle-items.ensures.valid;
      before = c.requires.before;
      paired = λ i j. omega arith;
      made = λ z y x one two. omega arith;
    }

pub bounds-pairs-start : goal.bounds-pairs-start
bounds-pairs-start c =
    omega (arith, c.row_start-start.ensures, c.from.ensures, c.loop-middle.invariant.long, place-within c.args.high c.in-Some.middle c.requires.within (omega (arith, middle-low (goal.at.bounds-pairs-start c).In-Some)))

pub overflow_add-pairs-in-loop-middle : goal.overflow_add-pairs-in-loop-middle
overflow_add-pairs-in-loop-middle c =
    let fit = row-fits c.loop-middle.middle-iterator c.next.new.self c.in-Some.middle c.in-Some.ensures.steps c.loop-middle.invariant.rises c.loop-middle.pairs c.args.pairs.now c.args.members c.args.high c.args.amounts.two
    (omega (arith, middle-low (goal.at.overflow_add-pairs-in-loop-middle c).In-Some)) c.loop-middle.invariant.paired (2 ^ 64) (c.requires.pairs_fit c.in-Some.middle (middle-low (goal.at.overflow_add-pairs-in-loop-middle c).In-Some)) in
    rw (c.row_start-start.ensures, c.from.ensures) (omega (arith, fit))

pub bounds-pairs-start-in-loop-middle : goal.bounds-pairs-start-in-loop-middle
bounds-pairs-start-in-loop-middle c =
    omega (arith, c.row_start-start.ensures, c.from.ensures, c.loop-middle.invariant.long, place-within c.args.high c.in-Some.middle c.requires.within (omega (arith, middle-low (goal.at.bounds-pairs-start-in-loop-middle c).In-Some)))

pub add_to_row-requires-clause-below : goal.add_to_row-requires-clause-below
add_to_row-requires-clause-below c = middle-low (goal.at.add_to_row-requires-clause-below c).In-Some

pub add_to_row-requires-clause-before : goal.add_to_row-requires-clause-before
add_to_row-requires-clause-before c n is =
    upto-before c.args.members c.in-Some.middle n (first-some c.loop-middle.middle-iterator c.next.new.self c.in-Some.middle c.in-Some.ensures.steps c.loop-middle.invariant.rises)
    (rw c.upto.ensures at is)

pub add_to_row-requires-clause-fits : goal.add_to_row-requires-clause-fits
add_to_row-requires-clause-fits c x low =
    let below = middle-low (goal.at.add_to_row-requires-clause-fits c).In-Some in
    let high = c.args.high in
    let middle = c.in-Some.middle in
    let part : ℕ = cond (high == high) (cond (has_member c.args.members x) c.args.amounts.three 0) 0 in
    let fit = one-low c.loop-middle.middle-iterator c.next.new.self middle c.in-Some.ensures.steps c.loop-middle.invariant.rises (word_at c.loop-middle.triples high middle x) (word_at c.args.triples.now high middle x)
    (cond (has_member c.args.members middle) part 0) part (cond-most (has_member c.args.members middle) part) (c.loop-middle.invariant.made high middle x low below) in
    omega (arith, fit, c.requires.fits middle x low below)

pub loop-middle-preserved : goal.loop-middle-preserved
loop-middle-preserved c =
    let left = c.loop-middle.middle-iterator in
    let rest = c.next.new.self in
    let first = c.in-Some.middle in
    let steps = c.in-Some.ensures.steps in
    let inv = c.loop-middle.invariant in
    let members = c.args.members in
    let high = c.args.high in
    let amount = c.args.amounts.three in
    let more = row-more left rest first steps inv.rises c.loop-middle.pairs c.args.pairs.now members high c.args.amounts.two
    (omega (arith, middle-low (goal.at.loop-middle-preserved c).In-Some)) inv.paired (omega (arith, inv.long)) (omega (arith, c.requires.within)) in
    record {
      long = simp length-set inv.long;
      paired = rw (c.row_start-start.ensures, c.from.ensures) more;
      kept = c.add_to_row.ensures.kept ∙ inv.kept;
      rises = (rest-increasing most_candidates left rest first steps inv.rises).1;
      before = λ n is. inv.before n (later-in left rest first steps inv.rises n is);
      made = λ z y x one two.
          one-more left rest first steps inv.rises y (word_at c.loop-middle.triples z y x) (word_at c.add_to_row.new.table z y x) (word_at c.args.triples.now z y x) (cond (has_member members y) (cond (z == high) (cond (has_member members x) amount 0) 0) 0)
          (cond (z == high) (cond (has_member members x) amount 0) 0)
          (c.add_to_row.ensures.added z y x one two
          ∙ ap (λ l. word_at c.loop-middle.triples z y x + cond (has_member l x) (cond (z == high) (cond (y == first) amount 0) 0) 0) c.upto.ensures
          ∙ ap (λ n. word_at c.loop-middle.triples z y x + n) (row-part left rest first steps inv.rises members z y x high amount one))
          (inv.made z y x one two);
    }

pub returns : goal.returns
returns c = record {
  kept = c.loop-middle.invariant.kept;
  paired = λ i j.
      omega (
        arith,
        c.loop-middle.invariant.paired i j,
        ap (λ l. portion (max i j == c.args.high) (has_member l (min i j)) c.args.amounts.two) c.in-None.ensures.steps.0,
        portion-none (max i j == c.args.high) c.args.amounts.two,
      );
  added = λ z y x one two.
      omega (arith, c.loop-middle.invariant.made z y x one two, ap (λ l. cond (has_member l y) (cond (z == c.args.high) (cond (has_member c.args.members x) c.args.amounts.three 0) 0) 0) c.in-None.ensures.steps.0);
}
