use Rattle.std.proofs.Common.{◌≡◌, ◌+◌, ◌-◌, ◌*◌, ◌^◌, ◌∙◌, true, false, sym, ap, arith, get_or}
use Rattle.std.specs.Prelude.{slice_index}
use Rattle.ballot_base.specs.CandSet.{has_member}
use Rattle.ballot_base.specs.Limits.{most_candidates}
use Rattle.thiele_bounds.specs.Pairs.{worth_beside}
use Rattle.thiele_bounds.specs.Steps.Paired.{overlap_at}
use Rattle.row_multipliers.proofs.MemberLemmas.{first-low}
use Rattle.thiele_bounds.proofs.PairBounds.OverlapLemmas.{one-made, one-most, pair-within}
use Rattle.row_multipliers.proofs.SearchLemmas.{rest-increasing}
use Rattle.thiele_bounds.proofs.pairs.Rows.put_beside.Goals as goal
use Rattle.thiele_bounds.proofs.pairs.Rows.put_beside.Goals.{After-from-overlap}

pub loop-j-init : goal.loop-j-init
loop-j-init c =
    let all = c.into_iter-j-iterator.ensures.into_iter_gives ∙ c.members-j-items.ensures.items in
    rw all record {
      rises = c.members-j-items.ensures.valid;
      made = λ j in_ out. absurd (let e : true ≡ false = sym in_ ∙ out in cc);
      small = c.requires.small;
    }

pub bounds-self-place : goal.bounds-self-place
bounds-self-place c =
    omega (
      arith,
      c.place.ensures,
      pair-within c.args.i c.in-Some.j c.requires.within (first-low c.loop-j.j-iterator c.next.new.self c.in-Some.j c.in-Some.ensures.steps c.loop-j.invariant.rises),
    )

pub of-requires : goal.of-requires
of-requires c = first-low c.loop-j.j-iterator c.next.new.self c.in-Some.j c.in-Some.ensures.steps c.loop-j.invariant.rises

-- the worth of the next one, from its overlap
taken : (c : After-from-overlap) → 2 * c.from-factor.result * c.from-overlap.result ≡ 2 * (c.args.self.now.left - 1) * overlap_at c.args.self.now.totals.now.overlaps c.args.i c.in-Some.j
taken c =
    let value : c.from-overlap.result ≡ overlap_at c.args.self.now.totals.now.overlaps c.args.i c.in-Some.j =
    c.from-overlap.ensures ∙ ap (λ n. get_or c.args.self.now.totals.now.overlaps n 0) c.place.ensures in
    ap (λ n. 2 * n * c.from-overlap.result) c.from-factor.ensures ∙ ap (λ n. 2 * (c.args.self.now.left - 1) * n) value

pub overflow_sub-of : goal.overflow_sub-of
overflow_sub-of c =
    let low = first-low c.loop-j.j-iterator c.next.new.self c.in-Some.j c.in-Some.ensures.steps c.loop-j.invariant.rises in
    omega (arith, c.requires.rows.enough c.args.i c.in-Some.j c.requires.within low, taken (goal.at.overflow_sub-of c).After-from-overlap)

pub set-requires-clause-candidate : goal.set-requires-clause-candidate
set-requires-clause-candidate c = first-low c.loop-j.j-iterator c.next.new.self c.in-Some.j c.in-Some.ensures.steps c.loop-j.invariant.rises

pub set-requires-clause-small : goal.set-requires-clause-small
set-requires-clause-small c = omega (arith, c.of.ensures.value, c.requires.rows.small.worths_small c.in-Some.j, c.requires.rows.raise_small)

pub loop-j-preserved : goal.loop-j-preserved
loop-j-preserved c =
    let self = c.args.self.now in
    let rest = c.loop-j.j-iterator in
    let first = c.in-Some.j in
    let inv = c.loop-j.invariant in
    let v = c.of.result + self.raise - 2 * c.from-factor.result * c.from-overlap.result in
    let is : v ≡ worth_beside (slice_index self.totals.now.worths) (overlap_at self.totals.now.overlaps) self.left self.raise c.args.i first =
    omega (arith, c.of.ensures.value, taken (goal.at.loop-j-preserved c).After-from-overlap) in
    record {
      rises = (rest-increasing most_candidates rest c.next.new.self first c.in-Some.ensures.steps inv.rises).1;
      made = one-made rest c.next.new.self first c.in-Some.ensures.steps inv.rises c.loop-j.beside c.set.new.self v c.set.ensures
          (λ j n. n ≡ worth_beside (slice_index self.totals.now.worths) (overlap_at self.totals.now.overlaps) self.left self.raise c.args.i j) self.free is inv.made;
      small = one-most rest c.next.new.self first c.in-Some.ensures.steps inv.rises c.loop-j.beside c.set.new.self v c.set.ensures (2 ^ 68)
          (omega (arith, c.of.ensures.value, c.requires.rows.small.worths_small first, c.requires.rows.raise_small)) inv.small;
    }

pub returns : goal.returns
returns c = record {
  made = λ j in_. c.loop-j.invariant.made j in_ (ap (λ l. has_member l j) c.in-None.ensures.steps.0);
  small = c.loop-j.invariant.small;
}
