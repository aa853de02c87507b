use Rattle.std.proofs.Common.{◌≡◌, ◌∙◌, true, false, sym, ap, arith}
use Rattle.ballot_base.specs.CandSet.{has_member}
use Rattle.ballot_base.specs.Limits.{most_candidates}
use Rattle.thiele_bounds.specs.Steps.Paired.{IsRowSum}
use Rattle.row_multipliers.proofs.MemberLemmas.{first-in, first-low, later-in}
use Rattle.thiele_bounds.proofs.PairBounds.OverlapLemmas.{one-made}
use Rattle.row_multipliers.proofs.SearchLemmas.{rest-increasing}
use Rattle.thiele_bounds.proofs.pairs.Rows.sums.Goals as goal

pub loop-i-init : goal.loop-i-init
loop-i-init c =
    let all = c.into_iter-i-iterator.ensures.into_iter_gives ∙ c.members-i-items.ensures.items in
    rw all record {
      rises = c.members-i-items.ensures.valid;
      among = λ n is. is;
      made = λ j in_ out. absurd (let e : true ≡ false = sym in_ ∙ out in cc);
      small = λ j. omega (arith, c.none-beside.ensures j);
    }

pub put_beside-requires-clause-small : goal.put_beside-requires-clause-small
put_beside-requires-clause-small c = c.loop-i.invariant.small

pub sum_of-requires-clause-beside : goal.sum_of-requires-clause-beside
sum_of-requires-clause-beside c = c.put_beside.ensures

pub sum_of-requires-clause-candidates : goal.sum_of-requires-clause-candidates
sum_of-requires-clause-candidates c = c.members-i-items.ensures.valid

pub sum_of-requires-clause-member : goal.sum_of-requires-clause-member
sum_of-requires-clause-member c =
    c.loop-i.invariant.among c.in-Some.i (first-in c.loop-i.i-iterator c.next.new.self c.in-Some.i c.in-Some.ensures.steps c.loop-i.invariant.rises)

pub set-requires-clause-candidate : goal.set-requires-clause-candidate
set-requires-clause-candidate c = first-low c.loop-i.i-iterator c.next.new.self c.in-Some.i c.in-Some.ensures.steps c.loop-i.invariant.rises

pub loop-i-preserved : goal.loop-i-preserved
loop-i-preserved c =
    let self = c.args.self.now in
    let rest = c.loop-i.i-iterator in
    let first = c.in-Some.i in
    let inv = c.loop-i.invariant in
    record {
      rises = (rest-increasing most_candidates rest c.next.new.self first c.in-Some.ensures.steps inv.rises).1;
      among = λ n is. inv.among n (later-in rest c.next.new.self first c.in-Some.ensures.steps inv.rises n is);
      made = one-made rest c.next.new.self first c.in-Some.ensures.steps inv.rises c.loop-i.sums c.set.new.self c.sum_of.result c.set.ensures
          (λ j n. IsRowSum self.totals.now.worths self.totals.now.overlaps self.free self.left self.raise j n) self.free c.sum_of.ensures.sum inv.made;
      small = c.put_beside.ensures.small;
    }

pub returns : goal.returns
returns c j in_ = c.loop-i.invariant.made j in_ (ap (λ l. has_member l j) c.in-None.ensures.steps.0)
