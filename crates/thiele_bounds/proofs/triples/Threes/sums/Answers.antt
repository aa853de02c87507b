use Rattle.std.proofs.Common.{◌≡◌, ◌∙◌, true, false, sym}
use Rattle.ballot_base.specs.Limits.{most_candidates}
use Rattle.thiele_bounds.specs.Steps.Threes.{IsSumOfOne, three_of}
use Rattle.row_multipliers.proofs.MemberLemmas.{later-in}
use Rattle.row_multipliers.proofs.SearchLemmas.{rest-increasing}
use Rattle.thiele_bounds.proofs.PairBounds.OverlapLemmas.{one-made}
use Rattle.thiele_bounds.proofs.triples.Threes.sums.Goals as goal

pub loop-i-init : goal.loop-i-init
loop-i-init c =
    let all = c.into_iter-i-iterator.ensures.into_iter_gives ∙ c.members-i-items.ensures.items in
    rw all record {
      rises = c.members-i-items.ensures.valid;
      among = λ x is. is;
      made = λ x in_ out. absurd (let e : true ≡ false = sym in_ ∙ out in cc);
    }

pub loop-i-preserved : goal.loop-i-preserved
loop-i-preserved c =
    let self = c.args.self.now in
    let rest = c.loop-i.i-iterator in
    let first = c.in-Some.i in
    let inv = c.loop-i.invariant in
    record {
      rises = (rest-increasing most_candidates rest c.next.new.self first c.in-Some.ensures.steps inv.rises).1;
      among = λ x in_. inv.among x (later-in rest c.next.new.self first c.in-Some.ensures.steps inv.rises x in_);
      made = one-made rest c.next.new.self first c.in-Some.ensures.steps inv.rises c.loop-i.sums c.set.new.self c.sum_of_one.result c.set.ensures
          (λ x n. IsSumOfOne (three_of self) self.node.now.free self.node.now.left x n) self.node.now.free c.sum_of_one.ensures.sum inv.made;
    }
