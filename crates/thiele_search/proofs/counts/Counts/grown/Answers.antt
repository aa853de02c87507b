use Rattle.std.proofs.Common.{◌≤◌, arith}
use Rattle.ballot_base.proofs.Increasing.{IsIncreasing-with_member}
use Rattle.thiele_bounds.proofs.BesideLemmas.{beside-candidates}
use Rattle.thiele_search.proofs.counts.Counts.grown.Goals as goal
use Rattle.thiele_search.proofs.counts.Counts.grown.Goals.{In-Some}

next-among : (g : _) (c : In-Some g) → (1 ≤ c.in-Some.next) × (c.in-Some.next ≤ c.args.self.now.tally.election.m)
next-among g c =
    rw c.m.ensures.value at (beside-candidates c.m.result c.all-all.result c.loop-joined.committee c.minus-others.result c.in-Some.next c.all-all.ensures c.minus-others.ensures c.in-Some.ensures.0)

pub with-committee-requires-clause-low : goal.with-committee-requires-clause-low
with-committee-requires-clause-low g c = (next-among g (goal.at.with-committee-requires-clause-low g c).In-Some).0

pub with-committee-requires-clause-high : goal.with-committee-requires-clause-high
with-committee-requires-clause-high g c =
    omega (arith, (next-among g (goal.at.with-committee-requires-clause-high g c).In-Some).1, c.args.self.now.sound.election.most)

pub loop-joined-preserved : goal.loop-joined-preserved
loop-joined-preserved g c =
    let next = next-among g (goal.at.loop-joined-preserved g c).In-Some in
    rw c.with-committee.ensures (IsIncreasing-with_member 1 c.args.self.now.tally.election.m c.loop-joined.committee c.in-Some.next next.0 next.1 c.loop-joined.invariant)
