use Rattle.std.proofs.Common.{◌≤◌, ◌==◌, arith, not}
use Rattle.ballot_base.specs.Lists.{IsIncreasing}
use Rattle.ballot_base.proofs.Increasing.{IsIncreasing-filter, IsIncreasing-with_member}
use Rattle.thiele_bounds.proofs.BesideLemmas.{beside-candidates}
use Rattle.thiele_search.proofs.counts.Counts.replaced.Goals as goal
use Rattle.thiele_search.proofs.counts.Counts.replaced.Goals.{After-without-rest, In-Some}

next-among : (g : _) (c : In-Some g) → (1 ≤ c.in-Some.next) × (c.in-Some.next ≤ c.args.self.now.tally.election.m)
next-among g c =
    rw c.m.ensures.value at (beside-candidates c.m.result c.all.result c.without-rest.result c.minus-others.result c.in-Some.next c.all.ensures c.minus-others.ensures c.in-Some.ensures.0)

rest-among : (g : _) (c : After-without-rest g) → IsIncreasing 1 c.args.self.now.tally.election.m c.without-rest.result
rest-among g c =
    rw c.without-rest.ensures (IsIncreasing-filter (λ x. not (x == c.args.member)) 1 c.args.self.now.tally.election.m c.args.committee c.requires.candidates)

pub of-requires : goal.of-requires
of-requires g c = omega (arith, (next-among g (goal.at.of-requires g c).In-Some).1, c.args.self.now.sound.election.most)

pub with-requires-clause-low : goal.with-requires-clause-low
with-requires-clause-low g c = (next-among g (goal.at.with-requires-clause-low g c).In-Some).0

pub returns-in-Some : goal.returns-in-Some
returns-in-Some g c =
    let m = c.args.self.now.tally.election.m in
    let at = goal.at.returns-in-Some g c in
    let next = next-among g at.In-Some in
    rw c.with.ensures (IsIncreasing-with_member 1 m c.without-rest.result c.in-Some.next next.0 next.1 (rest-among g at.After-without-rest))
