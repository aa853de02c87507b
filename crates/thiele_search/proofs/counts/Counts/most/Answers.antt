use Rattle.std.proofs.Common.{arith}
use Rattle.tie_walk.proofs.LawLemmas.{IsIncreasing-range}
use Rattle.thiele_search.proofs.counts.Counts.most.Goals as goal

pub value-requires : goal.value-requires
value-requires g c =
    let m = c.args.self.now.tally.election.m in
    rw (c.all.ensures, c.m.ensures.value) (IsIncreasing-range 1 m m (omega arith))
