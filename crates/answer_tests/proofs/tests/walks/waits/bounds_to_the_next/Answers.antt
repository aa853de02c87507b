use Rattle.std.proofs.Common.{arith}
use Rattle.answer_tests.proofs.tests.walks.waits.bounds_to_the_next.Goals as goal

pub returns : goal.returns
returns g c =
    let wait = c.short_waits.ensures c.args.winners.now c.next-winner.result c.next-winner.new.self c.requires c.next-winner.ensures.steps in
    omega (arith, wait, c.ceilings.ensures.count, c.ceilings-before.ensures.count)
