use Rattle.std.proofs.lemmas.Grind.{common_steps}
use Rattle.std.proofs.Common.{arith}
use Rattle.tie_walk.proofs.WalkLemmas.{without-last, not-last, without-increasing, none_below}
use Rattle.tie_walk.proofs.walk.Prefix.past.Goals as goal

pub returns-then-has : goal.returns-then-has
returns-then-has c = grind (arith, common_steps, without-last, without-increasing)

pub loop-c-preserved : goal.loop-c-preserved
loop-c-preserved c = grind (arith, common_steps, not-last)

pub returns : goal.returns
returns c = none_below c.loop-c.c c.args.self.now.set (omega (arith, c.loop-c-test.false)) c.loop-c.invariant.members
