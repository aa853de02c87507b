use Rattle.std.proofs.lemmas.Grind.{common_steps}
use Rattle.std.proofs.Common.{arith}
use Rattle.std.proofs.lemmas.List.{take_more, take_all, drop_all}
use Rattle.ballot_base.proofs.Increasing.{with_member-above, IsIncreasing-push, next_increasing, increasing_from_next}
use Rattle.ballot_base.proofs.cand_set.CandSet.of_list.Goals as goal
use Rattle.ballot_base.proofs.cand_set.CandSet.of_list.Goals.{then-n-last-via-then-n-last, then-n-last-via-else-n-last+then-n-gt-MOST_CANDIDATES}

pub loop-n-init : goal.loop-n-init
loop-n-init c = record { taken = c.empty-set.ensures; before = tt; rest = λ w. w; whole = λ w. w }

pub returns-then-n-last : goal.returns-then-n-last
returns-then-n-last c w = grind (arith, common_steps, next_increasing)

pub loop-n-preserved : goal.loop-n-preserved
loop-n-preserved c =
    grind (arith, common_steps, take_more, with_member-above, IsIncreasing-push, next_increasing, increasing_from_next)

pub returns : goal.returns
returns c = grind (arith, common_steps, drop_all, take_all)
