use Rattle.std.proofs.Common.{◌∙◌, sym, subst, arith}
use Rattle.ballot_base.specs.Lists.{IsIncreasing}
use Rattle.ballot_base.proofs.Increasing.{IsIncreasing-with_member}
use Rattle.answer_tests.proofs.tests.support.ballot_of.Goals as goal
use Rattle.answer_tests.proofs.tests.support.ballot_of.Goals.{then-word-n-eq1, else-word-n-eq1}

pub loop-n-preserved : goal.loop-n-preserved
loop-n-preserved c = elim c.if-word-n-eq1.branch [
  | then-word-n-eq1 w ↦
      subst (λ s. IsIncreasing 1 c.args.m s) (sym (w.set-is ∙ w.with-set.ensures))
      (IsIncreasing-with_member 1 c.args.m c.loop-n.set c.loop-n.n (omega arith) (omega arith) c.loop-n.invariant)
  | else-word-n-eq1 w ↦ subst (λ s. IsIncreasing 1 c.args.m s) (sym w.set-is) c.loop-n.invariant
]
