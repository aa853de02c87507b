use Rattle.std.proofs.lemmas.Grind.{common_steps}
use Rattle.std.proofs.Common.{arith}
use Rattle.tie_walk.proofs.StepLemmas.{has_member-range}
use Rattle.tie_walk.proofs.TightLemmas.{approval-tight}
use Rattle.tie_walk.proofs.approval.ApprovalTally.new.Goals as goal

pub invariant_of-result : goal.invariant_of-result
invariant_of-result g c = record {
  election = c.m.ensures.valid;
  some = c.requires.some;
  size = c.requires.size;
  approvals_are = λ n low high. grind (arith, common_steps, has_member-range, c.gains-approvals.ensures.gains n);
  small = c.gains-approvals.ensures.small;
}

pub returns-clause-tight : goal.returns-clause-tight
returns-clause-tight g c = approval-tight c.args.profile.now c.args.k c.m.ensures.valid c.requires.size
