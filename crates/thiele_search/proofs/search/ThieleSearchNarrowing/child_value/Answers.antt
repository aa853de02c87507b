use Rattle.std.proofs.Common.{◌+◌, arith}
use Rattle.ballot_base.specs.CandSet.{with_member}
use Rattle.row_multipliers.proofs.CompletionLemmas.{member-high}
use Rattle.thiele_search.proofs.GainLemmas.{valued-more, valued-small}
use Rattle.thiele_search.specs.Steps.Aided.{IsValued}
use Rattle.thiele_search.proofs.search.ThieleSearchNarrowing.child_value.Goals as goal
use Rattle.thiele_search.proofs.search.ThieleSearchNarrowing.child_value.Goals.{After-of}

pub of-requires : goal.of-requires
of-requires g c =
    omega (
      arith,
      c.requires.plan.is_plan.valued.election.most,
      member-high 1 c.args.self.now.election.m c.args._node.now.free c.args.next c.requires.is_node.free_within c.requires.next,
    )

-- the value after the candidate has joined
joined : (g : _) (c : After-of g) → IsValued c.args.self.now (with_member c.args._node.now.set c.args.next) (c.args.plan.now.value + c.of.result)
joined g c =
    let node = c.args._node.now in
    let plan = c.args.plan.now in
    let known = c.requires.plan.is_plan in
    valued-more c.args.self.now node.set node.free plan.worths plan.value c.args.next c.of.result known.valued c.requires.is_node c.requires.next (λ n is. known.gains n (c.requires.plan.among n is)) c.of.ensures.value

pub overflow_add-result : goal.overflow_add-result
overflow_add-result g c =
    omega (
      arith,
      valued-small c.args.self.now (with_member c.args._node.now.set c.args.next) (c.args.plan.now.value + c.of.result) (joined g (goal.at.overflow_add-result g c).After-of),
    )

pub returns : goal.returns
returns g c = joined g (goal.at.returns g c).After-of
