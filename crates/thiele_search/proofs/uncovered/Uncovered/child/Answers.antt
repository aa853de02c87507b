use Rattle.std.proofs.Common.{arith}
use Rattle.row_multipliers.proofs.CompletionLemmas.{member-high, member-low}
use Rattle.thiele_search.proofs.UncoveredLemmas.{branch-child}
use Rattle.thiele_search.proofs.uncovered.Uncovered.child.Goals as goal

pub with-requires-clause-low : goal.with-requires-clause-low
with-requires-clause-low g c =
    member-low 1 c.args.self.now.profile.now.m c.args.branch.now.free c.args.next c.requires.branch.is_node.free_within c.requires.next

pub with-requires-clause-high : goal.with-requires-clause-high
with-requires-clause-high g c =
    omega (arith, member-high 1 c.args.self.now.profile.now.m c.args.branch.now.free c.args.next c.requires.branch.is_node.free_within c.requires.next, c.requires.branch.valid.most)

pub without-requires-2-clause-few : goal.without-requires-2-clause-few
without-requires-2-clause-few g c =
    omega (arith, member-high 1 c.args.self.now.profile.now.m c.args.branch.now.free c.args.next c.requires.branch.is_node.free_within c.requires.next, c.requires.branch.valid.most)

pub returns-clause-branch : goal.returns-clause-branch
returns-clause-branch g c =
    let table = c.args.self.now in
    let branch = c.args.branch.now in
    branch-child table.profile.now table.set table.free branch _ c.args.next c.requires.branch c.requires.next c.with.ensures c.without.ensures
    (c.without-2.ensures branch.set (c.requires.branch.is_node.apart c.args.next c.requires.next) c.requires.branch.voters)
