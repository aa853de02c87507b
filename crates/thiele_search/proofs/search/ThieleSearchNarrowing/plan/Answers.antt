use Rattle.std.proofs.Common.{refl}
use Rattle.tie_walk.specs.Values.{tally_value}
use Rattle.row_multipliers.specs.Steps.Narrowed.{IsNarrowed}
use Rattle.row_multipliers.proofs.NarrowedLemmas.{narrowed-more}
use Rattle.tie_search.proofs.DescentLemmas.{choice-of_all, narrowed-choice}
use Rattle.thiele_search.proofs.search.ThieleSearchNarrowing.plan.Goals as goal

pub returns : goal.returns
returns g c =
    let V = tally_value c.args.self.now in
    let m = c.args.self.now.election.m in
    let node = c.args.node.now in
    let eligible = c.in_ok-eligible.eligible in
    let fewer = c.in_ok-eligible.ensures in
    let both : IsNarrowed V m node.set node.free node.left c.args.least eligible = narrowed-more V m node.set node.free c.in_ok-free.free node.left c.args.least c.in_ok-free.ensures eligible fewer in (
      both,
      narrowed-choice V m node.set node.free eligible node.left c.args.least both eligible (choice-of_all V m node.set eligible node.left c.args.least both.is_node c.requires.some),
      record { valued = c.requires.valued; gains = λ n is. rw c.self.view_is at (c.gains-gains.ensures n (fewer.among n is)) },
      refl,
    )
