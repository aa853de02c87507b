use Rattle.std.proofs.Common.{◌<◌, ◌∙◌, ap, arith, leb-false}
use Rattle.tie_walk.specs.Values.{tally_value}
use Rattle.row_multipliers.specs.Completions.{IsOutOfReach}
use Rattle.row_multipliers.specs.Steps.Narrowed.{IsNarrowed}
use Rattle.row_multipliers.proofs.NarrowedLemmas.{narrowed-none}
use Rattle.ballot_base.specs.CandSet.{has_member}
use Rattle.ballot_base.specs.Increments.{increments}
use Rattle.ballot_base.proofs.Increasing.{IsIncreasing-either, has_member-either}
use Rattle.thiele_search.proofs.CoverLemmas.{by-condition}
use Rattle.thiele_search.proofs.WholeLemmas.{whole-none}
use Rattle.thiele_search.proofs.thiele.ThieleSearch.covered.Goals as goal

pub value-most-requires : goal.value-most-requires
value-most-requires g c =
    rw c.union.ensures (IsIncreasing-either 1 c.args.self.now.election.m c.args.node.now.set c.args.node.now.free c.requires.is_node.set_within c.requires.is_node.free_within)

pub returns : goal.returns
returns g c =
    let tally = c.args.self.now in
    let node = c.args.node.now in
    let V = tally_value tally in
    let m = tally.election.m in
    by-condition _ node.free (IsOutOfReach V m node.set node.free node.left c.args.least) (IsNarrowed V m node.set node.free node.left c.args.least)
    (λ short.
    let low : c.value-most.result < c.args.least = leb-false c.args.least c.value-most.result short in
    whole-none (increments tally.rule tally.k) tally.election.rows m node.set node.free c.union.result c.args.least
    (λ n. ap (λ l. has_member l n) c.union.ensures ∙ has_member-either node.set node.free n)
    (omega (arith, c.value-most.ensures, low)) node.left)
    (narrowed-none V m node.set node.free node.left c.args.least c.requires.is_node)
    c.note.result (c.note.ensures ∙ c.then_some.ensures)
