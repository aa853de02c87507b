use Rattle.std.proofs.Common.{◌≡◌, ◌+◌, ◌∙◌, true, ap, arith}
use Rattle.ballot_base.specs.CandSet.{has_member, members_upto, other_members}
use Rattle.ballot_base.specs.Limits.{most_candidates}
use Rattle.row_multipliers.proofs.CompletionLemmas.{member-high}
use Rattle.row_multipliers.proofs.MemberLemmas.{first-in, later-in}
use Rattle.row_multipliers.proofs.SearchLemmas.{rest-increasing}
use Rattle.thiele_bounds.specs.Steps.Threes.{ArePlaces, three_rough, worth_by}
use Rattle.thiele_bounds.proofs.PairBounds.OverlapLemmas.{one-made}
use Rattle.thiele_bounds.proofs.PairBounds.PartLemmas.{after-in, after-is, above-placed, kept-more, not-true}
use Rattle.thiele_bounds.proofs.triples.Threes.set_above.Goals as goal
use Rattle.thiele_bounds.proofs.triples.Threes.set_above.Goals.{After-plane_start}

pub upto-requires : goal.upto-requires
upto-requires c = member-high 1 most_candidates c.args.self.now.node.now.free c.args.i c.requires.threes.candidates c.requires.first

l-in : (c : After-plane_start) → has_member (other_members c.args.self.now.node.now.free (members_upto c.args.self.now.node.now.free c.args.i)) c.in-Some.l ≡ true
l-in c = c.loop-l.invariant.among c.in-Some.l (first-in c.loop-l.l-iterator c.next.new.self c.in-Some.l c.in-Some.ensures.steps c.loop-l.invariant.rises)

placed : (c : After-plane_start) → ArePlaces c.args.self.now (c.row_start.result + c.from.result) (c.row_start-row.result + c.from-in-loop-l.result) (c.row_start-row.result + c.from-in-loop-l-2.result) (c.plane_start.result + (c.row_start.result + c.from.result))
    × (worth_by c.args.self.now (c.row_start.result + c.from.result) (c.row_start-row.result + c.from-in-loop-l.result) (c.row_start-row.result + c.from-in-loop-l-2.result) (c.plane_start.result + (c.row_start.result + c.from.result)) ≡ three_rough c.args.self.now c.args.i c.args.j c.in-Some.l)
placed c =
    let self = c.args.self.now in
    let is = after-is self.node.now.free c.args.i c.in-Some.l (l-in c) in
    above-placed self c.requires.threes c.args.i c.args.j c.in-Some.l (c.row_start.result + c.from.result) (c.row_start-row.result + c.from-in-loop-l.result) (c.row_start-row.result + c.from-in-loop-l-2.result) (c.plane_start.result + (c.row_start.result + c.from.result))
    c.requires.first c.requires.second is.0 c.requires.order is.1
    (omega (arith, c.row_start.ensures, c.from.ensures)) (omega (arith, c.row_start-row.ensures, c.from-in-loop-l.ensures)) (omega (arith, c.row_start-row.ensures, c.from-in-loop-l-2.ensures)) (omega (arith, c.plane_start.ensures, c.row_start.ensures, c.from.ensures))

pub worth-requires-clause-places : goal.worth-requires-clause-places
worth-requires-clause-places c = (placed (goal.at.worth-requires-clause-places c).After-plane_start).0

pub loop-l-preserved : goal.loop-l-preserved
loop-l-preserved c =
    let self = c.args.self.now in
    let left = c.loop-l.l-iterator in
    let rest = c.next.new.self in
    let first = c.in-Some.l in
    let steps = c.in-Some.ensures.steps in
    let inv = c.loop-l.invariant in
    let at = (goal.at.loop-l-preserved c).After-plane_start in
    let members = other_members c.args.self.now.node.now.free (members_upto c.args.self.now.node.now.free c.args.i) in
    record {
      rises = (rest-increasing most_candidates left rest first steps inv.rises).1;
      among = λ x is. inv.among x (later-in left rest first steps inv.rises x is);
      made = one-made left rest first steps inv.rises c.loop-l.worths c.set.new.self c.worth.result c.set.ensures (λ x n. n ≡ three_rough self c.args.i c.args.j x) members (c.worth.ensures.value ∙ (placed at).1) inv.made;
      kept = kept-more first c.loop-l.worths c.set.new.self c.args.worths.now c.worth.result c.set.ensures members (inv.among first (first-in left rest first steps inv.rises)) inv.kept;
    }

pub returns-clause-made : goal.returns-clause-made
returns-clause-made c l here low = c.loop-l.invariant.made l (after-in c.args.self.now.node.now.free c.args.i l here low) (ap (λ xs. has_member xs l) c.in-None.ensures.steps.0)

pub returns-clause-kept : goal.returns-clause-kept
returns-clause-kept c l high = c.loop-l.invariant.kept l (not-true (has_member (other_members c.args.self.now.node.now.free (members_upto c.args.self.now.node.now.free c.args.i)) l) (λ is. absurd (omega (arith, high, (after-is c.args.self.now.node.now.free c.args.i l is).1))))
