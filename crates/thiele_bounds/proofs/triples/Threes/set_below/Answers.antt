use Rattle.std.proofs.Common.{◌≡◌, ◌+◌, ◌-◌, ◌≤◌, ◌∙◌, true, ap, arith}
use Rattle.ballot_base.specs.CandSet.{has_member, members_upto}
use Rattle.ballot_base.specs.Limits.{most_candidates}
use Rattle.row_multipliers.proofs.CompletionLemmas.{member-high, member-low}
use Rattle.row_multipliers.proofs.MemberLemmas.{first-in, later-in}
use Rattle.row_multipliers.proofs.SearchLemmas.{rest-increasing}
use Rattle.thiele_bounds.specs.Steps.Threes.{ArePlaces, three_rough, worth_by}
use Rattle.thiele_bounds.proofs.PairBounds.OverlapLemmas.{one-made}
use Rattle.thiele_bounds.proofs.PairBounds.PartLemmas.{below-placed, kept-more, not-true}
use Rattle.thiele_bounds.proofs.PairBounds.PlaceLemmas.{upto-among, upto-before, upto-same}
use Rattle.thiele_bounds.proofs.triples.Threes.set_below.Goals as goal
use Rattle.thiele_bounds.proofs.triples.Threes.set_below.Goals.{Start, After-from-at}

j-some : (c : Start) → 1 ≤ c.args.j
j-some c = member-low 1 most_candidates c.args.self.now.node.now.free c.args.j c.requires.threes.candidates c.requires.second

pub overflow_sub-j : goal.overflow_sub-j
overflow_sub-j c = j-some (goal.at.overflow_sub-j c).Start

pub upto-requires : goal.upto-requires
upto-requires c = omega (arith, member-high 1 most_candidates c.args.self.now.node.now.free c.args.j c.requires.threes.candidates c.requires.second)

l-in : (c : After-from-at) → has_member (members_upto c.args.self.now.node.now.free (c.args.j - 1)) c.in-Some.l ≡ true
l-in c = c.loop-l.invariant.among c.in-Some.l (first-in c.loop-l.l-iterator c.next.new.self c.in-Some.l c.in-Some.ensures.steps c.loop-l.invariant.rises)

placed : (c : After-from-at) → ArePlaces c.args.self.now (c.row_start-first.result + c.from.result) (c.row_start-first.result + c.from-at.result) (c.row_start-second.result + c.from-at.result) (c.plane_start.result + c.row_start-second.result + c.from-at.result)
    × (worth_by c.args.self.now (c.row_start-first.result + c.from.result) (c.row_start-first.result + c.from-at.result) (c.row_start-second.result + c.from-at.result) (c.plane_start.result + c.row_start-second.result + c.from-at.result) ≡ three_rough c.args.self.now c.args.i c.args.j c.in-Some.l)
placed c =
    let self = c.args.self.now in
    let in_ = l-in c in
    below-placed self c.requires.threes c.args.i c.args.j c.in-Some.l (c.row_start-first.result + c.from.result) (c.row_start-first.result + c.from-at.result) (c.row_start-second.result + c.from-at.result) (c.plane_start.result + c.row_start-second.result + c.from-at.result)
    c.requires.first c.requires.second (upto-among self.node.now.free (c.args.j - 1) c.in-Some.l in_) c.requires.order (upto-before self.node.now.free c.args.j c.in-Some.l (member-low 1 most_candidates self.node.now.free c.args.j c.requires.threes.candidates c.requires.second) in_)
    (omega (arith, c.row_start-first.ensures, c.from.ensures)) (omega (arith, c.row_start-first.ensures, c.from-at.ensures)) (omega (arith, c.row_start-second.ensures, c.from-at.ensures)) (omega (arith, c.plane_start.ensures, c.row_start-second.ensures, c.from-at.ensures))

pub worth-requires-clause-places : goal.worth-requires-clause-places
worth-requires-clause-places c = (placed (goal.at.worth-requires-clause-places c).After-from-at).0

pub loop-l-preserved : goal.loop-l-preserved
loop-l-preserved c =
    let self = c.args.self.now in
    let left = c.loop-l.l-iterator in
    let rest = c.next.new.self in
    let first = c.in-Some.l in
    let steps = c.in-Some.ensures.steps in
    let inv = c.loop-l.invariant in
    let at = (goal.at.loop-l-preserved c).After-from-at in
    let members = members_upto self.node.now.free (c.args.j - 1) in
    record {
      rises = (rest-increasing most_candidates left rest first steps inv.rises).1;
      among = λ x is. inv.among x (later-in left rest first steps inv.rises x is);
      made = one-made left rest first steps inv.rises c.loop-l.worths c.set.new.self c.worth.result c.set.ensures (λ x n. n ≡ three_rough self c.args.i c.args.j x) members (c.worth.ensures.value ∙ (placed at).1) inv.made;
      kept = kept-more first c.loop-l.worths c.set.new.self c.args.worths.now c.worth.result c.set.ensures members (inv.among first (first-in left rest first steps inv.rises)) inv.kept;
    }

pub returns-clause-made : goal.returns-clause-made
returns-clause-made c l here low = c.loop-l.invariant.made l (upto-same c.args.self.now.node.now.free c.args.j l low ∙ here) (ap (λ xs. has_member xs l) c.in-None.ensures.steps.0)

pub returns-clause-kept : goal.returns-clause-kept
returns-clause-kept c l high =
    let some = j-some (goal.at.returns-clause-kept c).Start in
    c.loop-l.invariant.kept l (not-true (has_member (members_upto c.args.self.now.node.now.free (c.args.j - 1)) l) (λ is. absurd (omega (arith, high, upto-before c.args.self.now.node.now.free c.args.j l some is))))
