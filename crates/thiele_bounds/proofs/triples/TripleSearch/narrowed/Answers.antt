use Rattle.std.proofs.Common.{◌+◌, ◌≤◌, ap, arith, length}
use Rattle.row_multipliers.proofs.CompletionLemmas.{completion-few, member-high}
use Rattle.thiele_bounds.specs.Steps.Places.{HasRoom, tetrahedron}
use Rattle.thiele_bounds.proofs.PairBounds.PlaceLemmas.{tetrahedron-rises}
use Rattle.thiele_bounds.proofs.triples.TripleSearch.narrowed.Goals as goal
use Rattle.thiele_bounds.proofs.triples.TripleSearch.narrowed.Goals.{After-deref_mut}

pub returns-then-len-node : goal.returns-then-len-node
returns-then-len-node g c weights are committee whole =
    let node = c.args.node.now in
    absurd (omega (
      arith,
      completion-few c.args.self.now.profile.now.m node.set node.free node.left committee c.requires.is_node whole,
      c.len.ensures.count,
      c.if-len-node.true,
    ))

-- the table has the planes of all free candidates
has-room : (g : _) (c : After-deref_mut g) → HasRoom c.args.node.now.free c.deref_mut.result.now
has-room g c n is =
    let m = c.args.self.now.profile.now.m in
    let low : n + 1 ≤ m + 1 = omega (arith, member-high 1 m c.args.node.now.free n c.requires.is_node.free_within is) in
    omega (arith, tetrahedron-rises (n + 1) (m + 1) low, ap (λ x. tetrahedron (x + 1)) c.m.ensures.value, c.in-Some.ensures.0, ap length c.deref_mut.ensures.value)

pub members_by-members-requires-clause-room : goal.members_by-members-requires-clause-room
members_by-members-requires-clause-room g c = has-room g (goal.at.members_by-members-requires-clause-room g c).After-deref_mut
