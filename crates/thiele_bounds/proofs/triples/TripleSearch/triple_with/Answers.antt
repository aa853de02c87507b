use Rattle.std.proofs.Common.{◌≡◌, ◌/◌, ◌≤◌, ◌∙◌, ap, arith, length, get_or}
use Rattle.ballot_base.specs.Ballots.{hits}
use Rattle.tie_walk.proofs.RowSums.{length-common}
use Rattle.thiele_bounds.specs.Steps.Cubics.{bend_at, contact, touch_of}
use Rattle.thiele_bounds.proofs.PairBounds.CubicLemmas.{bend-small}
use Rattle.thiele_bounds.proofs.PairBounds.MajorantLemmas.{small-sums}
use Rattle.thiele_bounds.proofs.triples.TripleSearch.triple_with.Goals as goal
use Rattle.thiele_bounds.proofs.triples.TripleSearch.triple_with.Goals.{After-contact_at}

-- what is read
read : (g : _) (c : After-contact_at g) → get_or c.args.bends.now.triples c.contact_at.result 0 ≡ bend_at c.args.self.now.given.now.sums c.contact_at.result / 6
read g c = let low : c.contact_at.result ≤ 61 = omega (arith, c.contact_at.ensures) in c.requires.triples_are c.contact_at.result low

pub returns-clause-value : goal.returns-clause-value
returns-clause-value g c =
    let sums = c.args.self.now.given.now.sums in
    let node = c.args.node.now in
    let ballot = c.args.ballot in
    let before : c.len-before.result ≡ hits ballot node.set = c.len-before.ensures.count ∙ ap length c.common.ensures ∙ length-common ballot node.set in
    let approved : c.len-approved.result ≡ hits ballot node.free = c.len-approved.ensures.count ∙ ap length c.common-2.ensures ∙ length-common ballot node.free in
    let touch : get_or c.args.bends.now.touches c.from.result 0 ≡ touch_of c.args.self.now.shift node.left (length node.free) (hits ballot node.free) =
    ap (λ n. get_or c.args.bends.now.touches n 0) c.from.ensures ∙ c.requires.touches_are c.len-approved.result c.len-approved.ensures.most ∙ ap (touch_of c.args.self.now.shift node.left (length node.free)) approved in
    let at : c.contact_at.result ≡ contact (hits ballot node.set) (touch_of c.args.self.now.shift node.left (length node.free) (hits ballot node.free)) =
    c.contact_at.ensures ∙ ap (λ n. contact n (get_or c.args.bends.now.touches c.from.result 0)) before ∙ ap (contact (hits ballot node.set)) touch in
    read g (goal.at.returns-clause-value g c).After-contact_at ∙ ap (λ n. bend_at sums n / 6) at

pub returns-clause-small : goal.returns-clause-small
returns-clause-small g c =
    let low : c.contact_at.result ≤ 61 = omega (arith, c.contact_at.ensures) in
    omega (arith, read g (goal.at.returns-clause-small g c).After-contact_at, bend-small c.args.self.now.given.now.sums (small-sums c.args.self.now.given.now) c.contact_at.result low)
