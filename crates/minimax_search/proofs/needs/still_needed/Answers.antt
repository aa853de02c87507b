use Rattle.std.proofs.Common.{◌≡◌, ◌+◌, ◌-◌, ◌/◌, ◌%◌, ℕ, List, arith, length}
use Rattle.ballot_base.specs.Ballots.{hits}
use Rattle.ballot_base.specs.Limits.{most_candidates}
use Rattle.ballot_base.specs.Lists.{IsIncreasing}
use Rattle.tie_walk.specs.Values.{distance}
use Rattle.minimax_search.specs.Needs.{hits_needed}
use Rattle.minimax_search.proofs.NeedLemmas.{distance-hits}
use Rattle.minimax_search.proofs.needs.still_needed.Goals as goal

-- half of the excess of the farthest distance, rounded up
half-excess : (ballot set : List ℕ) (left most excess : ℕ) → IsIncreasing 1 most_candidates ballot → IsIncreasing 1 most_candidates set → excess ≡ distance ballot set + left - most
    → excess / 2 + excess % 2 ≡ hits_needed (length ballot) (length set + left) most - hits ballot set
half-excess ballot set left most excess rises up is = omega (arith, is, distance-hits most_candidates ballot set rises up)

pub returns-then-farthest-most : goal.returns-then-farthest-most
returns-then-farthest-most c =
    half-excess c.args.ballot c.args.node.now.set c.args.node.now.left c.args.most 0 c.requires.ballot c.requires.set
    (omega (arith, c.if-farthest-most.true, c.from.ensures, c.from-2.ensures, c.from-most.ensures, c.distance.ensures))

pub returns : goal.returns
returns c =
    half-excess c.args.ballot c.args.node.now.set c.args.node.now.left c.args.most (c.from.result + c.from-2.result - c.from-most.result) c.requires.ballot c.requires.set
    (omega (arith, c.if-farthest-most.false, c.from.ensures, c.from-2.ensures, c.from-most.ensures, c.distance.ensures))
