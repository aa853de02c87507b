use Rattle.std.proofs.Common.{[], refl, subst, arith}
use Rattle.ballot_base.specs.Increments.{increments}
use Rattle.ballot_base.specs.Lists.{IsIncreasing}
use Rattle.tie_walk.proofs.LawLemmas.{IsIncreasing-range}
use Rattle.row_multipliers.specs.Completions.{IsNode}
use Rattle.row_multipliers.proofs.CompletionLemmas.{candidates-among}
use Rattle.thiele_bounds.specs.Steps.Paired.{AreSums}
use Rattle.thiele_bounds.proofs.prices.Priced.of.Goals as goal
use Rattle.thiele_bounds.proofs.prices.Priced.of.Goals.{After-empty}

pub value-requires : goal.value-requires
value-requires g c =
    rw (c.m.ensures.value) at (candidates-among c.m.result c.all-candidates.result c.args.good c.common.result c.all-candidates.ensures c.common.ensures)

-- all candidates are free
all-free : (g : _) (c : After-empty g) → IsNode c.args.values.now.election.m c.empty.result c.all-candidates.result
all-free g c =
    let m = c.args.values.now.election.m in
    let up : IsIncreasing 1 m c.all-candidates.result = rw (c.all-candidates.ensures, c.m.ensures.value) (IsIncreasing-range 1 m m (omega arith)) in
    let is_node : IsNode m [] c.all-candidates.result = record { set_within = tt; free_within = up; apart = λ n is. refl } in
    rw c.empty.ensures is_node

pub narrowed-moved-requires : goal.narrowed-moved-requires
narrowed-moved-requires g c = record { is_node = all-free g (goal.at.narrowed-moved-requires g c).After-empty }

pub prices-whole-requires : goal.prices-whole-requires
prices-whole-requires g c = record { is_node = all-free g (goal.at.prices-whole-requires g c).After-empty }

pub returns : goal.returns
returns g c =
    let tally = c.args.values.now in
    let given = c.in_ok-given.given in
    let sums : AreSums (increments tally.rule tally.k) given.scale given.unit given.sums =
    subst (λ k. AreSums (increments tally.rule k) given.scale given.unit given.sums) c.requires.k_is
    (subst (λ rule. AreSums (increments rule c.args.k) given.scale given.unit given.sums) c.rule.ensures c.in_ok-given.ensures.0) in
    record {
      k_is = c.requires.k_is;
      sums = sums;
      totals = rw (c.empty.ensures, c.all-candidates.ensures, c.m.ensures.value, c.requires.k_is) at (c.prices-whole.ensures.totals (increments tally.rule tally.k) sums);
    }
