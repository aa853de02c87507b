use Rattle.std.proofs.Common.{[], refl, arith}
use Rattle.ballot_base.specs.Lists.{IsIncreasing}
use Rattle.row_multipliers.specs.Completions.{IsNode}
use Rattle.ballot_base.proofs.Committees.{increasing_lists-contains}
use Rattle.tie_walk.proofs.LawLemmas.{IsIncreasing-range, no_greater_value}
use Rattle.tie_walk.specs.Values.{tally_value}
use Rattle.thiele_search.proofs.thiele.ThieleSearchSearchable.tied.Goals as goal
use Rattle.thiele_search.proofs.thiele.ThieleSearchSearchable.tied.Goals.{in-Some, in-None}

pub falls_short-requires : goal.falls_short-requires
falls_short-requires g c =
    let m = c.args.self.now.election.m in
    let up : IsIncreasing 1 m c.all.result = rw (c.all.ensures, c.m.ensures.value) (IsIncreasing-range 1 m m (omega arith)) in
    let is_node : IsNode m [] c.all.result = record { set_within = tt; free_within = up; apart = λ n is. refl } in
    record { is_node = rw c.empty.ensures is_node }

pub list_tied-requires-clause-least : goal.list_tied-requires-clause-least
list_tied-requires-clause-least g c =
    let tally = c.args.self.now in
    elim c.match-good_committee.branch [
      | in-Some w ↦ omega (
        arith,
        w.least-is,
        w.value-least.ensures,
        no_greater_value (tally_value tally) tally.election.m c.args.k w.in-Some.committee
            (increasing_lists-contains 1 tally.election.m c.args.k w.in-Some.committee w.in-Some.ensures),
      )
      | in-None w ↦ omega (arith, w.least-is)
    ]
