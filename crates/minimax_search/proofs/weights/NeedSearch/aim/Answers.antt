use Rattle.ballot_base.specs.Limits.{most_candidates}
use Rattle.ballot_base.proofs.Increasing.{IsIncreasing-higher}
use Rattle.tie_walk.proofs.Distances.{ballot-found}
use Rattle.minimax_search.proofs.weights.NeedSearch.aim.Goals as goal

pub still_needed-needed-requires : goal.still_needed-needed-requires
still_needed-needed-requires g c =
    let e = c.args.self.now.profile.now in
    let valid = c.rows-rows.ensures.valid in
    record {
      ballot = IsIncreasing-higher 1 e.m most_candidates c.row-ballot.result.0 valid.most (ballot-found e.m e.rows c.row.result c.row-ballot.result valid.ballots c.row-ballot.ensures);
      set = IsIncreasing-higher 1 e.m most_candidates c.args.node.now.set valid.most c.requires.is_node.set_within;
    }
