use Rattle.minimax_search.proofs.WeightedNeeds.{member-bound, needs-bound}
use Rattle.minimax_search.proofs.laws.weighted_needs.Goals as goal

pub returns-clause-completions : goal.returns-clause-completions
returns-clause-completions c weight m k most rows set free left threshold committee ballots is_node whole size near =
    needs-bound weight m k most rows set free left committee ballots is_node whole size near threshold

pub returns-clause-members : goal.returns-clause-members
returns-clause-members c weight m k most rows set free left threshold committee n ballots is_node whole size near open_ in_ =
    member-bound weight m k most rows set free left committee ballots is_node whole size near threshold n open_ in_
