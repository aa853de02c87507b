use Rattle.std.proofs.Common.{ap, sym, ◌∙◌}
use Rattle.ballot_base.proofs.RowLemmas.{some_voter}
use Rattle.ballot_base.proofs.profile.Profile.voters.Goals as goal

pub returns-clause-some : goal.returns-clause-some
returns-clause-some g c =
    rw c.self-inside.invariant.total (some_voter c.self-inside.inside.0.0.rows c.self-inside.invariant.valid.counts
    (λ none. c.self.invariant (ap (λ inside. inside.built.rows) (sym c.self-inside.view_is) ∙ none)))
