use Rattle.std.proofs.Common.{ap, sym, ◌∙◌}
use Rattle.seat_share.specs.Steps.Standings.{votes_of}
use Rattle.seat_share.proofs.ShareLemmas.{few-votes, votes-fit}
use Rattle.seat_share.proofs.shares.Shares.new.Goals as goal

pub choose-is_left-requires-clause-votes : goal.choose-is_left-requires-clause-votes
choose-is_left-requires-clause-votes c =
    few-votes _ c.args.votes.now (ap votes_of c.as_mut_slice.ensures.value ∙ c.parties_with-parties.ensures.votes) (votes-fit c.args.votes.now c.args.seats _ (sym c.share_fault.ensures ∙ c.in_default.is))
