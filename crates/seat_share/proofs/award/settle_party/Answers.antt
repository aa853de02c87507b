use Rattle.std.proofs.Common.{sym, ap, ◌∙◌}
use Rattle.seat_share.specs.Quotients.{is_at_least}
use Rattle.seat_share.specs.Steps.Claims.{claim}
use Rattle.seat_share.proofs.ClaimLemmas.{claims-fall}
use Rattle.seat_share.proofs.AwardLemmas.{taken-back}
use Rattle.seat_share.proofs.award.settle_party.Goals as goal

pub returns-then-is_at_least-clause-stands : goal.returns-then-is_at_least-clause-stands
returns-then-is_at_least-clause-stands c =
    let claims = claim c.args.contest.method c.args.contest.votes c.args.contest.seats in
    taken-back claims c.args.contest.seats (claims-fall c.args.contest.method c.args.contest.votes c.args.contest.seats c.requires.some) c.args.low c.args.party.now.votes c.args.party.now.seats
    c.if-party-gt0.true c.requires.within.1 c.requires.kept (ap (is_at_least c.args.low) (sym c.claim.ensures.value) ∙ sym c.is_at_least.ensures ∙ c.if-is_at_least.true)
