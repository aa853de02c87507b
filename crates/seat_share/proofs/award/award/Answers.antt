use Rattle.std.proofs.Common.{subst, sym, ap, sum, arith, ◌∙◌, false}
use Rattle.std.proofs.lemmas.Grind.{common_steps}
use Rattle.seat_share.specs.declared.party.Party.{Party}
use Rattle.seat_share.specs.Steps.Claims.{claim}
use Rattle.seat_share.specs.Steps.Standings.{votes_of}
use Rattle.seat_share.proofs.ClaimLemmas.{claims-fall}
use Rattle.seat_share.proofs.AwardLemmas.{HasGiven, given-none, given-more, within-sum, somebody}
use Rattle.seat_share.proofs.award.award.Goals as goal

abbrev nobody : Party
nobody = record { votes = 0; seats = 0; is_tied = false; has_more = false }

pub loop-given-init : goal.loop-given-init
loop-given-init c =
    subst (λ low. HasGiven (claim c.args.contest.method c.args.contest.votes c.args.contest.seats) c.args.contest.seats (votes_of c.args.parties.now) low c.args.parties.now 0) (sym c.greatest-low.ensures)
    (given-none c.args.contest.method c.args.contest.votes c.args.contest.seats c.args.parties.now c.args.contest.few_seats c.args.contest.few_votes c.requires.votes c.requires.fresh)

pub first_claimant-requires : goal.first_claimant-requires
first_claimant-requires c = within-sum c.args.contest.seats c.loop-given.parties c.loop-given.invariant.few (omega (arith, c.loop-given.invariant.seats, c.loop-given-test.true))

pub unreachable-requires : goal.unreachable-requires
unreachable-requires c =
    somebody (claim c.args.contest.method c.args.contest.votes c.args.contest.seats) c.loop-given.parties c.first_claimant.result c.args.contest.votes c.requires.some
    (c.requires.total ∙ ap sum (sym c.loop-given.invariant.votes)) c.first_claimant.ensures.greatest c.in-None.is

pub loop-given-preserved : goal.loop-given-preserved
loop-given-preserved c =
    given-more (claim c.args.contest.method c.args.contest.votes c.args.contest.seats) c.args.contest.seats
    (claims-fall c.args.contest.method c.args.contest.votes c.args.contest.seats c.requires.some) (votes_of c.args.parties.now) c.loop-given.low c.loop-given.parties c.loop-given._given c.in-Some.first nobody
    c.loop-given.invariant c.loop-given-test.true c.in-Some.ensures.greatest

pub returns-clause-within : goal.returns-clause-within
returns-clause-within c =
    within-sum c.args.contest.seats c.loop-given.parties c.loop-given.invariant.few (omega (arith, c.loop-given.invariant.seats, c.loop-given.auto._given-end))

pub offset_bounds-parties-first : goal.offset_bounds-parties-first
offset_bounds-parties-first c = grind (arith, common_steps)

pub bounds-parties-first : goal.bounds-parties-first
bounds-parties-first c = grind (arith, common_steps)

pub overflow_add-parties : goal.overflow_add-parties
overflow_add-parties c = grind (arith, common_steps)

pub bounds-parties-first-in-Some : goal.bounds-parties-first-in-Some
bounds-parties-first-in-Some c = grind (arith, common_steps)
