use Rattle.std.proofs.Common.{◌∙◌, ap, sym}
use Rattle.std.specs.Option.{option_copied}
use Rattle.seat_share.proofs.ShareLemmas.{choices-fair, choosing, first-placed, later-placed}
use Rattle.seat_share.specs.Allocations.{allocations, later_than}
use Rattle.seat_share.specs.Steps.Standings.{votes_of}
use Rattle.seat_share.proofs.shares.choose.Goals as goal

pub returns-in-Some-clause-choices : goal.returns-in-Some-clause-choices
returns-in-Some-clause-choices c =
    let all = choices-fair c.args.contest.method c.args.contest.votes c.args.contest.seats c.settle-more.result c.award-low.result (votes_of c.args.parties.now) c.settle-more.new.parties
    c.requires.some c.requires.total (c.settle-more.ensures.votes ∙ c.award-low.ensures.votes) c.settle-more.ensures.stand (c.settle-more.ensures.seats ∙ c.award-low.ensures.seats) c.settle-more.ensures.ties in
    later-placed _ c.settle-more.result _ c.place_after.result c.settle-more.new.parties c.place_last.new.parties c.place_after.new.parties all c.place_last.ensures.same c.place_after.ensures.later
    ∙ ap (λ after. later_than (option_copied after) (allocations c.args.contest.method (votes_of c.args.parties.now) c.args.contest.seats)) (sym c.in-Some.is)

pub returns-in-Some-clause-valid : goal.returns-in-Some-clause-valid
returns-in-Some-clause-valid c =
    choosing c.args.contest.seats c.settle-more.result c.settle-more.new.parties c.place_after.new.parties c.args.contest.few_seats (c.settle-more.ensures.seats ∙ c.award-low.ensures.seats)
    (c.place_after.ensures.same ∙ c.place_last.ensures.same) c.place_after.ensures.tied

pub returns-in-None-clause-choices : goal.returns-in-None-clause-choices
returns-in-None-clause-choices c =
    let all = choices-fair c.args.contest.method c.args.contest.votes c.args.contest.seats c.settle-more.result c.award-low.result (votes_of c.args.parties.now) c.settle-more.new.parties
    c.requires.some c.requires.total (c.settle-more.ensures.votes ∙ c.award-low.ensures.votes) c.settle-more.ensures.stand (c.settle-more.ensures.seats ∙ c.award-low.ensures.seats) c.settle-more.ensures.ties in
    first-placed _ c.settle-more.result c.place_last.result c.settle-more.new.parties c.place_last.new.parties all c.settle-more.ensures.ties c.place_last.ensures.left c.place_last.ensures.first
    ∙ ap (λ after. later_than (option_copied after) (allocations c.args.contest.method (votes_of c.args.parties.now) c.args.contest.seats)) (sym c.in-None.is)

pub returns-in-None-clause-valid : goal.returns-in-None-clause-valid
returns-in-None-clause-valid c =
    choosing c.args.contest.seats c.settle-more.result c.settle-more.new.parties c.place_last.new.parties c.args.contest.few_seats (c.settle-more.ensures.seats ∙ c.award-low.ensures.seats)
    c.place_last.ensures.same c.place_last.ensures.tied
