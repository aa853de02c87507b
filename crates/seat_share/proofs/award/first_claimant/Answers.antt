use Rattle.std.proofs.Common.{◌≡◌, ◌+◌, Some, false, subst, sym, take, get_or, arith}
use Rattle.seat_share.specs.declared.party.Party.{Party}
use Rattle.seat_share.specs.Steps.Claims.{claim}
use Rattle.seat_share.specs.Steps.Standings.{IsGreatest}
use Rattle.seat_share.proofs.AwardLemmas.{greatest-skip, greatest-at, length-front}
use Rattle.seat_share.proofs.award.first_claimant.Goals.{then-party-gt0, else-party-gt0}
use Rattle.seat_share.proofs.award.first_claimant.Goals as goal

abbrev nobody : Party
nobody = record { votes = 0; seats = 0; is_tied = false; has_more = false }

pub loop-place-preserved : goal.loop-place-preserved
loop-place-preserved c =
    let claims = claim c.args.contest.method c.args.contest.votes c.args.contest.seats in
    elim c.if-party-gt0.branch [
      | then-party-gt0 w ↦
          subst (IsGreatest claims (take (c.loop-place.place + 1) c.args.parties.now)) (sym w.best-is)
          (greatest-at claims c.args.parties.now c.loop-place.place _ (Some w.greater.result) c.loop-place-test.true
          (w.greater.ensures claims (take c.loop-place.place c.args.parties.now) _ (length-front c.args.parties.now c.loop-place.place c.loop-place-test.true) w.if-party-gt0.true w.claim-quotient.ensures.value c.loop-place.invariant))
      | else-party-gt0 w ↦
          subst (IsGreatest claims (take (c.loop-place.place + 1) c.args.parties.now)) (sym w.best-is)
          (greatest-at claims c.args.parties.now c.loop-place.place nobody c.loop-place.best c.loop-place-test.true
          (let party : Party = get_or c.args.parties.now c.loop-place.place nobody in
          let none : party.votes ≡ 0 = omega (arith, w.if-party-gt0.false) in
          greatest-skip claims (take c.loop-place.place c.args.parties.now) party c.loop-place.best none c.loop-place.invariant))
    ]
