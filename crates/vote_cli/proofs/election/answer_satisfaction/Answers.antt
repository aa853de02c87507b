use Rattle.request_words.specs.declared.request.ScoredRule.TheVariants.{Satisfaction}
use Rattle.vote_cli.proofs.RunLemmas.{writes_both, writes_first, writes_second}
use Rattle.vote_cli.proofs.TextLemmas.{satisfaction_parts, scored_parts}
use Rattle.vote_cli.proofs.election.answer_satisfaction.Goals as goal

pub returns-in_err-sent : goal.returns-in_err-sent
returns-in_err-sent g c =
    let l = c.args.listing.now in
    writes_first _ c.write_rule.result _ c.from_residual.result c.in_err-sent.was c.from_residual.ensures
    (scored_parts l.names (record { after = l.after; limit = l.limit }) Satisfaction l.size l.profile.now) c.write_rule.ensures

pub returns-in_err-write_ranked : goal.returns-in_err-write_ranked
returns-in_err-write_ranked g c =
    let l = c.args.listing.now in
    writes_second c.write_rule.new.out c.write_rule.result _ c.write_ranked.result _ c.from_residual-in_err-write_ranked.result c.in_ok-sent.was c.in_err-write_ranked.was c.from_residual-in_err-write_ranked.ensures
    (satisfaction_parts l.names (record { after = l.after; limit = l.limit }) l.size l.profile.now c.new-tally.result c.new-tally.ensures.tally) c.write_rule.ensures c.write_ranked.ensures

pub returns : goal.returns
returns g c =
    let l = c.args.listing.now in
    writes_both c.write_rule.new.out c.write_rule.result c.write_ranked.result _ _ c.in_ok-sent.was c.in_ok-write_ranked.was
    (satisfaction_parts l.names (record { after = l.after; limit = l.limit }) l.size l.profile.now c.new-tally.result c.new-tally.ensures.tally) c.write_rule.ensures c.write_ranked.ensures
