use Rattle.request_words.specs.declared.request.ScoredRule.TheVariants.{Minimax}
use Rattle.vote_cli.proofs.RunLemmas.{writes_both, writes_first, writes_second}
use Rattle.vote_cli.proofs.TextLemmas.{minimax_parts, scored_parts}
use Rattle.vote_cli.proofs.election.answer_minimax.Goals as goal

pub returns-in_err-sent : goal.returns-in_err-sent
returns-in_err-sent g c =
    let l = c.args.listing.now in
    writes_first _ c.write_rule.result _ c.from_residual-in_err-sent.result c.in_err-sent.was c.from_residual-in_err-sent.ensures
    (scored_parts l.names (record { after = l.after; limit = l.limit }) Minimax l.size l.profile.now) c.write_rule.ensures

pub returns-in_err-write_searched : goal.returns-in_err-write_searched
returns-in_err-write_searched g c =
    let l = c.args.listing.now in
    writes_second c.write_rule.new.out c.write_rule.result _ c.write_searched.result _ c.from_residual-in_err-write_searched.result c.in_ok-sent.was c.in_err-write_searched.was c.from_residual-in_err-write_searched.ensures
    (minimax_parts l.names (record { after = l.after; limit = l.limit }) l.size l.profile.now c.in_ok-search.search c.in_ok-search.ensures) c.write_rule.ensures c.write_searched.ensures

pub returns : goal.returns
returns g c =
    let l = c.args.listing.now in
    writes_both c.write_rule.new.out c.write_rule.result c.write_searched.result _ _ c.in_ok-sent.was c.in_ok-write_searched.was
    (minimax_parts l.names (record { after = l.after; limit = l.limit }) l.size l.profile.now c.in_ok-search.search c.in_ok-search.ensures) c.write_rule.ensures c.write_searched.ensures
