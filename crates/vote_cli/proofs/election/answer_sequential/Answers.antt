use Rattle.vote_cli.proofs.RunLemmas.{writes_both, writes_first, writes_second}
use Rattle.vote_cli.proofs.TextLemmas.{sequential_parts}
use Rattle.vote_cli.proofs.election.answer_sequential.Goals as goal

pub returns-in_err-sent : goal.returns-in_err-sent
returns-in_err-sent g c =
    let l = c.args.listing.now in
    writes_first _ c.write_rule.result _ c.from_residual-in_err-sent.result c.in_err-sent.was c.from_residual-in_err-sent.ensures
    (sequential_parts l.names (record { after = l.after; limit = l.limit }) c.args.rule l.size l.profile.now c.in_ok-memory.memory c.in_ok-memory.ensures) c.write_rule.ensures

pub returns-in_err-write_families : goal.returns-in_err-write_families
returns-in_err-write_families g c =
    let l = c.args.listing.now in
    writes_second c.write_rule.new.out c.write_rule.result _ c.write_families.result _ c.from_residual-in_err-write_families.result c.in_ok-sent.was c.in_err-write_families.was c.from_residual-in_err-write_families.ensures
    (sequential_parts l.names (record { after = l.after; limit = l.limit }) c.args.rule l.size l.profile.now c.in_ok-memory.memory c.in_ok-memory.ensures)
    c.write_rule.ensures c.write_families.ensures

pub returns : goal.returns
returns g c =
    let l = c.args.listing.now in
    writes_both c.write_rule.new.out c.write_rule.result c.write_families.result _ _ c.in_ok-sent.was c.in_ok-write_families.was
    (sequential_parts l.names (record { after = l.after; limit = l.limit }) c.args.rule l.size l.profile.now c.in_ok-memory.memory c.in_ok-memory.ensures)
    c.write_rule.ensures c.write_families.ensures
