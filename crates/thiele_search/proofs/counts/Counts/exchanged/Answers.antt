use Rattle.ballot_base.specs.Limits.{most_candidates}
use Rattle.ballot_base.proofs.Passed.{rest-up}
use Rattle.row_multipliers.proofs.CompletionLemmas.{candidates-among}
use Rattle.thiele_search.proofs.counts.Counts.exchanged.Goals as goal

pub loop-pass-init : goal.loop-pass-init
loop-pass-init g c =
    rw c.m.ensures.value at (candidates-among c.m.result c.all.result c.args.committee c.common-best.result c.all.ensures c.common-best.ensures)

pub loop-member-preserved : goal.loop-member-preserved
loop-member-preserved g c = record {
  members = (rest-up most_candidates c.in-Some.member c.loop-member.member-iterator c.next.new.self c.in-Some.ensures.steps c.loop-member.invariant.members).1;
  candidates = c.replaced-best.ensures;
}
