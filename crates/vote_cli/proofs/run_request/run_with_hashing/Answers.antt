use Rattle.std.proofs.Common.{refl}
use Rattle.vote_cli.specs.Answer.{answered, violated}
use Rattle.vote_cli.proofs.RunLemmas.{ends_answered, ends_refused}
use Rattle.vote_cli.proofs.run_request.run_with_hashing.Goals as goal

pub returns-in-Ok-Answered : goal.returns-in-Ok-Answered
returns-in-Ok-Answered g c =
    let h = rw c.in-Ok-Answered.field-0-is at c.in-Ok-Answered.ensures.answer in
    record {
      ends = ends_answered c.args.request.now _ _ _ _ _ _ (answered h.0) h.1 refl refl refl c.in-Ok-Answered.ensures.reads c.in-Ok-Answered.ensures.writes h.2;
      alone = c.in-Ok-Answered.ensures.votes;
    }

pub returns-in-Ok-Violated : goal.returns-in-Ok-Violated
returns-in-Ok-Violated g c =
    let h = rw c.in-Ok-Violated.field-0-is at c.in-Ok-Violated.ensures.answer in
    record {
      ends = ends_answered c.args.request.now _ _ _ _ _ _ (violated h.0) h.1 refl refl refl c.in-Ok-Violated.ensures.reads c.in-Ok-Violated.ensures.writes h.2;
      alone = c.in-Ok-Violated.ensures.votes;
    }

pub returns-in-Err : goal.returns-in-Err
returns-in-Err g c =
    record {
      ends = ends_refused c.args.request.now _ _ _ _ _ _ c.in-Err.refusal _ c.refuse.ensures.status c.refuse.ensures.error c.in-Err.ensures.answer c.in-Err.ensures.reads c.in-Err.ensures.writes;
      alone = c.in-Err.ensures.votes;
    }
