use Rattle.std.proofs.Common.{◌+◌, ◌≤◌, ◌∙◌, get_or, take, sym, ap, subst, arith}
use Rattle.std.proofs.lemmas.List.{take_more}
use Rattle.ballot_base.specs.Lists.{IsIncreasing}
use Rattle.ballot_base.specs.CandSet.{with_member}
use Rattle.ballot_base.proofs.Increasing.{with_member-above, IsIncreasing-push, next_increasing, increasing_from_next}
use Rattle.vote_cli.proofs.starts.committee_of.Goals as goal

pub loop-n-preserved : goal.loop-n-preserved
loop-n-preserved c =
    let xs = c.args.list.now in
    let i = c.loop-n.n-index in
    let n = get_or xs i 0 in
    let last = c.loop-n.last in
    let more = take_more xs i 0 c.loop-n-test.true in
    let high : n ≤ c.args.m = omega (arith, c.if-n-from.false, c.from.ensures) in
    record {
      taken = c.with-committee.ensures ∙ (ap (λ s. with_member s n) c.loop-n.invariant.taken
          ∙ (with_member-above 1 last (take i xs) n c.loop-n.invariant.before c.if-n-last.false ∙ sym more));
      before = subst (λ s. IsIncreasing 1 n s) (sym more) (IsIncreasing-push 1 last (take i xs) n c.loop-n.invariant.before (omega arith) c.if-n-last.false);
      rest = λ w. (next_increasing (last + 1) c.args.m xs i c.loop-n-test.true (c.loop-n.invariant.rest w)).2;
      whole = λ w. c.loop-n.invariant.whole (increasing_from_next (last + 1) c.args.m xs i c.loop-n-test.true (omega arith) high w);
    }
