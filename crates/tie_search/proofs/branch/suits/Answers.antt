use Rattle.std.proofs.lemmas.Grind.{common_steps}
use Rattle.std.proofs.Common.{◌≡◌, ◌≤◌, ◌==◌, ◌∙◌, true, sym, ap, arith, subst, length}
use Rattle.std.proofs.lemmas.Bool.{or_right}
use Rattle.ballot_base.specs.Ballots.{hits}
use Rattle.ballot_base.specs.CandSet.{either_members, has_member}
use Rattle.ballot_base.specs.Limits.{most_candidates}
use Rattle.ballot_base.specs.Lists.{IsIncreasing}
use Rattle.ballot_base.proofs.Increasing.{IsIncreasing-either, has_member-either, has_member_head}
use Rattle.ballot_base.proofs.Sums.{rest-increasing}
use Rattle.tie_walk.proofs.RowSums.{length-common}
use Rattle.tie_search.proofs.AlikeLemmas.{becomes-hits, completes-least, completes-most}
use Rattle.tie_search.proofs.BranchLemmas.{branch-node}
use Rattle.tie_search.proofs.CloneLemmas.{minus-is}
use Rattle.row_multipliers.proofs.CompletionLemmas.{member-high, member-low}
use Rattle.tie_search.proofs.branch.suits.Goals as goal
use Rattle.tie_search.proofs.branch.suits.Goals.{then-seats-taken-via-then-seats-taken, then-seats-taken-via-else-seats-taken+then-seats-taken-2}

-- Of each class the committee has as many members as one that completes the branch. Those of the set are among them, and
-- the others are free.
pub returns-then-seats-taken : goal.returns-then-seats-taken
returns-then-seats-taken c says m k classes other is agree rise are up becomes whole =
    let branch = c.args.branch.now in
    let committee = c.args.committee in
    let member = c.in-Some.member in
    let class_ = c.class-class.result in
    let either = either_members committee branch.set in
    let either-up : IsIncreasing 1 m either = IsIncreasing-either 1 m committee branch.set up (branch-node m k branch is).set_within in
    let here : has_member either member ≡ true =
    c.loop-member.invariant.among member (ap (λ l. has_member l member) c.in-Some.ensures.steps ∙ has_member_head member c.next.new.self) in
    let low : 1 ≤ member = member-low 1 m either member either-up here in
    let high : member ≤ m = member-high 1 m either member either-up here in
    let same : hits class_ other ≡ hits class_ committee =
    subst (λ l. hits l other ≡ hits l committee) (sym (c.class-class.ensures ∙ agree member low high))
    (becomes-hits m classes committee other member are low high (rise member low high) becomes) in
    let seats : c.len-seats.result ≡ hits class_ committee = c.len-seats.ensures.count ∙ ap length c.common.ensures ∙ length-common class_ committee in
    let taken : c.len-taken.result ≡ hits class_ branch.set = c.len-taken.ensures.count ∙ ap length c.common-in-loop-member.ensures ∙ length-common class_ branch.set in
    let least = completes-least m k branch is other whole class_ in
    elim c.then-seats-taken.branch [
      | then-seats-taken-via-then-seats-taken w ↦ omega (arith, same, seats, taken, least, w.if-seats-taken.true)
      | then-seats-taken-via-else-seats-taken+then-seats-taken-2 w ↦
          omega (
            arith,
            same,
            seats,
            taken,
            w.len.ensures.count,
            ap length w.common-else-seats-taken.ensures,
            length-common class_ branch.free,
            completes-most m k branch is other whole class_,
            w.if-seats-taken-2.true,
          )
    ]

pub loop-member-init : goal.loop-member-init
loop-member-init c =
    let all = c.into_iter-member-iterator.ensures.into_iter_gives ∙ c.members-member-items.ensures.items in
    let committee = c.args.committee in
    let set = c.args.branch.now.set in
    rw all record {
      rises = c.members-member-items.ensures.valid;
      among = λ n here. grind (
        arith,
        common_steps,
        has_member-either committee set n,
        has_member-either c.minus-outside.result c.minus-missing.result n,
        here,
        c.union-2.ensures,
        c.minus-outside.ensures,
        c.minus-missing.ensures,
        minus-is committee c.union.result n,
        minus-is set committee n,
      );
    }

pub loop-member-preserved : goal.loop-member-preserved
loop-member-preserved c = record {
  rises = (rest-increasing most_candidates c.loop-member.member-iterator c.next.new.self c.in-Some.member c.in-Some.ensures.steps c.loop-member.invariant.rises).1;
  among = λ n here. c.loop-member.invariant.among n
      (ap (λ l. has_member l n) c.in-Some.ensures.steps ∙ or_right (c.in-Some.member == n) (has_member c.next.new.self n) here);
}
