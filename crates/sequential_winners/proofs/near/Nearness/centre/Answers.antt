use Rattle.std.proofs.Common.{◌≡◌, ℕ, ◌∙◌, ◌≤◌, true, length, ap, subst, arith, sym}
use Rattle.std.specs.Prelude.{fold, slice_index_or}
use Rattle.ballot_base.specs.CandSet.{has_member, common_members}
use Rattle.ballot_base.specs.Limits.{most_candidates}
use Rattle.ballot_base.specs.Lists.{IsIncreasing}
use Rattle.ballot_base.proofs.Increasing.{has_member_head}
use Rattle.ballot_base.proofs.MemberLemmas.{first-in, later-in}
use Rattle.ballot_base.proofs.Passed.{rest-up}
use Rattle.tie_walk.proofs.LevelLemmas.{in_bounds}
use Rattle.sequential_winners.specs.Steps.Near.{near_of}
use Rattle.sequential_winners.proofs.TableNear.{lesser, least-step, lesser-new, lesser-old}
use Rattle.sequential_winners.proofs.near.Nearness.centre.Goals as goal
use Rattle.sequential_winners.proofs.near.Nearness.centre.Goals.{In-Some}

bounds : (c : In-Some) → (1 ≤ c.in-Some.c) × (c.in-Some.c ≤ most_candidates)
bounds c = in_bounds most_candidates c.loop-c.c-iterator c.in-Some.c c.loop-c.invariant.rises (first-in c.loop-c.c-iterator c.next.new.self c.in-Some.c c.in-Some.ensures.steps c.loop-c.invariant.rises)

pub loop-c-init : goal.loop-c-init
loop-c-init c =
    let is = c.in_ok-first.ensures in
    let here = ap (λ l. has_member l c.in_ok-first.first) is ∙ has_member_head c.in_ok-first.first c.in_ok-first._others in
    let items = c.into_iter-c-iterator.ensures.into_iter_gives ∙ c.members-c-items.ensures.items in
    let number = λ (n : ℕ). length (common_members (near_of c.args.self.now n) c.args.among) in record {
      rises = subst (IsIncreasing 1 most_candidates) (sym items) c.members-c-items.ensures.valid;
      among = λ n inside. subst (λ l. has_member l n ≡ true) items inside;
      here = here;
      bounds = in_bounds most_candidates c.args.candidates c.in_ok-first.first c.members-c-items.ensures.valid here;
      folded = ap (fold (lesser number) c.in_ok-first.first) items ∙ ap (λ b. fold (lesser number) b c.args.candidates) (sym (ap (λ l. slice_index_or l 0 0) is));
    }

pub of-requires-clause-low : goal.of-requires-clause-low
of-requires-clause-low c = (bounds (goal.at.of-requires-clause-low c).In-Some).0

pub of-requires-clause-high : goal.of-requires-clause-high
of-requires-clause-high c = (bounds (goal.at.of-requires-clause-high c).In-Some).1

pub of-requires-in-loop-c-clause-low : goal.of-requires-in-loop-c-clause-low
of-requires-in-loop-c-clause-low c = c.loop-c.invariant.bounds.0

pub of-requires-in-loop-c-clause-high : goal.of-requires-in-loop-c-clause-high
of-requires-in-loop-c-clause-high c = c.loop-c.invariant.bounds.1

pub loop-c-preserved-then-few-fewest : goal.loop-c-preserved-then-few-fewest
loop-c-preserved-then-few-fewest c =
    let inv = c.loop-c.invariant in
    let first = c.in-Some.c in
    let rest = c.next.new.self in
    let number = λ (n : ℕ). length (common_members (near_of c.args.self.now n) c.args.among) in
    let few : c.len-few.result ≡ number first = c.len-few.ensures.count ∙ ap length (c.common.ensures ∙ ap (λ l. common_members l c.args.among) c.of.ensures) in
    let fewest : c.len-fewest.result ≡ number c.loop-c.centre = c.len-fewest.ensures.count ∙ ap length (c.common-in-loop-c.ensures ∙ ap (λ l. common_members l c.args.among) c.of-in-loop-c.ensures) in record {
      rises = (rest-up most_candidates first c.loop-c.c-iterator rest c.in-Some.ensures.steps inv.rises).1;
      among = λ n inside. inv.among n (later-in c.loop-c.c-iterator rest first c.in-Some.ensures.steps inv.rises n inside);
      here = inv.among first (first-in c.loop-c.c-iterator rest first c.in-Some.ensures.steps inv.rises);
      bounds = bounds (goal.at.loop-c-preserved-then-few-fewest c).In-Some;
      folded = least-step number c.loop-c.centre first first c.loop-c.c-iterator rest _ c.in-Some.ensures.steps (lesser-new number c.loop-c.centre first (omega (arith, few, fewest, c.if-few-fewest.true))) inv.folded;
    }

pub loop-c-preserved : goal.loop-c-preserved
loop-c-preserved c =
    let inv = c.loop-c.invariant in
    let first = c.in-Some.c in
    let rest = c.next.new.self in
    let number = λ (n : ℕ). length (common_members (near_of c.args.self.now n) c.args.among) in
    let few : c.len-few.result ≡ number first = c.len-few.ensures.count ∙ ap length (c.common.ensures ∙ ap (λ l. common_members l c.args.among) c.of.ensures) in
    let fewest : c.len-fewest.result ≡ number c.loop-c.centre = c.len-fewest.ensures.count ∙ ap length (c.common-in-loop-c.ensures ∙ ap (λ l. common_members l c.args.among) c.of-in-loop-c.ensures) in record {
      rises = (rest-up most_candidates first c.loop-c.c-iterator rest c.in-Some.ensures.steps inv.rises).1;
      among = λ n inside. inv.among n (later-in c.loop-c.c-iterator rest first c.in-Some.ensures.steps inv.rises n inside);
      here = inv.here;
      bounds = inv.bounds;
      folded = least-step number c.loop-c.centre c.loop-c.centre first c.loop-c.c-iterator rest _ c.in-Some.ensures.steps (lesser-old number c.loop-c.centre first (omega (arith, few, fewest, c.if-few-fewest.false))) inv.folded;
    }

pub returns : goal.returns
returns c =
    let number = λ (n : ℕ). length (common_members (near_of c.args.self.now n) c.args.among) in
    (c.loop-c.invariant.here, ap (fold (lesser number) c.loop-c.centre) (sym c.in-None.ensures.steps.0) ∙ c.loop-c.invariant.folded)
