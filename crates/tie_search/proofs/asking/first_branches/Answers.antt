use Rattle.std.proofs.Common.{◌≡◌, ℕ, ◌+◌, ◌<◌, ◌≤◌, ◌-◌, ◌++◌, ◌∷◌, [], List, Option, Some, ap, arith, refl, subst, sym, ◌∙◌, length, length-append, append_assoc}
use Rattle.std.specs.Prelude.{MatchOption, ⊤}
use Rattle.std.specs.List.{range_with_len}
use Rattle.ballot_base.specs.Lists.{IsIncreasing}
use Rattle.ballot_base.proofs.Committees.{length-increasing}
use Rattle.ballot_base.proofs.Increasing.{with_member-above}
use Rattle.tie_search.specs.Steps.Branches.{branches_after, first_branches}
use Rattle.row_multipliers.specs.declared.node.Node.{Node}
use Rattle.tie_search.proofs.StartLemmas.{after-next, after-none, front-under}
use Rattle.tie_search.proofs.asking.first_branches.Goals as goal
use Rattle.tie_search.proofs.asking.first_branches.Goals.{In-Some-member}

-- the members of the start: those of the set, the next one, and the rest
rises : (c : In-Some-member) → IsIncreasing 1 c.args.m (c.loop-member.set ++ c.in-Some-member.member ∷ c.next.new.self)
rises c = rw c.in-Some-member.ensures.steps at (subst {A = Option (List ℕ)} (λ start. MatchOption start ⊤ (IsIncreasing 1 c.args.m)) (sym c.loop-member.invariant.start) c.requires.start)

under : (c : In-Some-member) → IsIncreasing 1 (c.in-Some-member.member - 1) c.loop-member.set × (1 ≤ c.in-Some-member.member) × (c.in-Some-member.member ≤ c.args.m)
under c = front-under 1 c.args.m c.loop-member.set c.next.new.self c.in-Some-member.member (rises c)

pub loop-member-init : goal.loop-member-init
loop-member-init c =
    rw (c.new-branches.ensures, c.empty-set.ensures, c.into_iter-member-iterator.ensures.into_iter_gives ∙ c.members-member-items.ensures.items, c.in-Some.is)
    record { made = refl; start = refl; size = refl }

pub after-requires-clause-within : goal.after-requires-clause-within
after-requires-clause-within c = (under (goal.at.after-requires-clause-within c).In-Some-member).2

pub push-requires-in-loop-member : goal.push-requires-in-loop-member
push-requires-in-loop-member c =
    let rises = rises (goal.at.push-requires-in-loop-member c).In-Some-member in
    let room : length c.loop-member.branches.items < 65 =
    omega (
      arith,
      c.loop-member.invariant.size,
      length-append c.loop-member.set (c.in-Some-member.member ∷ c.next.new.self),
      length-increasing 1 c.args.m (c.loop-member.set ++ c.in-Some-member.member ∷ c.next.new.self) rises,
      c.requires.most,
    ) in
    (omega arith, room)

pub with-set-requires-clause-low : goal.with-set-requires-clause-low
with-set-requires-clause-low c = (under (goal.at.with-set-requires-clause-low c).In-Some-member).1

pub with-set-requires-clause-high : goal.with-set-requires-clause-high
with-set-requires-clause-high c = omega (arith, (under (goal.at.with-set-requires-clause-high c).In-Some-member).2, c.requires.most)

pub loop-member-preserved : goal.loop-member-preserved
loop-member-preserved c =
    let set = c.loop-member.set in
    let items = c.loop-member.branches.items in
    let n = c.in-Some-member.member in
    let rest = c.next.new.self in
    let m = c.args.m in
    let steps = c.in-Some-member.ensures.steps in
    let parts = under (goal.at.loop-member-preserved c).In-Some-member in
    let branch : Node = record { set = set; free = range_with_len (n + 1) (m - n); left = c.args.k - length set } in
    let grown : c.with-set.result ≡ set ++ n ∷ [] = c.with-set.ensures ∙ with_member-above 1 (n - 1) set n parts.0 (omega (arith, parts.1)) in
    rw (c.push-in-loop-member.ensures.items, c.after.ensures, c.saturating_sub.ensures, c.len.ensures.count, grown) record {
      made = after-next m c.args.k set rest n items (first_branches m c.args.k c.args.after.now) (ap (λ l. items ++ branches_after m c.args.k set l) (sym steps) ∙ c.loop-member.invariant.made);
      start = ap Some (append_assoc set (n ∷ []) rest) ∙ (ap (λ l. Some (set ++ l)) (sym steps) ∙ c.loop-member.invariant.start);
      size = omega (arith, c.loop-member.invariant.size, length-append items (branch ∷ []), length-append set (n ∷ []));
    }

pub returns : goal.returns
returns c =
    after-none c.args.m c.args.k c.loop-member.set c.loop-member.branches.items (first_branches c.args.m c.args.k c.args.after.now)
    (ap (λ l. c.loop-member.branches.items ++ branches_after c.args.m c.args.k c.loop-member.set l) (sym c.in-None.ensures.steps.0) ∙ c.loop-member.invariant.made)
