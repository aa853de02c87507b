use Rattle.std.proofs.Common.{◌≡◌, ℕ, ◌∙◌, ◌*◌, ◌≤◌, ◌<◌, length, ap, subst, arith, inl, inr}
use Rattle.std.proofs.lemmas.Bool.{cases_eq}
use Rattle.ballot_base.specs.CandSet.{has_member}
use Rattle.ballot_base.specs.Limits.{most_candidates}
use Rattle.ballot_base.proofs.Increasing.{has_member_tail}
use Rattle.ballot_base.proofs.MemberLemmas.{first-in}
use Rattle.ballot_base.proofs.Passed.{rest-up}
use Rattle.tie_walk.proofs.LevelLemmas.{in_bounds}
use Rattle.sequential_winners.specs.Steps.Near.{near_of}
use Rattle.sequential_winners.proofs.near.Nearness.are_many.Goals as goal
use Rattle.sequential_winners.proofs.near.Nearness.are_many.Goals.{In-Some}

bounds : (c : In-Some) → (1 ≤ c.in-Some.c) × (c.in-Some.c ≤ most_candidates)
bounds c = in_bounds most_candidates c.loop-c.c-iterator c.in-Some.c c.loop-c.invariant.rises (first-in c.loop-c.c-iterator c.next.new.self c.in-Some.c c.in-Some.ensures.steps c.loop-c.invariant.rises)

pub of-requires-clause-low : goal.of-requires-clause-low
of-requires-clause-low c = (bounds (goal.at.of-requires-clause-low c).In-Some).0

pub of-requires-clause-high : goal.of-requires-clause-high
of-requires-clause-high c = (bounds (goal.at.of-requires-clause-high c).In-Some).1

pub loop-c-preserved : goal.loop-c-preserved
loop-c-preserved c =
    let inv = c.loop-c.invariant in
    let first = c.in-Some.c in
    let rest = c.next.new.self in
    let near = λ (n : ℕ). near_of c.args.self.now n in
    let many : c.from-others.result * c.from-near.result ≡ c.args.others * length (near first) =
    ap (λ o. o * c.from-near.result) c.from-others.ensures ∙ ap (λ n. c.args.others * n) (c.from-near.ensures ∙ c.len.ensures.count ∙ ap length c.of.ensures) in
    let here : c.args.others * length (near first) < length c.args.candidates = omega (arith, c.if-others-near.false, many, c.from.ensures, c.len-in-loop-c.ensures.count) in record {
      rises = (rest-up most_candidates first c.loop-c.c-iterator rest c.in-Some.ensures.steps inv.rises).1;
      few = λ n tie out. elim (cases_eq first n) [
        | inl same ↦ subst (λ x. c.args.others * length (near x) < length c.args.candidates) same here
        | inr other ↦ inv.few n tie (ap (λ l. has_member l n) c.in-Some.ensures.steps ∙ has_member_tail first n rest other ∙ out)
      ];
    }
