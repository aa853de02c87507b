use Rattle.std.proofs.Common.{◌≡◌, ◌∙◌, ◌||◌, true, [], sym, ap, arith, inl, inr, get_or}
use Rattle.std.proofs.lemmas.Bool.{cases_lt, and_parts, or_left, or_right}
use Rattle.std.proofs.lemmas.List.{get_or_default}
use Rattle.ballot_base.specs.CandSet.{has_member}
use Rattle.ballot_base.proofs.Increasing.{has_member-either, has_member-filter}
use Rattle.sequential_winners.proofs.families.block_from.Goals as goal

pub loop-i-preserved : goal.loop-i-preserved
loop-i-preserved c j from before n =
    let least = c.index-leasts-i.result in
    let most = c.index-mosts-i.result in
    let common = λ (in-common : has_member c.common-in_all.result n ≡ true).
    and_parts (has_member least n) (has_member c.loop-i.in_all n) (sym (ap (λ l. has_member l n) c.common-in_all.ensures ∙ has_member-filter (has_member least) c.loop-i.in_all n) ∙ in-common) in
    let all : has_member c.union-in_some.result n ≡ (has_member c.loop-i.in_some n || has_member most n) = ap (λ l. has_member l n) c.union-in_some.ensures ∙ has_member-either c.loop-i.in_some most n in
    elim (cases_lt j c.loop-i.i) [
      | inl earlier ↦ (
        λ inside. (c.loop-i.invariant j from earlier n).0 (common inside).1,
        λ inside. all ∙ or_left (has_member c.loop-i.in_some n) (has_member most n) ((c.loop-i.invariant j from earlier n).1 inside),
      )
      | inr later ↦
          let here : j ≡ c.loop-i.i = omega (arith, before, later) in
          let least-is : get_or c.args.leasts.now j [] ≡ least = ap (λ k. get_or c.args.leasts.now k []) here ∙ get_or_default c.args.leasts.now c.loop-i.i [] least (omega (arith, c.loop-i-test.true, c.min-i-end.ensures)) ∙ sym c.index-leasts-i.is in
          let most-is : get_or c.args.mosts.now j [] ≡ most = ap (λ k. get_or c.args.mosts.now k []) here ∙ get_or_default c.args.mosts.now c.loop-i.i [] most (omega (arith, c.loop-i-test.true, c.min-i-end.ensures, c.requires)) ∙ sym c.index-mosts-i.is in (
            λ inside. ap (λ l. has_member l n) least-is ∙ (common inside).0,
            λ inside. all ∙ or_right (has_member c.loop-i.in_some n) (has_member most n) (sym (ap (λ l. has_member l n) most-is) ∙ inside),
          )
    ]

pub returns : goal.returns
returns c i from before inside n = c.loop-i.invariant i from (omega (arith, before, inside, c.loop-i-test.false, c.min-i-end.ensures, c.saturating_add.ensures)) n
