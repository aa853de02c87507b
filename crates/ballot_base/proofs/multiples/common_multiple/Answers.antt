use Rattle.std.proofs.Common.{◌*◌, ◌%◌, ◌∙◌, ap, refl, arith}
use Rattle.ballot_base.specs.CommonMultiple.{common_multiple}
use Rattle.ballot_base.proofs.LeastMultiples.{common_multiple_next, common_multiple_small, divisor_some}
use Rattle.ballot_base.proofs.multiples.common_multiple.Goals as goal

pub loop-i-init : goal.loop-i-init
unfolding common_multiple
loop-i-init c = (omega arith, refl)

pub nonzero_div-i : goal.nonzero_div-i
nonzero_div-i c = divisor_some _ _ _ c.loop-i.auto.i c.greatest_divisor.ensures

pub overflow_mul-multiple : goal.overflow_mul-multiple
overflow_mul-multiple c =
    let factor = ap (λ n. c.loop-i.multiple * n) c.from-multiple.ensures in
    let next = common_multiple_next _ _ _ _ c.loop-i.auto.i c.loop-i.invariant.1 (ap (λ n. c.loop-i.multiple % n) c.from.ensures) c.greatest_divisor.ensures in
    omega (arith, factor, next, common_multiple_small c.loop-i.i (omega arith))

pub loop-i-preserved : goal.loop-i-preserved
loop-i-preserved c = (
  omega arith,
  ap (λ n. c.loop-i.multiple * n) c.from-multiple.ensures
      ∙ (common_multiple_next _ _ _ _ c.loop-i.auto.i c.loop-i.invariant.1 (ap (λ n. c.loop-i.multiple % n) c.from.ensures) c.greatest_divisor.ensures ∙ ap common_multiple (omega arith)),
)

pub returns : goal.returns
returns c = c.loop-i.invariant.1 ∙ ap common_multiple (omega arith)

pub returns-2 : goal.returns-2
returns-2 c =
    ap (λ n. c.loop-i.multiple * n) c.from-multiple.ensures
    ∙ (common_multiple_next _ _ _ _ c.loop-i.auto.i c.loop-i.invariant.1 (ap (λ n. c.loop-i.multiple % n) c.from.ensures) c.greatest_divisor.ensures ∙ ap common_multiple (omega arith))
