use Rattle.std.proofs.Common.{◌≡◌, ◌-◌, ◌∙◌, sym, ap, arith, get_or}
use Rattle.thiele_search.specs.Steps.Columns.{total}
use Rattle.thiele_search.proofs.ColumnLemmas.{total-last, total-zero}
use Rattle.thiele_search.proofs.uncovered.excess_over.Goals as goal

pub loop-n-init : goal.loop-n-init
loop-n-init c = record { summed = sym (total-zero (λ n. get_or c.args.gains.now n 0 - c.args.threshold)); most = omega arith }

pub overflow_add-more : goal.overflow_add-more
overflow_add-more c = omega (arith, c.loop-n.invariant.most, c.loop-n-test.true, c.saturating_sub-more.ensures, c.requires.few c.loop-n.n)

pub loop-n-preserved : goal.loop-n-preserved
loop-n-preserved c = record {
  summed = omega (arith, c.loop-n.invariant.summed, c.saturating_sub-more.ensures, total-last (λ n. get_or c.args.gains.now n 0 - c.args.threshold) c.loop-n.n);
  most = omega (arith, c.loop-n.invariant.most, c.saturating_sub-more.ensures, c.requires.few c.loop-n.n);
}

pub returns-clause-small : goal.returns-clause-small
returns-clause-small c = omega (arith, c.loop-n.invariant.most, c.loop-n.auto.n-end)

pub returns-clause-more : goal.returns-clause-more
returns-clause-more c =
    c.loop-n.invariant.summed
    ∙ ap (total (λ n. get_or c.args.gains.now n 0 - c.args.threshold)) (let e : c.loop-n.n ≡ 65 = omega (arith, c.loop-n-test.false, c.loop-n.auto.n-end) in e)
