use Rattle.std.proofs.lemmas.Grind.{common_steps}
use Rattle.std.proofs.Common.{ℕ, ◌*◌, ap, arith, get_or}
use Rattle.tie_walk.proofs.Thresholds.{after-fits, sum-fits, sum-is, sum-most}
use Rattle.tie_walk.proofs.tally.greatest_sum.Goals as goal

pub overflow_add-result : goal.overflow_add-result
overflow_add-result c =
    let w : ℕ → ℕ = λ n. get_or c.args.worths.now n 0 in
    omega (
      arith,
      ap (λ n. n * c.nth_greatest-threshold.result) c.from.ensures,
      sum-is w c.nth_greatest-threshold.result c.args.c c.args.m c.args.left c.after-candidates.result c.after-candidates.ensures (c.nth_greatest-threshold.ensures.threshold (after-fits c.args.c c.args.m c.args.left c.after-candidates.result c.after-candidates.ensures c.requires.fits)),
      sum-fits w c.args.c c.args.m c.args.left c.requires.small (omega (arith, c.requires.fits, c.requires.most)),
    )

pub returns-clause-value : goal.returns-clause-value
returns-clause-value c =
    let w : ℕ → ℕ = λ n. get_or c.args.worths.now n 0 in
    omega (
      arith,
      ap (λ n. n * c.nth_greatest-threshold.result) c.from.ensures,
      sum-is w c.nth_greatest-threshold.result c.args.c c.args.m c.args.left c.after-candidates.result c.after-candidates.ensures (c.nth_greatest-threshold.ensures.threshold (after-fits c.args.c c.args.m c.args.left c.after-candidates.result c.after-candidates.ensures c.requires.fits)),
    )

pub returns-clause-most : goal.returns-clause-most
returns-clause-most c most each = grind (arith, common_steps, returns-clause-value, sum-most)
