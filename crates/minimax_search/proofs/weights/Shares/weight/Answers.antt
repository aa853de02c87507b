use Rattle.std.proofs.Common.{ℕ, ◌*◌, ◌^◌, ◌≤◌, arith, get_or}
use Rattle.std.proofs.Math.Nat.{mul-le-mul}
use Rattle.minimax_search.proofs.weights.Shares.weight.Goals as goal

-- no weight is too large
weight-most : (n s : ℕ) → n ≤ 255 → s ≤ 1024 → n * (n * s) * (n * s) * (n * s) ≤ 2 ^ 62
weight-most n s few small =
    let share : n * s ≤ 255 * 1024 = mul-le-mul few small in
    let one : n * (n * s) ≤ 255 * (255 * 1024) = mul-le-mul few share in
    let two : n * (n * s) * (n * s) ≤ 255 * (255 * 1024) * (255 * 1024) = mul-le-mul one share in
    let three : n * (n * s) * (n * s) * (n * s) ≤ 255 * (255 * 1024) * (255 * 1024) * (255 * 1024) = mul-le-mul two share in
    omega (arith, three)

-- the factors are no larger
factors-most : (n s : ℕ) → n ≤ 255 → s ≤ 1024 → n * (n * s) * (n * s) ≤ 2 ^ 62
factors-most n s few small =
    let share : n * s ≤ 255 * 1024 = mul-le-mul few small in
    let one : n * (n * s) ≤ 255 * (255 * 1024) = mul-le-mul few share in
    let two : n * (n * s) * (n * s) ≤ 255 * (255 * 1024) * (255 * 1024) = mul-le-mul one share in
    omega (arith, two)

pub overflow_mul-result-2 : goal.overflow_mul-result-2
overflow_mul-result-2 c =
    let most = factors-most c.from-needed.result (get_or c.args.self.now.of_one c.from.result 0) (omega (arith, c.from-needed.ensures)) (c.args.self.now.small c.from.result) in
    omega (arith, most)

pub overflow_mul-result-3 : goal.overflow_mul-result-3
overflow_mul-result-3 c =
    let most = weight-most c.from-needed.result (get_or c.args.self.now.of_one c.from.result 0) (omega (arith, c.from-needed.ensures)) (c.args.self.now.small c.from.result) in
    omega (arith, most)

pub returns : goal.returns
returns c =
    let most = weight-most c.from-needed.result (get_or c.args.self.now.of_one c.from.result 0) (omega (arith, c.from-needed.ensures)) (c.args.self.now.small c.from.result) in
    omega (arith, most)
