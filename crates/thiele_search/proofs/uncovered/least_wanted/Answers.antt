use Rattle.std.proofs.Common.{ℕ, ◌≤◌, arith, get_or}
use Rattle.std.specs.Prelude.{nat_le}
use Rattle.std.proofs.lemmas.Bool.{le-leb}
use Rattle.ballot_base.proofs.Increasing.{IsIncreasing-filter}
use Rattle.ballot_base.proofs.Passed.{filter-member, filter-stays}
use Rattle.thiele_search.proofs.UncoveredLemmas.{chosen-most, chosen-spare}
use Rattle.thiele_search.proofs.uncovered.least_wanted.Goals as goal

pub returns-then-last-branch-2 : goal.returns-then-last-branch-2
returns-then-last-branch-2 c chosen are =
    let branch = c.args.branch.now in
    omega (
      arith,
      c.if-last-branch-2.true,
      c.loop.invariant.bound,
      chosen-most c.args.gains.now c.loop.last.threshold branch.free branch.left chosen are,
    )

pub returns : goal.returns
returns c =
    let branch = c.args.branch.now in
    let gains = c.args.gains.now in
    let least = c.saturating_sub-least.result in
    let passes = λ (n : ℕ). nat_le least (get_or gains n 0) in
    record {
      rises = λ m up. IsIncreasing-filter passes 1 m branch.free up;
      among = λ n is. filter-member passes branch.free n is;
      all = λ chosen are high n is.
          let low : least ≤ get_or gains n 0 = omega (
            arith,
            high,
            c.if-last-branch-2.false,
            c.saturating_sub-least.ensures,
            c.from.ensures,
            c.loop.invariant.bound,
            chosen-spare gains c.loop.last.threshold branch.free branch.left chosen are n is,
          ) in
          filter-stays passes branch.free n (are.among n is) (le-leb least (get_or gains n 0) low);
    }
