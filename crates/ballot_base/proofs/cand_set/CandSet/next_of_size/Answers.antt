use Rattle.std.proofs.lemmas.Grind.{common_steps}
use Rattle.std.proofs.Common.{◌<◌, ◌+◌, ◌-◌, ◌^◌, sym, subst, arith}
use Rattle.std.proofs.lemmas.Nat.{pow_below, and_le_l}
use Rattle.ballot_base.specs.Limits.{most_candidates}
use Rattle.ballot_base.specs.Steps.Bits.{members}
use Rattle.ballot_base.specs.Steps.Subsets.{IsNextSet}
use Rattle.ballot_base.proofs.NextSet.{free_of, growing_of, last_if_all, last_if_none_below, grown_is, bound_of_grown, IsNextSet-grown, bound_of_up_to}
use Rattle.ballot_base.proofs.cand_set.CandSet.next_of_size.Goals as goal

pub returns-then-absent-eq0 : goal.returns-then-absent-eq0
returns-then-absent-eq0 c =
    let inc = rw (← c.self.view_is) at c.requires.candidates in
    rw (← c.self.view_is) (last_if_all c.self.inside.bits c.args.m c.numbers_to.result c.self.invariant c.requires.most c.numbers_to.ensures inc c.if-absent-eq0.true)

pub greatest-free-requires-clause-most : goal.greatest-free-requires-clause-most
greatest-free-requires-clause-most c = grind (arith, common_steps, bound_of_up_to, and_le_l)

pub returns-then-below-eq0 : goal.returns-then-below-eq0
returns-then-below-eq0 c =
    let bits = c.self.inside.bits in
    let inc = rw (← c.self.view_is) at c.requires.candidates in
    let f = c.greatest-free.ensures in
    let free = free_of bits c.args.m c.numbers_to.result c.greatest-free.result c.self.invariant c.requires.most c.numbers_to.ensures f.low f.high f.member f.above in
    rw (← c.self.view_is) (last_if_none_below bits c.args.m c.numbers_to-2.result c.greatest-free.result c.requires.most c.numbers_to-2.ensures f.low inc free c.if-below-eq0.true)

pub overflow_sub-m : goal.overflow_sub-m
overflow_sub-m c =
    let f = c.greatest-free.ensures in
    (free_of c.self.inside.bits c.args.m c.numbers_to.result c.greatest-free.result c.self.invariant c.requires.most c.numbers_to.ensures f.low f.high f.member f.above).most

pub numbers_to-requires-3 : goal.numbers_to-requires-3
numbers_to-requires-3 c =
    let bits = c.self.inside.bits in
    let f = c.greatest-free.ensures in
    let l = c.greatest-last.ensures in
    grind (arith, common_steps, free_of bits c.args.m c.numbers_to.result c.greatest-free.result c.self.invariant c.requires.most c.numbers_to.ensures f.low f.high f.member f.above, growing_of bits c.numbers_to-2.result c.greatest-free.result c.greatest-last.result c.numbers_to-2.ensures f.low l.low l.member l.above)

pub overflow_sub-run : goal.overflow_sub-run
overflow_sub-run c =
    omega (arith, c.numbers_to-3.ensures, c.numbers_to-4.ensures, pow_below c.greatest-last.result (c.greatest-last.result + 1 + (c.args.m - c.greatest-free.result)) (omega arith))

pub invariant_of-result : goal.invariant_of-result
invariant_of-result c =
    let bits = c.self.inside.bits in
    let m = c.args.m in
    let f = c.greatest-free.ensures in
    let l = c.greatest-last.ensures in
    let free = free_of bits m c.numbers_to.result c.greatest-free.result c.self.invariant c.requires.most c.numbers_to.ensures f.low f.high f.member f.above in
    let growing = growing_of bits c.numbers_to-2.result c.greatest-free.result c.greatest-last.result c.numbers_to-2.ensures f.low l.low l.member l.above in
    let is = grown_is bits m c.greatest-free.result c.greatest-last.result c.numbers_to-2.result c.numbers_to-5.result c.numbers_to-3.result c.numbers_to-4.result
    c.numbers_to-2.ensures c.numbers_to-5.ensures c.numbers_to-3.ensures c.numbers_to-4.ensures in
    subst (λ n. n < 2 ^ most_candidates) (sym is) (bound_of_grown bits m c.greatest-free.result c.greatest-last.result c.self.invariant c.requires.most free.most growing.less)

pub returns : goal.returns
returns c =
    let bits = c.self.inside.bits in
    let m = c.args.m in
    let inc = rw (← c.self.view_is) at c.requires.candidates in
    let f = c.greatest-free.ensures in
    let l = c.greatest-last.ensures in
    let free = free_of bits m c.numbers_to.result c.greatest-free.result c.self.invariant c.requires.most c.numbers_to.ensures f.low f.high f.member f.above in
    let growing = growing_of bits c.numbers_to-2.result c.greatest-free.result c.greatest-last.result c.numbers_to-2.ensures f.low l.low l.member l.above in
    let is = grown_is bits m c.greatest-free.result c.greatest-last.result c.numbers_to-2.result c.numbers_to-5.result c.numbers_to-3.result c.numbers_to-4.result
    c.numbers_to-2.ensures c.numbers_to-5.ensures c.numbers_to-3.ensures c.numbers_to-4.ensures in
    rw (← c.self.view_is) (subst (λ n. IsNextSet m (members bits) (members n)) (sym is) (IsNextSet-grown bits m c.greatest-free.result c.greatest-last.result c.requires.most inc free growing))
