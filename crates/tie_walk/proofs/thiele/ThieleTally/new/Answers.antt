use Rattle.std.proofs.lemmas.Grind.{common_steps}
use Rattle.std.proofs.Common.{◌^◌, ◌<◌, ◌∙◌, ap, sym, subst, arith, sum}
use Rattle.ballot_base.specs.Increments.{increments}
use Rattle.tie_walk.specs.Ceilings.{IsTight, ceiling}
use Rattle.tie_walk.specs.Steps.Tables.{prefix_sums}
use Rattle.tie_walk.specs.Values.{thiele_value}
use Rattle.tie_walk.proofs.TightLemmas.{approval-tight}
use Rattle.tie_walk.proofs.TableLemmas.{increments_sum-most, prefix_sums-made}
use Rattle.tie_walk.proofs.thiele.ThieleTally.new.Goals as goal

pub overflow_add-sums : goal.overflow_add-sums
overflow_add-sums g c =
    let most : sum c.of.result.w < 2 ^ 128 = omega (arith, ap sum c.of.ensures.weights, increments_sum-most c.args.rule c.args.k c.requires.size) in
    grind (arith, common_steps, most)

pub invariant_of-result : goal.invariant_of-result
invariant_of-result g c = record {
  election = c.m.ensures.valid;
  m_is = c.m.ensures.value;
  size = c.requires.size;
  weights_are = c.of.ensures.weights;
  sums_are =
      prefix_sums-made c.of.result.w c.loop-x.sums c.loop-x.invariant.long (λ x h. c.loop-x.invariant.made x (omega arith))
      ∙ ap prefix_sums c.of.ensures.weights;
}

pub returns-clause-tight : goal.returns-clause-tight
returns-clause-tight g c is =
    let e = c.args.profile.now in
    let k = c.args.k in
    subst (λ rule. IsTight (λ set. thiele_value (increments rule k) e.rows set) (λ n set left. ceiling (thiele_value (increments rule k) e.rows) e.m n set left) e.m k)
    (sym is) (approval-tight e k c.m.ensures.valid c.requires.size)
