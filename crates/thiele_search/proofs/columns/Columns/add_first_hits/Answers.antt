use Rattle.std.proofs.Common.{◌≡◌, ℕ, ◌+◌, ◌*◌, ◌^◌, ◌≤◌, ◌==◌, ◌∙◌, cond, ap, arith, get_or, w64}
use Rattle.std.specs.Int.{bit_not}
use Rattle.ballot_base.specs.Limits.{most_candidates, most_members}
use Rattle.ballot_base.specs.CandSet.{has_member}
use Rattle.thiele_search.specs.Steps.Columns.{block_voters, total, shared, given}
use Rattle.thiele_search.proofs.ColumnLemmas.{given-first, one-added, one-most, ones-common, shares-few}
use Rattle.row_multipliers.proofs.SearchLemmas.{rest-increasing}
use Rattle.thiele_search.proofs.columns.Columns.add_first_hits.Goals as goal

pub loop-candidate-preserved : goal.loop-candidate-preserved
loop-candidate-preserved g c =
    let left = c.loop-candidate.candidate-iterator in
    let rest = c.next.new.self in
    let at = c.in-Some.candidate in
    let up = c.loop-candidate.invariant.rises in
    let weight : ℕ = get_or c.args.self.now.weights 0 0 in
    let uncovered : ℕ = bit_not w64 c.covered_by-uncovered.result in
    let column : ℕ = get_or c.args.block.now c.from.result 0 in
    let given : ℕ = weight * c.from-in-loop-candidate.result in
    let is : given ≡ weight * shared (get_or c.args.block.now at 0) uncovered =
    ap (λ n. weight * n) (c.from-in-loop-candidate.ensures ∙ ones-common column uncovered (c.fits-block c.from.result) ∙ ap (λ j. shared (get_or c.args.block.now j 0) uncovered) c.from.ensures) in
    let small : given ≤ 2 ^ 44 * 64 =
    omega (arith, ap (λ n. weight * n) c.from-in-loop-candidate.ensures, shares-few weight column uncovered (2 ^ 44) (omega (arith, c.args.self.now.sound.small 0)) (omega arith)) in
    let is_set : (n : ℕ) → get_or c.set.new.self n 0 ≡ cond (n == at) (get_or c.loop-candidate.gains at 0 + given) (get_or c.loop-candidate.gains n 0) =
    λ n. c.set.ensures n
    ∙ ap (λ x. cond (n == at) (c.of.result + x) (get_or c.loop-candidate.gains n 0)) c.from-in-loop-candidate-2.ensures
    ∙ ap (λ x. cond (n == at) (x + given) (get_or c.loop-candidate.gains n 0)) c.of.ensures.value in
    record {
      rises = (rest-increasing most_candidates left rest at c.in-Some.ensures.steps up).1;
      made = λ n. one-added c.loop-candidate.gains c.set.new.self left rest at given c.in-Some.ensures.steps up is_set n _
          (λ j. weight * shared (get_or c.args.block.now j 0) uncovered) is (c.loop-candidate.invariant.made n);
      most = λ n. one-most c.loop-candidate.gains c.set.new.self left rest at given c.in-Some.ensures.steps up is_set n (get_or c.args.gains.now n 0) (most_members * 2 ^ 50)
          (omega (arith, small)) (c.loop-candidate.invariant.most n);
    }

pub returns-clause-sum : goal.returns-clause-sum
returns-clause-sum g c ballot_at block n in_ =
    let weights = c.args.self.now.weights in
    let part : ℕ = (get_or c.args.self.now.weights 0 0) * shared (get_or c.args.block.now n 0) (bit_not w64 c.covered_by-uncovered.result) in
    let made : get_or c.loop-candidate.gains n 0 + cond (has_member c.loop-candidate.candidate-iterator n) part 0 ≡ get_or c.args.gains.now n 0 + cond (has_member c.args.free n) part 0 = c.loop-candidate.invariant.made n in
    let whole : part ≡ total (λ i. given weights c.args.set n (ballot_at i)) block_voters =
    given-first ballot_at c.args.block.now block weights c.args.set n c.covered_by-uncovered.result c.covered_by-uncovered.type_inv (c.covered_by-uncovered.ensures ballot_at block)
    (λ j high. c.args.self.now.sound.end j (omega (arith, high, c.requires.first))) in
    omega (arith, made, whole, ap (λ l. cond (has_member l n) part 0) c.in-None.ensures.steps.0, ap (λ b. cond b part 0) in_)
