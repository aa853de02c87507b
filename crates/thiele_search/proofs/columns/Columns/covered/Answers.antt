use Rattle.std.proofs.Common.{◌≡◌, ℕ, ◌+◌, ◌*◌, ◌∙◌, List, sym, ap, arith, length}
use Rattle.std.specs.Int.RustNames.{count_ones}
use Rattle.thiele_search.specs.Steps.Columns.{block_voters, total, approves_some, voter_ballot}
use Rattle.thiele_search.proofs.ColumnLemmas.{block-at, ones-most, ones-some, total-add, total-zero}
use Rattle.thiele_search.proofs.columns.Columns.covered.Goals as goal

pub loop-block-init : goal.loop-block-init
loop-block-init g c = record {
  summed = λ ballots held up. sym (total-zero (λ v. approves_some c.args.set (voter_ballot ballots v)));
  most = omega arith;
}

pub loop-block-preserved : goal.loop-block-preserved
loop-block-preserved g c = record {
  summed = λ ballots held up.
      let f : ℕ → ℕ = λ v. approves_some c.args.set (voter_ballot ballots v) in
      let b = c.loop-block.block-index in
      let ballot_at : ℕ → List ℕ = λ i. voter_ballot ballots (b * block_voters + i) in
      let here : count_ones c.covered_by.result ≡ total (λ i. f (b * block_voters + i)) block_voters =
      ones-some c.covered_by.result c.args.set ballot_at c.covered_by.type_inv
      (c.covered_by.ensures ballot_at (rw c.deref-block-items.ensures.value (block-at ballots c.args.self.now.blocks.items b held up))) in
      let more : total f ((b + 1) * block_voters) ≡ total f (b * block_voters) + total (λ i. f (b * block_voters + i)) block_voters =
      ap (total f) (let e : (b + 1) * 64 ≡ b * 64 + 64 = omega arith in e) ∙ total-add f (b * block_voters) block_voters in
      omega (arith, here, more, c.loop-block.invariant.summed ballots held up);
  most = omega (arith, c.loop-block.invariant.most, ones-most c.covered_by.result c.covered_by.type_inv);
}

pub returns : goal.returns
returns g c ballots held up =
    c.loop-block.invariant.summed ballots held up
    ∙ ap (λ b. total (λ v. approves_some c.args.set (voter_ballot ballots v)) (b * block_voters)) (let e : c.loop-block.block-index ≡ length c.args.self.now.blocks.items = omega (arith, c.loop-block-test.false, c.loop-block.auto.block-index-end, ap length c.deref-block-items.ensures.value) in e)

pub overflow_add-covered : goal.overflow_add-covered
overflow_add-covered g c =
    omega (
      arith,
      c.loop-block.invariant.most,
      ones-most c.covered_by.result c.covered_by.type_inv,
      c.args.self.now.few,
      c.loop-block-test.true,
      ap length c.deref-block-items.ensures.value,
    )
