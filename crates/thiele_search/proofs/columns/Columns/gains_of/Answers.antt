use Rattle.std.proofs.Common.{◌≡◌, ℕ, ◌+◌, ◌*◌, ◌∙◌, sym, ap, arith, length}
use Rattle.thiele_search.specs.Steps.Columns.{block_voters, total, given, voter_ballot}
use Rattle.thiele_search.proofs.ColumnLemmas.{block-at, total-add, total-zero}
use Rattle.thiele_search.proofs.columns.Columns.gains_of.Goals as goal

pub loop-block-init : goal.loop-block-init
loop-block-init g c = record {
  summed = λ ballots held up n low. c.none-gains.ensures n ∙ sym (total-zero (λ v. given c.args.self.now.weights c.args.set n (voter_ballot ballots v)));
  most = λ n. omega (arith, c.none-gains.ensures n);
}

pub add_block-requires : goal.add_block-requires
add_block-requires g c n = omega (arith, c.loop-block.invariant.most n, c.args.self.now.few, c.loop-block-test.true, ap length c.deref-block-items.ensures.value)

pub loop-block-preserved : goal.loop-block-preserved
loop-block-preserved g c = record {
  summed = λ ballots held up n in_.
      let f : ℕ → ℕ = λ v. given c.args.self.now.weights c.args.set n (voter_ballot ballots v) in
      let b = c.loop-block.block-index in
      let more : total f ((b + 1) * block_voters) ≡ total f (b * block_voters) + total (λ i. f (b * block_voters + i)) block_voters =
      ap (total f) (let e : (b + 1) * 64 ≡ b * 64 + 64 = omega arith in e) ∙ total-add f (b * block_voters) block_voters in
      c.add_block.ensures.sum (λ i. voter_ballot ballots (b * block_voters + i)) (rw c.deref-block-items.ensures.value (block-at ballots c.args.self.now.blocks.items b held up)) n in_
      ∙ ap (λ x. x + total (λ i. f (b * block_voters + i)) block_voters) (c.loop-block.invariant.summed ballots held up n in_)
      ∙ sym more;
  most = λ n. omega (arith, c.add_block.ensures.most n, c.loop-block.invariant.most n, c.args.self.now.sound.few);
}

pub returns : goal.returns
returns g c ballots held up n low =
    c.loop-block.invariant.summed ballots held up n low
    ∙ ap (λ b. total (λ v. given c.args.self.now.weights c.args.set n (voter_ballot ballots v)) (b * block_voters)) (let e : c.loop-block.block-index ≡ length c.args.self.now.blocks.items = omega (arith, c.loop-block-test.false, c.loop-block.auto.block-index-end, ap length c.deref-block-items.ensures.value) in e)
