use Rattle.std.proofs.Common.{◌≡◌, ℕ, ◌+◌, ◌*◌, ◌∙◌, [], sym, ap, arith, bit_and, get_or}
use Rattle.std.specs.Int.RustNames.{count_ones}
use Rattle.thiele_search.specs.Steps.Columns.{block_voters, total, voter_ballot}
use Rattle.thiele_search.specs.Steps.Uncovered.{joins, uncovered_voters}
use Rattle.thiele_search.proofs.ColumnLemmas.{ones-and, total-add, total-zero}
use Rattle.thiele_search.proofs.UncoveredLemmas.{block-joins}
use Rattle.thiele_search.proofs.uncovered.Uncovered.gain.Goals as goal

pub loop-b-init : goal.loop-b-init
loop-b-init g c = record {
  counted = λ set without. sym (total-zero (λ v. joins set c.args.candidate (voter_ballot (uncovered_voters c.args.self.now.profile.now.rows c.args.self.now.set c.args.self.now.free) v)));
  most = omega arith;
}

pub overflow_add-gain : goal.overflow_add-gain
overflow_add-gain g c =
    omega (
      arith,
      c.loop-b.invariant.most,
      c.loop-b-test.true,
      ones-and (get_or (get_or c.args.self.now.blocks c.loop-b.b []) c.from.result 0) (get_or c.args.voters.now c.loop-b.b 0) (c.fits-voters c.loop-b.b),
    )

pub loop-b-preserved : goal.loop-b-preserved
loop-b-preserved g c =
    let table = c.args.self.now in
    let b = c.loop-b.b in
    let word = get_or c.args.voters.now b 0 in
    record {
      counted = λ set without.
          let f : ℕ → ℕ = λ v. joins set c.args.candidate (voter_ballot (uncovered_voters table.profile.now.rows table.set table.free) v) in
          let more : total f ((b + 1) * block_voters) ≡ total f (b * block_voters) + total (λ i. f (b * block_voters + i)) block_voters =
          ap (total f) (let e : (b + 1) * 64 ≡ b * 64 + 64 = omega arith in e) ∙ total-add f (b * block_voters) block_voters in
          omega (
            arith,
            more,
            c.loop-b.invariant.counted set without,
            ap (λ n. count_ones (bit_and (get_or (get_or table.blocks b []) n 0) word)) c.from.ensures,
            block-joins (uncovered_voters table.profile.now.rows table.set table.free) table.blocks c.args.voters.now set c.args.candidate b table.columns without c.loop-b-test.true (c.fits-voters b),
          );
      most = omega (arith, c.loop-b.invariant.most, ones-and (get_or (get_or table.blocks b []) c.from.result 0) word (c.fits-voters b));
    }

pub returns-clause-newly : goal.returns-clause-newly
returns-clause-newly g c set without =
    let table = c.args.self.now in
    c.loop-b.invariant.counted set without
    ∙ ap (λ b. total (λ v. joins set c.args.candidate (voter_ballot (uncovered_voters table.profile.now.rows table.set table.free) v)) (b * block_voters))
    (let e : c.loop-b.b ≡ 4 = omega (arith, c.loop-b-test.false, c.loop-b.auto.b-end) in e)

pub returns-clause-few : goal.returns-clause-few
returns-clause-few g c = omega (arith, c.loop-b.invariant.most, c.loop-b.auto.b-end)
