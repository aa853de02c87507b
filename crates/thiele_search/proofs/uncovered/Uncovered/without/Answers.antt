use Rattle.std.proofs.Common.{◌≡◌, ℕ, ◌+◌, ◌-◌, ◌*◌, ◌∙◌, List, [], min, refl, ap, arith, inl, inr, get_or}
use Rattle.std.specs.Int.{bit_at}
use Rattle.std.proofs.Math.ListN.{length-set}
use Rattle.std.proofs.lemmas.Bool.{cases_eq}
use Rattle.std.proofs.lemmas.List.{get_or-set_same, get_or-set_other}
use Rattle.thiele_search.specs.Steps.Columns.{block_voters, voter_ballot}
use Rattle.thiele_search.specs.Steps.Uncovered.{uncovered_voters}
use Rattle.thiele_search.proofs.UncoveredLemmas.{uncovered-rising, without-more}
use Rattle.thiele_search.proofs.uncovered.Uncovered.without.Goals as goal

pub loop-b-init : goal.loop-b-init
loop-b-init g c = record {
  long = c.told-voters;
  ahead = λ b later. refl;
  passed = λ set new without b i low within. absurd (omega (arith, low));
}

pub loop-b-preserved : goal.loop-b-preserved
loop-b-preserved g c =
    let table = c.args.self.now in
    let ballots : List (List ℕ) = uncovered_voters table.profile.now.rows table.set table.free in
    let inv = c.loop-b.invariant in
    let at = c.loop-b.b in
    let word = c.others.result in
    let column : ℕ = get_or (get_or table.blocks at []) c.args.candidate 0 in
    let here : get_or c.loop-b.rest at 0 ≡ get_or c.args.voters.now at 0 = inv.ahead at (omega arith) in
    record {
      long = simp length-set inv.long;
      ahead = λ b later. get_or-set_other c.loop-b.rest at b word 0 (λ e. absurd (omega (arith, e, later))) ∙ inv.ahead b (omega (arith, later));
      passed = λ set new without b i low within. elim (cases_eq b at) [
        | inl same ↦
            rw same (
            ap (λ n. bit_at n i) (get_or-set_same c.loop-b.rest at word 0 (omega (arith, inv.long, c.loop-b-test.true)))
            ∙ without-more (voter_ballot ballots (at * block_voters + i)) set c.args.candidate (get_or c.args.voters.now at 0) column word i
            (uncovered-rising table.profile.now table.set table.free c.requires.valid (at * block_voters + i)) new
            (c.others.ensures i within ∙ ap (λ n. min (bit_at n i) (1 - bit_at (get_or (get_or table.blocks at []) c.from.result 0) i)) here
            ∙ ap (λ n. min (bit_at (get_or c.args.voters.now at 0) i) (1 - bit_at (get_or (get_or table.blocks at []) n 0) i)) c.from.ensures)
            (without at i c.loop-b-test.true within) (table.columns at c.args.candidate i within)
            )
        | inr other ↦ ap (λ n. bit_at n i) (get_or-set_other c.loop-b.rest at b word 0 other) ∙ inv.passed set new without b i (omega (arith, low, other)) within
      ];
    }

pub returns : goal.returns
returns g c set new without b i low within = c.loop-b.invariant.passed set new without b i (omega (arith, low, c.loop-b-test.false)) within
