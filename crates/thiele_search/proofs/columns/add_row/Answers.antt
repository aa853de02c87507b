use Rattle.std.proofs.Common.{◌≡◌, ℕ, ◌+◌, ◌*◌, ◌/◌, ◌%◌, ◌∙◌, List, [], ◌∷◌, ◌++◌, refl, sym, ap, subst, arith, length, replicate, length-append, set as slice_set}
use Rattle.std.proofs.Math.ListN.{length-set}
use Rattle.std.proofs.Math.Nat.{div-add-mod}
use Rattle.std.proofs.lemmas.List.{length-replicate, append_assoc, append-nil, replicate-append-replicate}
use Rattle.std.proofs.lemmas.Nat.{mod_below}
use Rattle.thiele_search.specs.Steps.Columns.{AreColumns}
use Rattle.thiele_search.proofs.ColumnLemmas.{columns-push}
use Rattle.thiele_search.proofs.columns.add_row.Goals as goal

pub loop-passed-init : goal.loop-passed-init
loop-passed-init c = record {
  long = refl;
  held = λ ballots long before. subst (λ l. AreColumns l c.args.blocks.now) (sym (append-nil ballots)) before;
}

pub loop-passed-preserved : goal.loop-passed-preserved
loop-passed-preserved c =
    let passed = c.loop-passed.passed in
    let voter = c.args.voters + passed in
    record {
      long = length-set c.loop-passed.blocks (voter / 64) c.add_voter.new.block ∙ c.loop-passed.invariant.long;
      held = λ ballots long before.
          let so_far : List (List ℕ) = ballots ++ replicate passed c.args.ballot in
          let many : length so_far ≡ voter / 64 * 64 + voter % 64 =
          omega (arith, length-append ballots (replicate passed c.args.ballot), length-replicate passed c.args.ballot, long, div-add-mod voter 64) in
          let next : AreColumns (so_far ++ c.args.ballot ∷ []) (slice_set c.loop-passed.blocks (voter / 64) c.add_voter.new.block) =
          columns-push so_far c.loop-passed.blocks c.add_voter.new.block c.args.ballot (voter / 64) (voter % 64) many (mod_below voter 64 (omega arith))
          (omega (arith, c.requires, c.loop-passed-test.true, div-add-mod voter 64, c.loop-passed.invariant.long))
          (c.loop-passed.invariant.held ballots long before) c.add_voter.ensures in
          subst (λ l. AreColumns l (slice_set c.loop-passed.blocks (voter / 64) c.add_voter.new.block))
          (append_assoc ballots (replicate passed c.args.ballot) (c.args.ballot ∷ []) ∙ ap (λ l. ballots ++ l) (replicate-append-replicate passed 1 c.args.ballot)) next;
    }

pub returns-clause-added : goal.returns-clause-added
returns-clause-added c ballots long before =
    subst (λ n. AreColumns (ballots ++ replicate n c.args.ballot) c.loop-passed.blocks) (let e : c.loop-passed.passed ≡ c.args.count = omega (arith, c.loop-passed-test.false, c.loop-passed.auto.passed-end) in e)
    (c.loop-passed.invariant.held ballots long before)
