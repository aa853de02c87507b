use Rattle.std.proofs.Common.{◌≡◌, ℕ, ◌*◌, ◌≤◌, ◌∙◌, List, ◌∷◌, [], ◌++◌, refl, sym, ap, subst, arith, length, take, replicate, length-append}
use Rattle.std.specs.Int.{bit_at}
use Rattle.std.proofs.lemmas.List.{length-replicate, length_push}
use Rattle.std.proofs.lemmas.Nat.Bits.{bit_at-zero}
use Rattle.ballot_base.specs.Ballots.{Row}
use Rattle.ballot_base.proofs.Turns.{row_of_turn, all_passed}
use Rattle.thiele_search.specs.Steps.Columns.{block_voters, AreColumns}
use Rattle.thiele_search.specs.Steps.Uncovered.{table_blocks, uncovered_voters}
use Rattle.thiele_search.proofs.ColumnLemmas.{voters-part}
use Rattle.thiele_search.proofs.UncoveredLemmas.{nobody, uncovered-pass, uncovered-push}
use Rattle.thiele_search.proofs.uncovered.Uncovered.of.Goals as goal

pub loop-ballot-init : goal.loop-ballot-init
loop-ballot-init g c = record {
  long = refl;
  many = refl;
  few = omega arith;
  held = λ b n i within. ap (λ word. bit_at word i) (nobody 4 65 b n) ∙ bit_at-zero i;
}

pub loop-ballot-preserved-then-not-is_uncovered : goal.loop-ballot-preserved-then-not-is_uncovered
loop-ballot-preserved-then-not-is_uncovered g c =
    let rows = c.args.profile.now.rows in
    let node = c.args.node.now in
    let row : Row = (c.in-Some.ballot, c.in-Some.count) in
    let at = row_of_turn rows (c.into_iter-ballot-iterator.ensures.into_iter_gives ∙ c.ballots-ballot-items.ensures.rows) c.loop-ballot.yielded c.loop-ballot.yielded_by row c.in-Some.ensures.steps in
    let same : uncovered_voters (take (length (c.loop-ballot.yielded ++ row ∷ [])) rows) node.set node.free ≡ uncovered_voters (take (length c.loop-ballot.yielded) rows) node.set node.free =
    ap (λ n. uncovered_voters (take n rows) node.set node.free) (length_push c.loop-ballot.yielded row)
    ∙ uncovered-pass rows node.set node.free (length c.loop-ballot.yielded) row at (sym c.is_uncovered.ensures ∙ c.if-not-is_uncovered.true) in
    record {
      long = c.loop-ballot.invariant.long;
      many = ap length same ∙ c.loop-ballot.invariant.many;
      few = c.loop-ballot.invariant.few;
      held = subst (λ l. AreColumns l c.loop-ballot.blocks) (sym same) c.loop-ballot.invariant.held;
    }

pub overflow_add-voters : goal.overflow_add-voters
overflow_add-voters g c =
    let rows = c.args.profile.now.rows in
    let row : Row = (c.in-Some.ballot, c.in-Some.count) in
    let at = row_of_turn rows (c.into_iter-ballot-iterator.ensures.into_iter_gives ∙ c.ballots-ballot-items.ensures.rows) c.loop-ballot.yielded c.loop-ballot.yielded_by row c.in-Some.ensures.steps in
    omega (arith, c.loop-ballot.invariant.few, c.ballots-ballot-items.ensures.valid.voters, voters-part rows (length c.loop-ballot.yielded) row at)

pub loop-ballot-preserved : goal.loop-ballot-preserved
loop-ballot-preserved g c =
    let rows = c.args.profile.now.rows in
    let node = c.args.node.now in
    let row : Row = (c.in-Some.ballot, c.in-Some.count) in
    let at = row_of_turn rows (c.into_iter-ballot-iterator.ensures.into_iter_gives ∙ c.ballots-ballot-items.ensures.rows) c.loop-ballot.yielded c.loop-ballot.yielded_by row c.in-Some.ensures.steps in
    let before : List (List ℕ) = uncovered_voters (take (length c.loop-ballot.yielded) rows) node.set node.free in
    let more : uncovered_voters (take (length (c.loop-ballot.yielded ++ row ∷ [])) rows) node.set node.free ≡ before ++ replicate row.1 row.0 =
    ap (λ n. uncovered_voters (take n rows) node.set node.free) (length_push c.loop-ballot.yielded row)
    ∙ uncovered-push rows node.set node.free (length c.loop-ballot.yielded) row at (sym c.is_uncovered.ensures ∙ c.if-not-is_uncovered.false) in
    record {
      long = c.add_row.ensures.kept ∙ c.loop-ballot.invariant.long;
      many = omega (arith, ap length more, length-append before (replicate row.1 row.0), length-replicate row.1 row.0, c.loop-ballot.invariant.many);
      few = omega (arith, c.if-voters-count.false);
      held = subst (λ l. AreColumns l c.add_row.new.blocks) (sym more) (c.add_row.ensures.added before c.loop-ballot.invariant.many c.loop-ballot.invariant.held);
    }

pub invariant_of-result : goal.invariant_of-result
invariant_of-result g c =
    let rows = c.args.profile.now.rows in
    let node = c.args.node.now in
    let all = all_passed rows (c.into_iter-ballot-iterator.ensures.into_iter_gives ∙ c.ballots-ballot-items.ensures.rows) c.loop-ballot.yielded c.loop-ballot.yielded_by c.in-None.ensures.steps.0 in
    record {
      few = subst (λ l. length (uncovered_voters l node.set node.free) ≤ table_blocks * block_voters) all (omega (arith, c.loop-ballot.invariant.many, c.loop-ballot.invariant.few));
      columns = subst (λ l. AreColumns (uncovered_voters l node.set node.free) c.loop-ballot.blocks) all c.loop-ballot.invariant.held;
    }
