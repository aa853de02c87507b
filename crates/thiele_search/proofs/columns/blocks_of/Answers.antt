use Rattle.std.proofs.Common.{◌≡◌, ℕ, zero, suc, ◌∙◌, List, ◌∷◌, [], ◌++◌, refl, sym, ap, subst, arith, length, take, get_or, replicate, length-append}
use Rattle.std.specs.Int.{bit_at}
use Rattle.std.specs.List.{each_same}
use Rattle.std.specs.Vec.{with_items}
use Rattle.std.proofs.lemmas.List.{length-replicate, length_push, with_items_is}
use Rattle.std.proofs.lemmas.Nat.Bits.{bit_at-zero}
use Rattle.tie_walk.proofs.WorthLemmas.{no_total}
use Rattle.ballot_base.specs.Ballots.{Row}
use Rattle.ballot_base.proofs.Turns.{row_of_turn, all_passed}
use Rattle.thiele_search.specs.Steps.Columns.{AreColumns, voters_of}
use Rattle.thiele_search.proofs.ColumnLemmas.{voters-push, voters-part}
use Rattle.thiele_search.proofs.columns.blocks_of.Goals as goal
use Rattle.thiele_search.proofs.columns.blocks_of.Goals.{In_ok-blocks}

nobody : (n m b c : ℕ) → get_or {A = ℕ} (get_or {A = List ℕ} (replicate n (replicate m 0)) b []) c 0 ≡ 0
nobody zero m b c = refl
nobody (suc n) m zero c = no_total m c
nobody (suc n) m (suc b) c = nobody n m b c

-- the blocks are made without voters
empty : (g : _) (c : In_ok-blocks g) → c.in_ok-blocks.blocks.items ≡ replicate c.div_ceil-most.result (replicate 65 0)
empty g c = c.in_ok-blocks.ensures.items_if_clones_equal (λ block same. each_same _ block same.whole)

-- there are enough of them, and not too many
many-blocks : (g : _) (c : In_ok-blocks g) → length c.in_ok-blocks.blocks.items ≡ c.div_ceil-most.result
many-blocks g c = ap length (empty g c) ∙ length-replicate c.div_ceil-most.result (replicate {A = ℕ} 65 0)

pub loop-ballot-init : goal.loop-ballot-init
loop-ballot-init g c = record {
  long = refl;
  many = refl;
  held = λ b n i within.
      ap (λ (all : List (List ℕ)). bit_at (get_or (get_or all b []) n 0) i) (empty g (goal.at.loop-ballot-init g c).In_ok-blocks)
      ∙ ap (λ (word : ℕ). bit_at word i) (nobody c.div_ceil-most.result 65 b n)
      ∙ bit_at-zero i;
}

pub add_row-requires : goal.add_row-requires
add_row-requires g c =
    let row : Row = (c.in-Some.ballot, c.in-Some.count) in
    let at = row_of_turn c.args.profile.now.rows (c.into_iter-ballot-iterator.ensures.into_iter_gives ∙ c.ballots-ballot-items.ensures.rows) c.loop-ballot.yielded c.loop-ballot.yielded_by row c.in-Some.ensures.steps in
    omega (
      arith,
      many-blocks g (goal.at.add_row-requires g c).In_ok-blocks,
      c.div_ceil-most.ensures,
      c.loop-ballot.invariant.long,
      c.voters.ensures.value,
      c.loop-ballot.invariant.many,
      voters-part c.args.profile.now.rows (length c.loop-ballot.yielded) row at,
    )

pub overflow_add-voters : goal.overflow_add-voters
overflow_add-voters g c =
    let row : Row = (c.in-Some.ballot, c.in-Some.count) in
    let at = row_of_turn c.args.profile.now.rows (c.into_iter-ballot-iterator.ensures.into_iter_gives ∙ c.ballots-ballot-items.ensures.rows) c.loop-ballot.yielded c.loop-ballot.yielded_by row c.in-Some.ensures.steps in
    omega (
      arith,
      c.requires,
      c.loop-ballot.invariant.many,
      voters-part c.args.profile.now.rows (length c.loop-ballot.yielded) row at,
    )

pub loop-ballot-preserved : goal.loop-ballot-preserved
loop-ballot-preserved g c =
    let rows = c.args.profile.now.rows in
    let row : Row = (c.in-Some.ballot, c.in-Some.count) in
    let at = row_of_turn c.args.profile.now.rows (c.into_iter-ballot-iterator.ensures.into_iter_gives ∙ c.ballots-ballot-items.ensures.rows) c.loop-ballot.yielded c.loop-ballot.yielded_by row c.in-Some.ensures.steps in
    let more : voters_of (take (length (c.loop-ballot.yielded ++ row ∷ [])) rows) ≡ voters_of (take (length c.loop-ballot.yielded) rows) ++ replicate row.1 row.0 =
    ap (λ n. voters_of (take n rows)) (length_push c.loop-ballot.yielded row) ∙ voters-push rows (length c.loop-ballot.yielded) row at in
    let written : (with_items c.loop-ballot.blocks c.add_row.new.blocks).items ≡ c.add_row.new.blocks =
    with_items_is c.loop-ballot.blocks c.add_row.new.blocks (c.add_row.ensures.kept ∙ c.deref_mut.ensures.len) in
    record {
      long = ap length written ∙ c.add_row.ensures.kept ∙ ap length c.deref_mut.ensures.value ∙ c.loop-ballot.invariant.long;
      many = omega (arith, ap length more, length-append (voters_of (take (length c.loop-ballot.yielded) rows)) (replicate row.1 row.0), length-replicate row.1 row.0, c.loop-ballot.invariant.many);
      held = subst (λ l. AreColumns (voters_of (take (length (c.loop-ballot.yielded ++ row ∷ [])) rows)) l) (sym written) (subst (λ l. AreColumns l c.add_row.new.blocks) (sym more) (c.add_row.ensures.added (voters_of (take (length c.loop-ballot.yielded) rows)) c.loop-ballot.invariant.many (rw c.deref_mut.ensures.value c.loop-ballot.invariant.held)));
    }

pub returns-clause-few : goal.returns-clause-few
returns-clause-few g c =
    omega (arith, c.loop-ballot.invariant.long, many-blocks g (goal.at.returns-clause-few g c).In_ok-blocks, c.div_ceil-most.ensures, c.voters.ensures.value, c.requires)

pub returns-clause-all : goal.returns-clause-all
returns-clause-all g c =
    omega (arith, c.loop-ballot.invariant.long, many-blocks g (goal.at.returns-clause-all g c).In_ok-blocks, c.div_ceil-most.ensures, c.voters.ensures.value)

pub returns-clause-columns : goal.returns-clause-columns
returns-clause-columns g c =
    subst (λ l. AreColumns (voters_of l) c.loop-ballot.blocks.items) (all_passed c.args.profile.now.rows (c.into_iter-ballot-iterator.ensures.into_iter_gives ∙ c.ballots-ballot-items.ensures.rows) c.loop-ballot.yielded c.loop-ballot.yielded_by c.in-None.ensures.steps.0) c.loop-ballot.invariant.held
