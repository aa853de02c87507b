use Rattle.std.proofs.Common.{◌∙◌, ◌^◌, sym, ap, arith, max, min, nat_le}
use Rattle.std.proofs.lemmas.Bool.{leb-true}
use Rattle.ballot_base.specs.CandSet.{has_member}
use Rattle.ballot_base.specs.Limits.{most_candidates}
use Rattle.ballot_base.proofs.Increasing.{has_member-filter}
use Rattle.row_multipliers.proofs.CompletionLemmas.{and-true}
use Rattle.thiele_bounds.proofs.PairBounds.OverlapLemmas.{portion, portion-pair, rows-fit, rows-more}
use Rattle.row_multipliers.proofs.MemberLemmas.{first-low}
use Rattle.row_multipliers.proofs.SearchLemmas.{rest-increasing}
use Rattle.thiele_bounds.proofs.pairs.add_pairs.Goals as goal

pub loop-row-init : goal.loop-row-init
loop-row-init c =
    let all = c.into_iter-row-iterator.ensures.into_iter_gives ∙ c.members-row-items.ensures.items in
    rw all record {
      rises = c.members-row-items.ensures.valid;
      made = λ i j low. omega arith;
    }

pub add_to_pairs-requires-clause-within : goal.add_to_pairs-requires-clause-within
add_to_pairs-requires-clause-within c = first-low c.loop-row.row-iterator c.next.new.self c.in-Some.row c.in-Some.ensures.steps c.loop-row.invariant.rises

pub add_to_pairs-requires-clause-fits : goal.add_to_pairs-requires-clause-fits
add_to_pairs-requires-clause-fits c =
    rows-fit c.loop-row.row-iterator c.next.new.self c.in-Some.row c.in-Some.ensures.steps c.loop-row.invariant.rises c.loop-row.table c.args.table.now c.loop-row.table c.args.members c.args.amount c.loop-row.invariant.made (2 ^ 64) c.requires.fits

pub add_to_pairs-requires-clause-columns : goal.add_to_pairs-requires-clause-columns
add_to_pairs-requires-clause-columns c n is =
    leb-true n c.in-Some.row (and-true (nat_le n c.in-Some.row) (has_member c.args.members n) (sym (has_member-filter (λ x. nat_le x c.in-Some.row) c.args.members n) ∙ rw c.upto.ensures at is)).0

pub loop-row-preserved : goal.loop-row-preserved
loop-row-preserved c =
    let rest = rest-increasing most_candidates c.loop-row.row-iterator c.next.new.self c.in-Some.row c.in-Some.ensures.steps c.loop-row.invariant.rises in
    record {
      rises = rest.1;
      made = rows-more c.loop-row.row-iterator c.next.new.self c.in-Some.row c.in-Some.ensures.steps c.loop-row.invariant.rises c.loop-row.table c.args.table.now c.add_to_pairs.new.table c.args.members c.args.amount c.loop-row.invariant.made
          (rw c.upto.ensures at c.add_to_pairs.ensures);
    }

pub returns : goal.returns
returns c i j low =
    omega (
      arith,
      c.loop-row.invariant.made i j low,
      ap (λ l. portion (has_member l (max i j)) (has_member c.args.members (min i j)) c.args.amount) c.in-None.ensures.steps.0,
      portion-pair (has_member c.args.members) i j c.args.amount,
    )
