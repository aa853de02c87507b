use Rattle.std.proofs.Common.{◌≡◌, ℕ, ◌+◌, ◌*◌, ◌^◌, ◌≤◌, ◌∙◌, true, cond, List, sym, ap, subst, arith, get_or, length, min, take}
use Rattle.std.proofs.Math.Nat.{mul-le-mul_left, mul-le-mul_right}
use Rattle.std.proofs.lemmas.List.{length_push}
use Rattle.std.proofs.lemmas.List.Sums.{sum_by-take-le}
use Rattle.ballot_base.specs.CandSet.{has_member}
use Rattle.ballot_base.specs.Ballots.{Row, hits, voter_count}
use Rattle.ballot_base.proofs.Turns.{row_of_turn, all_passed}
use Rattle.tie_walk.proofs.RowSums.{length-common}
use Rattle.thiele_bounds.specs.Steps.Majorants.{Majorized}
use Rattle.thiele_bounds.specs.Steps.Paired.{AreTotals, IsMajorantOf, IsSmallMajorant, most_sum, overlap_at}
use Rattle.row_multipliers.proofs.CompletionLemmas.{member-high}
use Rattle.thiele_bounds.proofs.PairBounds.MajorantLemmas.{small-sums}
use Rattle.thiele_bounds.proofs.PairBounds.OverlapLemmas.{portion}
use Rattle.thiele_bounds.proofs.PairBounds.PairTotals.{cells-same, hits-both, portion-most, portion-self, row-up, totals-more, totals-none, voters-more, voters-room}
use Rattle.row_multipliers.proofs.HitLemmas.{free-common}
use Rattle.row_multipliers.proofs.SearchLemmas.{part-most}
use Rattle.thiele_bounds.proofs.pairs.PairSearch.add_ballots.Goals as goal

pub loop-ballot-init : goal.loop-ballot-init
loop-ballot-init g c =
    let given = c.args.self.now.given.now in
    let totals = c.args.totals.now in
    let nothing = c.requires.nothing in
    record {
      sums = c.new-majorants.ensures.sums;
      left = c.new-majorants.ensures.left;
      totals = λ weights are. totals-none weights given.scale given.unit c.args.self.now.profile.now.m c.args.self.now.profile.now.rows c.args.node.now.set c.args.node.now.free c.args.node.now.left totals.constant totals.worths totals.overlaps nothing;
      small_constant = omega (arith, nothing.constant_none);
      small_worths = λ n. omega (arith, nothing.worths_none n);
      self_overlaps = λ i j one other. omega (arith, nothing.overlaps_none i j);
      small_overlaps = λ i j low. omega (arith, nothing.overlaps_none i j);
    }

pub new-majorants-requires-clause-small : goal.new-majorants-requires-clause-small
new-majorants-requires-clause-small g c = small-sums c.args.self.now.given.now

pub of_ballot-majorant-requires : goal.of_ballot-majorant-requires
of_ballot-majorant-requires g c =
    let e = c.args.self.now.profile.now in
    let row : Row = (c.in-Some.ballot, c.in-Some.voters) in
    let at = row_of_turn e.rows (c.into_iter-ballot-iterator.ensures.into_iter_gives ∙ c.ballots-ballot-items.ensures.rows) c.loop-ballot.yielded c.loop-ballot.yielded_by row c.in-Some.ensures.steps in
    omega (
      arith,
      c.len-before.ensures.count,
      ap length c.common.ensures,
      length-common c.in-Some.ballot c.args.node.now.set,
      c.len-in-loop-ballot.ensures.count,
      ap length c.common-approved.ensures,
      length-common c.in-Some.ballot c.args.node.now.free,
      hits-both e.m c.in-Some.ballot c.args.node.now.set c.args.node.now.free (row-up e c.ballots-ballot-items.ensures.valid (length c.loop-ballot.yielded) row at) c.ballots-ballot-items.ensures.valid.most c.requires.is_node,
    )

pub add-requires : goal.add-requires
add-requires g c =
    let e = c.args.self.now.profile.now in
    let given = c.args.self.now.given.now in
    let all_give = most_sum given.sums in
    let row : Row = (c.in-Some.ballot, c.in-Some.voters) in
    let at = row_of_turn e.rows (c.into_iter-ballot-iterator.ensures.into_iter_gives ∙ c.ballots-ballot-items.ensures.rows) c.loop-ballot.yielded c.loop-ballot.yielded_by row c.in-Some.ensures.steps in
    let i = length c.loop-ballot.yielded in
    let valid = c.ballots-ballot-items.ensures.valid in
    let inv = c.loop-ballot.invariant in
    let few : voter_count (take (i + 1) e.rows) ≤ voter_count e.rows = sum_by-take-le (λ (r : Row). r.1) e.rows (i + 1) in
    let fits : (voter_count (take i e.rows) + row.1) * all_give ≤ voter_count e.rows * all_give = mul-le-mul_right all_give (omega (arith, few, voters-more e valid i row at)) in
    let small : IsSmallMajorant all_give c.of_ballot-majorant.result = subst (λ (l : List ℕ). IsSmallMajorant (most_sum l) c.of_ballot-majorant.result) inv.sums c.of_ballot-majorant.ensures.majorant.small in
    let top = (small-sums given).all_small in
    let overlap : row.1 * c.of_ballot-majorant.result.overlap ≤ row.1 * all_give = mul-le-mul_left row.1 small.overlap_small in
    record {
      voters = omega (arith, voters-room e valid i row at);
      majorant = record {
        constant_small = omega (arith, small.constant_small, top);
        worth_small = omega (arith, small.worth_small, top);
        overlap_small = omega (arith, small.overlap_small, top);
      };
      overlap = omega (arith, overlap, fits, c.args.self.now.fits);
      small = record {
        constant_small = omega (arith, inv.small_constant, fits, c.args.self.now.fits);
        worths_small = λ n. omega (arith, inv.small_worths n, fits, c.args.self.now.fits);
        overlaps_small = λ i j low. omega (arith, inv.small_overlaps i j low, fits, c.args.self.now.fits);
        overlaps_self = inv.self_overlaps;
      };
    }

pub loop-ballot-preserved : goal.loop-ballot-preserved
loop-ballot-preserved g c =
    let given = c.args.self.now.given.now in
    let e = c.args.self.now.profile.now in
    let set = c.args.node.now.set in
    let free = c.args.node.now.free in
    let row : Row = (c.in-Some.ballot, c.in-Some.voters) in
    let at = row_of_turn e.rows (c.into_iter-ballot-iterator.ensures.into_iter_gives ∙ c.ballots-ballot-items.ensures.rows) c.loop-ballot.yielded c.loop-ballot.yielded_by row c.in-Some.ensures.steps in
    let i = length c.loop-ballot.yielded in
    let next = sym (length_push c.loop-ballot.yielded row) in
    let inv = c.loop-ballot.invariant in
    let valid = c.ballots-ballot-items.ensures.valid in
    let approved = c.common-approved.result in
    let majorant = c.of_ballot-majorant.result in
    let before : c.len-before.result ≡ hits row.0 set = c.len-before.ensures.count ∙ ap length c.common.ensures ∙ length-common row.0 set in
    let open_ : c.len-in-loop-ballot.result ≡ hits row.0 free = c.len-in-loop-ballot.ensures.count ∙ ap length c.common-approved.ensures ∙ length-common row.0 free in
    let is : IsMajorantOf given.sums c.len-before.result (min c.args.node.now.left c.len-in-loop-ballot.result) majorant =
    subst (λ n. IsMajorantOf given.sums c.len-before.result (min n c.len-in-loop-ballot.result) majorant) inv.left
    (subst (λ (l : List ℕ). IsMajorantOf l c.len-before.result (min c.loop-ballot.majorants.left c.len-in-loop-ballot.result) majorant) inv.sums c.of_ballot-majorant.ensures.majorant) in
    let before_totals = c.loop-ballot.totals in
    let totals = c.add.new.self in
    let worths : (n : ℕ) → has_member free n ≡ true → get_or totals.worths n 0 ≡ get_or before_totals.worths n 0 + cond (has_member row.0 n) (row.1 * majorant.worth) 0 =
    λ n in_. c.add.ensures.worths n
    ∙ ap (λ b. get_or before_totals.worths n 0 + cond b (row.1 * majorant.worth) 0) (ap (λ l. has_member l n) c.common-approved.ensures ∙ free-common row.0 free n in_) in
    let overlaps : (a b : ℕ) → has_member free a ≡ true → has_member free b ≡ true → overlap_at totals.overlaps a b ≡ overlap_at before_totals.overlaps a b + portion (has_member row.0 a) (has_member row.0 b) (row.1 * majorant.overlap) =
    λ a b here there. c.add.ensures.overlaps a b (omega (arith, member-high 1 e.m free b c.requires.is_node.free_within there, valid.most))
    ∙ ap (λ x. overlap_at before_totals.overlaps a b + x) (cells-same row.0 free approved a b (row.1 * majorant.overlap) c.common-approved.ensures here there) in
    let all_give = most_sum given.sums in
    let small_constant : row.1 * majorant.constant ≤ row.1 * (all_give * 2 ^ 13) = mul-le-mul_left row.1 is.small.constant_small in
    let small_worth : row.1 * majorant.worth ≤ row.1 * (all_give * 2 ^ 8) = mul-le-mul_left row.1 is.small.worth_small in
    let small_overlap : row.1 * majorant.overlap ≤ row.1 * all_give = mul-le-mul_left row.1 is.small.overlap_small in
    let voters = ap (λ n. n * all_give) (voters-more e valid i row at) in
    record {
      sums = ap (λ (m : Majorized). m.sums) c.of_ballot-majorant.ensures.same ∙ inv.sums;
      left = ap (λ (m : Majorized). m.left) c.of_ballot-majorant.ensures.same ∙ inv.left;
      totals = λ weights are. subst (λ n. AreTotals weights given.scale given.unit e.m (take n e.rows) set free c.args.node.now.left totals.constant totals.worths totals.overlaps) next
          (subst (λ n. AreTotals weights given.scale given.unit e.m (take (i + 1) e.rows) set free c.args.node.now.left n totals.worths totals.overlaps) (sym c.add.ensures.constant)
          (totals-more e valid i row at weights given.sums given.scale given.unit set free c.args.node.now.left c.len-before.result (min c.args.node.now.left c.len-in-loop-ballot.result) majorant.constant majorant.worth
          majorant.overlap before_totals.constant before_totals.worths totals.worths before_totals.overlaps totals.overlaps c.requires.is_node are before (ap (min c.args.node.now.left) open_) is.bounds
          (inv.totals weights are) worths overlaps));
      small_constant = subst (λ n. totals.constant ≤ voter_count (take n e.rows) * (all_give * 2 ^ 13)) next (omega (arith, c.add.ensures.constant, small_constant, voters, inv.small_constant));
      small_worths = λ n. subst (λ x. get_or totals.worths n 0 ≤ voter_count (take x e.rows) * (all_give * 2 ^ 8)) next
          (omega (arith, small_worth, voters, inv.small_worths n, c.add.ensures.worths n, part-most (has_member approved n) (row.1 * majorant.worth)));
      self_overlaps = λ a b one other.
          omega (arith, inv.self_overlaps a b one other, c.add.ensures.overlaps a b other, c.add.ensures.overlaps a a one, portion-self (has_member approved a) (has_member approved b) (row.1 * majorant.overlap));
      small_overlaps = λ a b low. subst (λ x. overlap_at totals.overlaps a b ≤ voter_count (take x e.rows) * all_give) next
          (omega (arith, small_overlap, voters, inv.small_overlaps a b low, c.add.ensures.overlaps a b low, portion-most (has_member approved a) (has_member approved b) (row.1 * majorant.overlap)));
    }

pub returns-clause-totals : goal.returns-clause-totals
returns-clause-totals g c weights are =
    let given = c.args.self.now.given.now in
    let e = c.args.self.now.profile.now in
    let all = all_passed e.rows (c.into_iter-ballot-iterator.ensures.into_iter_gives ∙ c.ballots-ballot-items.ensures.rows) c.loop-ballot.yielded c.loop-ballot.yielded_by c.in-None.ensures.steps.0 in
    subst (λ rows. AreTotals weights given.scale given.unit e.m rows c.args.node.now.set c.args.node.now.free c.args.node.now.left c.loop-ballot.totals.constant c.loop-ballot.totals.worths c.loop-ballot.totals.overlaps) all
    (c.loop-ballot.invariant.totals weights are)

pub returns-clause-small : goal.returns-clause-small
returns-clause-small g c =
    let e = c.args.self.now.profile.now in
    let all_give = most_sum c.args.self.now.given.now.sums in
    let few = sum_by-take-le (λ (r : Row). r.1) e.rows (length c.loop-ballot.yielded) in
    let fits : voter_count (take (length c.loop-ballot.yielded) e.rows) * all_give ≤ voter_count e.rows * all_give = mul-le-mul_right all_give few in
    let inv = c.loop-ballot.invariant in
    record {
      constant_small = omega (arith, inv.small_constant, fits, c.args.self.now.fits);
      worths_small = λ n. omega (arith, inv.small_worths n, fits, c.args.self.now.fits);
      overlaps_small = λ i j low. omega (arith, inv.small_overlaps i j low, fits, c.args.self.now.fits);
      overlaps_self = inv.self_overlaps;
    }
