use Rattle.std.proofs.Common.{◌≡◌, ℕ, ◌+◌, ◌*◌, ◌^◌, ◌≤◌, ◌∙◌, true, cond, sym, ap, subst, arith, get_or, length, take}
use Rattle.std.proofs.Math.Nat.{mul-le-mul_left, mul-le-mul_right}
use Rattle.std.proofs.lemmas.List.{length_push}
use Rattle.std.proofs.lemmas.List.Sums.{sum_by-take-le}
use Rattle.ballot_base.specs.CandSet.{has_member}
use Rattle.ballot_base.specs.Ballots.{Row, hits, voter_count}
use Rattle.ballot_base.proofs.Turns.{row_of_turn, all_passed}
use Rattle.tie_walk.proofs.RowSums.{length-common}
use Rattle.ballot_base.specs.Limits.{most_candidates}
use Rattle.thiele_bounds.specs.Steps.Cubics.{Cubed, IsCubicOf, row_constant, row_overlap, row_triple, row_worth}
use Rattle.thiele_bounds.specs.Steps.Paired.{most_sum, overlap_at, triangle}
use Rattle.thiele_bounds.specs.Steps.Places.{tetrahedron, word_at}
use Rattle.thiele_bounds.specs.Steps.Threes.{AreCubics, AreTriples}
use Rattle.row_multipliers.proofs.CompletionLemmas.{member-high}
use Rattle.row_multipliers.proofs.HitLemmas.{free-common}
use Rattle.row_multipliers.proofs.SearchLemmas.{part-most}
use Rattle.thiele_bounds.proofs.PairBounds.CubicLemmas.{overlap-more, row-more, triple-more, worth-more}
use Rattle.thiele_bounds.proofs.PairBounds.MajorantLemmas.{small-sums}
use Rattle.thiele_bounds.proofs.PairBounds.OverlapLemmas.{portion}
use Rattle.thiele_bounds.proofs.PairBounds.PairTotals.{cells-same, hits-both, portion-most, portion-self, row-up, voters-more, voters-room}
use Rattle.thiele_bounds.proofs.PairBounds.TripleLemmas.{part}
use Rattle.thiele_bounds.proofs.PairBounds.TurnLemmas.{common-among, part-most as three-most, parts-same}
use Rattle.thiele_bounds.proofs.triples.TripleSearch.add_ballots.Goals as goal
use Rattle.thiele_bounds.proofs.triples.TripleSearch.add_ballots.Goals.{After-of_ballot-majorant, After-triple_with-triple}

pub loop-ballot-init : goal.loop-ballot-init
loop-ballot-init g c =
    let nothing = c.requires.nothing in
    record {
      made = c.new-cubics.ensures;
      cubics = record {
        constant_is = omega (arith, nothing.constant_none);
        worths_are = λ n here. omega (arith, nothing.worths_none n);
        overlaps_are = λ i j here there. omega (arith, nothing.overlaps_none i j);
      };
      small_constant = omega (arith, nothing.constant_none);
      small_worths = λ n. omega (arith, nothing.worths_none n);
      self_overlaps = λ i j one other. omega (arith, nothing.overlaps_none i j);
      kept = omega arith;
      triples = λ z y x low less one two three. omega (arith, c.requires.no_triples (tetrahedron z + triangle y + x));
      small_triples = λ z y x low less. omega (arith, c.requires.no_triples (tetrahedron z + triangle y + x));
      small_overlaps = λ i j low. omega (arith, nothing.overlaps_none i j);
    }

pub new-cubics-requires-clause-small : goal.new-cubics-requires-clause-small
new-cubics-requires-clause-small g c = small-sums c.args.self.now.given.now

pub of_ballot-majorant-requires : goal.of_ballot-majorant-requires
of_ballot-majorant-requires g c =
    let e = c.args.self.now.profile.now in
    let row : Row = (c.in-Some.ballot, c.in-Some.voters) in
    let at = row_of_turn e.rows (c.into_iter-ballot-iterator.ensures.into_iter_gives ∙ c.ballots-ballot-items.ensures.rows) c.loop-ballot.yielded c.loop-ballot.yielded_by row c.in-Some.ensures.steps in
    omega (
      arith,
      c.len-before.ensures.count,
      ap length c.common.ensures,
      length-common c.in-Some.ballot c.args.node.now.set,
      c.len.ensures.count,
      ap length c.common-approved.ensures,
      length-common c.in-Some.ballot c.args.node.now.free,
      hits-both e.m c.in-Some.ballot c.args.node.now.set c.args.node.now.free (row-up e c.ballots-ballot-items.ensures.valid (length c.loop-ballot.yielded) row at) c.ballots-ballot-items.ensures.valid.most c.requires.is_node,
    )

-- what the voters of the next row add
fits : (g : _) (c : After-of_ballot-majorant g)
    → (voter_count (take (length c.loop-ballot.yielded) c.args.self.now.profile.now.rows) + c.in-Some.voters) * most_sum c.args.self.now.given.now.sums ≤ 2 ^ 58
fits g c =
    let e = c.args.self.now.profile.now in
    let row : Row = (c.in-Some.ballot, c.in-Some.voters) in
    let at = row_of_turn e.rows (c.into_iter-ballot-iterator.ensures.into_iter_gives ∙ c.ballots-ballot-items.ensures.rows) c.loop-ballot.yielded c.loop-ballot.yielded_by row c.in-Some.ensures.steps in
    let i = length c.loop-ballot.yielded in
    let few : voter_count (take (i + 1) e.rows) ≤ voter_count e.rows = sum_by-take-le (λ (r : Row). r.1) e.rows (i + 1) in
    let all : (voter_count (take i e.rows) + row.1) * most_sum c.args.self.now.given.now.sums ≤ voter_count e.rows * most_sum c.args.self.now.given.now.sums =
    mul-le-mul_right (most_sum c.args.self.now.given.now.sums) (omega (arith, few, voters-more e c.ballots-ballot-items.ensures.valid i row at)) in
    omega (arith, all, c.args.self.now.fits)

-- the cubic of the next row
cubic-is : (g : _) (c : After-of_ballot-majorant g)
    → IsCubicOf (record { sums = c.args.self.now.given.now.sums; shift = c.args.self.now.shift; left = c.args.node.now.left; free = length c.args.node.now.free }) c.len-before.result c.len.result c.of_ballot-majorant.result
cubic-is g c = subst (λ (x : Cubed). IsCubicOf x c.len-before.result c.len.result c.of_ballot-majorant.result) c.loop-ballot.invariant.made c.of_ballot-majorant.ensures.cubic

overlap-small : (g : _) (c : After-of_ballot-majorant g) → c.in-Some.voters * c.of_ballot-majorant.result.overlap ≤ c.in-Some.voters * most_sum c.args.self.now.given.now.sums
overlap-small g c = mul-le-mul_left c.in-Some.voters (cubic-is g c).overlap_small

triple-small : (g : _) (c : After-triple_with-triple g) → c.in-Some.voters * c.triple_with-triple.result ≤ c.in-Some.voters * most_sum c.args.self.now.given.now.sums
triple-small g c = mul-le-mul_left c.in-Some.voters c.triple_with-triple.ensures.small

pub add_worths-requires : goal.add_worths-requires
add_worths-requires g c =
    let e = c.args.self.now.profile.now in
    let given = c.args.self.now.given.now in
    let at_ = (goal.at.add_worths-requires g c).After-of_ballot-majorant in
    let row : Row = (c.in-Some.ballot, c.in-Some.voters) in
    let at = row_of_turn e.rows (c.into_iter-ballot-iterator.ensures.into_iter_gives ∙ c.ballots-ballot-items.ensures.rows) c.loop-ballot.yielded c.loop-ballot.yielded_by row c.in-Some.ensures.steps in
    let inv = c.loop-ballot.invariant in
    let room = fits g at_ in
    let small = cubic-is g at_ in
    let top = (small-sums given).all_small in
    record {
      voters = omega (arith, voters-room e c.ballots-ballot-items.ensures.valid (length c.loop-ballot.yielded) row at);
      majorant = record {
        constant_small = omega (arith, small.constant_small, top);
        worth_small = omega (arith, small.worth_small, top);
        overlap_small = omega (arith, small.overlap_small, top);
      };
      small = record {
        constant_small = omega (arith, inv.small_constant, room);
        worths_small = λ n. omega (arith, inv.small_worths n, room);
        overlaps_small = λ a b low. omega (arith, inv.small_overlaps a b low, room);
        overlaps_self = inv.self_overlaps;
      };
    }

pub overflow_mul-amounts : goal.overflow_mul-amounts
overflow_mul-amounts g c =
    let at = (goal.at.overflow_mul-amounts g c).After-of_ballot-majorant in
    omega (arith, fits g at, overlap-small g at)

pub overflow_mul-amounts-in-loop-ballot : goal.overflow_mul-amounts-in-loop-ballot
overflow_mul-amounts-in-loop-ballot g c =
    omega (arith, fits g (goal.at.overflow_mul-amounts-in-loop-ballot g c).After-of_ballot-majorant, triple-small g (goal.at.overflow_mul-amounts-in-loop-ballot g c).After-triple_with-triple)

pub add_threes-requires-clause-room : goal.add_threes-requires-clause-room
add_threes-requires-clause-room g c n is =
    let free = c.args.node.now.free in
    let inside : has_member free n ≡ true = common-among c.in-Some.ballot free n (sym (ap (λ l. has_member l n) c.common-approved.ensures) ∙ is) in
    omega (arith, c.requires.room n inside, c.loop-ballot.invariant.kept)

pub add_threes-requires-clause-pairs_fit : goal.add_threes-requires-clause-pairs_fit
add_threes-requires-clause-pairs_fit g c i j low =
    let at = (goal.at.add_threes-requires-clause-pairs_fit g c).After-of_ballot-majorant in
    omega (arith, fits g at, overlap-small g at, c.loop-ballot.invariant.small_overlaps i j low, ap (λ t. overlap_at t i j) c.add_worths.ensures.overlaps)

pub add_threes-requires-clause-fits : goal.add_threes-requires-clause-fits
add_threes-requires-clause-fits g c z y x low less =
    omega (
      arith,
      fits g (goal.at.add_threes-requires-clause-fits g c).After-of_ballot-majorant,
      triple-small g (goal.at.add_threes-requires-clause-fits g c).After-triple_with-triple,
      c.loop-ballot.invariant.small_triples z y x low less,
    )

pub loop-ballot-preserved : goal.loop-ballot-preserved
loop-ballot-preserved g c =
    let given = c.args.self.now.given.now in
    let sums = given.sums in
    let e = c.args.self.now.profile.now in
    let node = c.args.node.now in
    let set = node.set in
    let free = node.free in
    let row : Row = (c.in-Some.ballot, c.in-Some.voters) in
    let at = row_of_turn e.rows (c.into_iter-ballot-iterator.ensures.into_iter_gives ∙ c.ballots-ballot-items.ensures.rows) c.loop-ballot.yielded c.loop-ballot.yielded_by row c.in-Some.ensures.steps in
    let i = length c.loop-ballot.yielded in
    let next = sym (length_push c.loop-ballot.yielded row) in
    let inv = c.loop-ballot.invariant in
    let valid = c.ballots-ballot-items.ensures.valid in
    let approved = c.common-approved.result in
    let cubic = c.of_ballot-majorant.result in
    let shift = c.args.self.now.shift in
    let at_ = (goal.at.loop-ballot-preserved g c).After-of_ballot-majorant in
    let is = cubic-is g at_ in
    let before : c.len-before.result ≡ hits row.0 set = c.len-before.ensures.count ∙ ap length c.common.ensures ∙ length-common row.0 set in
    let open_ : c.len.result ≡ hits row.0 free = c.len.ensures.count ∙ ap length c.common-approved.ensures ∙ length-common row.0 free in
    let row_is : IsCubicOf (record { sums = sums; shift = shift; left = node.left; free = length free }) (hits row.0 set) (hits row.0 free) cubic =
    subst (λ n. IsCubicOf (record { sums = sums; shift = shift; left = node.left; free = length free }) (hits row.0 set) n cubic) open_
    (subst (λ n. IsCubicOf (record { sums = sums; shift = shift; left = node.left; free = length free }) n c.len.result cubic) before is) in
    let worth : cubic.worth ≡ row_worth sums shift set free node.left row = row_is.worth_is in
    let overlap : cubic.overlap ≡ row_overlap sums shift set free node.left row = row_is.overlap_is in
    let constant : cubic.constant ≡ row_constant sums shift set free node.left row = row_is.constant_is in
    let before_totals = c.loop-ballot.totals in
    let totals = c.add_worths.new.self in
    let overlaps = c.add_threes.new.pairs in
    let triples = c.add_threes.new.triples in
    let two = row.1 * cubic.overlap in
    let three = row.1 * c.triple_with-triple.result in
    let pair : (a b : ℕ) → b ≤ most_candidates → overlap_at overlaps a b ≡ overlap_at before_totals.overlaps a b + portion (has_member approved a) (has_member approved b) two =
    λ a b low. c.add_threes.ensures.paired a b low ∙ ap (λ t. overlap_at t a b + portion (has_member approved a) (has_member approved b) two) c.add_worths.ensures.overlaps in
    let one : Row → ℕ = row_triple sums shift set free node.left in
    let more : AreCubics sums shift (take (i + 1) e.rows) node totals.constant totals.worths overlaps = record {
      constant_is = omega (
        arith,
        c.add_worths.ensures.constant,
        inv.cubics.constant_is,
        ap (λ n. row.1 * n) constant,
        row-more e.rows i row at (λ (r : Row). r.1 * row_constant sums shift set free node.left r),
      );
      worths_are = λ n here.
          c.add_worths.ensures.worths n
          ∙ ap (λ b. get_or before_totals.worths n 0 + cond b (row.1 * cubic.worth) 0) (ap (λ l. has_member l n) c.common-approved.ensures ∙ free-common row.0 free n here)
          ∙ ap (λ x. get_or before_totals.worths n 0 + cond (has_member row.0 n) (row.1 * x) 0) worth
          ∙ ap (λ x. x + cond (has_member row.0 n) (row.1 * row_worth sums shift set free node.left row) 0) (inv.cubics.worths_are n here)
          ∙ sym (worth-more e.rows i row at (row_worth sums shift set free node.left) n);
      overlaps_are = λ a b here there.
          pair a b (omega (arith, member-high 1 e.m free b c.requires.is_node.free_within there, valid.most))
          ∙ ap (λ x. overlap_at before_totals.overlaps a b + x) (cells-same row.0 free approved a b two c.common-approved.ensures here there)
          ∙ ap (λ x. overlap_at before_totals.overlaps a b + portion (has_member row.0 a) (has_member row.0 b) (row.1 * x)) overlap
          ∙ ap (λ x. x + portion (has_member row.0 a) (has_member row.0 b) (row.1 * row_overlap sums shift set free node.left row)) (inv.cubics.overlaps_are a b here there)
          ∙ sym (overlap-more e.rows i row at (row_overlap sums shift set free node.left) a b);
    } in
    let more_triples : AreTriples sums shift (take (i + 1) e.rows) node triples =
    λ z y x low less here there beyond.
    c.add_threes.ensures.added z y x low less
    ∙ ap (λ n. word_at c.loop-ballot.triples z y x + n) (parts-same row.0 free approved z y x three c.common-approved.ensures here there beyond)
    ∙ ap (λ n. word_at c.loop-ballot.triples z y x + part (has_member row.0 z) (has_member row.0 y) (has_member row.0 x) (row.1 * n)) c.triple_with-triple.ensures.value
    ∙ ap (λ n. n + part (has_member row.0 z) (has_member row.0 y) (has_member row.0 x) (row.1 * one row)) (inv.triples z y x low less here there beyond)
    ∙ sym (triple-more e.rows i row at one z y x) in
    let all_give = most_sum sums in
    let small_constant : row.1 * cubic.constant ≤ row.1 * (all_give * 2 ^ 13) = mul-le-mul_left row.1 is.constant_small in
    let small_worth : row.1 * cubic.worth ≤ row.1 * all_give = mul-le-mul_left row.1 is.worth_small in
    let voters = ap (λ n. n * all_give) (voters-more e valid i row at) in
    record {
      made = c.of_ballot-majorant.ensures.same ∙ inv.made;
      cubics = subst (λ n. AreCubics sums shift (take n e.rows) node totals.constant totals.worths overlaps) next more;
      small_constant = subst (λ n. totals.constant ≤ voter_count (take n e.rows) * (all_give * 2 ^ 13)) next (omega (arith, c.add_worths.ensures.constant, small_constant, voters, inv.small_constant));
      small_worths = λ n. subst (λ x. get_or totals.worths n 0 ≤ voter_count (take x e.rows) * (all_give * 2 ^ 8)) next
          (omega (arith, small_worth, voters, inv.small_worths n, c.add_worths.ensures.worths n, part-most (has_member approved n) (row.1 * cubic.worth)));
      self_overlaps = λ a b one other. omega (arith, inv.self_overlaps a b one other, pair a b other, pair a a one, portion-self (has_member approved a) (has_member approved b) two);
      kept = c.add_threes.ensures.kept ∙ inv.kept;
      triples = subst (λ n. AreTriples sums shift (take n e.rows) node triples) next more_triples;
      small_triples = λ z y x low less. subst (λ n. word_at triples z y x ≤ voter_count (take n e.rows) * all_give) next
          (omega (
            arith,
            triple-small g (goal.at.loop-ballot-preserved g c).After-triple_with-triple,
            voters,
            inv.small_triples z y x low less,
            c.add_threes.ensures.added z y x low less,
            three-most (has_member approved z) (has_member approved y) (has_member approved x) three,
          ));
      small_overlaps = λ a b low. subst (λ x. overlap_at overlaps a b ≤ voter_count (take x e.rows) * all_give) next
          (omega (arith, overlap-small g at_, voters, inv.small_overlaps a b low, pair a b low, portion-most (has_member approved a) (has_member approved b) two));
    }

pub returns-clause-cubics : goal.returns-clause-cubics
returns-clause-cubics g c =
    let e = c.args.self.now.profile.now in
    let totals = c.loop-ballot.totals in
    let all = all_passed e.rows (c.into_iter-ballot-iterator.ensures.into_iter_gives ∙ c.ballots-ballot-items.ensures.rows) c.loop-ballot.yielded c.loop-ballot.yielded_by c.in-None.ensures.steps.0 in
    subst (λ rows. AreCubics c.args.self.now.given.now.sums c.args.self.now.shift rows c.args.node.now totals.constant totals.worths totals.overlaps) all c.loop-ballot.invariant.cubics

pub returns-clause-small : goal.returns-clause-small
returns-clause-small g c =
    let e = c.args.self.now.profile.now in
    let all_give = most_sum c.args.self.now.given.now.sums in
    let few = sum_by-take-le (λ (r : Row). r.1) e.rows (length c.loop-ballot.yielded) in
    let fits : voter_count (take (length c.loop-ballot.yielded) e.rows) * all_give ≤ voter_count e.rows * all_give = mul-le-mul_right all_give few in
    let inv = c.loop-ballot.invariant in
    record {
      constant_small = omega (arith, inv.small_constant, fits, c.args.self.now.fits);
      worths_small = λ n. omega (arith, inv.small_worths n, fits, c.args.self.now.fits);
      overlaps_small = λ a b low. omega (arith, inv.small_overlaps a b low, fits, c.args.self.now.fits);
      overlaps_self = inv.self_overlaps;
    }

pub returns-clause-valid : goal.returns-clause-valid
returns-clause-valid g c = c.ballots-ballot-items.ensures.valid

pub returns-clause-kept : goal.returns-clause-kept
returns-clause-kept g c = c.loop-ballot.invariant.kept

pub returns-clause-triples : goal.returns-clause-triples
returns-clause-triples g c =
    let e = c.args.self.now.profile.now in
    let all = all_passed e.rows (c.into_iter-ballot-iterator.ensures.into_iter_gives ∙ c.ballots-ballot-items.ensures.rows) c.loop-ballot.yielded c.loop-ballot.yielded_by c.in-None.ensures.steps.0 in
    subst (λ rows. AreTriples c.args.self.now.given.now.sums c.args.self.now.shift rows c.args.node.now c.loop-ballot.triples) all c.loop-ballot.invariant.triples
