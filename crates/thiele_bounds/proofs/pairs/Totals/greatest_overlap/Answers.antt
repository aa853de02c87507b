use Rattle.std.proofs.Common.{ap, arith, inl, inr, get_or}
use Rattle.std.proofs.lemmas.Bool.{cases_eq}
use Rattle.thiele_bounds.proofs.pairs.Totals.greatest_overlap.Goals as goal

pub loop-candidate-init : goal.loop-candidate-init
loop-candidate-init c = record { most = λ n low. absurd (omega (arith, low)); small = omega arith }

pub loop-candidate-preserved : goal.loop-candidate-preserved
loop-candidate-preserved c =
    let at = ap (λ n. get_or c.args.self.now.overlaps n 0) c.place.ensures in
    record {
      most = λ n low. elim (cases_eq n c.loop-candidate.candidate) [
        | inl same ↦ rw same (omega (arith, c.max-greatest.ensures, at))
        | inr other ↦ omega (arith, c.loop-candidate.invariant.most n (omega (arith, low, other)), c.max-greatest.ensures)
      ];
      small = omega (
        arith,
        c.max-greatest.ensures,
        c.loop-candidate.invariant.small,
        c.requires.small.overlaps_small c.loop-candidate.candidate c.loop-candidate.candidate (omega (arith, c.loop-candidate-test.true)),
        at,
      );
    }

pub returns-clause-most : goal.returns-clause-most
returns-clause-most c i j row column = omega (arith, c.requires.small.overlaps_self i j row column, c.loop-candidate.invariant.most i (omega (arith, row, c.loop-candidate-test.false)))

pub returns-clause-small : goal.returns-clause-small
returns-clause-small c = c.loop-candidate.invariant.small
