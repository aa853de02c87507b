use Rattle.std.proofs.Common.{◌<◌, ◌∙◌, inl, inr, sym, ap, subst}
use Rattle.std.proofs.lemmas.Bool.{cases_eq}
use Rattle.ballot_base.specs.CandSet.{has_member}
use Rattle.ballot_base.specs.Limits.{most_candidates}
use Rattle.row_multipliers.proofs.MemberLemmas.{later-in, others-same}
use Rattle.row_multipliers.proofs.SearchLemmas.{rest-increasing}
use Rattle.thiele_bounds.specs.Steps.Paired.{overlap_at}
use Rattle.thiele_bounds.specs.Steps.Threes.{IsSumOfTwo}
use Rattle.thiele_bounds.proofs.triples.Threes.fill.Goals as goal

pub loop-i-preserved : goal.loop-i-preserved
loop-i-preserved c =
    let self = c.args.self.now in
    let left = c.loop-i.i-iterator in
    let rest = c.next.new.self in
    let first = c.in-Some.i in
    let steps = c.in-Some.ensures.steps in
    let inv = c.loop-i.invariant in
    record {
      rises = (rest-increasing most_candidates left rest first steps inv.rises).1;
      among = λ x is. inv.among x (later-in left rest first steps inv.rises x is);
      made = λ x in_ gone y there low. elim (cases_eq x first) [
        | inl same ↦
            subst (λ n. IsSumOfTwo self n y (overlap_at c.fill_row.new.twos n y)) (sym same) (c.fill_row.ensures.made y there (subst (λ n. y < n) same low))
        | inr other ↦
            subst (λ n. IsSumOfTwo self x y n) (sym (c.fill_row.ensures.others x y low other))
            (inv.made x in_ (others-same left rest first steps inv.rises x other ∙ gone) y there low)
      ];
    }

pub returns : goal.returns
returns c i j in_ there low = c.loop-i.invariant.made i in_ (ap (λ xs. has_member xs i) c.in-None.ensures.steps.0) j there low
