use Rattle.std.proofs.Common.{◌<◌, ◌∙◌, inl, inr, sym, ap, subst}
use Rattle.std.proofs.lemmas.Bool.{cases_eq}
use Rattle.ballot_base.specs.CandSet.{has_member}
use Rattle.ballot_base.specs.Limits.{most_candidates}
use Rattle.row_multipliers.proofs.MemberLemmas.{first-in, later-in, others-same}
use Rattle.row_multipliers.proofs.SearchLemmas.{rest-increasing}
use Rattle.thiele_bounds.specs.Steps.Paired.{overlap_at}
use Rattle.thiele_bounds.specs.Steps.Threes.{IsPart}
use Rattle.thiele_bounds.proofs.PairBounds.PartLemmas.{later-not, part-from}
use Rattle.thiele_bounds.proofs.triples.share_pairs.Goals as goal

pub loop-i-preserved : goal.loop-i-preserved
loop-i-preserved c =
    let worths = c.args.worths.now in
    let node = c.args.node.now in
    let left = c.loop-i.i-iterator in
    let rest = c.next.new.self in
    let first = c.in-Some.i in
    let steps = c.in-Some.ensures.steps in
    let inv = c.loop-i.invariant in
    record {
      rises = (rest-increasing most_candidates left rest first steps inv.rises).1;
      among = λ x is. inv.among x (later-in left rest first steps inv.rises x is);
      made = λ x in_ gone y there low. elim (cases_eq x first) [
        | inl same ↦
            subst (λ n. IsPart worths c.args.pairs.now node.left c.args.most n y (overlap_at c.share_row.new.pairs n y)) (sym same)
            (part-from worths c.loop-i.pairs c.args.pairs.now node.left c.args.most first y (overlap_at c.share_row.new.pairs first y) (inv.others first y (subst (λ n. y < n) same low) (first-in left rest first steps inv.rises))
            (c.share_row.ensures.made y there (subst (λ n. y < n) same low)))
        | inr other ↦
            subst (λ n. IsPart worths c.args.pairs.now node.left c.args.most x y n) (sym (c.share_row.ensures.others x y low other))
            (inv.made x in_ (others-same left rest first steps inv.rises x other ∙ gone) y there low)
      ];
      others = λ a b low in_. c.share_row.ensures.others a b low (later-not left rest first steps inv.rises a in_) ∙ inv.others a b low (later-in left rest first steps inv.rises a in_);
    }

pub returns : goal.returns
returns c i j in_ there low = c.loop-i.invariant.made i in_ (ap (λ xs. has_member xs i) c.in-None.ensures.steps.0) j there low
