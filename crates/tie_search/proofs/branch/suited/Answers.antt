use Rattle.std.proofs.Common.{◌≡◌, ◌∙◌, [], arith, inl, inr, ap, get_or, subst, sym}
use Rattle.std.proofs.lemmas.Bool.{cases_eq}
use Rattle.std.proofs.lemmas.List.{get_or_default}
use Rattle.tie_search.specs.Steps.Branches.{IsUnsuited}
use Rattle.tie_search.proofs.branch.suited.Goals as goal

pub loop-i-preserved : goal.loop-i-preserved
loop-i-preserved c = record {
  none = λ j low. elim (cases_eq j c.loop-i.i) [
    | inl same ↦
        let committees = c.args.committees.now in
        let at : get_or committees c.loop-i.i [] ≡ c.index-committees-i.result =
        get_or_default committees c.loop-i.i [] c.index-committees-i.result c.loop-i-test.true ∙ sym c.index-committees-i.is in
        let here : get_or committees j [] ≡ c.index-committees-i.result = ap (λ n. get_or committees n []) same ∙ at in
        subst (IsUnsuited c.args.branch.now c.args.clones.now) (sym here) (c.suits.ensures c.if-suits.false)
    | inr other ↦ c.loop-i.invariant.none j (omega (arith, low, other))
  ];
}

pub returns : goal.returns
returns c i low = c.loop-i.invariant.none i (omega (arith, low, c.loop-i-test.false))
