use Rattle.std.proofs.Common.{◌≡◌, ◌∙◌, ℕ, Bool, true, false, List, Option, refl, ap, subst, arith, length}
use Rattle.std.specs.Prelude.{MatchOption, ⊤}
use Rattle.std.specs.Bool.{then_some}
use Rattle.std.proofs.lemmas.Bool.{eqb-true}
use Rattle.ballot_base.specs.Lists.{IsIncreasing}
use Rattle.tie_walk.specs.Values.{Thiele}
use Rattle.row_multipliers.proofs.CompletionLemmas.{candidates-among}
use Rattle.thiele_search.proofs.thiele.ThieleSearchSearchable.good_committee.Goals as goal

-- what is given is there under the condition
some-if : (b : Bool) (set : List ℕ) (Is : List ℕ → Type 0) → (b ≡ true → Is set) → (answer : Option (List ℕ)) → answer ≡ then_some b set → MatchOption answer ⊤ Is
some-if true set Is is answer same = rw same (is refl)
some-if false set Is is answer same = rw same tt

pub returns : goal.returns
returns g c =
    let size : c.m.result ≡ c.args.self.now.election.m = c.m.ensures.value ∙ ap (λ (x : Thiele). x.election.m) c.self.view_is in
    some-if _ c.common-committee.result (λ set. IsIncreasing 1 c.args.self.now.election.m set × (length set ≡ c.args.k))
    (λ same. (
      subst (λ n. IsIncreasing 1 n c.common-committee.result) size
          (candidates-among c.m.result c.all.result _ c.common-committee.result c.all.ensures c.common-committee.ensures),
      omega (arith, c.len.ensures.count, eqb-true c.len.result c.args.k same),
    )) c.then_some.result c.then_some.ensures
