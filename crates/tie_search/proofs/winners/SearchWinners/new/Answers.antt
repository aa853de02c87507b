use Rattle.std.proofs.Common.{ℕ, List, ◌∙◌, ap, subst, sym}
use Rattle.tie_search.specs.Tied.{AreBest, IsBest}
use Rattle.tie_search.specs.Steps.Branches.{IsBegun, first_branches}
use Rattle.tie_search.specs.Steps.Found.{HasSome, IsKnown}
use Rattle.tie_search.specs.Steps.Searched.{IsSearched}
use Rattle.tie_search.specs.declared.found.Tied.{Tied}
use Rattle.tie_search.specs.declared.found.Tied.TheVariants.{Known, Listed}
use Rattle.tie_search.proofs.ListLemmas.{nothing-within}
use Rattle.tie_search.proofs.StartLemmas.{begun-from}
use Rattle.tie_search.proofs.winners.SearchWinners.new.Given.{Over}
use Rattle.tie_search.proofs.winners.SearchWinners.new.Goals as goal
use Rattle.tie_search.proofs.winners.SearchWinners.new.Goals.{After-value}

-- the first committee that is known is one with the highest value
known-best : (value : List ℕ → ℕ) (class : ℕ → List ℕ) (m k : ℕ) (tied : Tied) (committee : List ℕ) → AreBest value class m k tied → IsKnown tied committee → IsBest value m k committee
known-best value class m k (Listed committees) committee best known = best.each committee known
known-best value class m k (Known one) committee best same = subst (IsBest value m k) (sym same) best

has-some : (value : List ℕ → ℕ) (class : ℕ → List ℕ) (m k : ℕ) (tied : Tied) → AreBest value class m k tied → HasSome tied
has-some value class m k (Listed committees) best = best.some
has-some value class m k (Known one) best = tt

pub first-found-requires : goal.first-found-requires
first-found-requires g c = has-some (g.S.Tally.value_of c.args.search) (g.S.WithClones.class_of c.args.search) (g.S.Tally.candidates c.args.search) c.args.k c.best_committees-tied.result c.best_committees-tied.ensures

first-is : (g : Over) (c : After-value g) → IsBest (g.S.Tally.value_of c.args.search) (g.S.Tally.candidates c.args.search) c.args.k c.first-found.result
first-is g c = known-best (g.S.Tally.value_of c.args.search) (g.S.WithClones.class_of c.args.search) (g.S.Tally.candidates c.args.search) c.args.k c.best_committees-tied.result c.first-found.result c.best_committees-tied.ensures c.first-found.ensures

is-begun : (g : Over) (c : After-value g) → IsBegun (g.S.Tally.value_of c.args.search) (g.S.Tally.candidates c.args.search) c.args.k c.args.after c.begin.result
is-begun g c =
    let few = rw c.m-m.ensures.value at c.m-m.ensures.most in
    begun-from (g.S.Tally.value_of c.args.search) (g.S.Tally.candidates c.args.search) c.args.k c.args.after c.begin.result c.requires.some c.requires.fits few c.requires.start
    (c.begin.ensures.branches ∙ ap (λ m. first_branches m c.args.k c.args.after) c.m-m.ensures.value) c.begin.ensures.entered c.begin.ensures.asked (rw c.begin.ensures.found (first-is g c))

pub invariant_of-result : goal.invariant_of-result
invariant_of-result g c =
    let is = is-begun g c in
    let knows : IsSearched (g.S.Tally.value_of c.args.search) (g.S.WithClones.class_of c.args.search) (g.S.Tally.candidates c.args.search) c.m-m.result c.args.k c.value.result c.best_committees-tied.result = record {
      size = c.m-m.ensures.value;
      most = rw c.m-m.ensures.value at c.m-m.ensures.most;
      some = c.requires.some;
      fits = c.requires.fits;
      best_is = c.value.ensures ∙ (first-is g c).best;
      listed = c.best_committees-tied.ensures;
    } in
    record { knows = knows; asking_is = is.asking_is; counted = is.counted; listed = nothing-within (g.S.Tally.value_of c.args.search) (g.S.WithClones.class_of c.args.search) (g.S.Tally.candidates c.args.search) c.args.k c.nothing.result c.requires.some c.nothing.ensures.set c.nothing.ensures.free c.nothing.ensures.left c.nothing.ensures.none }

pub returns-clause-left : goal.returns-clause-left
returns-clause-left g c = (is-begun g c).left
