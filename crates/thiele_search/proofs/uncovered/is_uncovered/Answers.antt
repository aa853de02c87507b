use Rattle.std.proofs.Common.{◌==◌, ◌&&◌, ◌∙◌, not, sym, ap}
use Rattle.ballot_base.specs.Ballots.{hits}
use Rattle.thiele_search.proofs.UncoveredLemmas.{empty-hits}
use Rattle.thiele_search.proofs.uncovered.is_uncovered.Goals as goal

pub returns-then-is_empty : goal.returns-then-is_empty
returns-then-is_empty c =
    let none = empty-hits c.args.ballot c.args.set c.is_empty.result (rw c.common.ensures at c.is_empty.ensures) in
    let some = empty-hits c.args.ballot c.args.free c.is_empty-then-is_empty.result (rw c.common-then-is_empty.ensures at c.is_empty-then-is_empty.ensures) in
    sym (ap (λ b. b && not (hits c.args.ballot c.args.free == 0)) (none ∙ c.if-is_empty.true) ∙ ap not some)

pub returns-else-is_empty : goal.returns-else-is_empty
returns-else-is_empty c =
    let none = empty-hits c.args.ballot c.args.set c.is_empty.result (rw c.common.ensures at c.is_empty.ensures) in
    c.if-is_empty.false ∙ sym (ap (λ b. b && not (hits c.args.ballot c.args.free == 0)) (none ∙ c.if-is_empty.false))
