use Rattle.std.proofs.Common.{ℕ, List, Option, None, Some}
use Rattle.std.specs.Prelude.{MatchOption}
use Rattle.row_multipliers.specs.Completions.{IsOutOfReach}
use Rattle.tie_walk.specs.Values.{tally_value}
use Rattle.row_multipliers.specs.Steps.Narrowed.{IsNarrowed}
use Rattle.row_multipliers.proofs.NarrowedLemmas.{narrowed-more, narrowed-out}
use Rattle.thiele_search.proofs.thiele.ThieleSearch.eligible.Goals as goal

-- narrowed further
further : (value : List ℕ → ℕ) (m : ℕ) (set free : List ℕ) (left least : ℕ) (rest : List ℕ) → IsNarrowed value m set free left least rest → (answer : Option (List ℕ))
    → MatchOption answer (IsOutOfReach value m set rest left least) (IsNarrowed value m set rest left least)
    → MatchOption answer (IsOutOfReach value m set free left least) (IsNarrowed value m set free left least)
further value m set free left least rest narrowed None out = narrowed-out value m set free rest left least narrowed out
further value m set free left least rest narrowed (Some fewer) more = narrowed-more value m set free rest left least narrowed fewer more

pub returns : goal.returns
returns g c =
    let tally = c.args.self.now in
    let node = c.args.node.now in
    let V = tally_value tally in
    let m = tally.election.m in
    further V m node.set node.free node.left c.args.least c.in_ok-free.free c.in_ok-free.ensures c.moved.result
    (further V m node.set c.in_ok-free.free node.left c.args.least c.in_ok-free-2.free c.in_ok-free-2.ensures c.moved.result c.moved.ensures)
