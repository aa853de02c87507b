use Rattle.std.proofs.Common.{rules, ◌≡◌, ◌∙◌, Bool, true, false, not, refl}
use Rattle.tie_walk.specs.Values.{tally_value}
use Rattle.row_multipliers.specs.Completions.{IsOutOfReach}
use Rattle.row_multipliers.specs.Steps.Narrowed.{IsNarrowed}
use Rattle.row_multipliers.proofs.NarrowedLemmas.{narrowed-none}
use Rattle.thiele_search.proofs.CoverLemmas.{by-condition}
use Rattle.thiele_search.proofs.thiele.ThieleSearch.by_uncovered.Goals as goal

pub lean_search-search-requires-clause-rule : goal.lean_search-search-requires-clause-rule
lean_search-search-requires-clause-rule g c = search rules

pub lean_search-search-requires-clause-some : goal.lean_search-search-requires-clause-some
lean_search-search-requires-clause-some g c = (rw c.self.view_is at c.self.inside.counts.sound).some

not-false : (b : Bool) → not b ≡ false → b ≡ true
not-false true is = refl
not-false false is = absurd cc

pub returns : goal.returns
returns g c =
    let V = tally_value c.args.self.now in
    let m = c.args.self.now.election.m in
    let node = c.args.node.now in
    by-condition (not c.lean_search-search.result.refutes) node.free (IsOutOfReach V m node.set node.free node.left c.args.least) (IsNarrowed V m node.set node.free node.left c.args.least)
    (λ short. c.lean_search-search.ensures (not-false c.lean_search-search.result.refutes short))
    (narrowed-none V m node.set node.free node.left c.args.least c.requires.is_node) c.note.result (c.note.ensures ∙ c.then_some.ensures)
