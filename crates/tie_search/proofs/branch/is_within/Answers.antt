use Rattle.std.proofs.Common.{◌∙◌, sym}
use Rattle.tie_search.proofs.BranchLemmas.{completes-within}
use Rattle.tie_search.proofs.branch.is_within.Goals as goal

pub returns-then-includes : goal.returns-then-includes
returns-then-includes c is = completes-within c.args.other.now c.args.branch.now (sym c.includes.ensures ∙ c.if-includes.true) (rw (c.union-all.ensures, c.union.ensures) at (sym c.includes-then-includes.ensures ∙ is))
