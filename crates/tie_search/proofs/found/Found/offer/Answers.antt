use Rattle.std.proofs.Common.{[], ◌++◌, ◌∷◌, ◌<◌, arith, inr, length, length-append}
use Rattle.std.proofs.Math.Seq.{get_or-append_seam}
use Rattle.tie_search.proofs.found.Found.offer.Goals as goal

pub returns-else-is_full-clause-settled : goal.returns-else-is_full-clause-settled
returns-else-is_full-clause-settled c value_of is listed =
    let old = c.args.self.now.committees.items in
    let items = c.push-else-is_full.ensures.items in
    let inside : length old < length (old ++ c.args.committee ∷ []) = omega (arith, length-append old (c.args.committee ∷ [])) in
    inr (rw items (length old, inside, get_or-append_seam old c.args.committee [] []))
