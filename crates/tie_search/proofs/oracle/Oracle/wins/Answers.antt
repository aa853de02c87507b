use Rattle.std.proofs.Common.{◌≡◌, ◌∙◌, arith, length, sym, true}
use Rattle.std.proofs.lemmas.Bool.{leb-true}
use Rattle.ballot_base.specs.Limits.{most_candidates}
use Rattle.tie_search.specs.Steps.Branches.{completes}
use Rattle.tie_search.proofs.BranchLemmas.{best-from, completes-up}
use Rattle.tie_search.proofs.oracle.Oracle.wins.Goals as goal

pub value-requires : goal.value-requires
value-requires g c =
    let oracle = c.args.self.now in
    let whole : completes c.args.branch.now c.args.set ≡ true = sym c.completes.ensures ∙ c.if-not-completes.false in
    completes-up (g.S.Tally.candidates oracle.search) oracle.k c.args.branch.now c.args.set most_candidates c.requires.branch c.len.ensures.valid whole

pub returns : goal.returns
returns g c reaches =
    let oracle = c.args.self.now in
    let m = g.S.Tally.candidates oracle.search in
    let branch = c.args.branch.now in
    let size : length c.args.set ≡ oracle.k = omega (arith, c.if-len-self.false, c.len.ensures.count) in
    let whole : completes branch c.args.set ≡ true = sym c.completes.ensures ∙ c.if-not-completes.false in
    record {
      best = best-from (g.S.Tally.value_of oracle.search) m oracle.k c.args.set (completes-up m oracle.k branch c.args.set most_candidates c.requires.branch c.len.ensures.valid whole) size
          (omega (arith, leb-true oracle.value c.value.result reaches, c.value.ensures, c.requires.knows.best_is));
      whole = whole;
    }
