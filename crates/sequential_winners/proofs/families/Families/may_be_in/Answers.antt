use Rattle.std.proofs.Common.{◌≡◌, ◌-◌, ◌∙◌, sym, ap, length}
use Rattle.ballot_base.specs.CandSet.{common_members, includes, members_upto}
use Rattle.sequential_winners.specs.Clones.{without_clones}
use Rattle.sequential_winners.specs.Families.{Sequential}
use Rattle.sequential_winners.proofs.AloneLemmas.{most-lacks, least-lacks}
use Rattle.sequential_winners.proofs.families.Families.may_be_in.Goals as goal
use Rattle.sequential_winners.proofs.families.Families.may_be_in.Goals.{then-not-includes-via-then-not-includes, then-not-includes-via-else-not-includes+then-not-includes-2}

pub returns-then-not-includes : goal.returns-then-not-includes
returns-then-not-includes g c =
    let s : Sequential = c.args.self.now in
    let e = s.election in
    let least = c.args.family.0 in
    let most = c.args.family.1 in
    let set = c.args.set in
    let alone-is : c.self.inside.alone ≡ without_clones e.m e.rows = c.self.invariant.2 ∙ ap (λ (t : Sequential). without_clones t.election.m t.election.rows) c.self.view_is in
    elim c.then-not-includes.branch [
      | then-not-includes-via-then-not-includes w ↦
          sym (most-lacks e.m e.rows c.args.c set (s.k - length set) c.args.family c.requires.within c.requires.set c.requires.least_set c.requires.most_set
          (sym (c.includes.ensures ∙ ap (includes most) (c.common.ensures ∙ ap (common_members set) alone-is)) ∙ w.if-not-includes.true))
      | then-not-includes-via-else-not-includes+then-not-includes-2 w ↦
          sym (least-lacks e.m e.rows c.args.c set (s.k - length set) c.args.family c.requires.within c.requires.set c.requires.least_set c.requires.most_set
          (sym (w.includes-else-not-includes.ensures ∙ ap (includes set) (w.upto.ensures ∙ ap (λ l. members_upto l c.args.c) (w.common-else-not-includes.ensures ∙ ap (common_members least) alone-is))) ∙ w.if-not-includes-2.true))
    ]
