use Rattle.std.proofs.Common.{◌≡◌, ◌≤◌, ◌∙◌, length, ap, subst}
use Rattle.ballot_base.specs.Lists.{IsIncreasing}
use Rattle.sequential_winners.specs.Clones.{clone_count}
use Rattle.sequential_winners.specs.Families.{Sequential}
use Rattle.sequential_winners.proofs.TableLemmas.{own-count}
use Rattle.sequential_winners.proofs.families.Families.count.Goals as goal

pub returns : goal.returns
returns g c =
    let f = c.self.inside in
    let e = f.levels.choices.profile.now in
    subst (λ (s : Sequential). IsIncreasing 1 s.election.m c.args.set → c.args.c ≤ s.election.m → c.len.result ≡ clone_count s.election.rows c.args.set c.args.c) c.self.view_is
    (λ up high. c.len.ensures.count ∙ ap length c.common.ensures ∙ own-count e.m e.rows f.levels.clones c.args.c c.class.result c.args.set f.levels.classes c.requires.low high c.class.ensures up) c.requires.set c.requires.high
