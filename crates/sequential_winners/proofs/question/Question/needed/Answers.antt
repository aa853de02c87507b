use Rattle.std.proofs.Common.{◌∙◌, ap}
use Rattle.ballot_base.specs.CandSet.{without_member}
use Rattle.sequential_winners.proofs.BranchLemmas.{after-increasing, without-tied}
use Rattle.sequential_winners.proofs.question.Question.needed.Goals as goal

pub has_between-requires-clause-end : goal.has_between-requires-clause-end
has_between-requires-clause-end g c =
    let q = c.args.self.now in
    let choices = q.levels.now.choices in
    let tied = without-tied choices.rule choices.profile.now c.args.from c.without.result c.in_ok-next.next (c.without.ensures ∙ ap (λ l. without_member l c.in_ok-next.next) c.requires.ties) in
    after-increasing choices.rule choices.profile.now c.args.from c.requires.from c.without.result tied.0 tied.1 c.after_all.result c.after_all.ensures
