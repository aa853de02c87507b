use Rattle.std.proofs.Common.{◌≡◌, ◌*◌, ◌∙◌, Bool, true, false, sym, ap}
use Rattle.std.specs.Prelude.{nat_lt, if◌then◌else◌}
use Rattle.ballot_base.specs.CandSet.{other_members}
use Rattle.ballot_base.specs.Limits.{most_candidates}
use Rattle.tie_walk.specs.Sequences.{hit_weights}
use Rattle.tie_walk.specs.Steps.Choices.{step_of}
use Rattle.tie_walk.proofs.LevelLemmas.{in_bounds}
use Rattle.sequential_winners.specs.Steps.Levels.{begun_by, beginners_by, given_by}
use Rattle.sequential_winners.proofs.NearLemmas.{centre-is}
use Rattle.sequential_winners.proofs.StepLemmas.{beginners-are}
use Rattle.sequential_winners.proofs.levels.Levels.beginners.Goals as goal
use Rattle.sequential_winners.proofs.levels.Levels.beginners.Goals.{After-give_less}

pub of-near-requires-clause-low : goal.of-near-requires-clause-low
of-near-requires-clause-low g c = (in_bounds most_candidates c.args.ties c.in-Some.centre c.requires.valid c.in-Some.ensures.0).0

pub of-near-requires-clause-high : goal.of-near-requires-clause-high
of-near-requires-clause-high g c = (in_bounds most_candidates c.args.ties c.in-Some.centre c.requires.valid c.in-Some.ensures.0).1

-- those near the centre, or all who tie
either : (g : _) (c : After-give_less g) (b : Bool) → c.give_less.result ≡ b
    → (if b then c.of-near.result else c.args.ties) ≡ beginners_by c.args.self.now.choices.rule c.args.self.now.choices.profile.now c.args.left c.args.set
either g c b is =
    let s = c.args.self.now.choices in
    let e = s.profile.now in
    let middle = c.in-Some.centre in
    let near = c.of-near.result in
    let test : nat_lt (given_by s.rule e c.args.set (other_members c.args.ties near)) (c.args.left * c.args.best) ≡ b =
    sym (c.give_less.ensures ∙ ap (λ l. nat_lt (given_by s.rule e c.args.set l) (c.args.left * c.args.best)) c.minus.ensures) ∙ is in
    beginners-are (step_of s.rule) (hit_weights s.rule e.m) e.m e.rows c.args.left c.args.set c.args.ties c.args.best c.requires.ties c.requires.best near middle b
    (c.of-near.ensures ∙ c.nearness-near.ensures middle c.in-Some.ensures.0) test
    ∙ ap (begun_by s.rule e c.args.left c.args.set) (centre-is (step_of s.rule) (hit_weights s.rule e.m) e.m e.rows c.args.set c.args.ties c.nearness-near.result middle c.requires.ties c.requires.valid c.nearness-near.ensures c.in-Some.ensures.1)

pub returns-then-give_less : goal.returns-then-give_less
returns-then-give_less g c = either g (goal.at.returns-then-give_less g c).After-give_less true c.if-give_less.true

pub returns-else-give_less : goal.returns-else-give_less
returns-else-give_less g c = either g (goal.at.returns-else-give_less g c).After-give_less false c.if-give_less.false
