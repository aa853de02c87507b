use Rattle.std.proofs.Common.{◌≡◌, sym, subst}
use Rattle.std.specs.List.{AllByRecursion}
use Rattle.ballot_base.specs.Lists.{IsIncreasing, increasing_lists, later_than}
use Rattle.tie_walk.proofs.StartLemmas.{all-later_than}
use Rattle.tie_walk.proofs.WinnersLemmas.{committees-increasing}
use Rattle.answer_tests.proofs.tests.walks.walk.assert_later.Goals as goal

pub loop-committee-init : goal.loop-committee-init
loop-committee-init g c =
    let m = c.m-m.result in
    let all = increasing_lists 1 m c.args.k in
    let sets : c.into_iter-committee-iterator.result ≡ later_than c.args.start all = cc (c.into_iter-committee-iterator.ensures.into_iter_gives, c.later_committees-committee-items.ensures) in
    subst (λ sets. AllByRecursion (λ set. IsIncreasing 1 m set) sets) (sym sets)
    (all-later_than (λ set. IsIncreasing 1 m set) c.args.start all (committees-increasing m c.args.k))
