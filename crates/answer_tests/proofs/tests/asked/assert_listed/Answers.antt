use Rattle.std.proofs.Common.{◌≡◌, sym, subst}
use Rattle.std.specs.List.{AllByRecursion}
use Rattle.ballot_base.specs.Lists.{IsIncreasing, increasing_lists}
use Rattle.tie_walk.proofs.WinnersLemmas.{committees-increasing}
use Rattle.answer_tests.proofs.tests.asked.assert_listed.Goals as goal

pub loop-committee-init : goal.loop-committee-init
loop-committee-init g c =
    let sets : c.into_iter-committee-iterator.result ≡ increasing_lists 1 c.m-m.result c.args.k = cc (c.into_iter-committee-iterator.ensures.into_iter_gives, c.new-committee-items.ensures) in
    subst (λ sets. AllByRecursion (λ set. IsIncreasing 1 c.m-m.result set) sets) (sym sets) (committees-increasing c.m-m.result c.args.k)
