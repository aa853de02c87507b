use Rattle.std.proofs.Common.{◌≡◌, sym, subst}
use Rattle.std.specs.List.{AllByRecursion}
use Rattle.ballot_base.specs.Lists.{increasing_lists}
use Rattle.ballot_base.proofs.Committees.{IsChosen, increasing_lists-chosen}
use Rattle.answer_tests.proofs.tests.asked.assert_starts.Goals as goal

pub loop-start-init : goal.loop-start-init
loop-start-init g c =
    let sets : c.into_iter-start-iterator.result ≡ increasing_lists 1 c.args.m c.args.k = cc (c.into_iter-start-iterator.ensures.into_iter_gives, c.new-start-items.ensures) in
    subst (λ sets. AllByRecursion (IsChosen 1 c.args.m c.args.k) sets) (sym sets) (increasing_lists-chosen 1 c.args.m c.args.k)
