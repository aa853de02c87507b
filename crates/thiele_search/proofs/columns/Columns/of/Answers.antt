use Rattle.std.proofs.Common.{◌∙◌, ap, arith, get_or}
use Rattle.thiele_search.proofs.ColumnLemmas.{voters-length}
use Rattle.thiele_search.proofs.columns.Columns.of.Goals as goal

pub invariant_of-result : goal.invariant_of-result
invariant_of-result g c = record {
  few = c.in_ok-blocks_of.ensures.few;
  sound = c.in-Some.ensures.0;
}

pub returns : goal.returns
returns g c = record {
  all = omega (arith, voters-length c.args.profile.now.rows, c.in_ok-blocks_of.ensures.all);
  columns = c.in_ok-blocks_of.ensures.columns;
  weights_are = λ j. c.in-Some.ensures.1 j ∙ ap (λ l. get_or l j 0) c.of.ensures.weights;
}
