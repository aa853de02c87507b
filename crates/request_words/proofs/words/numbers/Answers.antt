use Rattle.std.specs.Vec.{vec_items}
use Rattle.request_words.proofs.WordsLemmas.{list_given, list_is_some}
use Rattle.request_words.proofs.words.numbers.Goals as goal

pub returns-clause-some : goal.returns-clause-some
returns-clause-some c = list_is_some vec_items c.args.option c.args.text.now c.ok_or.result
    (list_given vec_items c.args.option c.args.text.now c.in_ok-list_of.field-0 c.ok_or.result c.in_ok-list_of.ensures c.ok_or.ensures.value)
