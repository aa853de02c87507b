use Rattle.preflib_text.proofs.MetadataLemmas.{word_at, word_is_last, word_has_bytes}
use Rattle.preflib_text.proofs.metadata.first_word.Goals as goal

pub returns-in-Some-clause-word : goal.returns-in-Some-clause-word
returns-in-Some-clause-word c = word_at c.args.text.now c.trim_start-text.result.now c.in-Some.at c.trim_start-text.ensures c.in-Some.ensures.0.high c.in-Some.ensures.1 c.in-Some.ensures.0.before

pub returns-in-Some-clause-end : goal.returns-in-Some-clause-end
returns-in-Some-clause-end c = word_has_bytes c.args.text.now c.trim_start-text.result.now c.in-Some.at c.trim_start-text.ensures c.in-Some.ensures.0.high c.in-Some.ensures.1

pub returns-in-None-clause-word : goal.returns-in-None-clause-word
returns-in-None-clause-word c = word_is_last c.args.text.now c.trim_start-text.result.now c.trim_start-text.ensures c.in-None.ensures
