use Rattle.std.proofs.Common.{sym, ◌∙◌}
use Rattle.preflib_text.proofs.MetadataLemmas.{told_of-two, told_of-three, told_of-more}
use Rattle.preflib_text.proofs.metadata.told_by.Goals as goal

pub returns-then-is_empty : goal.returns-then-is_empty
returns-then-is_empty c =
    c.told_by_two.ensures
    ∙ told_of-two c.args.key.now c.first_word-first.result.word.now c.first_word-second.result.word.now c.first_word-third.result.word.now _ _ _ c.args.value.now
    c.first_word-first.ensures.word c.first_word-second.ensures.word c.first_word-third.ensures.word c.first_word-third.ensures.end (sym c.if-is_empty.ensures)

pub returns-then-is_empty-2 : goal.returns-then-is_empty-2
returns-then-is_empty-2 c =
    c.told_by_three.ensures
    ∙ told_of-three c.args.key.now c.first_word-first.result.word.now c.first_word-second.result.word.now c.first_word-third.result.word.now c.first_word.result.word.now _ _ _ _ c.args.value.now
    c.first_word-first.ensures.word c.first_word-first.ensures.end c.first_word-second.ensures.word c.first_word-second.ensures.end c.first_word-third.ensures.word (sym c.if-is_empty.ensures)
    c.first_word.ensures.word c.first_word.ensures.end (sym c.if-is_empty-2.ensures)

pub returns-else-is_empty-2 : goal.returns-else-is_empty-2
returns-else-is_empty-2 c =
    told_of-more c.args.key.now c.first_word-first.result.word.now c.first_word-second.result.word.now c.first_word-third.result.word.now c.first_word.result.word.now _ _ _ _ c.args.value.now
    c.first_word-first.ensures.word c.first_word-first.ensures.end c.first_word-second.ensures.word c.first_word-second.ensures.end c.first_word-third.ensures.word (sym c.if-is_empty.ensures)
    c.first_word.ensures.word (sym c.if-is_empty-2.ensures)
