use Rattle.std.proofs.Common.{◌∙◌, sym, lit<}
use Rattle.request_words.proofs.NumberListLemmas.{entry_parsed, entry_with_plus}
use Rattle.request_words.proofs.number_list.entry_of.Goals as goal

pub returns-then-starts_with : goal.returns-then-starts_with
returns-then-starts_with c = sym (entry_with_plus c.args.text.now (sym (c.starts_with.ensures.byte (lit< tt) (lit< tt) (λ w o h. h)) ∙ c.if-starts_with.true))

pub returns : goal.returns
returns c = c.ok.ensures.value
    ∙ entry_parsed c.args.text.now c.parse.result (sym (c.starts_with.ensures.byte (lit< tt) (lit< tt) (λ w o h. h)) ∙ c.if-starts_with.false) c.parse.ensures.value.0
