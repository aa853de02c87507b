use Rattle.std.proofs.Common.{◌∙◌, List, ℕ, map, sym, ap, lit<}
use Rattle.std.specs.Prelude.{◌==◌}
use Rattle.std.specs.Vec.{vec_items}
use Rattle.std.specs.List.{slice_split}
use Rattle.std.specs.Str.Iter.{split_has_more, split_pattern, split_text}
use Rattle.std.proofs.lemmas.Iterator.Splits.{YieldsList-from_str_split}
use Rattle.request_words.specs.NumberList.{all_there, entry_of}
use Rattle.request_words.proofs.NumberListLemmas.{begun, broken_off, ended, gone_on, none_left, with_front, word_taken}
use Rattle.request_words.proofs.number_list.list_of.Goals as goal

pub loop-entry-init : goal.loop-entry-init
loop-entry-init c =
    let same = c.into_iter-entry-iterator.ensures.into_iter_gives in
    let split = c.split-entry-items.ensures in (
      tt,
      tt,
      slice_split (λ b. b == 44) c.args.text.now,
      (YieldsList-from_str_split 44 c.args.text.now (lit< tt) (ap split_text same ∙ split.text) (ap split_has_more same ∙ split.has_more)
          (ap split_pattern same ∙ split.pattern)).runs,
      rw c.new-numbers.ensures.items (begun c.args.text.now),
    )

pub returns-in_default : goal.returns-in_default
returns-in_default c =
    let kept = c.loop-entry.invariant in
    let taken = word_taken c.loop-entry.entry-iterator c.next.new.self c.in-Some.entry kept.2 kept.3 c.in-Some.ensures.steps in
    sym (kept.4 ∙ ap (λ words. with_front (vec_items c.loop-entry.numbers) (all_there (map entry_of words))) taken.1
    ∙ broken_off (vec_items c.loop-entry.numbers) c.in-Some.entry.now taken.0 (sym c.entry_of.ensures ∙ c.in_default.is))

pub loop-entry-preserved : goal.loop-entry-preserved
loop-entry-preserved c =
    let kept = c.loop-entry.invariant in
    let taken = word_taken c.loop-entry.entry-iterator c.next.new.self c.in-Some.entry kept.2 kept.3 c.in-Some.ensures.steps in (
      tt,
      tt,
      taken.0,
      taken.2,
      kept.4 ∙ ap (λ words. with_front (vec_items c.loop-entry.numbers) (all_there (map entry_of words))) taken.1
          ∙ gone_on (vec_items c.loop-entry.numbers) c.in-Some-entry_of.number c.in-Some.entry.now taken.0 (sym c.entry_of.ensures ∙ c.in-Some-entry_of.is)
          ∙ ap (λ front. with_front front (all_there (map entry_of taken.0))) (sym {A = List ℕ} c.in_ok-push.ensures.items),
    )

pub returns : goal.returns
returns c =
    let kept = c.loop-entry.invariant in
    let none = none_left c.loop-entry.entry-iterator c.next.new.self kept.2 kept.3 c.in-None.ensures.steps in
    sym (kept.4 ∙ ap (λ words. with_front (vec_items c.loop-entry.numbers) (all_there (map entry_of words))) none ∙ ended (vec_items c.loop-entry.numbers))
