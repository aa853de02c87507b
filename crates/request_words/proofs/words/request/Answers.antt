use Rattle.std.proofs.Common.{◌∙◌, codes}
use Rattle.clap.specs.Words.{found_of, rows_of}
use Rattle.clap.proofs.WalkLemmas.{first_value-rows}
use Rattle.request_words.specs.Request.{task_of}
use Rattle.request_words.proofs.WordsLemmas.{asking_is}
use Rattle.request_words.proofs.words.request.Goals as goal

pub returns : goal.returns
returns c =
    let f = found_of c.args.command.now in
    let kind = c.get_str.ensures ∙ first_value-rows f (codes "kind") in
    let path = c.get_str-2.ensures ∙ first_value-rows f (codes "file") in
    let file = c.in_ok-file.ensures ∙ c.get_str-3.ensures ∙ first_value-rows f (codes "file") in
    rw c.new.ensures (asking_is (rows_of f) (task_of c.args.task) c.in-Some.way c.pick_of-pick.result _ _ _ _
    c.in-Some.ensures.value kind file path c.pick_of-pick.ensures c.wants_names.ensures)
