use Rattle.std.proofs.Common.{◌∙◌, ap, sym}
use Rattle.std.specs.Prelude.{option_map}
use Rattle.std.specs.Vec.{vec_items}
use Rattle.clap.specs.Words.{found_of, rows_of}
use Rattle.clap.proofs.WalkLemmas.{first_value-rows}
use Rattle.request_words.specs.Words.{list_in}
use Rattle.request_words.specs.Steps.Values.{Gives}
use Rattle.request_words.proofs.WordsLemmas.{list_failed, list_read, no_list, passed_on}
use Rattle.request_words.proofs.words.list_given.Goals as goal

pub returns-in_err-numbers-in-Some-clause-given : goal.returns-in_err-numbers-in-Some-clause-given
returns-in_err-numbers-in-Some-clause-given c =
    let f = found_of c.args.command.now in
    let given = sym (c.get_str.ensures ∙ first_value-rows f c.args.name.now) ∙ ap (option_map (λ s. s.now)) c.in-Some.is in
    passed_on (Gives (option_map vec_items) (list_in c.args.option c.args.name.now (rows_of f))) c.from_residual.result c.in_err-numbers-in-Some.field-0.0 c.from_residual.ensures.1
    (list_failed c.args.option c.args.name.now (rows_of f) c.in-Some.text.now c.in_err-numbers-in-Some.field-0.0 given c.in_err-numbers-in-Some.ensures.given)

pub returns-in_ok-numbers-in-Some-clause-given : goal.returns-in_ok-numbers-in-Some-clause-given
returns-in_ok-numbers-in-Some-clause-given c =
    let f = found_of c.args.command.now in
    let given = sym (c.get_str.ensures ∙ first_value-rows f c.args.name.now) ∙ ap (option_map (λ s. s.now)) c.in-Some.is in
    list_read c.args.option c.args.name.now (rows_of f) c.in-Some.text.now (vec_items c.in_ok-numbers-in-Some.field-0) given c.in_ok-numbers-in-Some.ensures.given

pub returns-in-None-clause-given : goal.returns-in-None-clause-given
returns-in-None-clause-given c =
    let f = found_of c.args.command.now in
    no_list c.args.option c.args.name.now (rows_of f) (sym (c.get_str.ensures ∙ first_value-rows f c.args.name.now) ∙ ap (option_map (λ s. s.now)) c.in-None.is)
