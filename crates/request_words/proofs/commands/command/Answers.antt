use Rattle.std.proofs.Common.{◌++◌, ◌∙◌, ap, map}
use Rattle.std.proofs.lemmas.Result.{IfOk-weaker}
use Rattle.std.specs.Prelude.{fold}
use Rattle.clap.specs.Simple.{app_of_fields}
use Rattle.clap.specs.Words.{App, new_app, with_rule}
use Rattle.request_words.specs.Words.{input_arguments}
use Rattle.request_words.specs.Steps.Commands.{HasArguments, argument_of}
use Rattle.request_words.proofs.CommandLemmas.{arguments_added, arguments_of}
use Rattle.request_words.proofs.commands.command.Goals as goal

pub returns : goal.returns
returns c =
    let name = c.args.row.name.now in
    let own = map argument_of c.args.row.own.now in
    let all = c.in_ok-arguments.ensures in
    let arguments = own ++ input_arguments all.0 in
    let new = ap app_of_fields c.after_long_help.ensures ∙ ap app_of_fields c.about.ensures ∙ c.new.ensures.app in
    let local = ap (λ f. f.has_globals) c.after_long_help.ensures ∙ ap (λ f. f.has_globals) c.about.ensures ∙ c.new.ensures.local in
    IfOk-weaker c.args-2.result _ (HasArguments name own) (λ r h.
    let added = arguments_added _ r arguments _ h all.2 in (
      all.0,
      all.1,
      ap (λ (a : App). a.top) (added.0 ∙ ap (λ (a : App). fold with_rule a arguments) new) ∙ arguments_of (new_app name) arguments,
      added.1 ∙ local,
    )) c.args-2.ensures
