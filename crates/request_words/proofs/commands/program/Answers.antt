use Rattle.std.proofs.Common.{◌∙◌, ap, rules, subst, sym, true}
use Rattle.std.proofs.lemmas.Result.{IfOk-weaker}
use Rattle.clap.specs.Built.{AddsInTurn, AddsSubcommand}
use Rattle.clap.specs.Simple.{app_of_fields}
use Rattle.clap.specs.Words.{App, app_of, shape_of, with_subcommand}
use Rattle.request_words.specs.Steps.Commands.{IsProgram}
use Rattle.request_words.proofs.CommandLemmas.{three_commands}
use Rattle.request_words.proofs.commands.program.Goals as goal

pub returns : goal.returns
returns c =
    let (elect, check, share, are, first, second, third) = three_commands _ _ c.in_ok-commands.ensures in
    let about = ap app_of_fields c.after_long_help.ensures ∙ ap app_of_fields c.about.ensures ∙ c.new.ensures.app in
    let bare = ap app_of_fields c.subcommand_required.ensures
    ∙ ap (λ (a : App). record a { top = record a.top { subcommand_required = true } }) about in
    IfOk-weaker c.subcommands.result _ IsProgram (λ r h.
    let turns = subst (λ commands. AddsInTurn AddsSubcommand c.subcommand_required.result commands r) are h in
    let one = turns.1.shape first.3 ∙ ap (λ a. with_subcommand a (shape_of elect)) bare in
    let two = turns.2.1.shape second.3 ∙ ap (λ a. with_subcommand a (shape_of check)) one in
    let all = turns.2.2.1.shape third.3 ∙ ap (λ a. with_subcommand a (shape_of share)) two in (
      elect,
      check,
      share,
      (_, first.0, search rules, first.1, first.2, first.3),
      (_, second.0, search rules, second.1, second.2, second.3),
      (_, third.0, search rules, third.1, third.2, third.3),
      ap app_of (sym turns.2.2.2) ∙ all,
    )) c.subcommands.ensures
