use Rattle.std.proofs.Common.{◌++◌, ◌∙◌, ap, map, rules, subst, sym}
use Rattle.std.proofs.lemmas.Result.{IfOk-weaker}
use Rattle.clap.specs.declared.builder.arg.Arg.{Arg}
use Rattle.std.specs.Prelude.{List}
use Rattle.request_words.specs.Steps.Commands.{AreArguments, AreOwnAndShared, IsArgument, argument_of}
use Rattle.request_words.proofs.CommandLemmas.{joined}
use Rattle.request_words.proofs.commands.arguments.Goals as goal

pub returns : goal.returns
returns c =
    let own = map argument_of c.args.own.now in
    let first = c.in_ok-own.ensures in
    let none = c.new.ensures.items in
    IfOk-weaker c.with_rows-2.result _ (λ args. AreOwnAndShared own args.items) (λ r h.
    let all = h.1 ∙ ap (λ (l : List Arg). l ++ h.0) (first.1 ∙ ap (λ (l : List Arg). l ++ first.0) none) in (
      _,
      search rules,
      subst (AreArguments _) (sym all) (joined IsArgument own _ first.0 h.0 first.2 h.2),
    )) c.with_rows-2.ensures
