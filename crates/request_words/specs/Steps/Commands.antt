-- How the commands are made.
use Rattle.std.specs.Prelude.{◌≡◌, ⊤, ◌++◌, false, List, [], ◌∷◌, map}
use Rattle.clap.specs.Simple.{new_shape}
use Rattle.clap.specs.Walk.{texts}
use Rattle.clap.specs.Words.{Shape, Text, app_of, new_rule, rule_of, shape_of, Rule as Argument}
use Rattle.clap.specs.declared.builder.arg.Arg.{Arg}
use Rattle.clap.specs.declared.builder.command.Command.{Command}
use Rattle.clap.specs.declared.builder.command.Command.TheViews.{out-Command as fields_of}
use Rattle.request_words.specs.Names.{kind_names, method_names, property_names, rule_names}
use Rattle.request_words.specs.Words.{Names, check_over, elect_over, flag_option, input_arguments, name_option}
use Rattle.request_words.specs.Words.{number_option, program_over, share_over, text_option}
use Rattle.request_words.specs.declared.commands.CommandRow.{CommandRow}
use Rattle.request_words.specs.declared.options.ArgumentRow.{ArgumentRow}
use Rattle.request_words.specs.declared.options.Takes.{Takes}
use Rattle.request_words.specs.declared.options.Takes.TheVariants.{Name, Number, List as ListOf, Nothing, File}

-- the argument of clap is this one, and no subcommand has it
abbrev pub IsArgument : Argument → Arg → Type 0
IsArgument argument a = (rule_of a ≡ argument) × (a.global ≡ false)

-- what is made of each, one for one
abbrev pub AreMade : {X Y : Type 0} → (X → Y → Type 0) → List X → List Y → Type 0
AreMade Is [] [] = ⊤
AreMade Is [] (y ∷ ys) = ⊥
AreMade Is (x ∷ xs) [] = ⊥
AreMade Is (x ∷ xs) (y ∷ ys) = Is x y × AreMade Is xs ys

-- the arguments of clap are these
abbrev pub AreArguments : List Argument → List Arg → Type 0
AreArguments = AreMade IsArgument

-- the argument of this name that takes this
abbrev pub taking : Text → Takes → Argument
taking name (Name value names) = name_option name names
taking name (Number value most) = number_option name most
taking name ListOf = text_option name
taking name Nothing = flag_option name
taking name File = record (new_rule name) { value_names = 1 }

-- the argument of a row
abbrev pub argument_of : ArgumentRow → Argument
argument_of row = record (taking row.name.now row.takes) { required = row.required }

-- the arguments of these rows come after those that were there
abbrev pub AddsArguments : List ArgumentRow → List Arg → List Arg → Type 0
AddsArguments rows old new = (args : List Arg) × (new ≡ old ++ args) × AreArguments (map argument_of rows) args

-- the arguments are these, and after them those that all commands have, wherever the names of types lie
abbrev pub AreOwnAndShared : List Argument → List Arg → Type 0
AreOwnAndShared own args = (kinds : Names) × (texts kinds.now ≡ kind_names)
    × AreArguments (own ++ input_arguments kinds) args

-- the command has this name and these arguments, and after them those that all commands have
abbrev pub HasArguments : Text → List Argument → Command → Type 0
HasArguments name own c = (kinds : Names) × (texts kinds.now ≡ kind_names)
    × (shape_of c ≡ record (new_shape name) { rules = own ++ input_arguments kinds })
    × ((fields_of c).has_globals ≡ false)

-- a command of this shape, wherever the names lie: its own, and those of the types
abbrev pub IsCommand : List Text → (Names → Names → Shape) → Command → Type 0
IsCommand values shape c = (names : Names) × (kinds : Names)
    × (texts names.now ≡ values) × (texts kinds.now ≡ kind_names)
    × (shape_of c ≡ shape names kinds) × ((fields_of c).has_globals ≡ false)

-- the command of a row
abbrev pub IsCommandOf : CommandRow → Command → Type 0
IsCommandOf row = HasArguments row.name.now (map argument_of row.own.now)

-- the commands of these rows
pub record AreCommandsOf (rows : List CommandRow) (commands : List Command) : Type 0 where
  pub made : AreMade IsCommandOf rows commands

-- `committees`, wherever the names lie
abbrev pub IsProgram : Command → Type 0
IsProgram c = (elect : Command) × (check : Command) × (share : Command) × IsCommand rule_names elect_over elect
    × IsCommand property_names check_over check × IsCommand method_names share_over share
    × (app_of c ≡ program_over (shape_of elect) (shape_of check) (shape_of share))
