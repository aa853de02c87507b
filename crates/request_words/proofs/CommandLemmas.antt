-- What arguments make of a command.
use Rattle.std.proofs.Common.{◌≡◌, ◌++◌, ◌||◌, ◌∙◌, Bool, true, false, List, [], ◌∷◌, ap, map, subst, sym, append_assoc, append-nil, refl}
use Rattle.std.proofs.lemmas.List.{map-append}
use Rattle.std.specs.Prelude.{⊤, fold}
use Rattle.clap.specs.Built.{AddsArg, AddsInTurn}
use Rattle.clap.specs.Words.{App, app_of, with_rule, Rule as Argument}
use Rattle.clap.specs.declared.builder.arg.Arg.{Arg}
use Rattle.clap.specs.declared.builder.command.Command.{Command}
use Rattle.clap.specs.declared.builder.command.Command.TheViews.{out-Command as fields_of}
use Rattle.request_words.specs.Steps.Commands.{AddsArguments, AreArguments, AreCommandsOf, AreMade, IsArgument, IsCommandOf, argument_of}
use Rattle.request_words.specs.declared.commands.CommandRow.{CommandRow}
use Rattle.request_words.specs.declared.options.ArgumentRow.{ArgumentRow}

-- an argument that is not global leaves the command without one
stays_local : (after before global : Bool) → after ≡ (before || global) → global ≡ false → after ≡ before
stays_local after true global is none = is
stays_local after false global is none = is ∙ none

-- arguments that are added in turn are all added
pub arguments_added : (c r : Command) (arguments : List Argument) (args : List Arg) → AddsInTurn AddsArg c args r → AreArguments arguments args
    → (app_of r ≡ fold with_rule (app_of c) arguments) × ((fields_of r).has_globals ≡ (fields_of c).has_globals)
arguments_added c r [] [] same are = (ap app_of (sym same), ap (λ (x : Command). (fields_of x).has_globals) (sym same))
arguments_added c r [] (a ∷ args) adds are = absurd are
arguments_added c r (argument ∷ arguments) [] adds are = absurd are
arguments_added c r (argument ∷ arguments) (a ∷ args) (mid, step, rest) ((is, local), others) =
    let tail = arguments_added mid r arguments args rest others in (
      tail.0 ∙ ap (λ (x : App). fold with_rule x arguments) (step.shape local ∙ ap (with_rule _) is),
      tail.1 ∙ stays_local _ _ _ step.globals local,
    )

-- arguments change nothing else of a command
pub arguments_of : (a : App) (arguments : List Argument) → (fold with_rule a arguments).top ≡ record a.top { rules = a.top.rules ++ arguments }
arguments_of a [] = ap (λ (rules : List Argument). record a.top { rules = rules }) (sym (append-nil a.top.rules))
arguments_of a (argument ∷ arguments) =
    arguments_of (with_rule a argument) arguments
    ∙ ap (λ (rules : List Argument). record a.top { rules = rules }) (append_assoc a.top.rules (argument ∷ []) arguments)

-- what is made of some, and after them of others
pub joined : {X Y : Type 0} (Is : X → Y → Type 0) (xs others : List X) (ys next : List Y) → AreMade Is xs ys → AreMade Is others next
    → AreMade Is (xs ++ others) (ys ++ next)
joined Is [] others [] next are more = more
joined Is [] others (y ∷ ys) next are more = absurd are
joined Is (x ∷ xs) others [] next are more = absurd are
joined Is (x ∷ xs) others (y ∷ ys) next are more = (are.0, joined Is xs others ys next are.1 more)

-- what is made of one more
pub made_next : {X Y : Type 0} (Is : X → Y → Type 0) (before after : List X) (ys new : List Y) (x : X) (y : Y) → after ≡ before ++ x ∷ []
    → new ≡ ys ++ y ∷ [] → AreMade Is before ys → Is x y → AreMade Is after new
made_next Is before after ys new x y more added are is =
    rw (more, added) (joined Is before (x ∷ []) ys (y ∷ []) are (is, tt))

-- of three, three are made
abbrev pub ThreeMade : {X Y : Type 0} → (X → Y → Type 0) → List X → List Y → Type 0
ThreeMade {X} {Y} Is (x ∷ y ∷ z ∷ []) ys = (a b c : Y) × (ys ≡ a ∷ b ∷ c ∷ []) × Is x a × Is y b × Is z c
ThreeMade Is xs ys = ⊤

three_made : {X Y : Type 0} (Is : X → Y → Type 0) (xs : List X) (ys : List Y) → AreMade Is xs ys → ThreeMade Is xs ys
three_made Is [] ys are = tt
three_made Is (x ∷ []) ys are = tt
three_made Is (x ∷ y ∷ []) ys are = tt
three_made Is (x ∷ y ∷ z ∷ []) [] are = absurd are
three_made Is (x ∷ y ∷ z ∷ []) (a ∷ []) are = absurd are.1
three_made Is (x ∷ y ∷ z ∷ []) (a ∷ b ∷ []) are = absurd are.1.1
three_made Is (x ∷ y ∷ z ∷ []) (a ∷ b ∷ c ∷ []) are = (a, b, c, refl, are.0, are.1.0, are.1.1.0)
three_made Is (x ∷ y ∷ z ∷ []) (a ∷ b ∷ c ∷ d ∷ ys) are = absurd are.1.1.1
three_made Is (x ∷ y ∷ z ∷ w ∷ xs) ys are = tt

-- the commands of three rows
pub three_commands : (rows : List CommandRow) (commands : List Command) → AreCommandsOf rows commands → ThreeMade IsCommandOf rows commands
three_commands rows commands are = three_made IsCommandOf rows commands are.made

-- the argument of one more row
pub row_added : (before after : List ArgumentRow) (old new : List Arg) (row : ArgumentRow) (arg : Arg) → after ≡ before ++ row ∷ []
    → AddsArguments before old new → IsArgument (argument_of row) arg → AddsArguments after old (new ++ arg ∷ [])
row_added before after old new row arg more (args, is, are) one = (
  args ++ arg ∷ [],
  ap (λ (l : List Arg). l ++ arg ∷ []) is ∙ append_assoc old args (arg ∷ []),
  subst (λ arguments. AreArguments arguments (args ++ arg ∷ [])) (sym (map-append argument_of before (row ∷ [])) ∙ ap (map argument_of) (sym more))
      (joined IsArgument (map argument_of before) (argument_of row ∷ []) args (arg ∷ []) are (one, tt)),
)
