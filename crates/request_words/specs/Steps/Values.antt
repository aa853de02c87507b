-- What the code reads of the values that clap found.
use Rattle.std.specs.Prelude.{◌≡◌, ◌≢◌, ◌<◌, ◌^◌, ◌⊎◌, ⊤, ℕ, List, Option, Some, None, Result, Ok, Err, codes, pos}
use Rattle.std.specs.Option.{IsSome}
use Rattle.std.specs.Result.{MatchResult}
use Rattle.clap.specs.Words.{IsSignedIn, Row, Text, first_of, one_of, without_minus}
use Rattle.clap.specs.declared.error.kind.ErrorKind.{ErrorKind}
use Rattle.clap.specs.declared.error.kind.ErrorKind.TheVariants as kind
use Rattle.ballot_base.specs.Limits.{most_members}
use Rattle.group_check.specs.Names.{property_named}
use Rattle.seat_share.specs.Limits.{most_seats}
use Rattle.seat_share.specs.Names.{method_named}
use Rattle.request_words.specs.Names.{rule_named}
use Rattle.request_words.specs.Request.{Request}
use Rattle.request_words.specs.declared.words.LineFault.{LineFault}
use Rattle.request_words.specs.declared.words.LineFault.TheVariants.{Help, Usage, Memory}

-- the fault stands for an error of this kind, or is out of memory
abbrev pub IsFaultOf : ErrorKind → LineFault → Type 0
IsFaultOf k (Help text) = k ≡ kind.DisplayHelp
IsFaultOf k (Usage text) = (k ≢ kind.DisplayHelp) × (k ≢ kind.OutOfMemory)
IsFaultOf k Memory = ⊤
IsFaultOf k fault = ⊥

-- the option is not given, or has a number of 32 bits from 1 on
abbrev pub IsCount : Option Text → Type 0
IsCount None = ⊤
IsCount (Some digits) = (text : Text) × (most : ℕ) × (digits ≡ without_minus text) × (most < 2 ^ 32)
    × IsSignedIn (pos 1) (pos most) text

-- the option without a value has the text of a truth value
abbrev pub IsFlag : Option Text → Type 0
IsFlag None = ⊤
IsFlag (Some text) = (text ≡ codes "true") ⊎ (text ≡ codes "false")

-- the counts and the flag passed their parsers
pub record HasCounts (rows : List Row) : Type 0 where
  pub category : IsCount (one_of (codes "category") rows)
  pub set_size : IsCount (one_of (codes "setsize") rows)
  pub classes : IsCount (one_of (codes "classes") rows)
  pub names : IsFlag (one_of (codes "names") rows)

-- the limit passed its parser
abbrev pub HasLimit : List Row → Type 0
HasLimit rows = IsCount (one_of (codes "limit") rows)

-- an option has a name of a list
pub record HasName {X : Type 0} (option : Text) (named : Text → Option X) (rows : List Row) : Type 0 where
  pub text : Text
  pub given : first_of option rows ≡ Some text
  pub known : IsSome (named text)

-- an option has a number from 1 to this one
pub record HasNumberUpTo (option : Text) (most : ℕ) (rows : List Row) : Type 0 where
  pub text : Text
  pub given : one_of option rows ≡ Some (without_minus text)
  pub in_range : IsSignedIn (pos 1) (pos most) text

-- what clap found for `elect`, `check` and `share` passed its parsers
abbrev pub HasElectValues : List Row → Type 0
HasElectValues rows = HasName (codes "rule") rule_named rows × HasNumberUpTo (codes "size") most_members rows
    × HasLimit rows × HasCounts rows

abbrev pub HasCheckValues : List Row → Type 0
HasCheckValues rows = HasName (codes "property") property_named rows × IsSome (first_of (codes "committee") rows)
    × HasCounts rows

abbrev pub HasShareValues : List Row → Type 0
HasShareValues rows = HasName (codes "method") method_named rows × HasNumberUpTo (codes "seats") most_seats rows
    × HasLimit rows × HasCounts rows

-- the values of a command passed their parsers
abbrev pub HasValues : Text → List Row → Type 0
HasValues command rows = ((command ≡ codes "elect") × HasElectValues rows)
    ⊎ ((command ≡ codes "check") × HasCheckValues rows) ⊎ ((command ≡ codes "share") × HasShareValues rows)

-- the result is what is said, a value or a fault, or memory ran out
abbrev pub Gives : {A B : Type 0} → (B → A) → Result A LineFault → Result B LineFault → Type 0
Gives view said result = MatchResult result (λ x. said ≡ Ok (view x)) (λ e. (e ≡ Memory) ⊎ (said ≡ Err e))

-- the same for what a command asks for
abbrev pub GivesAsked : Option (Result Request LineFault) → Result Request LineFault → Type 0
GivesAsked said result = MatchResult result (λ x. said ≡ Some (Ok x)) (λ e. (e ≡ Memory) ⊎ (said ≡ Some (Err e)))
