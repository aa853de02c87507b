-- The tokens of a ballot line, and its order read from the left.
use Rattle.std.specs.Prelude.{◌≡◌, ◌<◌, length, ℕ, ◌+◌, ◌-◌, ◌*◌, ◌==◌, min, Bool, true, false, List, [], ◌∷◌}
use Rattle.std.specs.Prelude.{Option, Some, None, option_map, option_and_then, if◌then◌else◌}
use Rattle.std.specs.Char.{is_ascii_digit}
use Rattle.ballot_base.specs.Limits.{most_voters}
use Rattle.preflib_text.specs.Lines.{is_blank, onto_first}
use Rattle.preflib_text.specs.Reading.{Cast}
use Rattle.preflib_text.specs.declared.ballot.Token.{Token}
use Rattle.preflib_text.specs.declared.ballot.Token.TheVariants.{Number, Colon, Comma, Open, Close, Other}
use Rattle.preflib_text.specs.declared.ballot.OrderPlace.{OrderPlace}
use Rattle.preflib_text.specs.declared.ballot.OrderPlace.TheVariants.{Order, Class, Between, Opened, Inner, Listed}

-- the token of a byte that is neither a blank nor a digit
abbrev pub token_of : ℕ → Token
token_of b = if b == 58 then Colon
    else (if b == 44 then Comma
    else (if b == 123 then Open
    else (if b == 125 then Close else Other)))

-- tokens after a number that ends here, if there is one
abbrev pub number_before : Option ℕ → List Token → List Token
number_before None tokens = tokens
number_before (Some n) tokens = Number n ∷ tokens

-- the number with one more digit
abbrev pub with_digit : Option ℕ → ℕ → ℕ
with_digit None b = b - 48
with_digit (Some n) b = 10 * n + (b - 48)

-- the tokens after the first digits of a number, if there are any
unfoldable pub tokens_after : Option ℕ → List ℕ → List Token
tokens_after first [] = number_before first []
tokens_after first (b ∷ bytes) = if is_ascii_digit b then tokens_after (Some (with_digit first b)) bytes
    else number_before first (if is_blank b then tokens_after None bytes else token_of b ∷ tokens_after None bytes)

-- the tokens of a text
abbrev pub tokens_of : List ℕ → List Token
tokens_of bytes = tokens_after None bytes

-- the number, or `most_voters` + 1 for a larger one
abbrev pub capped : ℕ → ℕ
capped n = min n (most_voters + 1)

-- the token with its number capped
abbrev pub capped_token : Token → Token
capped_token (Number n) = Number (capped n)
capped_token token = token

-- the text's first token was read, with its number capped, and the rest of the text has the other tokens
abbrev pub IsFirstToken : List ℕ → Token → List ℕ → Type 0
IsFirstToken text read rest = (token : Token) × (read ≡ capped_token token)
    × (tokens_of text ≡ token ∷ tokens_of rest) × (length rest < length text)

-- the text's first tokens are this number and a comma, and the rest of the text has the other tokens
abbrev pub IsListedNumber : List ℕ → ℕ → List ℕ → Type 0
IsListedNumber text n rest = IsFirstToken text (Number n) (44 ∷ rest) × IsFirstToken (44 ∷ rest) Comma rest

-- like `IsListedNumber`, with a closing brace in the place of the comma
abbrev pub IsLastNumber : List ℕ → ℕ → List ℕ → Type 0
IsLastNumber text n rest = IsFirstToken text (Number n) (125 ∷ rest) × IsFirstToken (125 ∷ rest) Close rest

-- the place after a token, if the token may come here
abbrev pub next_place : OrderPlace → Token → Option OrderPlace
next_place Order (Number n) = Some Between
next_place Order Open = Some Opened
next_place Class (Number n) = Some Between
next_place Class Open = Some Opened
next_place Between Comma = Some Class
next_place Opened (Number n) = Some Listed
next_place Opened Close = Some Between
next_place Inner (Number n) = Some Listed
next_place Listed Comma = Some Inner
next_place Listed Close = Some Between
next_place place token = None

-- whether the order may end
abbrev pub is_end : OrderPlace → Bool
is_end Order = true
is_end Between = true
is_end place = false

-- the classes with what a token adds to them; inside braces the first class is the rest of a class
abbrev pub with_token : OrderPlace → Token → List (List ℕ) → List (List ℕ)
with_token Order (Number n) classes = (n ∷ []) ∷ classes
with_token Class (Number n) classes = (n ∷ []) ∷ classes
with_token Opened (Number n) classes = onto_first n classes
with_token Inner (Number n) classes = onto_first n classes
with_token Opened Close classes = [] ∷ classes
with_token Listed Close classes = [] ∷ classes
with_token place token classes = classes

-- the classes that tokens give from a place on
unfoldable pub order_at : OrderPlace → List Token → Option (List (List ℕ))
order_at place [] = if is_end place then Some [] else None
order_at place (token ∷ tokens) =
    option_and_then (λ next. option_map (with_token place token) (order_at next tokens)) (next_place place token)

-- the count and the classes of a ballot line
abbrev pub cast_of : List Token → Option Cast
cast_of (Number count ∷ Colon ∷ tokens) =
    option_map (λ classes. record { count = count; classes = classes }) (order_at Order tokens)
cast_of tokens = None

abbrev pub ballot_of : List ℕ → Option Cast
ballot_of line = cast_of (tokens_of line)
