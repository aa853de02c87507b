-- Short numbers with a mark right after them, and marks at the front of a text.
use Rattle.std.proofs.Common.{◌≡◌, ℕ, ◌<◌, ◌≤◌, length, List, ◌∷◌, Option, Some, None, refl, sym, ap, ◌∙◌, arith}
use Rattle.std.specs.Option.{option_map}
use Rattle.ballot_base.specs.Limits.{most_voters}
use Rattle.preflib_text.specs.declared.ballot.Token.TheVariants.{Number, Comma, Open, Close}
use Rattle.preflib_text.specs.declared.ballot.OrderPlace.TheVariants.{Class, Between}
use Rattle.preflib_text.specs.Steps.Tokens.{tokens_after, tokens_of, capped, IsFirstToken, IsListedNumber, IsLastNumber, order_at}

uncapped : (n : ℕ) → n ≤ most_voters → n ≡ capped n
uncapped n small = omega arith

number_first : (n : ℕ) (text after : List ℕ) → n ≤ 99 → tokens_of text ≡ tokens_after (Some n) after
    → tokens_after (Some n) after ≡ Number n ∷ tokens_of after → length after < length text → IsFirstToken text (Number n) after
number_first n text after small is ended shorter =
    (Number n, ap (λ (k : ℕ). Number k) (uncapped n (omega arith)), is ∙ ended, shorter)

-- a number of one or two digits with a comma right after it
pub comma_after : (n : ℕ) (text rest : List ℕ) → n ≤ 99 → tokens_of text ≡ tokens_after (Some n) (44 ∷ rest)
    → length (44 ∷ rest) < length text → IsListedNumber text n rest
unfolding tokens_after
comma_after n text rest small is shorter = (number_first n text (44 ∷ rest) small is refl shorter, (Comma, refl, refl, omega arith))

-- the same with a closing brace
pub brace_after : (n : ℕ) (text rest : List ℕ) → n ≤ 99 → tokens_of text ≡ tokens_after (Some n) (125 ∷ rest)
    → length (125 ∷ rest) < length text → IsLastNumber text n rest
unfolding tokens_after
brace_after n text rest small is shorter = (number_first n text (125 ∷ rest) small is refl shorter, (Close, refl, refl, omega arith))

pub open_first : (text inside : List ℕ) → text ≡ 123 ∷ inside → IsFirstToken text Open inside
unfolding tokens_after
open_first text inside brace = (Open, refl, ap tokens_of brace, omega (arith, ap length brace))

-- after a class a comma leads on
pub comma_passed : (text rest : List ℕ) → text ≡ 44 ∷ rest → order_at Class (tokens_of rest) ≡ order_at Between (tokens_of text)
unfolding tokens_after order_at
comma_passed text rest comma = sym (ap (λ (t : List ℕ). order_at Between (tokens_of t)) comma ∙ same (order_at Class (tokens_of rest)))
  where
    same : (o : Option (List (List ℕ))) → option_map (λ cs. cs) o ≡ o
    same None = refl
    same (Some cs) = refl
