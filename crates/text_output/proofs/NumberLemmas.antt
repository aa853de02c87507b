-- Lists of numbers, in the parts that are printed one after the other.
use Rattle.std.proofs.Common.{◌≡◌, ℕ, ◌-◌, ◌≤◌, List, [], ◌∷◌, ◌++◌, sym, ap, append-nil, length, take, drop, get_or, arith}
use Rattle.std.specs.Prelude.{decimal}
use Rattle.std.proofs.lemmas.List.{take_all}
use Rattle.text_output.specs.Steps.Numbers.{following_text}
use Rattle.text_output.specs.Text.{numbers_text}

-- numbers with commas between them are the first, and the others with a comma before each
pub numbers_text-cons : (n : ℕ) (ns : List ℕ) → numbers_text (n ∷ ns) ≡ decimal n ++ following_text ns
numbers_text-cons n [] = sym (append-nil (decimal n))
numbers_text-cons n (next ∷ ns) = ap (λ l. decimal n ++ 44 ∷ l) (numbers_text-cons next ns)

-- some numbers, as the first of them and the others
pub first_and_others : (numbers : List ℕ) → 1 ≤ length numbers → numbers ≡ get_or numbers 0 0 ∷ take (length numbers - 1) (drop 1 numbers)
first_and_others [] some = absurd (omega (arith, some))
first_and_others (first ∷ others) some = ap (λ l. first ∷ l) (sym (take_all (length (first ∷ others) - 1) others (omega arith)))
