-- A loop over all rows of a profile: which row a turn passes, and that none is left at the end.
use Rattle.std.proofs.Common.{◌≡◌, ◌∙◌, List, [], ◌∷◌, ◌++◌, refl, Some, sym, ap, subst, take, length, slice_get}
use Rattle.std.specs.Iterator.{Yields, YieldsFirst}

-- what a loop has passed comes before what is left
passed_first : {X : Type 0} (all passed left : List X) → Yields (YieldsFirst (λ (rows : List X). rows)) all passed left → all ≡ passed ++ left
passed_first all [] left y = y
passed_first all (x ∷ passed) left y = y.1 ∙ ap (λ rows. x ∷ rows) (passed_first y.0 passed left y.2)

get_at_seam : {X : Type 0} (passed rest : List X) (x : X) → slice_get (passed ++ x ∷ rest) (length passed) ≡ Some x
get_at_seam [] rest x = refl
get_at_seam (y ∷ passed) rest x = get_at_seam passed rest x

take_passed : {X : Type 0} (passed : List X) → take (length passed) (passed ++ []) ≡ passed ++ []
take_passed [] = refl
take_passed (x ∷ passed) = ap (λ rows. x ∷ rows) (take_passed passed)

-- the row of a turn is the one at the number of turns before it
pub row_of_turn : {X : Type 0} (rows : List X) {all : List X} → all ≡ rows → (passed : List X) {left : List X} → Yields (YieldsFirst (λ (rows : List X). rows)) all passed left → {rest : List X} (row : X) → left ≡ row ∷ rest → slice_get rows (length passed) ≡ Some row
row_of_turn rows all_are passed {left} y {rest} row is = subst (λ l. slice_get l (length passed) ≡ Some row) (sym (passed_first _ passed left y ∙ ap (λ l. passed ++ l) is) ∙ all_are) (get_at_seam passed rest row)

-- where none is left, all were passed
pub all_passed : {X : Type 0} (rows : List X) {all : List X} → all ≡ rows → (passed : List X) {left : List X} → Yields (YieldsFirst (λ (rows : List X). rows)) all passed left → left ≡ [] → take (length passed) rows ≡ rows
all_passed rows all_are passed {left} y none = subst (λ l. take (length passed) l ≡ l) (sym (passed_first _ passed left y ∙ ap (λ l. passed ++ l) none) ∙ all_are) (take_passed passed)
