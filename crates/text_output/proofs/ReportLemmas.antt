-- The text of a report, in the parts that are printed one after the other.
use Rattle.std.proofs.Common.{◌≡◌, ◌⊎◌, inl, inr, ℕ, Bool, true, false, cond, List, [], ◌∷◌, ◌++◌, ap, ◌∙◌, append_assoc}
use Rattle.std.specs.Prelude.{codes, decimal, flat_map, filter}
use Rattle.ballot_base.specs.Ballots.{Row}
use Rattle.group_check.specs.declared.property.Violation.{Violation}
use Rattle.group_check.specs.declared.property.Property.{Property}
use Rattle.group_check.specs.declared.property.Property.TheVariants.{Jr, Ejr, EjrPlus}
use Rattle.group_check.specs.Report.{is_in_group}
use Rattle.text_output.specs.Names.{Names, candidates_text}
use Rattle.text_output.specs.Text.{line}
use Rattle.text_output.specs.CheckText.{row_text, group_text, voters_text, within_text}

-- a report under any other property than pjr has no line of members
pub no_within : (names : Names) (property : Property) (within : List ℕ) → (property ≡ Jr) ⊎ ((property ≡ Ejr) ⊎ (property ≡ EjrPlus))
    → within_text names property within ≡ []
no_within names property within (inl is) = ap (λ p. within_text names p within) is
no_within names property within (inr (inl is)) = ap (λ p. within_text names p within) is
no_within names property within (inr (inr is)) = ap (λ p. within_text names p within) is

-- a row's line, from its count on
pub row_parts : (names : Names) (ballot : List ℕ) (count : ℕ) → row_text names (ballot, count) ≡ decimal count ++ line (codes ": " ++ candidates_text names ballot)
row_parts names ballot count =
    ap (λ l. l ++ 10 ∷ []) (append_assoc (decimal count) (codes ": ") (candidates_text names ballot)) ∙ append_assoc (decimal count) (codes ": " ++ candidates_text names ballot) (10 ∷ [])

-- the line of the voters, from the pieces that it is printed from
pub voters_parts : (words count all : List ℕ) (voters total : ℕ) → words ≡ codes "voters " → count ≡ decimal voters → all ≡ decimal total
    → words ++ (count ++ (codes " of " ++ (all ++ (10 ∷ [])))) ≡ voters_text voters total
voters_parts words count all voters total is counted summed = rw (is, counted, summed) (simp append_assoc)

-- the rows from one on are those after it, and before them that row if its voters are in the group
module _ (names : Names) (violation : Violation) (left : List Row) (row : Row) (rest : List Row) (is : left ≡ row ∷ rest) where
  abbrev row_or_none : Bool → List ℕ
  row_or_none belongs =
      let others = filter (λ other. is_in_group violation other.0) rest in
      flat_map (row_text names) (cond belongs (row ∷ others) others)

  pub group_text-in : is_in_group violation row.0 ≡ true → group_text names violation left ≡ row_text names row ++ group_text names violation rest
  group_text-in inside = ap (group_text names violation) is ∙ ap row_or_none inside

  pub group_text-out : is_in_group violation row.0 ≡ false → group_text names violation left ≡ group_text names violation rest
  group_text-out outside = ap (group_text names violation) is ∙ ap row_or_none outside
