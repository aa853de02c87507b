-- The text of a check: that the property holds, or the report of a violation.
use Rattle.std.specs.Prelude.{ℕ, List, ◌∷◌, [], ◌++◌, codes, decimal, filter, flat_map}
use Rattle.ballot_base.specs.Ballots.{Row, Election, voter_count}
use Rattle.group_check.specs.Names.{property_name}
use Rattle.group_check.specs.declared.property.Property.{Property}
use Rattle.group_check.specs.declared.property.Property.TheVariants.{Jr, Pjr, Ejr, EjrPlus}
use Rattle.group_check.specs.declared.property.Violation.{Violation}
use Rattle.group_check.specs.Report.{is_in_group}
use Rattle.text_output.specs.Names.{Names, candidates_text}
use Rattle.text_output.specs.Text.{line}

-- what is printed of a committee that has the property
abbrev pub holds_text : List ℕ
holds_text = line (codes "holds")

-- a set of candidates, or only a dash if it is empty
abbrev pub set_or_dash : Names → List ℕ → List ℕ
set_or_dash names [] = codes "-"
set_or_dash names (n ∷ rest) = candidates_text names (n ∷ rest)

-- the line with the members of the committee that the group may approve, which only a report under pjr has
abbrev pub within_text : Names → Property → List ℕ → List ℕ
within_text names Jr within = []
within_text names Pjr within = line (codes "within " ++ set_or_dash names within)
within_text names Ejr within = []
within_text names EjrPlus within = []

-- the line of a ballot: how many voters cast it, and all that it approves
abbrev pub row_text : Names → Row → List ℕ
row_text names row = line (decimal row.1 ++ codes ": " ++ candidates_text names row.0)

-- the ballots of the voters in the group of a violation, one a line
abbrev pub group_text : Names → Violation → List Row → List ℕ
group_text names violation rows = flat_map (row_text names) (filter (λ row. is_in_group violation row.0) rows)

-- the lines of the property and the level
abbrev pub level_text : Property → ℕ → List ℕ
level_text property level = line (codes "violated " ++ property_name property) ++ line (codes "level " ++ decimal level)

-- the lines before the voters: what the group breaks, and the candidates that distinguish it from other groups
abbrev pub claim_text : Names → Violation → List ℕ
claim_text names violation =
    level_text violation.property violation.level
    ++ line (codes "candidates " ++ candidates_text names violation.shared)
    ++ within_text names violation.property violation.within

-- the line with the size of a group and the number of all voters
abbrev pub voters_text : ℕ → ℕ → List ℕ
voters_text voters total = line (codes "voters " ++ decimal voters ++ codes " of " ++ decimal total)

-- the report of a violation, with the names of candidates beside each list of them, if names are wanted
abbrev pub violation_text : Names → Violation → Election → List ℕ
violation_text names violation election =
    claim_text names violation
    ++ voters_text violation.voters (voter_count election.rows)
    ++ group_text names violation election.rows
