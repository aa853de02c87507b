-- The text of the list of the answers to a request.
use Rattle.std.specs.Prelude.{ℕ, Bool, true, false, List, ◌++◌, Option, Some, None}
use Rattle.std.specs.Prelude.{codes, flat_map, length, nat_lt, take}
use Rattle.ballot_base.specs.Lists.{later_than}
use Rattle.request_words.specs.Request.{Page}
use Rattle.text_output.specs.Names.{Names, beside, candidates_text, seated_parties}
use Rattle.text_output.specs.Text.{line, numbers_text}

-- the line of a committee: its members, and their names if they are wanted
abbrev pub committee_line : Names → List ℕ → List ℕ
committee_line names members = line (candidates_text names members)

-- the line of an allocation: the seats of the parties, and the names of those with a seat if they are wanted
abbrev pub allocation_line : Names → List ℕ → List ℕ
allocation_line names seats = line (numbers_text seats ++ beside names (seated_parties seats))

-- the first answers up to the limit, or all of them without a limit
abbrev pub within_limit : Option ℕ → List (List ℕ) → List (List ℕ)
within_limit None answers = answers
within_limit (Some limit) answers = take limit answers

-- whether there are more than the limit allows
abbrev pub has_more : Option ℕ → List (List ℕ) → Bool
has_more None answers = false
has_more (Some limit) answers = nat_lt limit (length answers)

-- the last line
abbrev pub last_line : Bool → List ℕ
last_line true = line (codes "more")
last_line false = line (codes "end")

-- the answers up to the limit, each on a line, and the last line
abbrev pub answers_text : (List ℕ → List ℕ) → Option ℕ → List (List ℕ) → List ℕ
answers_text line_of limit answers =
    flat_map line_of (within_limit limit answers) ++ last_line (has_more limit answers)

-- What is printed of the answers to a request: the lines before them, which do not depend on the page, and then the
-- answers later than the start, up to the limit.
abbrev pub listing_text : (List ℕ → List ℕ) → List ℕ → Page → List (List ℕ) → List ℕ
listing_text line_of header page answers = header ++ answers_text line_of page.limit (later_than page.after answers)
