-- What a request asks for, as contracts see it.
use Rattle.std.specs.Prelude.{◌≢◌, ◌≤◌, [], ℕ, Bool, List, Option, None, Some, IfSome, option_map}
use Rattle.std.specs.Vec.{vec_items}
use Rattle.ballot_base.specs.Limits.{most_members}
use Rattle.group_check.specs.declared.property.Property.{Property}
use Rattle.preflib_text.specs.declared.pick.Pick.{Pick}
use Rattle.seat_share.specs.Limits.{most_seats}
use Rattle.seat_share.specs.declared.method.Method.{Method}
use Rattle.request_words.specs.Limits.{most_limit}
use Rattle.request_words.specs.declared.request.Page.{Page as CodePage}
use Rattle.request_words.specs.declared.request.Question.{Question as CodeQuestion}
use Rattle.request_words.specs.declared.request.Question.TheVariants.{Elect, Check, Share}
use Rattle.request_words.specs.declared.request.Rule.{Rule}
use Rattle.request_words.specs.declared.request.Task.{Task as CodeTask}
use Rattle.request_words.specs.declared.request.Task.TheVariants.{OfBallots, OfVotes}

-- which of the answers are wanted: those later than a list, and at most `limit` of them
pub record Page : Type 0 where
  pub after : Option (List ℕ)
  pub limit : Option ℕ

-- all answers
abbrev pub whole : Page
whole = record { after = None; limit = None }

-- what is asked about ballots
-- - an election of committees of a size, by a rule
-- - a check of a property of the committee in a list
-- - a sharing of seats by a method, in which each voter counts for the one party that the ballot approves
pub data Question : Type 0 where
  electing : Rule → ℕ → Page → Question
  checking : Property → List ℕ → Question
  sharing : Method → ℕ → Page → Question

-- what a request asks for: something about the ballots of an input, or a sharing of seats by a method among parties
-- with the votes in a list
pub data Task : Type 0 where
  of_ballots : Question → Task
  of_votes : List ℕ → Method → ℕ → Page → Task

-- a sharing of seats by a method, by the votes that are given; failing that, by those of ballots
abbrev pub sharing_by : Option (List ℕ) → Method → ℕ → Page → Task
sharing_by None method seats page = of_ballots (sharing method seats page)
sharing_by (Some votes) method seats page = of_votes votes method seats page

-- which answers are wanted, with a list in the place of a vector
abbrev pub page_of : CodePage → Page
page_of page = record { after = option_map vec_items page.after; limit = page.limit }

-- what is asked for, with lists in the place of vectors
abbrev pub question_of : CodeQuestion → Question
question_of (Elect asked) = electing asked.rule asked.size (page_of asked.page)
question_of (Check property committee) = checking property (vec_items committee)
question_of (Share asked) = sharing asked.method asked.seats (page_of asked.page)

abbrev pub task_of : CodeTask → Task
task_of (OfBallots question) = of_ballots (question_of question)
task_of (OfVotes votes asked) = of_votes (vec_items votes) asked.method asked.seats (page_of asked.page)

-- a start has at least one number, and a limit is from 1 to `most_limit`
pub record IsPage (page : Page) : Type 0 where
  pub after : IfSome page.after (λ list. list ≢ [])
  pub least : IfSome page.limit (λ n. 1 ≤ n)
  pub most : IfSome page.limit (λ n. n ≤ most_limit)

-- the numbers are in their ranges, a size and seats from 1 on; and each list has at least one number
abbrev pub IsInRange : Question → Type 0
IsInRange (electing rule size page) = (1 ≤ size) × (size ≤ most_members) × IsPage page
IsInRange (checking property committee) = committee ≢ []
IsInRange (sharing method seats page) = (1 ≤ seats) × (seats ≤ most_seats) × IsPage page

abbrev pub InRange : Task → Type 0
InRange (of_ballots question) = IsInRange question
InRange (of_votes votes method seats page) = (1 ≤ seats) × (seats ≤ most_seats) × (votes ≢ []) × IsPage page

-- what is asked for, how the file is read, the bytes of the file's path if a file is named, and whether the names of
-- candidates are wanted
pub record Request : Type 0 where
  pub task : Task
  pub pick : Pick
  pub file : Option (List ℕ)
  pub names : Bool
