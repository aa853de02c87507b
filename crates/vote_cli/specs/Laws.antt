-- What a start and a limit change in the answer to a request.
use Rattle.std.specs.Prelude.{◌≡◌, ◌++◌, ℕ, Bool, true, false, List, [], ◌∷◌, Some, Ok}
use Rattle.std.specs.Prelude.{◌-◌, codes, drop, flat_map, length, option_map, take, if◌then◌else◌}
use Rattle.ballot_base.specs.Ballots.{Election}
use Rattle.ballot_base.specs.Lists.{is_committee, later_than}
use Rattle.preflib_text.specs.Reading.{Reads}
use Rattle.preflib_text.specs.declared.pick.Pick.{Pick}
use Rattle.request_words.specs.Request.{Request, Task, Page, electing, checking, sharing, whole}
use Rattle.request_words.specs.Request.{of_ballots, of_votes}
use Rattle.request_words.specs.declared.request.Rule.{Rule}
use Rattle.seat_share.specs.Allocations.{allocations}
use Rattle.seat_share.specs.declared.method.Method.{Method}
use Rattle.vote_cli.specs.Answer.{Answer, answered, request_refused}
use Rattle.vote_cli.specs.ElectText.{elect_answers, elect_header}
use Rattle.vote_cli.specs.Listing.{allocation_line, committee_line, has_more, last_line, listing_text, within_limit}
use Rattle.text_output.specs.Names.{Names, naming}
use Rattle.vote_cli.specs.Parties.{party_votes}
use Rattle.vote_cli.specs.ShareText.{share_header}
use Rattle.vote_cli.specs.Starts.{has_seats_for, may_start}
use Rattle.text_output.specs.Text.{line}

-- whether the answer to a task is a list of answers
abbrev pub is_listing : Task → Bool
is_listing (of_ballots (electing rule size page)) = true
is_listing (of_ballots (checking property list)) = false
is_listing (of_ballots (sharing method seats page)) = true
is_listing (of_votes votes method seats page) = true

-- a task with another page of its answers
abbrev pub with_page : Page → Task → Task
with_page page (of_ballots (electing rule size old)) = of_ballots (electing rule size page)
with_page page (of_ballots (checking property list)) = of_ballots (checking property list)
with_page page (of_ballots (sharing method seats old)) = of_ballots (sharing method seats page)
with_page page (of_votes votes method seats old) = of_votes votes method seats page

-- a request for another page of its answers
abbrev pub asked_for : Page → Request → Request
asked_for page asked = record asked { task = with_page page asked.task }

-- what answers are listed of: the lines before them, all answers, the line of each, and the lists after which they may
-- start
pub record Listed : Type 0 where
  pub header : List ℕ
  pub answers : List (List ℕ)
  pub line_of : List ℕ → List ℕ
  pub may_follow : List ℕ → Bool

-- the winners of an election
abbrev pub elect_listed : Bool → Rule → ℕ → Election → Listed
elect_listed with_names rule size election = record {
  header = elect_header rule size election;
  answers = elect_answers rule size election;
  line_of = committee_line (naming with_names election.names);
  may_follow = is_committee election.m size;
}

-- the fair allocations of seats to parties with these votes
abbrev pub share_listed : Names → Method → ℕ → List ℕ → Listed
share_listed names method seats votes = record {
  header = share_header method seats;
  answers = allocations method votes seats;
  line_of = allocation_line names;
  may_follow = has_seats_for (length votes);
}

-- what is listed of the election that the bytes hold
abbrev pub IsListedOver : (Election → Listed) → Pick → List ℕ → Listed → Type 0
IsListedOver listed_of pick bytes listed =
    (election : Election) × Reads bytes pick (Ok election) × (listed ≡ listed_of election)

-- what is listed by a task, with names or not; a check lists nothing
abbrev pub IsListedBy : Bool → Task → Pick → List ℕ → Listed → Type 0
IsListedBy with_names (of_ballots (electing rule size page)) = IsListedOver (elect_listed with_names rule size)
IsListedBy with_names (of_ballots (checking property list)) = λ pick bytes listed. ⊥
IsListedBy with_names (of_ballots (sharing method seats page)) = IsListedOver (λ election.
    share_listed (naming with_names election.names) method seats (party_votes election))
IsListedBy with_names (of_votes votes method seats page) =
    λ pick bytes listed. listed ≡ share_listed (naming with_names []) method seats votes

-- what is listed by a request over the bytes of an input
abbrev pub IsListed : Request → List ℕ → Listed → Type 0
IsListed asked bytes = IsListedBy asked.names asked.task asked.pick bytes

-- two refusals that are the same
abbrev pub IsSameRefusal : Answer → Answer → Type 0
IsSameRefusal answer other = (answer.text ≡ []) × (other ≡ answer)

-- the last line, by the answers that are left out
abbrev pub line_for : List (List ℕ) → List ℕ
line_for [] = line (codes "end")
line_for (answer ∷ rest) = line (codes "more")

-- the lines up to the n-th of these answers
abbrev pub front : Listed → List (List ℕ) → ℕ → List ℕ
front listed answers n = listed.header ++ flat_map listed.line_of (take n answers)

-- the first answer has these answers, all of them, and the second is cut off after the n-th
pub record IsCut (listed : Listed) (answers : List (List ℕ)) (n : ℕ) (all cut : Answer) : Type 0 where
  pub all_is : all ≡ answered (front listed answers n ++ flat_map listed.line_of (drop n answers) ++ line (codes "end"))
  pub cut_is : cut ≡ answered (front listed answers n ++ line_for (drop n answers))

-- the answer with a page of what is listed, if the start fits
abbrev pub page_of : Listed → Page → Answer
page_of listed page = if may_start listed.may_follow page.after
    then answered (listing_text listed.line_of listed.header page listed.answers)
    else request_refused (codes "AfterMisfit")

-- the first answer has all that is listed, and the second a page of it
pub record IsPart (listed : Listed) (page : Page) (all part : Answer) : Type 0 where
  pub all_is : all ≡ page_of listed whole
  pub part_is : part ≡ page_of listed page

-- ---- an answer that was cut off

-- the answers of a page without its limit
abbrev pub later_of : Listed → Page → List (List ℕ)
later_of listed page = later_than page.after listed.answers

-- the page that goes on after the j-th answer of another page; that answer is given
abbrev pub page_from : Page → ℕ → List ℕ → Page
page_from page j last = record { after = Some last; limit = option_map (λ n. n - j) page.limit }

-- what a page has after its j-th answer
abbrev pub text_after : Listed → Page → ℕ → List ℕ
text_after listed page j = flat_map listed.line_of (drop j (within_limit page.limit (later_of listed page)))
    ++ last_line (has_more page.limit (later_of listed page))

-- the second answer has the lines before the answers of the first, and then what comes after its j-th answer
pub record IsRest (listed : Listed) (page : Page) (j : ℕ) (all rest : Answer) : Type 0 where
  pub all_is : all ≡ answered (front listed (later_of listed page) j ++ text_after listed page j)
  pub rest_is : rest ≡ answered (listed.header ++ text_after listed page j)
