-- What follows an answer in a list of answers, and the page that fetches it.
use Rattle.std.proofs.Common.{◌≡◌, ◌⊎◌, ℕ, ◌+◌, ◌-◌, ◌≤◌, ◌<◌, ◌==◌, Bool, true, false, List, [], ◌∷◌, ◌++◌, Option, Some, None, Ok}
use Rattle.std.proofs.Common.{inl, inr, refl, sym, subst, ap, ap₂, ◌∙◌, length, take, drop, arith, Contains}
use Rattle.std.proofs.Math.Dec.{leb}
use Rattle.std.proofs.lemmas.Bool.{and_from, eq-eqb, le-leb, le-ltb, lt-ltb}
use Rattle.std.proofs.lemmas.Bool.Decides.{leb_tells}
use Rattle.std.proofs.lemmas.Grind.{flat_map-append}
use Rattle.std.proofs.lemmas.List.{append_assoc, drop-take, drop_more, length-drop, take-append-drop, take-take}
use Rattle.std.proofs.lemmas.List.Sums.{sum_by-cons}
use Rattle.std.proofs.lemmas.Option.{get_or_from_slice_get, slice_get_within}
use Rattle.std.specs.List.{list_all}
use Rattle.std.specs.Prelude.{IfSome, MatchResult, flat_map, nat_le, nat_lt, option_map, slice_get, sum}
use Rattle.ballot_base.specs.Ballots.{Election}
use Rattle.ballot_base.specs.Lists.{AreInOrder, increasing_lists, is_committee, is_later, later_than}
use Rattle.ballot_base.proofs.Committees.{chosen-from_contains, is_committee-true}
use Rattle.ballot_base.proofs.Later.{later_than-end}
use Rattle.tie_walk.specs.Sequences.{is_sequential_winner}
use Rattle.tie_walk.proofs.LawLemmas.{Contains-from_filter, winner-is, winners-order}
use Rattle.tie_walk.proofs.SequenceLaws.{sequential-later}
use Rattle.tie_walk.proofs.StartLemmas.{later_than-at}
use Rattle.seat_share.specs.Allocations.{allocations}
use Rattle.seat_share.specs.Faults.{share_fault}
use Rattle.seat_share.specs.Limits.{most_seats}
use Rattle.seat_share.specs.declared.method.Method.{Method}
use Rattle.seat_share.specs.declared.method.ShareFault.{ShareFault}
use Rattle.seat_share.proofs.AllocationLemmas.{allocations-rise, fair-from_contains}
use Rattle.seat_share.proofs.LawLemmas.{facts}
use Rattle.preflib_text.specs.Reading.{Reads}
use Rattle.preflib_text.specs.declared.pick.Pick.{Pick}
use Rattle.preflib_text.proofs.ReadLemmas.{outcome_is_one}
use Rattle.request_words.specs.Request.{Request, Task, InRange, Page, electing, checking, sharing, of_ballots, of_votes}
use Rattle.request_words.specs.declared.request.Rule.{Rule}
use Rattle.request_words.specs.declared.request.Rule.TheVariants.{Scored, Sequential}
use Rattle.vote_cli.specs.Answer.{Answer, IsAnswer, IsAnswerOver, IsAnswerTo, answered, ballots_answer, election_answer, refused, share_answer, share_answer_by}
use Rattle.vote_cli.specs.ElectText.{elect_answers}
use Rattle.vote_cli.specs.FaultText.{fault_text}
use Rattle.vote_cli.specs.Laws.{IsListed, IsListedBy, IsRest, Listed, asked_for, elect_listed, front, is_listing, later_of, page_from, share_listed, text_after, with_page}
use Rattle.vote_cli.specs.Listing.{answers_text, has_more, last_line, within_limit}
use Rattle.text_output.specs.Names.{Names, naming}
use Rattle.vote_cli.specs.Parties.{has_many_approved, party_votes}
use Rattle.vote_cli.specs.RuleValues.{value_by}
use Rattle.vote_cli.specs.Starts.{has_seats_for, may_start}
use Rattle.vote_cli.specs.declared.status.Status.TheVariants.{Answered, InputRefused, RequestRefused}
use Rattle.vote_cli.proofs.PageLaws.{counted_by, elected_by, text_of}

-- ---- what comes after an answer

-- a list at one of its members
at_place : (xs : List (List ℕ)) (j : ℕ) (x : List ℕ) → 1 ≤ j → slice_get xs (j - 1) ≡ Some x → xs ≡ take (j - 1) xs ++ x ∷ drop j xs
at_place xs j x some is =
    let within : j - 1 < length xs = slice_get_within xs (j - 1) x is in
    let next : j - 1 + 1 ≡ j = omega (arith, some) in
    sym (take-append-drop (j - 1) xs)
    ∙ ap (λ l. take (j - 1) xs ++ l) (drop_more xs (j - 1) [] within ∙ ap₂ (λ y n. y ∷ drop n xs) (get_or_from_slice_get xs (j - 1) x [] is) next)

after_answer : (after : Option (List ℕ)) (answers : List (List ℕ)) (j : ℕ) (last : List ℕ) → AreInOrder answers → 1 ≤ j
    → slice_get (later_than after answers) (j - 1) ≡ Some last → later_than (Some last) answers ≡ drop j (later_than after answers)
after_answer None answers j last order some is =
    later_than-at answers (take (j - 1) answers) (drop j answers) last order (at_place answers j last some is)
after_answer (Some start) answers j last order some is =
    let later = later_than (Some start) answers in
    let end = later_than-end start answers order in
    later_than-at answers (end.0 ++ take (j - 1) later) (drop j later) last order
    (end.1 ∙ ap (λ l. end.0 ++ l) (at_place later j last some is) ∙ sym (append_assoc end.0 (take (j - 1) later) (last ∷ drop j later)))

-- an answer later than a start is one of all
among_all : (after : Option (List ℕ)) (answers : List (List ℕ)) (last : List ℕ) → Contains (later_than after answers) last → Contains answers last
among_all None answers last is = is
among_all (Some start) answers last is = Contains-from_filter (λ list. is_later list start) answers last is

-- ---- the limit of the page that goes on
rest_shown : (limit : Option ℕ) (j : ℕ) (later : List (List ℕ)) → IfSome limit (λ n. j < n)
    → within_limit (option_map (λ n. n - j) limit) (drop j later) ≡ drop j (within_limit limit later)
rest_shown None j later few = refl
rest_shown (Some n) j later few =
    let all : j + (n - j) ≡ n = omega (arith, few) in
    sym (drop-take j (n - j) later) ∙ ap (λ k. drop j (take k later)) all

rest_more : (limit : Option ℕ) (j : ℕ) (later : List (List ℕ)) → IfSome limit (λ n. j < n)
    → has_more (option_map (λ n. n - j) limit) (drop j later) ≡ has_more limit later
rest_more None j later few = refl
rest_more (Some n) j later few = by (leb_tells (length later) n)
  where
    by : ((leb (length later) n ≡ true) × (length later ≤ n)) ⊎ ((leb (length later) n ≡ false) × (n < length later))
        → nat_lt (n - j) (length (drop j later)) ≡ nat_lt n (length later)
    by (inl none) = le-ltb (n - j) (length (drop j later)) (omega (arith, length-drop j later, none.1)) ∙ sym (le-ltb n (length later) none.1)
    by (inr more) = lt-ltb (n - j) (length (drop j later)) (omega (arith, length-drop j later, more.1, few)) ∙ sym (lt-ltb n (length later) more.1)

front_shown : (limit : Option ℕ) (j : ℕ) (later : List (List ℕ)) → IfSome limit (λ n. j < n) → take j (within_limit limit later) ≡ take j later
front_shown None j later few = refl
front_shown (Some n) j later few = take-take j n later (omega (arith, few))

-- ---- the two texts
module _ (listed : Listed) (page : Page) (j : ℕ) (few : IfSome page.limit (λ n. j < n)) where
  all_text : text_of listed page ≡ front listed (later_of listed page) j ++ text_after listed page j
  all_text =
      let later = later_of listed page in
      let shown = within_limit page.limit later in
      let ending = last_line (has_more page.limit later) in
      let lines = flat_map listed.line_of in
      let parts : lines shown ≡ lines (take j later) ++ lines (drop j shown) =
      ap lines (sym (take-append-drop j shown)) ∙ flat_map-append listed.line_of (take j shown) (drop j shown)
      ∙ ap (λ l. lines l ++ lines (drop j shown)) (front_shown page.limit j later few) in
      ap (λ l. listed.header ++ (l ++ ending)) parts
      ∙ ap (λ l. listed.header ++ l) (append_assoc (lines (take j later)) (lines (drop j shown)) ending)
      ∙ sym (append_assoc listed.header (lines (take j later)) (lines (drop j shown) ++ ending))

  rest_text : (last : List ℕ) → AreInOrder listed.answers → 1 ≤ j → slice_get (later_of listed page) (j - 1) ≡ Some last
      → text_of listed (page_from page j last) ≡ listed.header ++ text_after listed page j
  rest_text last order some is =
      let later = later_of listed page in
      let limit = option_map (λ n. n - j) page.limit in
      ap (λ l. listed.header ++ answers_text listed.line_of limit l) (after_answer page.after listed.answers j last order some is)
      ∙ ap₂ (λ l more. listed.header ++ (flat_map listed.line_of l ++ last_line more)) (rest_shown page.limit j later few) (rest_more page.limit j later few)

-- ---- answers that are no refusals
elected_whole : (low starts : Bool) (text : List ℕ) (all : Answer) → all ≡ elected_by low starts text → all.status ≡ Answered
    → (low ≡ false) × (all ≡ answered text)
elected_whole true starts text all is whole = let x : RequestRefused ≡ Answered = sym (ap (λ (a : Answer). a.status) is) ∙ whole in cc
elected_whole false false text all is whole = let x : RequestRefused ≡ Answered = sym (ap (λ (a : Answer). a.status) is) ∙ whole in cc
elected_whole false true text all is whole = (refl, is)

shared_whole : (found : Option ShareFault) (starts : Bool) (text : List ℕ) (all : Answer) → all ≡ share_answer_by found starts text → all.status ≡ Answered
    → (found ≡ None) × (all ≡ answered text)
shared_whole (Some fault) starts text all is whole = let x : RequestRefused ≡ Answered = sym (ap (λ (a : Answer). a.status) is) ∙ whole in cc
shared_whole None false text all is whole = let x : RequestRefused ≡ Answered = sym (ap (λ (a : Answer). a.status) is) ∙ whole in cc
shared_whole None true text all is whole = (refl, is)

counted_whole : (many : Bool) (answer all : Answer) → all ≡ counted_by many answer → all.status ≡ Answered → (many ≡ false) × (all ≡ answer)
counted_whole true answer all is whole = let x : RequestRefused ≡ Answered = sym (ap (λ (a : Answer). a.status) is) ∙ whole in cc
counted_whole false answer all is whole = (refl, is)

-- what the answer to a request over bytes is right of: the election that they hold
over_election : (P : Election → Answer → Type 0) (pick : Pick) (bytes : List ℕ) (e : Election) (answer : Answer) → Reads bytes pick (Ok e) → IsAnswerOver P pick bytes answer → P e answer
over_election P pick bytes e answer reads x =
    subst (λ read. MatchResult read (λ e. P e answer) (λ fault. answer ≡ refused InputRefused (fault_text fault))) (outcome_is_one bytes pick x.0 (Ok e) x.1 reads) x.2

-- ---- answers to requests
module _ (listed : Listed) (page : Page) (j : ℕ) (last : List ℕ) (few : IfSome page.limit (λ n. j < n)) (order : AreInOrder listed.answers)
    (fits : (x : List ℕ) → Contains listed.answers x → listed.may_follow x ≡ true) (some : 1 ≤ j) (is : slice_get (later_of listed page) (j - 1) ≡ Some last) where
  last_fits : listed.may_follow last ≡ true
  last_fits =
      let within : j - 1 < length (later_of listed page) = slice_get_within (later_of listed page) (j - 1) last is in
      fits last (among_all page.after listed.answers last (j - 1, within, get_or_from_slice_get (later_of listed page) (j - 1) last last is))

  rest_of : (all rest : Answer) → all ≡ answered (text_of listed page) → rest ≡ answered (text_of listed (page_from page j last)) → IsRest listed page j all rest
  rest_of all rest left right = record {
    all_is = left ∙ ap answered (all_text listed page j few);
    rest_is = right ∙ ap answered (rest_text listed page j few last order some is);
  }

  rest_elected : (low starts : Bool) (all rest : Answer) → all ≡ elected_by low starts (text_of listed page) → all.status ≡ Answered
      → rest ≡ elected_by low (listed.may_follow last) (text_of listed (page_from page j last)) → IsRest listed page j all rest
  rest_elected low starts all rest left whole right =
      let known = elected_whole low starts (text_of listed page) all left whole in
      rest_of all rest known.1 (right ∙ ap₂ (λ a b. elected_by a b (text_of listed (page_from page j last))) known.0 last_fits)

  rest_shared : (found : Option ShareFault) (starts : Bool) (all rest : Answer) → all ≡ share_answer_by found starts (text_of listed page) → all.status ≡ Answered
      → rest ≡ share_answer_by found (listed.may_follow last) (text_of listed (page_from page j last)) → IsRest listed page j all rest
  rest_shared found starts all rest left whole right =
      let known = shared_whole found starts (text_of listed page) all left whole in
      rest_of all rest known.1 (right ∙ ap₂ (λ a b. share_answer_by a b (text_of listed (page_from page j last))) known.0 last_fits)

-- ---- winners and allocations come in order, and fit as starts
elect_order : (rule : Rule) (size : ℕ) (e : Election) → AreInOrder (elect_answers rule size e)
elect_order (Scored rule) size e = winners-order (value_by rule size e) e.m size
elect_order (Sequential rule) size e = sequential-later rule e size

elect_fits : (rule : Rule) (size : ℕ) (e : Election) (x : List ℕ) → Contains (elect_answers rule size e) x → is_committee e.m size x ≡ true
elect_fits (Scored rule) size e x c =
    let known = winner-is (value_by rule size e) e.m size x c in
    is_committee-true e.m size x known.0 known.1
elect_fits (Sequential rule) size e x c =
    let known = chosen-from_contains 1 e.m size x (Contains-from_filter (is_sequential_winner rule e size) (increasing_lists 1 e.m size) x c) in
    is_committee-true e.m size x known.0 known.1

each_at_most : (most : ℕ) (xs : List ℕ) → sum xs ≤ most → list_all (λ n. nat_le n most) xs ≡ true
each_at_most most [] few = refl
each_at_most most (x ∷ xs) few =
    let split = sum_by-cons (λ n. n) x xs in
    and_from (nat_le x most) (list_all (λ n. nat_le n most) xs) (le-leb x most (omega (arith, split, few))) (each_at_most most xs (omega (arith, split, few)))

share_fits : (method : Method) (votes : List ℕ) (seats : ℕ) (x : List ℕ) → seats ≤ most_seats → Contains (allocations method votes seats) x → has_seats_for (length votes) x ≡ true
share_fits method votes seats x most c =
    let known = facts method votes x seats (fair-from_contains method votes seats x c) in
    and_from (length x == length votes) (list_all (λ n. nat_le n most_seats) x) (eq-eqb (length x) (length votes) known.long) (each_at_most most_seats x (omega (arith, known.all, most)))

-- ---- the law
rest_votes : (names : Names) (method : Method) (seats : ℕ) (votes : List ℕ) (listed : Listed) (page : Page) (j : ℕ) (last : List ℕ) (all rest : Answer) → seats ≤ most_seats
    → listed ≡ share_listed names method seats votes → 1 ≤ j → IfSome page.limit (λ n. j < n) → slice_get (later_of listed page) (j - 1) ≡ Some last
    → all ≡ share_answer method seats page names votes → all.status ≡ Answered → rest ≡ share_answer method seats (page_from page j last) names votes → IsRest listed page j all rest
rest_votes names method seats votes listed page j last all rest most same some few is left whole right =
    subst (λ (l : Listed). slice_get (later_of l page) (j - 1) ≡ Some last → IsRest l page j all rest) (sym same)
    (λ at.
    rest_shared (share_listed names method seats votes) page j last few (allocations-rise method votes seats) (λ x c. share_fits method votes seats x most c) some at
    (share_fault votes seats None) (may_start (has_seats_for (length votes)) page.after) all rest left whole right)
    is

rest_to : (with_names : Bool) (task : Task) (pick : Pick) (bytes : List ℕ) (listed : Listed) (page : Page) (j : ℕ) (last : List ℕ) (all rest : Answer) → is_listing task ≡ true
    → InRange task → IsListedBy with_names task pick bytes listed → 1 ≤ j → IfSome page.limit (λ n. j < n) → slice_get (later_of listed page) (j - 1) ≡ Some last
    → IsAnswerTo with_names (with_page page task) pick bytes all → all.status ≡ Answered → IsAnswerTo with_names (with_page (page_from page j last) task) pick bytes rest
    → IsRest listed page j all rest
rest_to with_names (of_ballots (electing rule size old)) pick bytes listed page j last all rest lists range (e, reads, same) some few is x whole y =
    let left = over_election (λ e answer. answer ≡ election_answer rule size page with_names e) pick bytes e all reads x in
    let right = over_election (λ e answer. answer ≡ election_answer rule size (page_from page j last) with_names e) pick bytes e rest reads y in
    subst (λ (l : Listed). slice_get (later_of l page) (j - 1) ≡ Some last → IsRest l page j all rest) (sym same)
    (λ at.
    rest_elected (elect_listed with_names rule size e) page j last few (elect_order rule size e) (elect_fits rule size e) some at
    (nat_lt e.m size) (may_start (is_committee e.m size) page.after) all rest left whole right)
    is
rest_to with_names (of_ballots (checking property list)) pick bytes listed page j last all rest lists range none some few is x whole y = let h : false ≡ true = lists in cc
rest_to with_names (of_ballots (sharing method seats old)) pick bytes listed page j last all rest lists range (e, reads, same) some few is x whole y =
    let names = naming with_names e.names in
    let votes = party_votes e in
    let left = counted_whole (has_many_approved e) (share_answer method seats page names votes) all
    (over_election (λ e answer. answer ≡ ballots_answer method seats page with_names e) pick bytes e all reads x) whole in
    let right : rest ≡ counted_by (has_many_approved e) (share_answer method seats (page_from page j last) names votes) =
    over_election (λ e answer. answer ≡ ballots_answer method seats (page_from page j last) with_names e) pick bytes e rest reads y in
    rest_votes names method seats votes listed page j last all rest range.1 same some few is left.1 whole
    (right ∙ ap (λ many. counted_by many (share_answer method seats (page_from page j last) names votes)) left.0)
rest_to with_names (of_votes votes method seats old) pick bytes listed page j last all rest lists range same some few is x whole y =
    rest_votes (naming with_names []) method seats votes listed page j last all rest range.1 same some few is x whole y

pub rest_fetched : (asked : Request) (bytes : List ℕ) (listed : Listed) (page : Page) (j : ℕ) (last : List ℕ) (all rest : Answer) → is_listing asked.task ≡ true
    → InRange asked.task → IsListed asked bytes listed → 1 ≤ j → IfSome page.limit (λ n. j < n) → slice_get (later_of listed page) (j - 1) ≡ Some last
    → IsAnswer (asked_for page asked) bytes all → all.status ≡ Answered → IsAnswer (asked_for (page_from page j last) asked) bytes rest → IsRest listed page j all rest
rest_fetched asked bytes listed page j last all rest lists range listed_is some few is x whole y =
    rest_to asked.names asked.task asked.pick bytes listed page j last all rest lists range listed_is some few is x whole y
