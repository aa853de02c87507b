use Rattle.std.proofs.Common.{◌≡◌, ◌⊎◌, ◌∙◌, ◌&&◌, Err, ap, codes, inr, subst, sym, true, false}
use Rattle.clap.specs.Words.{found_of, rows_of}
use Rattle.std.specs.Prelude.{option_map}
use Rattle.std.specs.Vec.{vec_items}
use Rattle.request_words.specs.Request.{InRange, page_of}
use Rattle.request_words.specs.declared.words.ListOption.TheVariants.{Votes}
use Rattle.request_words.specs.declared.words.LineFault.TheVariants.{Memory}
use Rattle.request_words.specs.Words.{asking, has_input, is_given, list_in, page_in, share_in, share_over_page, share_over_votes, without_both}
use Rattle.request_words.specs.Steps.Values.{GivesAsked}
use Rattle.request_words.proofs.WordsLemmas.{both_true, broken, failed, first_false, passed_on, second_false, shared, sharing_in_range, some_items, then_read}
use Rattle.request_words.proofs.words.share_asked.Goals as goal
use Rattle.request_words.proofs.words.share_asked.Goals.{else-is_given-via-then-is_given+else-has_input, else-is_given-via-else-is_given}

pub request-requires-clause-range : goal.request-requires-clause-range
request-requires-clause-range c =
    subst InRange (sym c.share_task.ensures)
    (sharing_in_range (option_map vec_items c.in_ok-votes.votes) c.method_and_seats-method.result.0 c.method_and_seats-method.result.1 (page_of c.in_ok-page.page)
    c.method_and_seats-method.ensures.least c.method_and_seats-method.ensures.most (some_items c.in_ok-votes.votes c.in_ok-votes.ensures.some) c.in_ok-page.ensures.range)

pub returns-in_err-votes : goal.returns-in_err-votes
returns-in_err-votes c =
    let rows = rows_of (found_of c.args.share.now) in
    passed_on (GivesAsked (share_in rows)) c.from_residual.result c.in_err-votes.field-0.0 c.from_residual.ensures.1
    (broken (share_in rows) (without_both rows) _ (list_in Votes (codes "votes") rows) c.in_err-votes.field-0.0 c.method_and_seats-method.ensures.asked
    c.in_err-votes.ensures.given)

pub returns-in_err-page : goal.returns-in_err-page
returns-in_err-page c =
    let rows = rows_of (found_of c.args.share.now) in
    let over_votes = share_over_votes rows c.method_and_seats-method.result.0 c.method_and_seats-method.result.1 in
    let votes = option_map vec_items c.in_ok-votes.votes in
    let read = then_read (share_in rows) (without_both rows) over_votes _ votes c.method_and_seats-method.ensures.asked c.in_ok-votes.ensures.given in
    passed_on (GivesAsked (share_in rows)) c.from_residual-in_err-page.result c.in_err-page.field-0.0 c.from_residual-in_err-page.ensures.1
    (broken (share_in rows) (without_both rows) _ (page_in rows) c.in_err-page.field-0.0 read c.in_err-page.ensures.given)

pub returns-in_err-request : goal.returns-in_err-request
returns-in_err-request c =
    let rows = rows_of (found_of c.args.share.now) in
    let over_votes = share_over_votes rows c.method_and_seats-method.result.0 c.method_and_seats-method.result.1 in
    let votes = option_map vec_items c.in_ok-votes.votes in
    let over_page = share_over_page rows c.method_and_seats-method.result.0 c.method_and_seats-method.result.1 votes in
    let read = then_read (share_in rows) (without_both rows) over_votes _ votes c.method_and_seats-method.ensures.asked c.in_ok-votes.ensures.given in
    let asked = then_read (share_in rows) (without_both rows) over_page _ (page_of c.in_ok-page.page) read c.in_ok-page.ensures.given in
    passed_on (GivesAsked (share_in rows)) c.from_residual-in_err-request.result c.in_err-request.field-0.0 c.from_residual-in_err-request.ensures.1
    (failed (share_in rows) (without_both rows) (over_page (page_of c.in_ok-page.page)) c.in_err-request.field-0.0 asked
    (subst (λ task. (c.in_err-request.field-0.0 ≡ Memory) ⊎ (asking rows task ≡ Err c.in_err-request.field-0.0)) c.share_task.ensures c.in_err-request.ensures))

pub returns-then-has_input : goal.returns-then-has_input
returns-then-has_input c =
    let rows = rows_of (found_of c.args.share.now) in
    let over_votes = share_over_votes rows c.method_and_seats-method.result.0 c.method_and_seats-method.result.1 in
    let votes = option_map vec_items c.in_ok-votes.votes in
    let over_page = share_over_page rows c.method_and_seats-method.result.0 c.method_and_seats-method.result.1 votes in
    let read = then_read (share_in rows) (without_both rows) over_votes _ votes c.method_and_seats-method.ensures.asked c.in_ok-votes.ensures.given in
    let asked = then_read (share_in rows) (without_both rows) over_page _ (page_of c.in_ok-page.page) read c.in_ok-page.ensures.given in
    inr (shared rows (share_in rows) (over_page (page_of c.in_ok-page.page)) c.in_ok-request.request true asked (ap (asking rows) (sym c.share_task.ensures) ∙ c.in_ok-request.ensures)
    (both_true (is_given rows (codes "votes")) (has_input rows) c.is_given.result c.has_input.result c.is_given.ensures c.has_input.ensures
    c.if-is_given.true c.if-has_input.true))

pub returns : goal.returns
returns c =
    let rows = rows_of (found_of c.args.share.now) in
    let over_votes = share_over_votes rows c.method_and_seats-method.result.0 c.method_and_seats-method.result.1 in
    let votes = option_map vec_items c.in_ok-votes.votes in
    let over_page = share_over_page rows c.method_and_seats-method.result.0 c.method_and_seats-method.result.1 votes in
    let read = then_read (share_in rows) (without_both rows) over_votes _ votes c.method_and_seats-method.ensures.asked c.in_ok-votes.ensures.given in
    let asked = then_read (share_in rows) (without_both rows) over_page _ (page_of c.in_ok-page.page) read c.in_ok-page.ensures.given in
    let alone : (is_given rows (codes "votes") && has_input rows) ≡ false = elim c.else-is_given.branch [
      | else-is_given-via-then-is_given+else-has_input w ↦
          second_false (is_given rows (codes "votes")) (has_input rows) w.has_input.result w.has_input.ensures w.if-has_input.false
      | else-is_given-via-else-is_given w ↦ first_false (is_given rows (codes "votes")) (has_input rows) c.is_given.result c.is_given.ensures w.if-is_given.false
    ] in
    shared rows (share_in rows) (over_page (page_of c.in_ok-page.page)) c.in_ok-request.request false asked (ap (asking rows) (sym c.share_task.ensures) ∙ c.in_ok-request.ensures) alone
