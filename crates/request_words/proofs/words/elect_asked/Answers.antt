use Rattle.std.proofs.Common.{◌∙◌, ap}
use Rattle.std.specs.Prelude.{Some}
use Rattle.clap.specs.Words.{found_of, rows_of}
use Rattle.request_words.specs.Request.{page_of}
use Rattle.request_words.specs.Words.{elect_in, elect_over_page, page_in, result_and_then}
use Rattle.request_words.specs.Steps.Values.{GivesAsked}
use Rattle.request_words.proofs.WordsLemmas.{failed, gives_asked, passed_on}
use Rattle.request_words.proofs.words.elect_asked.Goals as goal

pub request-requires-clause-range : goal.request-requires-clause-range
request-requires-clause-range c = (c.rule_and_size-rule.ensures.least, c.rule_and_size-rule.ensures.most, c.in_ok-page.ensures.range)

pub returns-in_err-page : goal.returns-in_err-page
returns-in_err-page c =
    let rows = rows_of (found_of c.args.elect.now) in
    passed_on (GivesAsked (elect_in rows)) c.from_residual.result c.in_err-page.field-0.0 c.from_residual.ensures.1
    (failed (elect_in rows) _ (page_in rows) c.in_err-page.field-0.0 c.rule_and_size-rule.ensures.asked c.in_err-page.ensures.given)

pub returns : goal.returns
returns c =
    let rows = rows_of (found_of c.args.elect.now) in
    let next = elect_over_page rows c.rule_and_size-rule.result.0 c.rule_and_size-rule.result.1 in
    gives_asked (elect_in rows) (next (page_of c.in_ok-page.page)) c.request.result
    (c.rule_and_size-rule.ensures.asked ∙ ap (λ r. Some (result_and_then next r)) c.in_ok-page.ensures.given) c.request.ensures
