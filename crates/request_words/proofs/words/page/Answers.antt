use Rattle.std.specs.Prelude.{option_map}
use Rattle.std.specs.Vec.{vec_items}
use Rattle.clap.specs.Words.{found_of, rows_of}
use Rattle.request_words.specs.Request.{page_of}
use Rattle.request_words.specs.Words.{page_in}
use Rattle.request_words.specs.Steps.Values.{Gives}
use Rattle.request_words.proofs.WordsLemmas.{page_failed, page_read, passed_on, some_items}
use Rattle.request_words.proofs.words.page.Goals as goal

pub returns-in_err-after-clause-given : goal.returns-in_err-after-clause-given
returns-in_err-after-clause-given c =
    let rows = rows_of (found_of c.args.command.now) in
    passed_on (Gives page_of (page_in rows)) c.from_residual.result c.in_err-after.field-0.0 c.from_residual.ensures.1
    (page_failed rows c.in_err-after.field-0.0 c.in_err-after.ensures.given)

pub returns-clause-given : goal.returns-clause-given
returns-clause-given c =
    page_read (rows_of (found_of c.args.command.now)) (option_map vec_items c.in_ok-after.after) c.number-limit.result c.in_ok-after.ensures.given c.number-limit.ensures.value

pub returns-clause-range : goal.returns-clause-range
returns-clause-range c = record {
  after = some_items c.in_ok-after.after c.in_ok-after.ensures.some;
  least = c.number-limit.ensures.least;
  most = c.number-limit.ensures.most;
}
