use Rattle.std.proofs.Common.{◌≡◌, ◌∙◌, ◌≤◌}
use Rattle.std.specs.Prelude.{IfSome, option_map}
use Rattle.std.specs.Str.Parse.{ParsesUnsigned, ExplainsUnsignedError, HasUnsignedDigitsIfOk}
use Rattle.clap.specs.Words.{found_of, one_of, rows_of}
use Rattle.clap.proofs.WalkLemmas.{one_text-rows}
use Rattle.request_words.specs.Limits.{most_limit}
use Rattle.request_words.specs.Words.{number_of}
use Rattle.request_words.proofs.WordsLemmas.{count_read}
use Rattle.request_words.proofs.words.number.Goals as goal

read : (c : goal.After-get_one) → (c.get_one.result ≡ option_map number_of (one_of c.args.name.now (rows_of (found_of c.args.command.now))))
    × IfSome c.get_one.result (λ n. 1 ≤ n) × IfSome c.get_one.result (λ n. n ≤ most_limit)
read c =
    let same = one_text-rows (found_of c.args.command.now) c.args.name.now in
    count_read _ (λ bs r. ParsesUnsigned 32 10 bs r × ExplainsUnsignedError 10 bs r × HasUnsignedDigitsIfOk bs r) _ c.get_one.result
    (λ e. c.get_one.ensures.none (same ∙ e)) (λ t e. c.get_one.ensures.value t (same ∙ e)) (λ u x g. g.0) c.requires

pub returns-clause-value : goal.returns-clause-value
returns-clause-value c = (read c).0

pub returns-clause-least : goal.returns-clause-least
returns-clause-least c = (read c).1

pub returns-clause-most : goal.returns-clause-most
returns-clause-most c = (read c).2
