use Rattle.std.proofs.Common.{◌∙◌}
use Rattle.clap.specs.Words.{found_of}
use Rattle.request_words.proofs.WordsLemmas.{given_rows}
use Rattle.request_words.proofs.words.is_given.Goals as goal

pub returns : goal.returns
returns c = c.contains_id.ensures ∙ given_rows (found_of c.args.command.now) c.args.name.now
