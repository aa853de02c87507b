use Rattle.std.proofs.Common.{◌∙◌, codes}
use Rattle.clap.specs.Words.{found_of}
use Rattle.clap.proofs.WalkLemmas.{one_text-rows}
use Rattle.request_words.proofs.WordsLemmas.{flag_read}
use Rattle.request_words.proofs.words.wants_names.Goals as goal

pub returns : goal.returns
returns c =
    let same = one_text-rows (found_of c.args.command.now) (codes "names") in
    flag_read _ c.get_flag.result c.requires (λ e. c.get_flag.ensures.none (same ∙ e)) (λ e. c.get_flag.ensures.value (same ∙ e))
    (λ e. c.get_flag.ensures.other (same ∙ e))
