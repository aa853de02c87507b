use Rattle.request_words.proofs.TakenWords.{taken_words}
use Rattle.request_words.proofs.laws.taken_words.Goals as goal

pub returns : goal.returns
returns c = taken_words
