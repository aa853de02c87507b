use Rattle.std.proofs.Common.{◌∙◌}
use Rattle.request_words.specs.Request.{page_of}
use Rattle.vote_cli.proofs.RunLemmas.{ballots_share, writes_as}
use Rattle.vote_cli.proofs.answers.Ballots.answer_share.Goals as goal

pub returns-clause-wrote : goal.returns-clause-wrote
returns-clause-wrote g c =
    writes_as
    (ballots_share c.args.sharing.now.method c.args.sharing.now.seats (page_of c.args.sharing.now.page) c.args.self.now.with_names c.args.self.now.profile.now _ c.as_slice.result.now
    c.in-Some.ensures.some.0 c.of-names.ensures (c.as_slice.ensures.value ∙ c.in-Some.ensures.some.1)) c.answer_share.ensures.wrote
