use Rattle.std.proofs.Common.{◌≡◌, ◌∙◌, ◌≤◌, arith, codes, refl, sym}
use Rattle.std.specs.Str.Parse.{ParsesUnsigned, ExplainsUnsignedError, HasUnsignedDigitsIfOk}
use Rattle.seat_share.specs.Limits.{most_seats}
use Rattle.clap.specs.Words.{found_of, rows_of, without_minus}
use Rattle.clap.proofs.WalkLemmas.{first_value-rows, one_text-rows}
use Rattle.request_words.specs.Words.{number_of}
use Rattle.request_words.proofs.WordsLemmas.{number_facts, number_read, share_is, text_is, text_there}
use Rattle.request_words.proofs.words.method_and_seats.Goals as goal
use Rattle.request_words.proofs.words.method_and_seats.Goals.{After-unwrap-seats}

pub unwrap-requires : goal.unwrap-requires
unwrap-requires c = text_there c.get_str.result c.requires.0.text
    (c.get_str.ensures ∙ first_value-rows (found_of c.args.share.now) (codes "method") ∙ c.requires.0.given)

pub unwrap-method-requires : goal.unwrap-method-requires
unwrap-method-requires c =
    let is : c.unwrap.result.now ≡ c.requires.0.text = text_is c.get_str.result c.unwrap.result c.requires.0.text c.unwrap.ensures
    (c.get_str.ensures ∙ first_value-rows (found_of c.args.share.now) (codes "method") ∙ c.requires.0.given) in
    rw (c.named.ensures, is) c.requires.0.known

pub unwrap-seats-requires : goal.unwrap-seats-requires
unwrap-seats-requires c =
    let one = c.get_one.ensures.value _ (one_text-rows (found_of c.args.share.now) (codes "seats") ∙ c.requires.1.given) in
    let got = number_read 16 most_seats _ (λ bs r. ParsesUnsigned 16 10 bs r × ExplainsUnsignedError 10 bs r × HasUnsignedDigitsIfOk bs r)
    c.requires.1.text c.get_one.result one (λ u x g. g.0) (omega arith) c.requires.1.in_range in
    rw got.1 refl

-- the seats lie in their range
in_range : (c : After-unwrap-seats) → (1 ≤ c.unwrap-seats.result) × (c.unwrap-seats.result ≤ most_seats)
    × (c.unwrap-seats.result ≡ number_of (without_minus c.requires.1.text))
in_range c =
    let one = c.get_one.ensures.value _ (one_text-rows (found_of c.args.share.now) (codes "seats") ∙ c.requires.1.given) in
    number_facts 16 most_seats _ (λ bs r. ParsesUnsigned 16 10 bs r × ExplainsUnsignedError 10 bs r × HasUnsignedDigitsIfOk bs r)
    c.requires.1.text c.get_one.result c.unwrap-seats.result one (λ u x g. g.0) (omega arith) c.requires.1.in_range c.unwrap-seats.ensures

pub returns-clause-least : goal.returns-clause-least
returns-clause-least c = (in_range c).0

pub returns-clause-most : goal.returns-clause-most
returns-clause-most c = (in_range c).1

pub returns-clause-asked : goal.returns-clause-asked
returns-clause-asked c =
    let named : c.unwrap.result.now ≡ c.requires.0.text = text_is c.get_str.result c.unwrap.result c.requires.0.text c.unwrap.ensures
    (c.get_str.ensures ∙ first_value-rows (found_of c.args.share.now) (codes "method") ∙ c.requires.0.given) in
    share_is (rows_of (found_of c.args.share.now)) c.requires c.unwrap.result.now c.unwrap-method.result c.unwrap-seats.result named
    (sym c.named.ensures ∙ c.unwrap-method.ensures) (in_range c).2
