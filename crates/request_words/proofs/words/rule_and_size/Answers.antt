use Rattle.std.proofs.Common.{◌≡◌, ◌∙◌, ◌≤◌, arith, codes, refl, sym}
use Rattle.std.specs.Str.Parse.{ParsesUnsigned, ExplainsUnsignedError, HasUnsignedDigitsIfOk}
use Rattle.ballot_base.specs.Limits.{most_members}
use Rattle.clap.specs.Words.{found_of, rows_of, without_minus}
use Rattle.clap.proofs.WalkLemmas.{first_value-rows, one_text-rows}
use Rattle.request_words.specs.Words.{number_of}
use Rattle.request_words.proofs.WordsLemmas.{elect_is, number_facts, number_read, text_is, text_there}
use Rattle.request_words.proofs.words.rule_and_size.Goals as goal
use Rattle.request_words.proofs.words.rule_and_size.Goals.{After-unwrap-size}

pub unwrap-requires : goal.unwrap-requires
unwrap-requires c = text_there c.get_str.result c.requires.0.text
    (c.get_str.ensures ∙ first_value-rows (found_of c.args.elect.now) (codes "rule") ∙ c.requires.0.given)

pub unwrap-rule-requires : goal.unwrap-rule-requires
unwrap-rule-requires c =
    let is : c.unwrap.result.now ≡ c.requires.0.text = text_is c.get_str.result c.unwrap.result c.requires.0.text c.unwrap.ensures
    (c.get_str.ensures ∙ first_value-rows (found_of c.args.elect.now) (codes "rule") ∙ c.requires.0.given) in
    rw (c.named.ensures, is) c.requires.0.known

pub unwrap-size-requires : goal.unwrap-size-requires
unwrap-size-requires c =
    let one = c.get_one.ensures.value _ (one_text-rows (found_of c.args.elect.now) (codes "size") ∙ c.requires.1.given) in
    let got = number_read 8 most_members _ (λ bs r. ParsesUnsigned 8 10 bs r × ExplainsUnsignedError 10 bs r × HasUnsignedDigitsIfOk bs r)
    c.requires.1.text c.get_one.result one (λ u x g. g.0) (omega arith) c.requires.1.in_range in
    rw got.1 refl

-- the size lies in its range
in_range : (c : After-unwrap-size) → (1 ≤ c.unwrap-size.result) × (c.unwrap-size.result ≤ most_members)
    × (c.unwrap-size.result ≡ number_of (without_minus c.requires.1.text))
in_range c =
    let one = c.get_one.ensures.value _ (one_text-rows (found_of c.args.elect.now) (codes "size") ∙ c.requires.1.given) in
    number_facts 8 most_members _ (λ bs r. ParsesUnsigned 8 10 bs r × ExplainsUnsignedError 10 bs r × HasUnsignedDigitsIfOk bs r)
    c.requires.1.text c.get_one.result c.unwrap-size.result one (λ u x g. g.0) (omega arith) c.requires.1.in_range c.unwrap-size.ensures

pub returns-clause-least : goal.returns-clause-least
returns-clause-least c = (in_range c).0

pub returns-clause-most : goal.returns-clause-most
returns-clause-most c = (in_range c).1

pub returns-clause-asked : goal.returns-clause-asked
returns-clause-asked c =
    let named : c.unwrap.result.now ≡ c.requires.0.text = text_is c.get_str.result c.unwrap.result c.requires.0.text c.unwrap.ensures
    (c.get_str.ensures ∙ first_value-rows (found_of c.args.elect.now) (codes "rule") ∙ c.requires.0.given) in
    elect_is (rows_of (found_of c.args.elect.now)) c.requires c.unwrap.result.now c.unwrap-rule.result c.unwrap-size.result named
    (sym c.named.ensures ∙ c.unwrap-rule.ensures) (in_range c).2
