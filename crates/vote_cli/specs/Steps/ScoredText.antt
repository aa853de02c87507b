-- The text of an election by the values of a tally.
use Rattle.std.specs.Prelude.{ℕ, List, ◌++◌}
use Rattle.ballot_base.specs.Ballots.{Election}
use Rattle.ballot_base.specs.Lists.{later_than}
use Rattle.request_words.specs.Request.{Page}
use Rattle.request_words.specs.declared.request.ScoredRule.{ScoredRule}
use Rattle.tie_walk.specs.Winners.{best_value, winners}
use Rattle.vote_cli.specs.ElectText.{best_text}
use Rattle.vote_cli.specs.Listing.{answers_text, committee_line}
use Rattle.text_output.specs.Names.{Names}
use Rattle.text_output.specs.Text.{line}

-- what is printed of an election after the lines of the rule and the size, if committees have these values under the
-- rule
abbrev pub ranked_text : ScoredRule → (List ℕ → ℕ) → ℕ → Page → Names → Election → List ℕ
ranked_text rule value size page names e = line (best_text rule e.m size (best_value value e.m size))
    ++ answers_text (committee_line names) page.limit (later_than page.after (winners value e.m size))
