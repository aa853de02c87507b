-- The text of an election: the lines before its winners, and the winners.
use Rattle.std.specs.Prelude.{ℕ, ◌-◌, List, ◌∷◌, ◌++◌, codes, decimal}
use Rattle.ballot_base.specs.Ballots.{Election}
use Rattle.ballot_base.specs.CommonMultiple.{common_multiple}
use Rattle.ballot_base.specs.Increments.{denominator}
use Rattle.request_words.specs.Names.{rule_name}
use Rattle.request_words.specs.Request.{Page}
use Rattle.request_words.specs.declared.request.Rule.{Rule}
use Rattle.request_words.specs.declared.request.Rule.TheVariants.{Scored, Sequential}
use Rattle.request_words.specs.declared.request.ScoredRule.{ScoredRule}
use Rattle.request_words.specs.declared.request.ScoredRule.TheVariants.{Thiele, Satisfaction, Minimax}
use Rattle.tie_walk.specs.Sequences.{sequential_winners}
use Rattle.tie_walk.specs.Winners.{best_value, winners}
use Rattle.vote_cli.specs.Listing.{committee_line, listing_text}
use Rattle.text_output.specs.Names.{Names}
use Rattle.vote_cli.specs.RuleValues.{value_by}
use Rattle.text_output.specs.Text.{line}

-- a score over its denominator, which is not reduced
abbrev pub score_text : ℕ → ℕ → List ℕ
score_text score denominator = codes "score " ++ decimal score ++ 47 ∷ decimal denominator

-- the text of the best value of a committee of this size, of m candidates: its score over the denominator, or its
-- distance
abbrev pub best_text : ScoredRule → ℕ → ℕ → ℕ → List ℕ
best_text (Thiele rule) m size best = score_text best (denominator rule size)
best_text Satisfaction m size best = score_text best (common_multiple m)
best_text Minimax m size best = codes "distance " ++ decimal (m - best)

-- the lines of the rule and the size
abbrev pub rule_lines : Rule → ℕ → List ℕ
rule_lines rule size = line (codes "rule " ++ rule_name rule) ++ line (codes "size " ++ decimal size)

-- the lines of the rule and the size, and the score or the distance of the winners
abbrev pub scored_header : ScoredRule → ℕ → ℕ → ℕ → List ℕ
scored_header rule m size best = rule_lines (Scored rule) size ++ line (best_text rule m size best)

-- the lines before the winners: those of a sequential rule have no score
abbrev pub elect_header : Rule → ℕ → Election → List ℕ
elect_header (Scored rule) size election =
    scored_header rule election.m size (best_value (value_by rule size election) election.m size)
elect_header (Sequential rule) size election = rule_lines (Sequential rule) size

-- the answers: the winning committees of this size
abbrev pub elect_answers : Rule → ℕ → Election → List (List ℕ)
elect_answers (Scored rule) size election = winners (value_by rule size election) election.m size
elect_answers (Sequential rule) size election = sequential_winners rule election size

-- what is printed of an election
abbrev pub elect_text : Rule → ℕ → Page → Names → Election → List ℕ
elect_text rule size page names election =
    listing_text (committee_line names) (elect_header rule size election) page (elect_answers rule size election)
