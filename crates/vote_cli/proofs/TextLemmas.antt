-- The text of listings, in the parts that are printed one after the other.
use Rattle.std.proofs.Common.{◌≡◌, ℕ, zero, suc, ◌-◌, Bool, true, false, List, [], ◌∷◌, ◌++◌, Option, Some, None, refl, sym, ap, ◌∙◌, append_assoc, length, take, arith}
use Rattle.std.specs.Prelude.{codes, decimal, flat_map, nat_lt, option_map}
use Rattle.std.proofs.lemmas.Bool.{lt-ltb, le-ltb, ltb-true, ltb-false}
use Rattle.ballot_base.specs.Ballots.{Election}
use Rattle.preflib_text.specs.Names.{fault_name}
use Rattle.preflib_text.specs.declared.fault.ReadFault.{ReadFault}
use Rattle.ballot_base.specs.Lists.{later_than}
use Rattle.request_words.specs.Request.{Page}
use Rattle.request_words.specs.declared.request.Rule.TheVariants.{Scored, Sequential}
use Rattle.request_words.specs.declared.request.ScoredRule.{ScoredRule}
use Rattle.ballot_base.specs.Increments.{increments}
use Rattle.ballot_base.specs.declared.increments.ThieleRule.{ThieleRule}
use Rattle.request_words.specs.declared.request.ScoredRule.TheVariants.{Minimax, Satisfaction, Thiele}
use Rattle.sequential_winners.specs.Families.{Sequential as Families, sequential_of}
use Rattle.tie_walk.specs.Sequences.{sequential_winners}
use Rattle.tie_walk.specs.declared.sequential.SeqRule.{SeqRule}
use Rattle.tie_walk.specs.Values.{Thiele as Tally, closeness, satisfaction_value, thiele_of, thiele_value}
use Rattle.tie_walk.specs.Winners.{best_value, winners}
use Rattle.vote_cli.specs.ElectText.{best_text, elect_text, rule_lines, score_text}
use Rattle.vote_cli.specs.RuleValues.{value_by}
use Rattle.vote_cli.specs.Steps.ScoredText.{ranked_text}
use Rattle.vote_cli.specs.FaultText.{fault_text}
use Rattle.vote_cli.specs.Listing.{answers_text, committee_line, has_more, last_line}
use Rattle.text_output.specs.Names.{Names}
use Rattle.text_output.specs.Text.{line}

-- nothing is left
pub none_listed : (line_of : List ℕ → List ℕ) (limit : Option ℕ) (answers : List (List ℕ)) → answers ≡ [] → answers_text line_of limit answers ≡ line (codes "end")
none_listed line_of limit answers none = ap (answers_text line_of limit) none ∙ by limit
  where
    by : (room : Option ℕ) → answers_text line_of room [] ≡ line (codes "end")
    by None = refl
    by (Some zero) = refl
    by (Some (suc n)) = ap last_line (le-ltb (suc n) 0 (omega arith))

-- one answer where there is room, and those after it
pub one_listed : (line_of : List ℕ → List ℕ) (room : Option ℕ) (answer : List ℕ) (answers : List (List ℕ)) → (room ≡ Some 0 → ⊥)
    → answers_text line_of room (answer ∷ answers) ≡ line_of answer ++ answers_text line_of (option_map (λ n. n - 1) room) answers
one_listed line_of None answer answers some = append_assoc (line_of answer) (flat_map line_of answers) (line (codes "end"))
one_listed line_of (Some zero) answer answers some = absurd (some refl)
one_listed line_of (Some (suc n)) answer answers some =
    ap (λ b. (line_of answer ++ flat_map line_of (take n answers)) ++ last_line b) (both n (length answers))
    ∙ append_assoc (line_of answer) (flat_map line_of (take n answers)) (last_line (nat_lt n (length answers)))
    ∙ ap (λ k. line_of answer ++ answers_text line_of (Some k) answers) (let e : n ≡ suc n - 1 = omega arith in e)
  where
    both : (a b : ℕ) → nat_lt (suc a) (suc b) ≡ nat_lt a b
    both a b = by (nat_lt a b) refl
      where
        by : (t : Bool) → t ≡ nat_lt a b → nat_lt (suc a) (suc b) ≡ t
        by true is = lt-ltb (suc a) (suc b) (omega (arith, ltb-true a b (sym is)))
        by false is = le-ltb (suc a) (suc b) (omega (arith, ltb-false a b (sym is)))

-- where there is no room, the last line alone
pub last_listed : (line_of : List ℕ → List ℕ) (room : Option ℕ) (answers : List (List ℕ)) → room ≡ Some 0
    → answers_text line_of room answers ≡ last_line (has_more (Some 0) answers)
last_listed line_of room answers none = ap (λ r. answers_text line_of r answers) none

-- the line of a score, in the pieces that are printed
pub score_line : (score denominator : ℕ) (word digits more : List ℕ) → word ≡ codes "score " → digits ≡ decimal score → more ≡ decimal denominator
    → word ++ (digits ++ (47 ∷ (more ++ (10 ∷ [])))) ≡ line (score_text score denominator)
score_line score denominator word digits more first one other = rw (first, one, other)
    (ap (λ l. codes "score " ++ l) (sym (append_assoc (decimal score) (47 ∷ decimal denominator) (10 ∷ []))))

-- the line of a fault at a line of the input, in the pieces that are printed
pub fault_line : (fault : ReadFault) (number : ℕ) (place digits word : List ℕ) → fault.line ≡ Some number → place ≡ codes "committees: input line " → digits ≡ decimal number
    → word ≡ fault_name fault.name → place ++ (digits ++ (codes ": " ++ (word ++ (10 ∷ [])))) ≡ line (fault_text fault)
fault_line fault number place digits word is first one other = rw (is, first, one, other) (ap (λ l. codes "committees: input line " ++ l)
    (sym (append_assoc (decimal number ++ codes ": ") (fault_name fault.name) (10 ∷ []) ∙ append_assoc (decimal number) (codes ": ") (fault_name fault.name ++ (10 ∷ [])))))

-- the lines after those of the rule and the size, from the line of the best value on
pub winners_parts : (names : Names) (value : List ℕ → ℕ) (rule : ScoredRule) (candidates m size best : ℕ) (after : Option (List ℕ)) (limit : Option ℕ) (left : List (List ℕ)) → m ≡ candidates → best ≡ best_value value m size
    → left ≡ later_than after (winners value m size)
    → line (best_text rule candidates size (best_value value candidates size)) ++ answers_text (committee_line names) limit (later_than after (winners value candidates size))
    ≡ line (best_text rule candidates size best) ++ answers_text (committee_line names) limit left
winners_parts names value rule candidates m size best after limit left same is those = rw (is, those, same) refl

-- the same lines of winners that a search finds
pub searched_parts : {S : Type 0} (names : Names) (value_of : S → List ℕ → ℕ) (candidates_of : S → ℕ) (rule : ScoredRule) (candidates : ℕ) (search : S) (size : ℕ) (after : Option (List ℕ)) (limit : Option ℕ)
    (asked : S) (k best : ℕ) (left : List (List ℕ)) → candidates_of search ≡ candidates → asked ≡ search → k ≡ size → best ≡ best_value (value_of asked) (candidates_of asked) k
    → left ≡ later_than after (winners (value_of search) (candidates_of search) size)
    → line (best_text rule candidates size (best_value (value_of search) candidates size)) ++ answers_text (committee_line names) limit (later_than after (winners (value_of search) candidates size))
    ≡ line (best_text rule candidates size best) ++ answers_text (committee_line names) limit left
searched_parts names value_of candidates_of rule candidates search size after limit asked k best left fits same_search same_k is those =
    winners_parts names (value_of search) rule candidates (candidates_of search) size best after limit left fits
    (is ∙ ap (λ s. best_value (value_of s) (candidates_of s) k) same_search ∙ ap (best_value (value_of search) (candidates_of search)) same_k) those

-- the text of an election by a rule with a value: the lines of the rule and the size, and those after them
pub scored_parts : (names : Names) (page : Page) (rule : ScoredRule) (size : ℕ) (e : Election)
    → elect_text (Scored rule) size page names e ≡ rule_lines (Scored rule) size ++ ranked_text rule (value_by rule size e) size page names e
scored_parts names page rule size e = append_assoc (rule_lines (Scored rule) size) (line (best_text rule e.m size (best_value (value_by rule size e) e.m size)))
    (answers_text (committee_line names) page.limit (later_than page.after (winners (value_by rule size e) e.m size)))

-- the same of a sequential rule, of which these families are
pub sequential_parts : (names : Names) (page : Page) (rule : SeqRule) (size : ℕ) (e : Election) (families : Families) → families ≡ sequential_of e rule size
    → elect_text (Sequential rule) size page names e
    ≡ rule_lines (Sequential rule) size ++ answers_text (committee_line names) page.limit (later_than page.after (sequential_winners families.rule families.election families.k))
sequential_parts names page rule size e families same = rw same refl

-- the same of each kind of rule, by the values of its tally
module _ (names : Names) (page : Page) (size : ℕ) (e : Election) where
  pub thiele_parts : (rule : ThieleRule) (tally : Tally) → tally ≡ thiele_of e rule size
      → elect_text (Scored (Thiele rule)) size page names e
      ≡ rule_lines (Scored (Thiele rule)) size ++ ranked_text (Thiele rule) (thiele_value (increments tally.rule tally.k) tally.election.rows) size page names e
  thiele_parts rule tally same = rw same (scored_parts names page (Thiele rule) size e)

  pub satisfaction_parts : (tally : Election) → tally ≡ e
      → elect_text (Scored Satisfaction) size page names e ≡ rule_lines (Scored Satisfaction) size ++ ranked_text Satisfaction (satisfaction_value tally.m tally.rows) size page names e
  satisfaction_parts tally same = rw same (scored_parts names page Satisfaction size e)

  pub minimax_parts : (tally : Election) → tally ≡ e
      → elect_text (Scored Minimax) size page names e ≡ rule_lines (Scored Minimax) size ++ ranked_text Minimax (closeness tally.m tally.rows) size page names e
  minimax_parts tally same = rw same (scored_parts names page Minimax size e)
