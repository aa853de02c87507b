-- The names of rules, and those that an option may have.
use Rattle.std.specs.Prelude.{ℕ, List, [], ◌∷◌, Option, codes, find, map}
use Rattle.std.specs.Str.{bytes_eq}
use Rattle.ballot_base.specs.declared.increments.ThieleRule.TheVariants.{Av, Pav, Cc, Geom2, Geom3, Geom4}
use Rattle.preflib_text.specs.Names.{kinds, kind_name}
use Rattle.group_check.specs.Names.{properties, property_name}
use Rattle.seat_share.specs.Names.{methods, method_name}
use Rattle.tie_walk.specs.declared.sequential.SeqRule.TheVariants.{SeqPav, SeqCc, RevSeqPav}
use Rattle.request_words.specs.declared.request.Rule.{Rule}
use Rattle.request_words.specs.declared.request.Rule.TheVariants.{Scored, Sequential}
use Rattle.request_words.specs.declared.request.ScoredRule.TheVariants.{Thiele, Satisfaction, Minimax}

-- the name of a rule
abbrev pub rule_name : Rule → List ℕ
rule_name (Scored (Thiele Av)) = codes "av"
rule_name (Scored (Thiele Pav)) = codes "pav"
rule_name (Scored (Thiele Cc)) = codes "cc"
rule_name (Scored (Thiele Geom2)) = codes "geom2"
rule_name (Scored (Thiele Geom3)) = codes "geom3"
rule_name (Scored (Thiele Geom4)) = codes "geom4"
rule_name (Scored Satisfaction) = codes "sav"
rule_name (Scored Minimax) = codes "minimax"
rule_name (Sequential SeqPav) = codes "seqpav"
rule_name (Sequential SeqCc) = codes "seqcc"
rule_name (Sequential RevSeqPav) = codes "revseqpav"

-- all rules
abbrev pub rules : List Rule
rules = Scored (Thiele Av) ∷ Scored (Thiele Pav) ∷ Scored (Thiele Cc) ∷ Scored (Thiele Geom2) ∷ Scored (Thiele Geom3)
    ∷ Scored (Thiele Geom4) ∷ Scored Satisfaction ∷ Scored Minimax ∷ Sequential SeqPav ∷ Sequential SeqCc
    ∷ Sequential RevSeqPav ∷ []

-- the rule with this name, if there is one
abbrev pub rule_named : List ℕ → Option Rule
rule_named name = find (λ rule. bytes_eq name (rule_name rule)) rules

-- the names of all rules, properties, methods and types of files
abbrev pub rule_names : List (List ℕ)
rule_names = map rule_name rules

abbrev pub property_names : List (List ℕ)
property_names = map property_name properties

abbrev pub method_names : List (List ℕ)
method_names = map method_name methods

abbrev pub kind_names : List (List ℕ)
kind_names = map kind_name kinds
