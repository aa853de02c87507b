-- `request_of`, the refusals after clap and clap's kinds of refusal, computed.
use Rattle.std.proofs.Common.{◌≡◌, false, refl, true, true≢false, List, [], ◌∷◌, codes, inl, inr, ℕ, Global, Result, String}
use Rattle.std.specs.Prelude.{Option, Some, None, Ok, Err}
use Rattle.clap.specs.Words.{Text, fault_of}
use Rattle.clap.proofs.OnLiterals.{clap_on_literals}
use Rattle.clap.specs.declared.error.kind.ErrorKind.TheVariants as kind
use Rattle.ballot_base.specs.declared.increments.ThieleRule.TheVariants.{Av, Geom3}
use Rattle.request_words.specs.declared.request.Rule.{Rule}
use Rattle.request_words.specs.declared.request.Rule.TheVariants.{Scored, Sequential}
use Rattle.tie_walk.specs.declared.sequential.SeqRule.TheVariants.{SeqPav, SeqCc, RevSeqPav}
use Rattle.request_words.specs.declared.request.ScoredRule.TheVariants.{Thiele, Satisfaction, Minimax}
use Rattle.request_words.specs.Request.{Request, Task, checking, electing, of_ballots, of_votes, sharing, whole}
use Rattle.preflib_text.specs.declared.pick.Kind.{Kind}
use Rattle.preflib_text.specs.declared.pick.Kind.TheVariants.{Cat, Soc, Soi, Toc, Toi}
use Rattle.preflib_text.specs.declared.pick.Pick.{Pick}
use Rattle.preflib_text.specs.declared.pick.Way.{Way}
use Rattle.preflib_text.specs.declared.pick.Way.TheVariants.{Usual, Category, SetSize, Classes}
use Rattle.group_check.specs.declared.property.Property.TheVariants.{Jr, Pjr, Ejr, EjrPlus}
use Rattle.seat_share.specs.declared.method.Method.TheVariants.{Hamilton, Dhondt, SainteLague, Huntington, Adams, Dean}
use Rattle.request_words.specs.declared.words.LineFault.TheVariants.{Help, Usage, BadList, TwoPicks, VotesAndInput, Memory}
use Rattle.request_words.specs.declared.words.LineFault.{LineFault}
use Rattle.request_words.specs.declared.words.ListOption.{ListOption}
use Rattle.request_words.specs.declared.words.ListOption.TheVariants.{Committee, Votes, After}
use Rattle.request_words.specs.Endings.{after_last, kind_in_path}
use Rattle.request_words.specs.NumberList.{all_there, entry_of, list_of}
use Rattle.group_check.specs.Names.{property_named}
use Rattle.seat_share.specs.Names.{method_named}
use Rattle.request_words.specs.Names.{method_names, property_names, rule_name, rule_named, rule_names}
use Rattle.request_words.specs.Words.{AsksForHelp, IsMisused, RefusesWords, line_of, listed, outcome_of, program, request_of, way_by}

-- `committees elect` and these words
abbrev elect_words : List Text → List Text
elect_words rest = codes "committees" ∷ codes "elect" ∷ rest

-- approval voting, for a file of this type and this ending, in this way
abbrev asked : ℕ → Option Kind → Option Kind → Way → Option Text → Option Request
asked size kind ending way file =
    Some (record { task = of_ballots (electing (Scored (Thiele Av)) size whole); pick = record { kind = kind; ending = ending; way = way }; file = file; names = false })

abbrev av : ℕ → Option Text → Option Request
av size file = asked size None None Usual file

standard_input : request_of (elect_words (codes "--rule" ∷ codes "av" ∷ codes "--size" ∷ codes "1" ∷ [])) ≡ av 1 None
unfolding clap_on_literals
standard_input = refl

file_named : request_of (elect_words (codes "--size" ∷ codes "40" ∷ codes "a.cat" ∷ codes "--rule=av" ∷ [])) ≡ asked 40 None (Some Cat) Usual (Some (codes "a.cat"))
unfolding clap_on_literals after_last
file_named = refl

leading_zero : request_of (elect_words (codes "--rule" ∷ codes "av" ∷ codes "--size=07" ∷ [])) ≡ av 7 None
unfolding clap_on_literals
leading_zero = refl

empty_file : request_of (elect_words (codes "--rule" ∷ codes "av" ∷ codes "--size" ∷ codes "2" ∷ [] ∷ [])) ≡ av 2 (Some [])
unfolding clap_on_literals after_last
empty_file = refl

too_large : request_of (elect_words (codes "--rule" ∷ codes "av" ∷ codes "--size" ∷ codes "41" ∷ [])) ≡ None
unfolding clap_on_literals
too_large = refl

zero_seats : request_of (elect_words (codes "--rule" ∷ codes "av" ∷ codes "--size" ∷ codes "0" ∷ [])) ≡ None
unfolding clap_on_literals
zero_seats = refl

rule_missing : fault_of program (elect_words (codes "--size" ∷ codes "1" ∷ [])) ≡ kind.MissingRequiredArgument ∷ []
unfolding clap_on_literals
rule_missing = refl

rule_in_capitals : fault_of program (elect_words (codes "--rule" ∷ codes "AV" ∷ codes "--size" ∷ codes "1" ∷ [])) ≡ kind.InvalidValue ∷ []
unfolding clap_on_literals
rule_in_capitals = refl

repeated : fault_of program (elect_words (codes "--rule" ∷ codes "av" ∷ codes "--size" ∷ codes "1" ∷ codes "--size" ∷ codes "1" ∷ [])) ≡ kind.ArgumentConflict ∷ []
unfolding clap_on_literals
repeated = refl

unknown_option : request_of (elect_words (codes "--rule" ∷ codes "av" ∷ codes "--size" ∷ codes "1" ∷ codes "--seats" ∷ codes "1" ∷ [])) ≡ None
unfolding clap_on_literals
unknown_option = refl

no_version : fault_of program (codes "committees" ∷ codes "--version" ∷ []) ≡ kind.UnknownArgument ∷ []
unfolding clap_on_literals
no_version = refl

no_command : fault_of program (codes "committees" ∷ []) ≡ kind.MissingSubcommand ∷ []
unfolding clap_on_literals
no_command = refl

no_words : fault_of program [] ≡ kind.MissingSubcommand ∷ []
unfolding clap_on_literals
no_words = refl

help_asked : fault_of program (elect_words (codes "--help" ∷ [])) ≡ kind.DisplayHelp ∷ []
unfolding clap_on_literals
help_asked = refl

-- ---- the rules

-- a file of no known type, in the usual way
abbrev usual : Pick
usual = record { kind = None; ending = None; way = Usual }

-- two seats by a rule
abbrev two_seats : Rule → Option Request
two_seats rule = Some (record { task = of_ballots (electing rule 2 whole); pick = usual; file = None; names = false })

geometric_rule : request_of (elect_words (codes "--rule" ∷ codes "geom3" ∷ codes "--size" ∷ codes "2" ∷ [])) ≡ two_seats (Scored (Thiele Geom3))
unfolding clap_on_literals
geometric_rule = refl

satisfaction : request_of (elect_words (codes "--size" ∷ codes "2" ∷ codes "--rule=sav" ∷ [])) ≡ two_seats (Scored Satisfaction)
unfolding clap_on_literals
satisfaction = refl

no_rule_of_that_name : IsMisused (elect_words (codes "--rule" ∷ codes "phragmen" ∷ codes "--size" ∷ codes "2" ∷ []))
unfolding clap_on_literals
no_rule_of_that_name = (refl, (kind.InvalidValue, inl refl, λ e. cc, λ e. cc))

rules_of_names : (rule_named (codes "geom3") ≡ Some (Scored (Thiele Geom3))) × (rule_named (codes "minimax") ≡ Some (Scored Minimax)) × (rule_named (codes "SAV") ≡ None)
    × (rule_named [] ≡ None)
rules_of_names = (refl, refl, refl, refl)

one_rule : (rule_name (Scored Satisfaction) ≡ codes "sav") × (rule_name (Sequential SeqPav) ≡ codes "seqpav")
    × (rule_name (Sequential SeqCc) ≡ codes "seqcc") × (rule_name (Sequential RevSeqPav) ≡ codes "revseqpav")
one_rule = (refl, refl, refl, refl)

names_of_rules : rule_names ≡ codes "av" ∷ codes "pav" ∷ codes "cc" ∷ codes "geom2" ∷ codes "geom3" ∷ codes "geom4" ∷ codes "sav" ∷ codes "minimax"
    ∷ codes "seqpav" ∷ codes "seqcc" ∷ codes "revseqpav" ∷ []
names_of_rules = refl

-- ---- how the file is read

-- approval voting for one seat, with these words more
abbrev one_seat : List Text → List Text
one_seat rest = elect_words (codes "--rule" ∷ codes "av" ∷ codes "--size" ∷ codes "1" ∷ rest)

kind_named : request_of (one_seat (codes "--kind" ∷ codes "soi" ∷ codes "a.toc" ∷ [])) ≡ asked 1 (Some Soi) (Some Toc) Usual (Some (codes "a.toc"))
unfolding clap_on_literals after_last
kind_named = refl

kind_in_capitals : fault_of program (one_seat (codes "--kind" ∷ codes "SOI" ∷ [])) ≡ kind.InvalidValue ∷ []
unfolding clap_on_literals
kind_in_capitals = refl

second_category : request_of (one_seat (codes "--category" ∷ codes "2" ∷ [])) ≡ asked 1 None None (Category 2) None
unfolding clap_on_literals
second_category = refl

largest_size : request_of (one_seat (codes "--setsize=1000000" ∷ [])) ≡ asked 1 None None (SetSize 1000000) None
unfolding clap_on_literals
largest_size = refl

three_classes : request_of (one_seat (codes "--classes" ∷ codes "03" ∷ [])) ≡ asked 1 None None (Classes 3) None
unfolding clap_on_literals
three_classes = refl

no_class : fault_of program (one_seat (codes "--classes" ∷ codes "0" ∷ [])) ≡ kind.ValueValidation ∷ []
unfolding clap_on_literals
no_class = refl

too_many_classes : fault_of program (one_seat (codes "--classes" ∷ codes "1000001" ∷ [])) ≡ kind.ValueValidation ∷ []
unfolding clap_on_literals
too_many_classes = refl

two_ways : outcome_of (one_seat (codes "--classes" ∷ codes "1" ∷ codes "--setsize" ∷ codes "1" ∷ [])) ≡ Some (Err TwoPicks)
unfolding clap_on_literals
two_ways = refl

no_request_of_two_ways : request_of (one_seat (codes "--category" ∷ codes "1" ∷ codes "--setsize" ∷ codes "1" ∷ [])) ≡ None
unfolding clap_on_literals
no_request_of_two_ways = refl

ways : (way_by None None None ≡ Some Usual) × (way_by (Some 2) None None ≡ Some (Category 2)) × (way_by None (Some 2) (Some 2) ≡ None)
ways = (refl, refl, refl)

-- the ending of a path
after_the_last : after_last 46 (codes "a.b.c") ≡ Some (codes "c")
unfolding after_last
after_the_last = refl

endings : (kind_in_path (codes "a/b.SOC") ≡ Some Soc) × (kind_in_path (codes "a.soc/b") ≡ None) × (kind_in_path (codes ".toi") ≡ Some Toi)
    × (kind_in_path (codes "a.soc.txt") ≡ None) × (kind_in_path [] ≡ None)
unfolding after_last
endings = (refl, refl, refl, refl, refl)

-- ---- properties and methods

properties_of_names : (property_named (codes "jr") ≡ Some Jr) × (property_named (codes "pjr") ≡ Some Pjr) × (property_named (codes "ejr") ≡ Some Ejr)
    × (property_named (codes "ejrplus") ≡ Some EjrPlus) × (property_named (codes "ejr+") ≡ None)
properties_of_names = (refl, refl, refl, refl, refl)

methods_of_names : (method_named (codes "hamilton") ≡ Some Hamilton) × (method_named (codes "dhondt") ≡ Some Dhondt)
    × (method_named (codes "saintelague") ≡ Some SainteLague) × (method_named (codes "huntington") ≡ Some Huntington)
    × (method_named (codes "adams") ≡ Some Adams) × (method_named (codes "dean") ≡ Some Dean) × (method_named (codes "Dean") ≡ None)
methods_of_names = (refl, refl, refl, refl, refl, refl, refl)

names_of_properties : property_names ≡ codes "jr" ∷ codes "pjr" ∷ codes "ejr" ∷ codes "ejrplus" ∷ []
names_of_properties = refl

names_of_methods : method_names ≡ codes "hamilton" ∷ codes "dhondt" ∷ codes "saintelague" ∷ codes "huntington" ∷ codes "adams" ∷ codes "dean" ∷ []
names_of_methods = refl

-- ---- check

-- this, over standard input
abbrev over_input : Task → Option Request
over_input task = Some (record { task = task; pick = usual; file = None; names = false })

a_check : request_of (codes "committees" ∷ codes "check" ∷ codes "--property" ∷ codes "pjr" ∷ codes "--committee" ∷ codes "3,1" ∷ []) ≡ over_input (of_ballots (checking Pjr (3 ∷ 1 ∷ [])))
unfolding clap_on_literals
a_check = refl

a_check_of_a_file : request_of (codes "committees" ∷ codes "check" ∷ codes "a.soi" ∷ codes "--committee=02" ∷ codes "--property=ejr" ∷ codes "--classes" ∷ codes "2" ∷ []) ≡ Some (record {
  task = of_ballots (checking Ejr (2 ∷ []));
  pick = record { kind = None; ending = Some Soi; way = Classes 2 };
  file = Some (codes "a.soi");
  names = false;
})
unfolding clap_on_literals after_last
a_check_of_a_file = refl

no_committee : fault_of program (codes "committees" ∷ codes "check" ∷ codes "--property" ∷ codes "jr" ∷ []) ≡ kind.MissingRequiredArgument ∷ []
unfolding clap_on_literals
no_committee = refl

no_such_property : fault_of program (codes "committees" ∷ codes "check" ∷ codes "--property" ∷ codes "ejr+" ∷ codes "--committee" ∷ codes "1" ∷ []) ≡ kind.InvalidValue ∷ []
unfolding clap_on_literals
no_such_property = refl

a_committee_that_breaks_off : outcome_of (codes "committees" ∷ codes "check" ∷ codes "--property" ∷ codes "jr" ∷ codes "--committee" ∷ codes "1," ∷ []) ≡ Some (Err (BadList Committee))
unfolding clap_on_literals
a_committee_that_breaks_off = refl

the_list_before_the_ways : outcome_of (codes "committees" ∷ codes "check" ∷ codes "--property" ∷ codes "jr" ∷ codes "--committee=" ∷ codes "--category" ∷ codes "1" ∷ codes "--classes" ∷ codes "1" ∷ []) ≡ Some (Err (BadList Committee))
unfolding clap_on_literals
the_list_before_the_ways = refl

two_ways_of_a_check : outcome_of (codes "committees" ∷ codes "check" ∷ codes "--property" ∷ codes "jr" ∷ codes "--committee" ∷ codes "1" ∷ codes "--category" ∷ codes "1" ∷ codes "--classes" ∷ codes "1" ∷ []) ≡ Some (Err TwoPicks)
unfolding clap_on_literals
two_ways_of_a_check = refl

-- ---- share

a_sharing : request_of (codes "committees" ∷ codes "share" ∷ codes "--method" ∷ codes "dhondt" ∷ codes "--seats" ∷ codes "7" ∷ []) ≡ over_input (of_ballots (sharing Dhondt 7 whole))
unfolding clap_on_literals
a_sharing = refl

a_sharing_of_votes : request_of (codes "committees" ∷ codes "share" ∷ codes "--votes" ∷ codes "53,24,23" ∷ codes "--method" ∷ codes "hamilton" ∷ codes "--seats" ∷ codes "010000" ∷ []) ≡ over_input (of_votes (53 ∷ 24 ∷ 23 ∷ []) Hamilton 10000 whole)
unfolding clap_on_literals
a_sharing_of_votes = refl

no_seats : fault_of program (codes "committees" ∷ codes "share" ∷ codes "--method" ∷ codes "dean" ∷ codes "--seats" ∷ codes "0" ∷ []) ≡ kind.ValueValidation ∷ []
unfolding clap_on_literals
no_seats = refl

too_many_seats : fault_of program (codes "committees" ∷ codes "share" ∷ codes "--method" ∷ codes "dean" ∷ codes "--seats" ∷ codes "10001" ∷ []) ≡ kind.ValueValidation ∷ []
unfolding clap_on_literals
too_many_seats = refl

no_votes : outcome_of (codes "committees" ∷ codes "share" ∷ codes "--method" ∷ codes "adams" ∷ codes "--seats" ∷ codes "1" ∷ codes "--votes=" ∷ []) ≡ Some (Err (BadList Votes))
unfolding clap_on_literals
no_votes = refl

votes_and_a_file : outcome_of (codes "committees" ∷ codes "share" ∷ codes "--method" ∷ codes "adams" ∷ codes "--seats" ∷ codes "1" ∷ codes "--votes" ∷ codes "1" ∷ codes "a.soi" ∷ []) ≡ Some (Err VotesAndInput)
unfolding clap_on_literals after_last
votes_and_a_file = refl

votes_and_an_empty_file : outcome_of (codes "committees" ∷ codes "share" ∷ codes "--method=adams" ∷ codes "--seats=1" ∷ codes "--votes=1" ∷ [] ∷ []) ≡ Some (Err VotesAndInput)
unfolding clap_on_literals after_last
votes_and_an_empty_file = refl

votes_and_a_type : outcome_of (codes "committees" ∷ codes "share" ∷ codes "--method" ∷ codes "adams" ∷ codes "--seats" ∷ codes "1" ∷ codes "--votes" ∷ codes "1" ∷ codes "--kind" ∷ codes "soc" ∷ []) ≡ Some (Err VotesAndInput)
unfolding clap_on_literals
votes_and_a_type = refl

votes_and_a_way : outcome_of (codes "committees" ∷ codes "share" ∷ codes "--method" ∷ codes "adams" ∷ codes "--seats" ∷ codes "1" ∷ codes "--votes" ∷ codes "1" ∷ codes "--setsize" ∷ codes "2" ∷ []) ≡ Some (Err VotesAndInput)
unfolding clap_on_literals
votes_and_a_way = refl

two_ways_before_votes_and_input : outcome_of (codes "committees" ∷ codes "share" ∷ codes "--method" ∷ codes "adams" ∷ codes "--seats" ∷ codes "1" ∷ codes "--votes" ∷ codes "1" ∷ codes "--setsize" ∷ codes "2" ∷ codes "--classes" ∷ codes "2" ∷ []) ≡ Some (Err TwoPicks)
unfolding clap_on_literals
two_ways_before_votes_and_input = refl

the_votes_before_the_ways : outcome_of (codes "committees" ∷ codes "share" ∷ codes "--method" ∷ codes "adams" ∷ codes "--seats" ∷ codes "1" ∷ codes "--votes" ∷ codes "1,,2" ∷ codes "--setsize" ∷ codes "2" ∷ codes "--classes" ∷ codes "2" ∷ codes "a.soi" ∷ []) ≡ Some (Err (BadList Votes))
unfolding clap_on_literals after_last
the_votes_before_the_ways = refl

-- ---- the lines on refused words

lines_of_faults : (line_of (BadList Committee) ≡ Some (codes "committees: words: BadList --committee"))
    × (line_of (BadList Votes) ≡ Some (codes "committees: words: BadList --votes"))
    × (line_of (BadList After) ≡ Some (codes "committees: words: BadList --after")) × (line_of TwoPicks ≡ Some (codes "committees: words: TwoPicks"))
    × (line_of VotesAndInput ≡ Some (codes "committees: words: VotesAndInput")) × (line_of Memory ≡ None)
lines_of_faults = (refl, refl, refl, refl, refl, refl)

-- ---- lists

lists : (list_of (codes "1,2") ≡ Some (1 ∷ 2 ∷ [])) × (list_of (codes "007") ≡ Some (7 ∷ [])) × (list_of (codes "0,0") ≡ Some (0 ∷ 0 ∷ []))
    × (list_of (codes "18446744073709551615") ≡ Some (18446744073709551615 ∷ []))
lists = (refl, refl, refl, refl)

no_lists : (list_of (codes "18446744073709551616") ≡ None) × (list_of (codes "1,") ≡ None) × (list_of (codes ",1") ≡ None) × (list_of (codes "1,,2") ≡ None)
    × (list_of [] ≡ None) × (list_of (codes "+1") ≡ None) × (list_of (codes " 1") ≡ None) × (list_of (codes "1;2") ≡ None)
no_lists = (refl, refl, refl, refl, refl, refl, refl, refl)

entries : (entry_of (codes "12") ≡ Some 12) × (entry_of [] ≡ None) × (all_there (Some 1 ∷ Some 2 ∷ []) ≡ Some (1 ∷ 2 ∷ [])) × (all_there (Some 1 ∷ None ∷ []) ≡ None)
entries = (refl, refl, refl, refl)

a_list_of_an_option : (listed Votes (codes "1,2") ≡ Ok (1 ∷ 2 ∷ [])) × (listed Votes (codes "1 2") ≡ Err (BadList Votes))
a_list_of_an_option = (refl, refl)

-- ---- starts, limits and names

-- one seat by approval voting, and these answers
abbrev paged : Option (List ℕ) → Option ℕ → Option Request
paged after limit =
    Some (record { task = of_ballots (electing (Scored (Thiele Av)) 1 (record { after = after; limit = limit })); pick = usual; file = None; names = false })

-- `committees elect --rule av --size 1` and these words
abbrev av_words : List Text → List Text
av_words rest = elect_words (codes "--rule" ∷ codes "av" ∷ codes "--size" ∷ codes "1" ∷ rest)

a_start : request_of (av_words (codes "--after" ∷ codes "2,1" ∷ [])) ≡ paged (Some (2 ∷ 1 ∷ [])) None
unfolding clap_on_literals
a_start = refl

a_limit : request_of (av_words (codes "--limit" ∷ codes "4294967295" ∷ [])) ≡ paged None (Some 4294967295)
unfolding clap_on_literals
a_limit = refl

a_start_and_a_limit : request_of (av_words (codes "--limit=01" ∷ codes "--after=3" ∷ [])) ≡ paged (Some (3 ∷ [])) (Some 1)
unfolding clap_on_literals
a_start_and_a_limit = refl

limits_refused : (fault_of program (av_words (codes "--limit" ∷ codes "0" ∷ [])) ≡ kind.ValueValidation ∷ [])
    × (fault_of program (av_words (codes "--limit" ∷ codes "4294967296" ∷ [])) ≡ kind.ValueValidation ∷ [])
unfolding clap_on_literals
limits_refused = (refl, refl)

a_start_that_is_no_list : outcome_of (av_words (codes "--after=" ∷ codes "--category" ∷ codes "1" ∷ codes "--classes" ∷ codes "1" ∷ [])) ≡ Some (Err (BadList After))
unfolding clap_on_literals
a_start_that_is_no_list = refl

names_wanted : request_of (av_words (codes "--names" ∷ [])) ≡ Some (record { task = of_ballots (electing (Scored (Thiele Av)) 1 whole); pick = usual; file = None; names = true })
unfolding clap_on_literals
names_wanted = refl

names_take_no_value : fault_of program (av_words (codes "--names=true" ∷ [])) ≡ kind.TooManyValues ∷ []
unfolding clap_on_literals
names_take_no_value = refl

names_twice : fault_of program (av_words (codes "--names" ∷ codes "--names" ∷ [])) ≡ kind.ArgumentConflict ∷ []
unfolding clap_on_literals
names_twice = refl

no_start_of_a_check : fault_of program (codes "committees" ∷ codes "check" ∷ codes "--property" ∷ codes "jr" ∷ codes "--committee" ∷ codes "1" ∷ codes "--after" ∷ codes "1" ∷ []) ≡ kind.UnknownArgument ∷ []
unfolding clap_on_literals
no_start_of_a_check = refl

-- shares of one seat by Adams' method, and these words
abbrev adams : List Text → List Text
adams rest = codes "committees" ∷ codes "share" ∷ codes "--method=adams" ∷ codes "--seats=1" ∷ rest

a_page_of_shares : request_of (adams (codes "--votes=1,1" ∷ codes "--after=0,1" ∷ codes "--limit=2" ∷ codes "--names" ∷ []))
    ≡ Some (record { task = of_votes (1 ∷ 1 ∷ []) Adams 1 (record { after = Some (0 ∷ 1 ∷ []); limit = Some 2 }); pick = usual; file = None; names = true })
unfolding clap_on_literals
a_page_of_shares = refl

the_votes_before_the_start : outcome_of (adams (codes "--after=," ∷ codes "--votes=," ∷ [])) ≡ Some (Err (BadList Votes))
unfolding clap_on_literals
the_votes_before_the_start = refl

the_start_before_votes_and_input : outcome_of (adams (codes "--votes=1" ∷ codes "--after=1," ∷ codes "a.soi" ∷ [])) ≡ Some (Err (BadList After))
unfolding clap_on_literals after_last
the_start_before_votes_and_input = refl

-- ---- refusals, by their faults

-- `committees --help`
abbrev help_words : List Text
help_words = codes "committees" ∷ codes "--help" ∷ []

asks_for_help : AsksForHelp help_words
unfolding clap_on_literals
asks_for_help = (refl, inl refl)

-- neither a request nor misused words ask for help
a_request_asks_for_no_help : AsksForHelp (one_seat []) → ⊥
unfolding clap_on_literals
a_request_asks_for_no_help asks = absurd (true≢false asks.0)

no_command_asks_for_no_help : AsksForHelp (codes "committees" ∷ []) → ⊥
unfolding clap_on_literals
no_command_asks_for_no_help (refused, inl same) = let h : kind.DisplayHelp ≡ kind.MissingSubcommand = same in cc
no_command_asks_for_no_help (refused, inr none) = absurd none

-- clap's own texts are not fixed
help_is_a_refusal : (text : String Global) → RefusesWords help_words (Help text)
unfolding clap_on_literals
help_is_a_refusal text = (refl, inl refl)

no_command_is_a_refusal : (text : String Global) → RefusesWords (codes "committees" ∷ []) (Usage text)
unfolding clap_on_literals
no_command_is_a_refusal text = (refl, (kind.MissingSubcommand, inl refl, λ e. cc, λ e. cc))

two_picks_are_a_refusal : RefusesWords (one_seat (codes "--category=1" ∷ codes "--classes=2" ∷ [])) TwoPicks
unfolding clap_on_literals
two_picks_are_a_refusal = refl

votes_and_input_are_a_refusal : RefusesWords (adams (codes "--votes=3,1" ∷ codes "a.toi" ∷ [])) VotesAndInput
unfolding clap_on_literals after_last
votes_and_input_are_a_refusal = refl

a_bad_list_is_a_refusal : RefusesWords (adams (codes "--votes=3," ∷ [])) (BadList Votes)
unfolding clap_on_literals
a_bad_list_is_a_refusal = refl

-- words have one outcome: a request, or one of these faults
two_faults : (outcome : Option (Result Request LineFault)) → outcome ≡ Some (Err TwoPicks) → outcome ≡ Some (Err VotesAndInput) → ⊥
two_faults outcome picks votes = cc

two_picks_are_no_other_fault : RefusesWords (one_seat (codes "--category=1" ∷ codes "--classes=2" ∷ [])) VotesAndInput → ⊥
unfolding clap_on_literals
two_picks_are_no_other_fault refused = two_faults (Some (Err TwoPicks)) refl refused

a_request_is_no_fault : {asked : Request} {fault : LineFault} → Some (Ok asked) ≡ Some (Err fault) → ⊥
a_request_is_no_fault same = cc

a_request_is_not_refused : (option : ListOption) (text : String Global) → (RefusesWords (one_seat []) (Help text) → ⊥)
    × (RefusesWords (one_seat []) (Usage text) → ⊥) × (RefusesWords (one_seat []) (BadList option) → ⊥)
    × (RefusesWords (one_seat []) TwoPicks → ⊥) × (RefusesWords (one_seat []) VotesAndInput → ⊥)
unfolding clap_on_literals
a_request_is_not_refused option text = (
  λ asks. absurd (true≢false asks.0),
  λ misused. absurd (true≢false misused.0),
  λ same. a_request_is_no_fault same,
  λ same. a_request_is_no_fault same,
  λ same. a_request_is_no_fault same,
)
