use Rattle.std.proofs.Common.{map, subst}
use Rattle.std.specs.Prelude.{string_bytes}
use Rattle.clap.specs.Words.{Kinds, HasKind}
use Rattle.request_words.proofs.Answered.{answer_is, fault_there, found_is, is_free_program, kinds_are, memory_is, only_refused, request_there, sub_in, sub_there, values_there}
use Rattle.request_words.proofs.words.read_request.Goals as goal

pub unwrap-requires : goal.unwrap-requires
unwrap-requires c = sub_there c.in_ok-program.program (map string_bytes c.args.words.now) c.in-Ok.matches c.subcommand.result c.in_ok-program.ensures
    c.in-Ok.ensures.matches (c.in-Ok.ensures.kinds (is_free_program c.in_ok-program.program c.in_ok-program.ensures)) c.subcommand.ensures.rows

pub asked-requires : goal.asked-requires
asked-requires c =
    let words = map string_bytes c.args.words.now in
    let there = found_is c.in_ok-program.program words c.in-Ok.matches c.subcommand.result c.unwrap.result c.in_ok-program.ensures
    c.in-Ok.ensures.matches (c.in-Ok.ensures.kinds (is_free_program c.in_ok-program.program c.in_ok-program.ensures)) c.subcommand.ensures.name c.subcommand.ensures.rows
    c.unwrap.ensures in
    values_there words (sub_in c.unwrap.result) there

pub returns-in-Ok-clause-request : goal.returns-in-Ok-clause-request
returns-in-Ok-clause-request c =
    let words = map string_bytes c.args.words.now in
    let there = found_is c.in_ok-program.program words c.in-Ok.matches c.subcommand.result c.unwrap.result c.in_ok-program.ensures
    c.in-Ok.ensures.matches (c.in-Ok.ensures.kinds (is_free_program c.in_ok-program.program c.in_ok-program.ensures)) c.subcommand.ensures.name c.subcommand.ensures.rows
    c.unwrap.ensures in
    request_there words (sub_in c.unwrap.result) c.asked.result there c.asked.ensures

pub returns-in-Ok-clause-fault : goal.returns-in-Ok-clause-fault
returns-in-Ok-clause-fault c =
    let words = map string_bytes c.args.words.now in
    let there = found_is c.in_ok-program.program words c.in-Ok.matches c.subcommand.result c.unwrap.result c.in_ok-program.ensures
    c.in-Ok.ensures.matches (c.in-Ok.ensures.kinds (is_free_program c.in_ok-program.program c.in_ok-program.ensures)) c.subcommand.ensures.name c.subcommand.ensures.rows
    c.unwrap.ensures in
    fault_there words (sub_in c.unwrap.result) c.asked.result there c.asked.ensures

pub returns-in-Ok-clause-taken : goal.returns-in-Ok-clause-taken
returns-in-Ok-clause-taken c = λ taken. only_refused (sub_in c.unwrap.result) c.asked.result c.asked.ensures

pub returns-in-Err-clause-taken : goal.returns-in-Err-clause-taken
returns-in-Err-clause-taken c =
    let words = map string_bytes c.args.words.now in
    let is = c.in_ok-program.ensures in
    memory_is words _ c.fault.result c.fault.ensures
    (subst (λ (k : Kinds). HasKind k c.in-Err.error) (kinds_are c.in_ok-program.program words is) (c.in-Err.ensures.kinds (is_free_program c.in_ok-program.program is)))

pub returns-in-Err-clause-fault : goal.returns-in-Err-clause-fault
returns-in-Err-clause-fault c =
    let words = map string_bytes c.args.words.now in
    let is = c.in_ok-program.ensures in
    answer_is words _ c.fault.result c.fault.ensures
    (subst (λ (k : Kinds). HasKind k c.in-Err.error) (kinds_are c.in_ok-program.program words is) (c.in-Err.ensures.kinds (is_free_program c.in_ok-program.program is)))
