use Rattle.std.proofs.Common.{Ok, Err}
use Rattle.std.proofs.lemmas.Result.{err_from_is_err_and}
use Rattle.codefile.proofs.FirstFaults.{answers_first}
use Rattle.codefile.proofs.program.Program.load.Goals as goal

pub returns-in_err-check_words-clause-first_fault : goal.returns-in_err-check_words-clause-first_fault
returns-in_err-check_words-clause-first_fault c =
    let file = c.in_ok-file in
    let f = c.in_err-check_words.field-0.0 in
    let exit = err_from_is_err_and c.from_residual-in_err-check_words.result c.from_residual-in_err-check_words.ensures.1 in
    rw (exit.1, exit.2)
    (answers_first {A = Unit {0}} c.args.bytes.now file.file.bytes.now file.file.lengths file.ensures.0 file.ensures.1 file.file.regular (Err f) c.in_err-check_words.ensures)

pub returns-clause-first_fault : goal.returns-clause-first_fault
returns-clause-first_fault c =
    let file = c.in_ok-file in
    answers_first {A = Unit {0}} c.args.bytes.now file.file.bytes.now file.file.lengths file.ensures.0 file.ensures.1 file.file.regular (Ok tt) c.in_ok-check_words.ensures
