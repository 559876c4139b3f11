-- `starlark_checks::starlark_check_file` meets its contract: the answer of the job, arm by arm, and the errors as the
-- job leaves them.
-- Assumes nothing.
use Rattle.filepass.specs.Passing.{passed}
use Rattle.starlark_checks.proofs.Told.{told_with, pass_refused}
use Rattle.starlark_checks.specs.Words.{pass_words}
use Rattle.starlark_checks.proofs.starlark_check_file.Goals as goal

pub returns-in-Ok : goal.returns-in-Ok
returns-in-Ok c =
    let check-file = c.check_file-answer in
    let all = told_with pass_words passed _ _ _ _ _ _ (check-file.ensures.result_value, check-file.ensures.errors_after)
    c.in-Ok.is (c.put_two.ensures.value, c.put_two.ensures.out_after) in
    record { value = all.0; out_after = all.1.0; errors_after = all.1.1 }

pub returns-in-Err : goal.returns-in-Err
returns-in-Err c =
    let check-file = c.check_file-answer in
    let all = told_with pass_words passed _ _ _ _ _ _ (check-file.ensures.result_value, check-file.ensures.errors_after)
    c.in-Err.is (search pass_refused) in
    record { value = all.0; out_after = all.1.0; errors_after = all.1.1 }
