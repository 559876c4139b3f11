-- `starlark_checks::starlark_rescue` meets its contract: the answer of the job, arm by arm, and the file as the
-- job leaves it.
-- Assumes nothing.
use mathlib.Core.Path.{refl}
use Rattle.starlark_checks.proofs.Told.{told_with, rescue_refused}
use Rattle.starlark_checks.specs.Words.{rescue_words}
use Rattle.rescue.specs.Job.{rescued}
use Rattle.starlark_checks.proofs.starlark_rescue.Goals as goal

pub returns-in-Ok : goal.returns-in-Ok
returns-in-Ok c =
    let rescue = c.rescue-answer in
    let all = told_with rescue_words rescued _ _ _ _ _ _ (rescue.ensures.result_value, rescue.ensures.file_after)
    c.in-Ok.is (refl, c.put_kept.ensures) in
    record { value = all.0; out_after = all.1.0; file_after = all.1.1 }

pub returns-in-Err : goal.returns-in-Err
returns-in-Err c =
    let rescue = c.rescue-answer in
    let all = told_with rescue_words rescued _ _ _ _ _ _ (rescue.ensures.result_value, rescue.ensures.file_after)
    c.in-Err.is (search rescue_refused) in
    record { value = all.0; out_after = all.1.0; file_after = all.1.1 }
