-- `starlark_checks::starlark_module` meets its contract: the answer of the job, arm by arm, and the errors as
-- the job leaves them.
-- Assumes nothing.
use Rattle.starlark_checks.proofs.Told.{told_with}
use Rattle.starlark_checks.specs.Words.{words}
use Rattle.validate.specs.Job.{listed}
use Rattle.starlark_checks.proofs.starlark_module.Goals as goal

pub returns-in-Ok : goal.returns-in-Ok
returns-in-Ok c =
    let the-module = c.module-answer in
    let all = told_with words listed _ _ _ _ _ _ (the-module.ensures.result_value, the-module.ensures.errors_after)
    c.in-Ok.is (c.put_count.ensures.value, c.put_count.ensures.out_after) in
    record { value = all.0; out_after = all.1.0; errors_after = all.1.1 }

pub returns-in-Err : goal.returns-in-Err
returns-in-Err c =
    let the-module = c.module-answer in
    let all = told_with words listed _ _ _ _ _ _ (the-module.ensures.result_value, the-module.ensures.errors_after)
    c.in-Err.is (c.put_refused.ensures.value, c.put_refused.ensures.out_after) in
    record { value = all.0; out_after = all.1.0; errors_after = all.1.1 }
