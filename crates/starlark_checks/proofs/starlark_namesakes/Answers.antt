-- `starlark_checks::starlark_namesakes` meets its contract: the answer of the job, arm by arm, and the list as the
-- job leaves it.
-- Assumes nothing.
use Rattle.starlark_checks.proofs.Told.{told_with}
use Rattle.starlark_checks.specs.Words.{words}
use Rattle.namesakes.specs.Job.{named}
use Rattle.starlark_checks.proofs.starlark_namesakes.Goals as goal

pub returns-in-Ok : goal.returns-in-Ok
returns-in-Ok c =
    let the-job = c.namesakes-answer in
    let all = told_with words named _ _ _ _ _ _ (the-job.ensures.result_value, the-job.ensures.list_after) c.in-Ok.is
    (c.put_count.ensures.value, c.put_count.ensures.out_after) in
    record { value = all.0; out_after = all.1.0; list_after = all.1.1 }

pub returns-in-Err : goal.returns-in-Err
returns-in-Err c =
    let the-job = c.namesakes-answer in
    let all = told_with words named _ _ _ _ _ _ (the-job.ensures.result_value, the-job.ensures.list_after)
    c.in-Err.is (c.put_refused.ensures.value, c.put_refused.ensures.out_after) in
    record { value = all.0; out_after = all.1.0; list_after = all.1.1 }
