-- `starlark_checks::starlark_target` meets its contract: the answer of the job, arm by arm. Assumes nothing.
use Rattle.starlark_checks.proofs.Told.{told}
use Rattle.starlark_checks.specs.Words.{words}
use Rattle.targets.specs.Jobs.{targeted}
use Rattle.starlark_checks.proofs.starlark_target.Goals as goal

pub returns-in-Ok : goal.returns-in-Ok
returns-in-Ok c =
    let target = c.target-answer in
    let all = told words targeted _ _ _ _ _ _ target.ensures c.in-Ok.is
    (c.put_count.ensures.value, c.put_count.ensures.out_after) in
    record { value = all.0; out_after = all.1 }

pub returns-in-Err : goal.returns-in-Err
returns-in-Err c =
    let target = c.target-answer in
    let all = told words targeted _ _ _ _ _ _ target.ensures c.in-Err.is
    (c.put_refused.ensures.value, c.put_refused.ensures.out_after) in
    record { value = all.0; out_after = all.1 }
