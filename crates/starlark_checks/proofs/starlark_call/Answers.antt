-- `starlark_checks::starlark_call` meets its contract: the answer of the job, arm by arm. Assumes nothing.
use Rattle.starlark_checks.proofs.Told.{told, refused_put}
use Rattle.starlark_checks.specs.Words.{call_words}
use Rattle.arguments.specs.Job.{called}
use Rattle.starlark_checks.proofs.starlark_call.Goals as goal

pub returns-in-Ok : goal.returns-in-Ok
returns-in-Ok c =
    let call = c.call-answer in
    let all = told call_words called _ _ _ _ _ _ call.ensures c.in-Ok.is
    (c.put_call.ensures.value, c.put_call.ensures.out_after) in
    record { value = all.0; out_after = all.1 }

pub returns-in-Err : goal.returns-in-Err
returns-in-Err c =
    let call = c.call-answer in
    let all = told call_words called _ _ _ _ _ _ call.ensures c.in-Err.is (search refused_put) in
    record { value = all.0; out_after = all.1 }
