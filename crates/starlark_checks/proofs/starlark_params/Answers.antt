-- `starlark_checks::starlark_params` meets its contract: the answer of the job, arm by arm, and the modes as
-- the job leaves them.
-- Assumes nothing.
use Rattle.starlark_checks.proofs.Told.{told_with, params_fit}
use Rattle.starlark_checks.specs.Words.{words}
use Rattle.parameters.specs.Params.{unpacked}
use Rattle.starlark_checks.proofs.starlark_params.Goals as goal

pub put_ranges-requires : goal.put_ranges-requires
put_ranges-requires c = search (params_fit unpacked)

pub returns-in-Ok : goal.returns-in-Ok
returns-in-Ok c =
    let params = c.params-answer in
    let all = told_with words unpacked _ _ _ _ _ _ (params.ensures.result_value, params.ensures.modes_after)
    c.in-Ok.is (c.put_ranges.ensures.value, c.put_ranges.ensures.out_after) in
    record { value = all.0; out_after = all.1.0; modes_after = all.1.1 }

pub returns-in-Err : goal.returns-in-Err
returns-in-Err c =
    let params = c.params-answer in
    let all = told_with words unpacked _ _ _ _ _ _ (params.ensures.result_value, params.ensures.modes_after)
    c.in-Err.is (c.put_refused.ensures.value, c.put_refused.ensures.out_after) in
    record { value = all.0; out_after = all.1.0; modes_after = all.1.1 }
