-- `starlark_checks::starlark_table` meets its contract: the answer of the check, arm by arm. Assumes nothing.
use mathlib.Core.Path.{refl}
use Rattle.starlark_checks.proofs.Told.{told}
use Rattle.starlark_checks.specs.Words.{words}
use Rattle.table.specs.Answer.{checked}
use Rattle.starlark_checks.proofs.starlark_table.Goals as goal

pub returns-in-Ok : goal.returns-in-Ok
returns-in-Ok c =
    let all = told words checked _ _ _ _ _ _ c.check-answer.ensures c.in-Ok.is (refl, refl) in
    record { value = all.0; out_after = all.1 }

pub returns-in-Err : goal.returns-in-Err
returns-in-Err c =
    let check = c.check-answer in
    let all = told words checked _ _ _ _ _ _ check.ensures c.in-Err.is
    (c.put_refused.ensures.value, c.put_refused.ensures.out_after) in
    record { value = all.0; out_after = all.1 }
