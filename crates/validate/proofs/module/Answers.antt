-- `validate::module` meets its contract: 1 to 5, then the pass. Assumes nothing.
use Rattle.std.proofs.lemmas.Result.{err_from_is_err_and}
use Rattle.validate.proofs.Jobs.{job_refused, job_total}
use Rattle.validate.proofs.module.Goals as goal

pub returns : goal.returns
returns c =
    let pass = c.pass in
    let all = job_total _ _ _ _ c.enter_dialect.ensures c.in_ok-d.was pass.ensures.value pass.ensures.errors_after in
    record { result_value = all.0; errors_after = all.1 }

pub returns-in_err-d : goal.returns-in_err-d
returns-in_err-d c =
    let told = err_from_is_err_and c.from_residual.result c.from_residual.ensures.1 in
    let all = job_refused _ _ _ _ c.enter_dialect.ensures c.in_err-d.was in
    record { result_value = rw (told.1, told.2) all.0; errors_after = all.1 }
