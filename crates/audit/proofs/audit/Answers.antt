-- `audit::audit` meets its contract: 1 to 5, then the pass. Assumes nothing.
use Rattle.std.proofs.lemmas.Result.{err_from_is_err_and}
use Rattle.audit.proofs.Jobs.{job_refused, job_total}
use Rattle.audit.proofs.audit.Goals as goal

pub returns : goal.returns
returns c =
    let enter-rules = c.enter_rules in
    let edition-of = c.edition_of in
    let pass = c.pass in
    let all = job_total _ _ _ _ _ edition-of.ensures enter-rules.ensures c.in_ok-d.was pass.ensures.value
    pass.ensures.errors_after in
    record { result_value = all.0; errors_after = all.1 }

pub returns-in_err-d : goal.returns-in_err-d
returns-in_err-d c =
    let told = err_from_is_err_and c.from_residual.result c.from_residual.ensures.1 in
    let all = job_refused _ _ _ _ _ c.edition_of.ensures c.enter_rules.ensures c.in_err-d.was in
    record { result_value = rw (told.1, told.2) all.0; errors_after = all.1 }
