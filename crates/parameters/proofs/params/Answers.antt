-- `parameters::params` meets its contract: 1 to 4, 6, then the list. Assumes nothing.
use Rattle.std.proofs.lemmas.Result.{err_from_is_err_and}
use Rattle.table.proofs.Entering.{job_long, job_within, job_small}
use Rattle.parameters.proofs.Job.{params_refused, params_left, params_answer, params_modes}
use Rattle.parameters.proofs.params.Goals as goal

pub returns-in_err-enter : goal.returns-in_err-enter
returns-in_err-enter c =
    let told = err_from_is_err_and c.from_residual.result c.from_residual.ensures.1 in
    rw (told.1, told.2) (search (params_refused, params_left, c.in_err-enter.was))

pub overflow_cast-node : goal.overflow_cast-node
overflow_cast-node c = record { fits = search (job_small, c.in_ok-enter.was) }

pub unpack_into-requires : goal.unpack_into-requires
unpack_into-requires c = search (job_long, job_within, c.in_ok-enter.was)

pub returns : goal.returns
returns c = search (params_answer, params_modes, c.in_ok-enter.was)
