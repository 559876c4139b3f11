-- `namesakes::bound` meets its contract: the reports of an accepted binding, or its refusal. Assumes nothing.
use Rattle.std.proofs.lemmas.Result.{err_from_is_err_and}
use Rattle.namesakes.proofs.Whole.{bound_ready, bound_found, bound_refused}
use Rattle.namesakes.proofs.bound.Goals as goal

pub report-requires : goal.report-requires
report-requires c =
    let bind = c.bind in
    let all = bound_ready _ _ _ _ c.args.list.now c.requires.list_value bind.result c.requires.words_value
    (bind.ensures.result_value, bind.ensures.list_after) c.in_ok-bound.was in
    record { ready = all.0; flat_value = all.1 }

pub returns : goal.returns
returns c =
    let bind = c.bind in
    let report = c.report.ensures in
    let all = bound_found _ _ _ _ _ c.requires.list_value bind.result c.requires.words_value
    (bind.ensures.result_value, bind.ensures.list_after) c.in_ok-bound.was (report.value, report.list_after) in
    record { result_value = all.0; list_after = all.1 }

pub returns-in_err-bound : goal.returns-in_err-bound
returns-in_err-bound c =
    let told = err_from_is_err_and c.from_residual.result c.from_residual.ensures.1 in
    let bind = c.bind in
    let all = bound_refused _ _ _ _ _ c.requires.list_value bind.result c.requires.words_value
    (bind.ensures.result_value, bind.ensures.list_after) c.in_err-bound.was in
    record { result_value = rw (told.1, told.2) all.0; list_after = all.1 }
