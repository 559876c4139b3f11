-- `bind::checks::rules` meets its contract: 1 to 4, 6, 7, then the own rules of def and call. Assumes nothing.
use Rattle.std.proofs.lemmas.Result.{err_from_is_err_and}
use Rattle.bind.proofs.Whole.{rules_refused, rules_own}
use Rattle.bind.proofs.checks.rules.Goals as goal

pub returns-in_err-enter : goal.returns-in_err-enter
returns-in_err-enter c =
    let told = err_from_is_err_and c.from_residual.result c.from_residual.ensures.1 in
    let all = rules_refused _ _ _ _ _ c.enter.ensures c.in_err-enter.was in
    rw (told.1, told.2) (record { def_value = all.0; if_kept = all.1 })

pub returns : goal.returns
returns c =
    let all = rules_own _ _ _ _ _ c.enter.ensures c.in_ok-enter.was _
    c.own_rules.ensures in record { def_value = all.0; if_kept = all.1 }
