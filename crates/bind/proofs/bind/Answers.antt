-- `bind::bind` meets its contract: a refusal, or the binding. Assumes nothing.
use Rattle.bind.proofs.Whole.{if_kept, bind_refused, bind_bound}
use Rattle.bind.proofs.bind.Goals as goal

pub bind_kept-requires : goal.bind_kept-requires
bind_kept-requires c =
    let rules = c.rules-ruled in
    let all = if_kept _ _ _ _ _ rules.result rules.ensures.if_kept c.in-Ok.is in
    record { kept = all.0; roomy = all.1 }

pub returns-in-Ok : goal.returns-in-Ok
returns-in-Ok c =
    let bound = c.bind_kept in
    let all = bind_bound _ _ _ _ _ c.rules-ruled.ensures.def_value c.in-Ok.is bound.result
    (bound.ensures.result_value, bound.ensures.list_after) in
    record { result_value = all.0; list_after = all.1 }

pub returns-in-Err : goal.returns-in-Err
returns-in-Err c =
    let all = bind_refused _ _ _ _ _ c.rules-ruled.ensures.def_value c.in-Err.is in
    record { result_value = all.0; list_after = all.1 }
