-- `namesakes::report` meets its contract: the stretches of the call and the def hold what is reported. Assumes nothing.
use native.Mathlib.Omega.{arith}
use Rattle.namesakes.proofs.Whole.{report_fits, report_small, report_told}
use Rattle.namesakes.proofs.report.Goals as goal

pub along-requires : goal.along-requires
along-requires c =
    let all = report_fits c.requires.ready c.requires.flat_value c.stretch.ensures c.stretch-2.ensures
    c.children-params.ensures c.children-kids.ensures c.span-e.ensures in
    record { behind = all.0; args_in_bounds = all.1 }

pub overflow_cast-result : goal.overflow_cast-result
overflow_cast-result c = omega (
  arith,
  report_small c.requires.ready c.requires.flat_value c.stretch.ensures c.stretch-2.ensures c.children-params.ensures
      c.children-kids.ensures c.span-e.ensures c.along.ensures.result_in_bounds,
)

pub returns : goal.returns
returns c =
    let all = report_told c.requires.ready c.requires.flat_value c.stretch.ensures c.stretch-2.ensures
    c.children-params.ensures c.children-kids.ensures c.span-e.ensures _ _ c.along.ensures.by_index
    c.along.ensures.by_index_2 in
    record { value = all.0; list_after = all.1 }
