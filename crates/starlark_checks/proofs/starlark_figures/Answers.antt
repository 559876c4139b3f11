-- `starlark_checks::starlark_figures` meets its contract: the report's end and its counters. Assumes nothing.
use Rattle.starlark_checks.proofs.FigureTold.{report_put}
use Rattle.starlark_checks.proofs.starlark_figures.Goals as goal

pub returns : goal.returns
returns c =
    let all = report_put _ _ _ c.report-report.ensures (c.put_ending.ensures.value, c.put_ending.ensures.out_after) in
    record { value = all.0; out_after = all.1.0; figures_after = all.1.1 }
