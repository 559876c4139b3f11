-- `starlark_checks::put_ending` meets its contract: the position of a refusal is written as two words. Assumes nothing.
use Rattle.starlark_checks.proofs.FigureTold.{ending_put}
use Rattle.starlark_checks.proofs.put_ending.Goals as goal

pub returns-in-Refused : goal.returns-in-Refused
returns-in-Refused c =
    let all = ending_put _ _ _ _ c.in-Refused.is c.put_wide.ensures in
    record { value = all.0; out_after = all.1 }
