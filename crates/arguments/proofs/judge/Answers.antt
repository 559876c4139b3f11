-- `arguments::judge` meets its contract: a stretch that is part of a table, or nothing. Assumes nothing.
use Rattle.table.proofs.Heads.{headed_long, headed_within}
use Rattle.arguments.proofs.Steps.{judge_none, judge_call}
use Rattle.arguments.proofs.judge.Goals as goal

pub returns-then-not-is_headed : goal.returns-then-not-is_headed
returns-then-not-is_headed c = search judge_none

pub arguments-requires : goal.arguments-requires
arguments-requires c = search (headed_long, headed_within)

pub returns : goal.returns
returns c = search judge_call
