-- `types::judge_type` meets its contract: bytes that are part of a table are read as a type, any others are refused.
-- Assumes nothing.
use Rattle.table.proofs.Heads.{headed_long, headed_within}
use Rattle.types.proofs.Jobs.{judge_none, judge_here}
use Rattle.types.proofs.judge_type.Goals as goal

pub returns-then-not-is_headed : goal.returns-then-not-is_headed
returns-then-not-is_headed c = search judge_none

pub dialect_check_type-requires : goal.dialect_check_type-requires
dialect_check_type-requires c = search (headed_long, headed_within)

pub returns : goal.returns
returns c = search judge_here
