-- `blocks::judge` meets its contract: the block is short, or its 512 bytes are examined. Assumes nothing.
use native.Mathlib.Omega.{arith}
use Rattle.blocks.proofs.Judging.{judge_short, judge_long}
use Rattle.blocks.proofs.judge.Goals as goal

pub returns-then-bytes-lt-BLOCK_BYTES : goal.returns-then-bytes-lt-BLOCK_BYTES
returns-then-bytes-lt-BLOCK_BYTES c = judge_short _ _ _ (omega arith)

pub returns : goal.returns
returns c = search judge_long
