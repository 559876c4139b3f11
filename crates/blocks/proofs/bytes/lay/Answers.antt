-- `blocks::bytes::lay` meets its contract: the bytes are copied one by one (`Putting`). Assumes nothing.
use native.Mathlib.Omega.{arith}
use Rattle.blocks.proofs.Laying.{put_start, put_long, put_on, put_end}
use Rattle.blocks.proofs.bytes.lay.Goals as goal

pub loop-i-init : goal.loop-i-init
loop-i-init c = search put_start

pub overflow_add-out : goal.overflow_add-out
overflow_add-out c = omega (arith, put_long)

pub bounds-out-at : goal.bounds-out-at
bounds-out-at c = omega (arith, put_long)

pub loop-i-preserved : goal.loop-i-preserved
loop-i-preserved c = search put_on

pub shape_of-out : goal.shape_of-out
shape_of-out c = search put_long

pub returns : goal.returns
returns c = search put_end
