-- `blocks::weight` meets its contract: the product fits 32 bits. Assumes nothing.
use native.Mathlib.Omega.{arith}
use Rattle.blocks.proofs.Sums.{weight_small}
use Rattle.blocks.proofs.weight.Goals as goal

pub overflow_mul-result : goal.overflow_mul-result
overflow_mul-result c = omega (arith, weight_small 65536 c.args.p c.args.x (omega arith) (omega arith))
