-- `rescue::count` meets its contract: the walk counts what it gives. Assumes nothing.
use Rattle.std.proofs.Common.{◌∙◌}
use native.Mathlib.Omega.{arith}
use Rattle.forest.proofs.Drained.{nodes_counted}
use Rattle.rescue.proofs.count.Goals as goal

pub returns : goal.returns
returns c =
    let ran = c.count.ensures.ran in
    let few = c.count.ensures.bound in
    (ran.2 ∙ nodes_counted 1 ran.0 _ ran.1, omega (arith, few))
