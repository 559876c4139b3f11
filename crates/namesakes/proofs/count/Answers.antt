-- `namesakes::count` meets its contract: the walk counts what it gives. Assumes nothing.
use Rattle.std.proofs.Common.{◌∙◌}
use native.Mathlib.Omega.{arith}
use Rattle.bind.proofs.Loops.{args_counted}
use Rattle.namesakes.proofs.count.Goals as goal

pub returns-clause-by_index : goal.returns-clause-by_index
returns-clause-by_index c = λ ns i. let ran = c.count.ensures.ran in ran.2 ∙ args_counted ns i ran.0 _ ran.1

pub returns-clause-result_in_bounds : goal.returns-clause-result_in_bounds
returns-clause-result_in_bounds c = let few = c.count.ensures.bound in omega (arith, few)
