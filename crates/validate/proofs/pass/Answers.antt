-- `validate::pass` meets its contract: the walks over as much as a table has at most. Assumes nothing.
use native.Mathlib.Omega.{arith}
use Rattle.table.proofs.Heads.{within_short}
use Rattle.validate.proofs.Jobs.{total_short, pass_all}
use Rattle.validate.proofs.pass.Goals as goal

pub validate_module-total-requires : goal.validate_module-total-requires
validate_module-total-requires c = search within_short

pub overflow_cast-result : goal.overflow_cast-result
overflow_cast-result c = omega (arith, total_short, within_short)

pub returns : goal.returns
returns c =
    let validate-module = c.validate_module-total in
    let within = c.within in
    let all = pass_all _ _ _ within.ensures validate-module.ensures in
    record { value = all.0; errors_after = all.1 }
