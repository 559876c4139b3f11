-- `audit::pass` meets its contract: the module pass, then the walk over at most as many bytes as a table has. Assumes
-- nothing.
use native.Mathlib.Omega.{arith}
use Rattle.table.proofs.Heads.{within_short}
use Rattle.audit.proofs.Jobs.{own_few, pass_all}
use Rattle.audit.proofs.pass.Goals as goal

pub check_each-rest-requires : goal.check_each-rest-requires
check_each-rest-requires c = omega (arith, within_short)

pub overflow_cast-result : goal.overflow_cast-result
overflow_cast-result c =
    let pass = c.pass-first in
    omega (arith, own_few _ _ _ pass.ensures.value)

pub returns : goal.returns
returns c =
    let check-each = c.check_each-rest in
    let within = c.within-t in
    let free = c.free-free in
    let pass = c.pass-first in
    let all = pass_all _ _ _ pass.ensures.value _ _ pass.ensures.errors_after free.ensures within.ensures
    check-each.ensures.stores in
    record { value = all.0; errors_after = all.1 }
