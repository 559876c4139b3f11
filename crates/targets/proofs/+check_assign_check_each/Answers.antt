-- `targets::check_assign` and `targets::check_each` meet their contracts: a node is a leaf, a group of targets or
-- refused; siblings are read in turn. Each call is on a shorter part, or goes from siblings to their first (the
-- measures). Assumes nothing.
use Rattle.targets.proofs.Counts.{assign_leaf, assign_group, assign_other, each_start, each_end}
use Rattle.targets.proofs.Counts.{each_stop, each_on}
use Rattle.std.proofs.Common.{rules, sym}
use Rattle.std.proofs.lemmas.Result.{err_from_is_err_and}
use Rattle.targets.proofs.+check_assign_check_each.Goals as goal

pub check_assign-returns-then-is_leaf : goal.check_assign-returns-then-is_leaf
check_assign-returns-then-is_leaf t c = search assign_leaf

pub check_assign-returns-then-is_group : goal.check_assign-returns-then-is_group
check_assign-returns-then-is_group t c = search assign_group

pub check_assign-returns : goal.check_assign-returns
check_assign-returns t c = search assign_other

pub check_each-loop-at-init : goal.check_each-loop-at-init
check_each-loop-at-init t c = search (rules, each_start)

pub check_each-returns-in_err-leaves : goal.check_each-returns-in_err-leaves
check_each-returns-in_err-leaves t c = let given = c.in-Some.ensures.steps in
    let here = rw (sym given.index, sym given.stretch) at c.loop-at.invariant in
    let told = err_from_is_err_and c.from_residual.result c.from_residual.ensures.1 in
    rw (told.1, told.2) (search (each_stop, here, given, c.in_err-leaves.was))

pub check_each-loop-at-preserved : goal.check_each-loop-at-preserved
check_each-loop-at-preserved t c = let given = c.in-Some.ensures.steps in
    let here = rw (sym given.index, sym given.stretch) at c.loop-at.invariant in
    search (each_on, here, given, c.in_ok-leaves.was)

pub check_each-returns : goal.check_each-returns
check_each-returns t c = let ended = c.in-None.ensures.steps in search (each_end, ended)
