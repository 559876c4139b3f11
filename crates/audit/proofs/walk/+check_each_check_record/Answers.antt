-- `audit::walk::check_record` and `check_each` meet their contracts: a record and then all records below it; siblings
-- in turn. Assumes nothing.
use native.Mathlib.Omega.{arith}
use Rattle.audit.proofs.Walks.{record_leaf, record_on, tree_short, each_start, each_on, each_long}
use Rattle.audit.proofs.Walks.{each_end}
use Rattle.audit.proofs.walk.+check_each_check_record.Goals as goal

pub check_each-loop-left-init : goal.check_each-loop-left-init
check_each-loop-left-init t c = search each_start

pub check_each-offset_bounds-errors-free : goal.check_each-offset_bounds-errors-free
check_each-offset_bounds-errors-free t c = omega (arith, each_long)

pub check_each-overflow_add-total : goal.check_each-overflow_add-total
check_each-overflow_add-total t c = omega (arith, tree_short)

pub check_each-loop-left-preserved : goal.check_each-loop-left-preserved
check_each-loop-left-preserved t c = search each_on

pub check_each-shape_of-errors : goal.check_each-shape_of-errors
check_each-shape_of-errors t c = search each_long

pub check_each-returns : goal.check_each-returns
check_each-returns t c = search each_end

pub check_record-returns-then-e-le-RECORD : goal.check_record-returns-then-e-le-RECORD
check_record-returns-then-e-le-RECORD t c = search record_leaf

pub check_record-returns : goal.check_record-returns
check_record-returns t c = search record_on
