-- `validate::statements::check_statement` and `visit_stmt` meet their contracts: what is to be done at a statement, and
-- the statements side by side in turn. Assumes nothing.
use native.Mathlib.Omega.{arith}
use Rattle.validate.proofs.Walks.{statements, each_start, each_on, each_long, each_end, f_short}
use Rattle.validate.proofs.Walks.{f_none, f_def, f_load}
use Rattle.validate.proofs.Walks.{f_told, f_below}
use Rattle.validate.proofs.Plain.{f_plain, plain_quiet}
use borrow.Author.Rules.{rules}
use mathlib.Core.Path.{ap}
use Prim.Native.Nat.{ℕ, ◌+◌, ◌/◌}
use Rattle.forest.proofs.Stretch.{rest_part}
use Rattle.validate.proofs.statements.+check_statement_visit_stmt.Goals as goal

pub check_statement-returns-then-not-is_statement : goal.check_statement-returns-then-not-is_statement
check_statement-returns-then-not-is_statement t c = search f_none

pub check_statement-returns-then-not-has_statement : goal.check_statement-returns-then-not-has_statement
check_statement-returns-then-not-has_statement t c = search plain_quiet

pub check_statement-returns-then-is_plain : goal.check_statement-returns-then-is_plain
check_statement-returns-then-is_plain t c = search f_plain

pub check_statement-returns-in-Def : goal.check_statement-returns-in-Def
check_statement-returns-in-Def t c = search f_def

pub check_statement-returns-in-Load : goal.check_statement-returns-in-Load
check_statement-returns-in-Load t c = search f_load

pub check_statement-returns-in-Told : goal.check_statement-returns-in-Told
check_statement-returns-in-Told t c = search f_told

pub check_statement-returns-in-Below : goal.check_statement-returns-in-Below
check_statement-returns-in-Below t c = search f_below

pub visit_stmt-loop-left-init : goal.visit_stmt-loop-left-init
visit_stmt-loop-left-init t c = each_start (statements _ _ _) (search rules)

pub visit_stmt-offset_bounds-errors-free : goal.visit_stmt-offset_bounds-errors-free
visit_stmt-offset_bounds-errors-free t c = omega (arith, each_long)

pub visit_stmt-overflow_add-total : goal.visit_stmt-overflow_add-total
visit_stmt-overflow_add-total t c = omega (arith, f_short)

pub visit_stmt-loop-left-preserved : goal.visit_stmt-loop-left-preserved
visit_stmt-loop-left-preserved t c =
    let span-is = c.span-e.ensures in
    let place-is = ap (λ (n : ℕ). c.loop-left.place + n / 24) span-is in
    search (each_on, rest_part _ _ span-is, place-is)

pub visit_stmt-shape_of-errors : goal.visit_stmt-shape_of-errors
visit_stmt-shape_of-errors t c = search each_long

pub visit_stmt-returns : goal.visit_stmt-returns
visit_stmt-returns t c = search each_end
