-- `validate::statements::has_statement` meets its contract: what is left decides, node by node. Assumes nothing.
use Rattle.std.proofs.Common.{rules, sym}
use Rattle.validate.proofs.Plain.{seek_start, seek_found, seek_on, seek_end}
use Rattle.validate.proofs.statements.has_statement.Goals as goal

pub loop-left-init : goal.loop-left-init
loop-left-init c = search (rules, seek_start)

pub returns-then-is_statement : goal.returns-then-is_statement
returns-then-is_statement c = let given = c.in-Some.ensures.steps in
    let here = rw (sym given.stretch) at c.loop-left.invariant in
    search (seek_found, here, given)

pub loop-left-preserved : goal.loop-left-preserved
loop-left-preserved c = let given = c.in-Some.ensures.steps in
    let here = rw (sym given.stretch) at c.loop-left.invariant in
    search (seek_on, here, given)

pub returns : goal.returns
returns c = let ended = c.in-None.ensures.steps in search (seek_end, ended)
