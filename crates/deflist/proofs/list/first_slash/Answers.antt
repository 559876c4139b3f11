-- `deflist::list::first_slash` meets its contract: the parameters that are left decide. Assumes nothing.
use Rattle.std.proofs.Common.{rules, sym}
use Rattle.deflist.proofs.Reading.{slash_start, slash_at, slash_on, slash_end}
use Rattle.deflist.proofs.list.first_slash.Goals as goal

pub loop-i-init : goal.loop-i-init
loop-i-init c = search (rules, slash_start)

pub returns-then-is_slash : goal.returns-then-is_slash
returns-then-is_slash c = let given = c.in-Some.ensures.steps in
    let here = rw (sym given.0.stretch, sym given.1) at c.loop-i.invariant.1 in
    search (slash_at, here, given)

pub loop-i-preserved : goal.loop-i-preserved
loop-i-preserved c = let given = c.in-Some.ensures.steps in
    let here = rw (sym given.0.stretch, sym given.1) at c.loop-i.invariant.1 in
    (c.in-Some.ensures.goes.keeps, rw (given.2, sym given.1) (search (slash_on, here, given)))

pub returns : goal.returns
returns c = let ended = c.in-None.ensures.steps in search (slash_end, ended)
