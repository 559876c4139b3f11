-- `parameters::write_modes` meets its contract: the modes that are left decide. Assumes nothing.
use Rattle.std.proofs.Common.{rules, sym}
use Rattle.parameters.proofs.Lists.{write_start, write_room, write_on, write_end}
use Rattle.parameters.proofs.write_modes.Goals as goal

pub loop-left-init : goal.loop-left-init
loop-left-init c = search (rules, write_start)

pub put-flat-requires : goal.put-flat-requires
put-flat-requires c = let given = c.in-Some.ensures.steps in
    let here = rw (sym given.stretch) at c.loop-left.invariant in
    search (write_room, here, given)

pub loop-left-preserved : goal.loop-left-preserved
loop-left-preserved c = let given = c.in-Some.ensures.steps in
    let here = rw (sym given.stretch) at c.loop-left.invariant in
    search (write_on, here, given)

pub returns : goal.returns
returns c = let ended = c.in-None.ensures.steps in search (write_end, ended)
