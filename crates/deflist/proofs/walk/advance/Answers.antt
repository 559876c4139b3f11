-- `deflist::walk::advance` meets its contract: it is the definition, field by field. Assumes nothing.
use Rattle.deflist.specs.Unpack.{advance}
use Rattle.deflist.proofs.Steps.{unpacking_is}
use Rattle.deflist.proofs.walk.advance.Goals as goal

pub returns : goal.returns
unfolding advance
returns c =
    let next-state = c.next_state in
    let next-optional = c.next_optional in
    let next-star = c.next_star in
    unpacking_is _ _ next-state.ensures next-optional.ensures next-star.ensures c.count.ensures
