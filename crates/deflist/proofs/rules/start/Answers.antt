-- `deflist::rules::start` meets its contract: it is the definition. Assumes nothing.
use mathlib.Core.Path.{refl}
use Rattle.deflist.specs.Unpack.{start}
use Rattle.deflist.proofs.rules.start.Goals as goal

pub returns : goal.returns
unfolding start
returns c = rw c.first_state.ensures refl
