-- `deflist::walk::finish` meets its contract: a bare `*` has a rule for what follows it. Assumes nothing.
use mathlib.Core.Path.{refl}
use Rattle.deflist.specs.Unpack.{finish}
use Rattle.deflist.proofs.walk.finish.Goals as goal

pub returns-in-Some : goal.returns-in-Some
unfolding finish
returns-in-Some c = rw c.in-Some.is c.after_star.ensures

pub returns-in-None : goal.returns-in-None
unfolding finish
returns-in-None c = rw c.in-None.is (record { says = λ names h. refl; inside = tt })
