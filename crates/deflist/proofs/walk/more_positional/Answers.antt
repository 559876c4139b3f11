-- `deflist::walk::more_positional` meets its contract: it is the definition, state by state. Assumes nothing.
use mathlib.Core.Path.{refl}
use Rattle.deflist.proofs.walk.more_positional.Goals as goal

pub returns-in-Normal : goal.returns-in-Normal
returns-in-Normal c = cc

pub returns-in-SeenSlash : goal.returns-in-SeenSlash
returns-in-SeenSlash c = cc

pub returns-in-SeenStar : goal.returns-in-SeenStar
returns-in-SeenStar c = rw c.in-SeenStar.is refl

pub returns-in-SeenStarStar : goal.returns-in-SeenStarStar
returns-in-SeenStarStar c = rw c.in-SeenStarStar.is refl
