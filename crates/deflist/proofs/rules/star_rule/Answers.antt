-- `deflist::rules::star_rule` meets its contract: it is the definition, state by state. Assumes nothing.
use mathlib.Core.Path.{refl}
use Rattle.deflist.proofs.rules.star_rule.Goals as goal

pub returns-in-SeenStar : goal.returns-in-SeenStar
returns-in-SeenStar c = rw c.in-SeenStar.is refl

pub returns-in-SeenStarStar : goal.returns-in-SeenStarStar
returns-in-SeenStarStar c = rw c.in-SeenStarStar.is refl
