-- `deflist::rules::slash_rule` meets its contract: it is the definition, state by state. Assumes nothing.
use mathlib.Core.Path.{refl}
use Rattle.deflist.proofs.rules.slash_rule.Goals as goal

pub returns-in-SeenSlash : goal.returns-in-SeenSlash
returns-in-SeenSlash c = rw c.in-SeenSlash.is refl

pub returns-in-SeenStar : goal.returns-in-SeenStar
returns-in-SeenStar c = rw c.in-SeenStar.is refl

pub returns-in-SeenStarStar : goal.returns-in-SeenStarStar
returns-in-SeenStarStar c = rw c.in-SeenStarStar.is refl
