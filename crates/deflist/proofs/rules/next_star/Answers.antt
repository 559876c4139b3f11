-- `deflist::rules::next_star` meets its contract: it is the definition, kind by kind. Assumes nothing.
use mathlib.Core.Path.{refl}
use Rattle.deflist.proofs.rules.next_star.Goals as goal

pub returns-in-NoArgs : goal.returns-in-NoArgs
returns-in-NoArgs c = rw c.in-NoArgs.is refl
