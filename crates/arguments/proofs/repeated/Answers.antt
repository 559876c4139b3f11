-- `arguments::repeated` meets its contract: only named arguments repeat a name, and one that the marks do not show is
-- new. Assumes nothing.
use Rattle.arguments.proofs.Walking.{meets_none, meets_new, meets_searched}
use Rattle.arguments.proofs.repeated.Goals as goal

pub returns-then-kind-ne-NAMED : goal.returns-then-kind-ne-NAMED
returns-then-kind-ne-NAMED c = search meets_none

pub returns-then-not-note : goal.returns-then-not-note
returns-then-not-note c = search meets_new

pub returns : goal.returns
returns c = search meets_searched
