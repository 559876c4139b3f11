-- `deflist::walk::repeated` meets its contract: marks of a list repeat no name, and a name that the name marks do not
-- show is new. Assumes nothing.
use Rattle.deflist.proofs.Walking.{meets_none, meets_new, meets_searched}
use Rattle.deflist.proofs.walk.repeated.Goals as goal

pub returns-then-not-is_named : goal.returns-then-not-is_named
returns-then-not-is_named c = search meets_none

pub returns-then-not-note : goal.returns-then-not-note
returns-then-not-note c = search meets_new

pub returns : goal.returns
returns c = search meets_searched
