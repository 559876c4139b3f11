-- `deflist::walk::after_star` meets its contract: what is skipped ends at the `*`. Assumes nothing.
use Rattle.deflist.proofs.Walking.{star_last_lem, star_normal, star_other}
use Rattle.deflist.proofs.walk.after_star.Goals as goal

pub returns-then-not-listed : goal.returns-then-not-listed
returns-then-not-listed c = search star_last_lem

pub returns-then-is_normal : goal.returns-then-is_normal
returns-then-is_normal c = search star_normal

pub returns : goal.returns
returns c = search star_other
