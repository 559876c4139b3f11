-- What decreases, and what the loops keep.
use lib.ListN.{length}
use Rattle.types.proofs.paths.+object_path.Given as goal

abbrev pub decreases-object_path : goal.decreases-object_path
decreases-object_path l = length l.t.now
