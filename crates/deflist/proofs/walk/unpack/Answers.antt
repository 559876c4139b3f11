-- `deflist::walk::unpack` meets its contract: 10 first, then the walk. Assumes nothing.
use Rattle.deflist.proofs.Walking.{unpack_slash, unpack_run}
use Rattle.deflist.proofs.walk.unpack.Goals as goal

pub returns-then-slash_first : goal.returns-then-slash_first
returns-then-slash_first c = search unpack_slash

pub returns : goal.returns
returns c = search unpack_run
