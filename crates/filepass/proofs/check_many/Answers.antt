-- `filepass::check_many` meets its contract: its arrays have room for every file, so `fill` makes them hold this one.
-- Assumes nothing.
use Rattle.filepass.proofs.Listing.{many_room}
use Rattle.filepass.proofs.check_many.Goals as goal

pub fill-requires : goal.fill-requires
fill-requires c = search many_room
