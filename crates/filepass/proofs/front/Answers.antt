-- `filepass::front` meets its contract: all of the bytes, or the first of them. Assumes nothing.
use Rattle.filepass.proofs.Listing.{front_all, front_part}
use Rattle.filepass.proofs.front.Goals as goal

pub returns-then-bytes-len : goal.returns-then-bytes-len
returns-then-bytes-len c = search front_all

pub returns : goal.returns
returns c = search front_part
