-- `blocks::bytes::fits` meets its contract: the place is within the buffer, and enough bytes follow it. Assumes
-- nothing.
use Rattle.blocks.proofs.Laying.{fits_not, fits_is}
use Rattle.blocks.proofs.bytes.fits.Goals as goal

pub returns-then-room-at : goal.returns-then-room-at
returns-then-room-at c = search fits_not

pub returns : goal.returns
returns c = search fits_is
