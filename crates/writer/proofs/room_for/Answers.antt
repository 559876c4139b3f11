-- `writer::room_for` meets its contract: the file fits, or 7. Assumes nothing.
use Rattle.writer.proofs.Jobs.{room_short, room_enough}
use Rattle.writer.proofs.room_for.Goals as goal

pub returns-then-room-size : goal.returns-then-room-size
returns-then-room-size c = search room_short

pub returns : goal.returns
returns c = search room_enough
