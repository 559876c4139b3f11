-- `blocks::bytes::put` meets its contract: bytes that fit are written, others change nothing. Assumes nothing.
use Rattle.blocks.proofs.Laying.{put_away, put_room, put_whole}
use Rattle.blocks.proofs.bytes.put.Goals as goal

pub returns-then-not-fits : goal.returns-then-not-fits
returns-then-not-fits c = search put_away

pub lay-requires : goal.lay-requires
lay-requires c = search put_room

pub returns : goal.returns
returns c = search put_whole
