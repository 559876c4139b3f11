-- `fstring::write_byte` meets its contract: the byte is stored once or twice. Assumes nothing.
use lib.Seq.{lt-length-set}
use Rattle.fstring.proofs.Laying.{byte_room, brace_room, byte_twice, byte_once}
use Rattle.fstring.proofs.write_byte.Goals as goal

pub bounds-out-at : goal.bounds-out-at
bounds-out-at c = search byte_room

pub bounds-out-at-then-is_brace : goal.bounds-out-at-then-is_brace
bounds-out-at-then-is_brace c = search (brace_room, lt-length-set)

pub returns-then-is_brace : goal.returns-then-is_brace
returns-then-is_brace c =
    let all = byte_twice _ _ _ c.requires c.is_brace.ensures c.if-is_brace.true in
    record { value = all.0; out_after = all.1 }

pub returns : goal.returns
returns c =
    let all = byte_once _ _ _ c.requires c.is_brace.ensures c.if-is_brace.false in
    record { value = all.0; out_after = all.1 }
