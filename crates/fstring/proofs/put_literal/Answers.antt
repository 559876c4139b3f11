-- `fstring::put_literal` meets its contract: it stores one byte or none. Assumes nothing.
use Rattle.fstring.proofs.Storing.{kept_room, kept_byte, kept_none}
use Rattle.fstring.proofs.put_literal.Goals as goal

pub bounds-out-at : goal.bounds-out-at
bounds-out-at c = search kept_room

pub returns-then-is_text : goal.returns-then-is_text
returns-then-is_text c =
    let all = kept_byte _ _ _ c.requires c.if-is_text.true in
    record { value = all.0; out_after = all.1 }

pub returns : goal.returns
returns c = let all = kept_none _ _ _ c.if-is_text.false in record { value = all.0; out_after = all.1 }
