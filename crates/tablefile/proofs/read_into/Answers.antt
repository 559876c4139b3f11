-- `tablefile::read_into` meets its contract: 70 to 75 refuse, or the unpacked content goes to `hand_over`. Assumes
-- nothing.
use Rattle.tablefile.proofs.Lends.{unread_so, unread_kept, read_table_long, read_names_long, read_holds}
use Rattle.tablefile.proofs.read_into.Goals as goal

pub returns-then-is_refused : goal.returns-then-is_refused
returns-then-is_refused c = search (unread_so, unread_kept)

pub slice_bounds-hand_over-end : goal.slice_bounds-hand_over-end
slice_bounds-hand_over-end c = search read_table_long

pub slice_bounds-hand_over-end-2 : goal.slice_bounds-hand_over-end-2
slice_bounds-hand_over-end-2 c = search read_names_long

pub hand_over-requires : goal.hand_over-requires
hand_over-requires c =
    let if1 = c.if-is_refused in
    let is-refused = c.is_refused in
    let unpack = c.unpack-unpacked in
    read_holds _ unpack.ensures.result_value is-refused.ensures if1.false unpack.ensures.table_after
    unpack.ensures.names_after
