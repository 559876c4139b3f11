-- `tablefile::judge_room` meets its contract: a refusal is passed on, else both buffers are large enough or not.
-- Assumes nothing.
use Rattle.tablefile.specs.Loading.{verdict}
use Rattle.tablefile.proofs.Lends.{room_before, room_enough, room_short}
use Rattle.tablefile.proofs.judge_room.Goals as goal

pub returns-then-is_refused : goal.returns-then-is_refused
returns-then-is_refused c =
    let a = c.args in
    room_before (verdict a.found) c.is_refused.ensures a.t a.a a.n a.b c.if-is_refused.true

pub returns-then-t-a : goal.returns-then-t-a
returns-then-t-a c =
    let a = c.args in
    let is-refused = c.is_refused in
    room_enough (verdict a.found) is-refused.ensures a.t a.a a.n a.b c.if-is_refused.false c.if-t-a.true

pub returns : goal.returns
returns c =
    let a = c.args in
    let is-refused = c.is_refused in
    room_short (verdict a.found) is-refused.ensures a.t a.a a.n a.b c.if-is_refused.false c.if-t-a.false
