-- `fstring::room_behind_part` meets its contract: a part has one of three forms. Assumes nothing.
use Rattle.fstring.proofs.Laying.{text_left, repr_left, plain_left}
use Rattle.fstring.proofs.room_behind_part.Goals as goal

pub returns-then-kind-eq-TEXT : goal.returns-then-kind-eq-TEXT
returns-then-kind-eq-TEXT c = search text_left

pub returns-then-kind-eq-REPR : goal.returns-then-kind-eq-REPR
returns-then-kind-eq-REPR c = search repr_left

pub returns : goal.returns
returns c = search plain_left
