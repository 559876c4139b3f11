-- `fstring::write_part` meets its contract: a part has one of three forms. Assumes nothing.
use lib.Seq.{lt-length-set}
use Rattle.fstring.proofs.Laying.{text_room, text_laid, repr_first, repr_second, repr_third, repr_fourth}
use Rattle.fstring.proofs.Laying.{repr_laid}
use Rattle.fstring.proofs.Laying.{plain_first, plain_second, plain_laid}
use Rattle.fstring.proofs.write_part.Goals as goal

pub write_text-requires : goal.write_text-requires
write_text-requires c = search text_room

pub returns-then-kind-eq-TEXT : goal.returns-then-kind-eq-TEXT
returns-then-kind-eq-TEXT c =
    let if1 = c.if-kind-eq-TEXT in
    let text = c.write_text in
    let all = text_laid _ _ _ _ if1.true text.ensures.value text.ensures.out_after in
    record { value = all.0; out_after = all.1 }

pub bounds-out-at : goal.bounds-out-at
bounds-out-at c = search repr_first

pub bounds-out-at-then-kind-eq-REPR : goal.bounds-out-at-then-kind-eq-REPR
bounds-out-at-then-kind-eq-REPR c = search (repr_second, lt-length-set)

pub bounds-out-at-then-kind-eq-REPR-2 : goal.bounds-out-at-then-kind-eq-REPR-2
bounds-out-at-then-kind-eq-REPR-2 c = search (repr_third, lt-length-set)

pub bounds-out-at-then-kind-eq-REPR-3 : goal.bounds-out-at-then-kind-eq-REPR-3
bounds-out-at-then-kind-eq-REPR-3 c = search (repr_fourth, lt-length-set)

pub returns-then-kind-eq-REPR : goal.returns-then-kind-eq-REPR
returns-then-kind-eq-REPR c =
    let all = repr_laid _ _ _ _ c.requires c.if-kind-eq-REPR.true in
    record { value = all.0; out_after = all.1 }

pub bounds-out-at-2 : goal.bounds-out-at-2
bounds-out-at-2 c = search plain_first

pub bounds-out-at-3 : goal.bounds-out-at-3
bounds-out-at-3 c = search (plain_second, lt-length-set)

pub returns : goal.returns
returns c =
    let if1 = c.if-kind-eq-TEXT in
    let all = plain_laid _ _ _ _ c.requires if1.false c.if-kind-eq-REPR.false in
    record { value = all.0; out_after = all.1 }
