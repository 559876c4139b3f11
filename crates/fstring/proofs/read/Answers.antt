-- `fstring::read` meets its contract: a refusal is returned as it is, and the parts of an accepted text are written.
-- Assumes nothing.
use Rattle.fstring.proofs.ReadJob.{read_refused, read_can, read_done}
use Rattle.fstring.proofs.read.Goals as goal

pub returns-then-is_refusal : goal.returns-then-is_refusal
returns-then-is_refusal c =
    let all = read_refused _ _ _ c.judge_text-answer.ensures c.is_refusal.ensures c.if-is_refusal.true in
    record { result_value = all.0; parts_after = all.1.0; texts_after = all.1.1 }

pub read_parts-requires : goal.read_parts-requires
read_parts-requires c = search read_can

pub returns : goal.returns
returns c =
    let judge-text = c.judge_text-answer in
    let is-refusal = c.is_refusal in
    let if1 = c.if-is_refusal in
    let read-parts = c.read_parts in
    let all = read_done _ _ _ judge-text.ensures is-refusal.ensures if1.false read-parts.ensures.parts_after
    read-parts.ensures.texts_after in
    record { result_value = all.0; parts_after = all.1.0; texts_after = all.1.1 }
