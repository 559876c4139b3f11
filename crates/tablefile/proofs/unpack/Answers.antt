-- `tablefile::unpack` meets its contract: a refusal changes nothing, else both parts are copied. Assumes nothing.
use borrow.Author.Rules.{rules}
use Rattle.tablefile.proofs.Lends.{unpack_kept, unpack_fits, unpack_table, unpack_names, unpack_table_done}
use Rattle.tablefile.proofs.Lends.{unpack_names_done}
use Rattle.tablefile.proofs.unpack.Goals as goal

pub returns-then-is_refused : goal.returns-then-is_refused
returns-then-is_refused c = search unpack_kept

pub overflow_mul-h : goal.overflow_mul-h
overflow_mul-h c = search unpack_fits

pub copy-requires : goal.copy-requires
copy-requires c =
    let if1 = c.if-is_refused in
    let is-refused = c.is_refused in
    let judge_file = c.judge_file-judged in
    let header = c.header-h in
    unpack_table _ header.ensures judge_file.ensures is-refused.ensures if1.false c.args.table.now (search rules)

pub copy-requires-2 : goal.copy-requires-2
copy-requires-2 c =
    let if1 = c.if-is_refused in
    let is-refused = c.is_refused in
    unpack_names _ c.header-h.ensures c.judge_file-judged.ensures is-refused.ensures if1.false
    c.args.names.now (search rules)

pub returns : goal.returns
returns c = search (unpack_table_done, unpack_names_done)
