-- `tablefile::hand_over` meets its contract: each return is one step of the check. Assumes nothing.
use borrow.Author.Rules.{rules}
use Rattle.tablefile.proofs.Lends.{into_fits, into_table_within, into_names_within, into_so, into_kept}
use Rattle.tablefile.proofs.Lends.{into_table_room, into_names_room, into_table_done, into_names_done}
use Rattle.tablefile.proofs.hand_over.Goals as goal

pub overflow_mul-len : goal.overflow_mul-len
overflow_mul-len c = search into_fits

pub check-sound-requires : goal.check-sound-requires
check-sound-requires c = search (rules, into_table_within, into_names_within)

pub returns-then-is_refused : goal.returns-then-is_refused
returns-then-is_refused c = search (into_so, into_kept)

pub put-requires : goal.put-requires
put-requires c =
    let is-refused = c.is_refused in
    let judge_room = c.judge_room-answer in
    let check = c.check-sound in
    let edition = c.stated_edition-edition in
    let dialect = c.dialect_bytes-dialect in
    let header = c.header-h in (
      into_table_within c.requires header.ensures,
      into_table_room c.requires header.ensures dialect.ensures edition.ensures check.ensures _ _ judge_room.ensures
          is-refused.ensures
          c.if-is_refused.false,
    )

pub put-requires-2 : goal.put-requires-2
put-requires-2 c =
    let if1 = c.if-is_refused in
    let check = c.check-sound in
    let edition = c.stated_edition-edition in
    let dialect = c.dialect_bytes-dialect in
    let header = c.header-h in (
      into_names_within c.requires header.ensures,
      into_names_room c.requires header.ensures dialect.ensures edition.ensures check.ensures _ _
          c.judge_room-answer.ensures
          c.is_refused.ensures if1.false,
    )

pub returns : goal.returns
returns c =
    let put2 = c.put-2 in
    let if1 = c.if-is_refused in
    let is-refused = c.is_refused in
    let judge_room = c.judge_room-answer in
    let check = c.check-sound in
    let edition = c.stated_edition-edition in
    let dialect = c.dialect_bytes-dialect in
    let header = c.header-h in record {
      result_value = into_so c.requires header.ensures dialect.ensures edition.ensures check.ensures _ _
          judge_room.ensures;
      table_after = into_table_done c.requires header.ensures dialect.ensures edition.ensures check.ensures _ _
          judge_room.ensures is-refused.ensures
          if1.false _ c.put.ensures;
      names_after = into_names_done c.requires header.ensures dialect.ensures edition.ensures check.ensures _ _
          judge_room.ensures is-refused.ensures
          if1.false _ put2.ensures;
    }
