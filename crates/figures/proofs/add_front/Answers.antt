-- `figures::add_front` meets its contract: 70 to 74, then 1 to 5 and the figures of the file. Assumes nothing.
use Rattle.figures.proofs.Windows.{window_refused, window_fits, window_table_long, window_names_long}
use Rattle.figures.proofs.Windows.{window_answer, window_figures}
use Rattle.figures.proofs.add_front.Goals as goal

pub returns-in-Err : goal.returns-in-Err
returns-in-Err c =
    let unpack = c.unpack-unpacked in
    let front = c.front-file in
    let header = c.header-h in
    let all = window_refused _ header.ensures front.ensures _ unpack.ensures.result_value c.in-Err.is
    c.number.ensures _ in record { value = all.0; figures_after = all.1 }

pub slice_bounds-front-end : goal.slice_bounds-front-end
slice_bounds-front-end c = search window_table_long

pub overflow_mul-h : goal.overflow_mul-h
overflow_mul-h c = search window_fits

pub slice_bounds-front-end-2 : goal.slice_bounds-front-end-2
slice_bounds-front-end-2 c = search window_names_long

pub returns : goal.returns
returns c =
    let add-table = c.add_table-judged in
    let front3 = c.front-2 in
    let front2 = c.front in
    let edition = c.edition_held-edition in
    let stated = c.stated_edition in
    let dialect = c.dialect_bytes-bytes in
    let unpack = c.unpack-unpacked in
    let front = c.front-file in
    let header = c.header-h in
    record {
      value = window_answer _ header.ensures front.ensures _ unpack.ensures.result_value c.in_default.is
          unpack.ensures.table_after
          unpack.ensures.names_after front2.ensures front3.ensures dialect.ensures stated.ensures edition.ensures
          add-table.ensures.result_value c.answer.ensures;
      figures_after = window_figures _ header.ensures front.ensures _ unpack.ensures.result_value c.in_default.is
          unpack.ensures.table_after
          unpack.ensures.names_after front2.ensures front3.ensures dialect.ensures stated.ensures edition.ensures _
          add-table.ensures.figures_after;
    }
