-- `writer::fits` meets its contract: it tests each length, then the edition and the room. Assumes nothing.
use Rattle.writer.proofs.Jobs.{unfit_table, unfit_names, unfit_dialect, unfit_edition, fit_one, fit_sum}
use Rattle.writer.proofs.Jobs.{fit_bytes}
use Rattle.writer.proofs.Jobs.{fit_room}
use Rattle.writer.proofs.fits.Goals as goal

pub returns-then-table-gt-MOST_BYTES : goal.returns-then-table-gt-MOST_BYTES
returns-then-table-gt-MOST_BYTES c = search unfit_table

pub returns-then-names-gt-MOST_NAMES : goal.returns-then-names-gt-MOST_NAMES
returns-then-names-gt-MOST_NAMES c = search unfit_names

pub returns-then-dialect-gt9 : goal.returns-then-dialect-gt9
returns-then-dialect-gt9 c = search unfit_dialect

pub returns-then-not-is_byte : goal.returns-then-not-is_byte
returns-then-not-is_byte c = search unfit_edition

pub overflow_add-count : goal.overflow_add-count
overflow_add-count c = search fit_one

pub overflow_add-count-2 : goal.overflow_add-count-2
overflow_add-count-2 c = search fit_sum

pub overflow_mul-result : goal.overflow_mul-result
overflow_mul-result c = search fit_bytes

pub returns : goal.returns
returns c = search fit_room
