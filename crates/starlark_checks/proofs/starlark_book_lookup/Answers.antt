-- `starlark_checks::starlark_book_lookup` meets its contract: the answer of the lookup, arm by arm. Assumes nothing.
use Rattle.starlark_checks.proofs.Places.{zone_fits, line_fits, look_number, look_words}
use Rattle.starlark_checks.proofs.starlark_book_lookup.Goals as goal

pub overflow_cast-at : goal.overflow_cast-at
overflow_cast-at c = record { fits = search zone_fits }

pub overflow_cast-at-in-Line : goal.overflow_cast-at-in-Line
overflow_cast-at-in-Line c = record { fits = search line_fits }

pub returns-in-Zone : goal.returns-in-Zone
returns-in-Zone c = search (look_number, look_words)

pub returns-in-Line : goal.returns-in-Line
returns-in-Line c = search (look_number, look_words)

pub returns-in-Refused : goal.returns-in-Refused
returns-in-Refused c = search (look_number, look_words)

pub returns-in-Nothing : goal.returns-in-Nothing
returns-in-Nothing c = search (look_number, look_words)
