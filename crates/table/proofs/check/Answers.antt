-- `table::check` meets its contract: each return is one step of the check. Assumes nothing.
use Rattle.table.proofs.Checking.{check_length, check_names, check_unsound, unsound_small, check_deep}
use Rattle.table.proofs.Checking.{deep_small, check_sound}
use Rattle.table.proofs.check.Goals as goal

pub returns-then-not-length_sound : goal.returns-then-not-length_sound
returns-then-not-length_sound c = search check_length

pub returns-then-names-gt-MOST_NAMES : goal.returns-then-names-gt-MOST_NAMES
returns-then-names-gt-MOST_NAMES c = search check_names

pub overflow_cast-result : goal.overflow_cast-result
overflow_cast-result c = record { fits = search unsound_small }

pub returns-in-Some : goal.returns-in-Some
returns-in-Some c = search check_unsound

pub overflow_cast-result-in-Some-first_deep : goal.overflow_cast-result-in-Some-first_deep
overflow_cast-result-in-Some-first_deep c = record { fits = search deep_small }

pub returns-in-Some-first_deep : goal.returns-in-Some-first_deep
returns-in-Some-first_deep c = search check_deep

pub returns : goal.returns
returns c = search check_sound
