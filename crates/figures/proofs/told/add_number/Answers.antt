-- `figures::told::add_number` meets its contract: the number has one counter, or none. Assumes nothing.
use native.Mathlib.Omega.{arith}
use Rattle.figures.proofs.Occurring.{list_least, list_most, module_least, module_most}
use Rattle.figures.proofs.Occurring.{number_of_list, number_of_module, number_other}
use Rattle.figures.proofs.told.add_number.Goals as goal

pub overflow_sub-place : goal.overflow_sub-place
overflow_sub-place c = search list_least

pub add-requires : goal.add-requires
add-requires c = omega (arith, list_most)

pub returns-then-number : goal.returns-then-number
returns-then-number c = search number_of_list

pub overflow_sub-place-then-number-2 : goal.overflow_sub-place-then-number-2
overflow_sub-place-then-number-2 c = search module_least

pub add-requires-then-number-2 : goal.add-requires-then-number-2
add-requires-then-number-2 c = omega (arith, module_most)

pub returns-then-number-2 : goal.returns-then-number-2
returns-then-number-2 c = search number_of_module

pub returns-else-number-2 : goal.returns-else-number-2
returns-else-number-2 c = search number_other
