-- `figures::add_table` meets its contract: 1 to 5, then the figures of a file that passes them. Assumes nothing.
use Rattle.std.proofs.lemmas.Result.{err_from_is_err_and}
use Rattle.figures.proofs.Totals.{given_sound, table_added, table_refused}
use Rattle.figures.proofs.add_table.Goals as goal

pub add_all-requires : goal.add_all-requires
add_all-requires c = search (given_sound, c.in_ok-d.was)

pub returns : goal.returns
returns c =
    let add = c.add in
    let files = c.files in
    let enter = c.enter_rules-entered in
    let all = table_added _ _ _ _ enter.ensures _ files.ensures add.ensures c.in_ok-d.was c.add_all.ensures in
    record { result_value = all.0; figures_after = all.1 }

pub returns-in_err-d : goal.returns-in_err-d
returns-in_err-d c =
    let told = err_from_is_err_and c.from_residual.result c.from_residual.ensures.1 in
    let add = c.add in
    let files = c.files in
    let enter = c.enter_rules-entered in
    let all = table_refused _ _ _ _ enter.ensures _ files.ensures add.ensures c.in_err-d.was in
    record { result_value = rw (told.1, told.2) all.0; figures_after = all.1 }
