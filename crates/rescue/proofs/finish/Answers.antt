-- `rescue::finish` meets its contract: 7, or the file of what is kept. Assumes nothing.
use Rattle.rescue.proofs.Jobs.{fin_one, fin_sum, fin_fits, fin_word, fin_short, fin_keeps, fin_room}
use Rattle.rescue.proofs.Jobs.{fin_nodes, fin_some, fin_few, fin_told, fin_file}
use Rattle.rescue.proofs.finish.Goals as goal

pub overflow_add-size : goal.overflow_add-size
overflow_add-size c = search fin_one

pub overflow_add-size-2 : goal.overflow_add-size-2
overflow_add-size-2 c = search fin_sum

pub overflow_mul-size : goal.overflow_mul-size
overflow_mul-size c = search fin_fits

pub returns-then-file-size : goal.returns-then-file-size
returns-then-file-size c = search (fin_short, fin_keeps)

pub put_kept-requires : goal.put_kept-requires
put_kept-requires c =
    let test = c.if-file-size in
    let nodes = c.blocks_for-2 in
    let names = c.blocks_for in
    record { keeping = c.requires; names_in_bounds = fin_room c.requires names.ensures nodes.ensures _ test.false }

pub overflow_cast-size : goal.overflow_cast-size
overflow_cast-size c = search fin_word

pub tell-requires : goal.tell-requires
tell-requires c = search (fin_nodes, fin_some, fin_few)

pub returns : goal.returns
returns c = search (fin_told, fin_file)
