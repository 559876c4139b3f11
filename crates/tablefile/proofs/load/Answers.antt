-- `tablefile::load` meets its contract: each array is the content of its blocks. Assumes nothing.
use Rattle.tablefile.proofs.Loads.{load_fits, load_table, load_names, load_dialect, load_is}
use Rattle.tablefile.proofs.load.Goals as goal

pub overflow_mul-len : goal.overflow_mul-len
overflow_mul-len c = search load_fits

pub table_of-requires : goal.table_of-requires
table_of-requires c = load_table _ c.requires.0 c.requires.1

pub names_of-requires : goal.names_of-requires
names_of-requires c = load_names _ c.requires.0 c.requires.1

pub dialect_of-requires : goal.dialect_of-requires
dialect_of-requires c = load_dialect _ c.requires.0 c.requires.1

pub returns : goal.returns
returns c = search load_is
