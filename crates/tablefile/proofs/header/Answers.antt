-- `tablefile::header` meets its contract: each field is that of the definition. Assumes nothing.
use Rattle.blocks.specs.Run.{blocks_for}
use Rattle.std.proofs.Common.{rules}
use Rattle.tablefile.proofs.Fronts.{header_is}
use Rattle.tablefile.proofs.header.Goals as goal

pub overflow_add-first : goal.overflow_add-first
unfolding blocks_for
overflow_add-first c = search rules

pub overflow_add-result : goal.overflow_add-result
unfolding blocks_for
overflow_add-result c = search rules

pub overflow_mul-result : goal.overflow_mul-result
unfolding blocks_for
overflow_mul-result c = search rules

pub returns : goal.returns
unfolding blocks_for
returns c = search header_is
