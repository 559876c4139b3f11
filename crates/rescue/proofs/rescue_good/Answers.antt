-- `rescue::rescue_good` meets its contract: 91, or what is kept. Assumes nothing.
use Rattle.rescue.proofs.Jobs.{good_nodes, good_records, nothing_refused, nothing_keeps, kept_part}
use Rattle.rescue.proofs.Jobs.{kept_keeping}
use Rattle.rescue.proofs.rescue_good.Goals as goal

pub all_sound-whole-requires : goal.all_sound-whole-requires
all_sound-whole-requires c = search good_nodes

pub keep-kept-requires : goal.keep-kept-requires
keep-kept-requires c = search good_records

pub returns-then-kept-eq0 : goal.returns-then-kept-eq0
returns-then-kept-eq0 c = record { result_value = search nothing_refused; file_after = search nothing_keeps }

pub slice_bounds-finish-end : goal.slice_bounds-finish-end
slice_bounds-finish-end c = search kept_part

pub finish-requires : goal.finish-requires
finish-requires c = search kept_keeping
