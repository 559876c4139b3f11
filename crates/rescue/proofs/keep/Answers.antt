-- `rescue::keep` meets its contract: all, or the cut. Assumes nothing.
use Rattle.rescue.proofs.Cutting.{keep_all, keep_cut}
use Rattle.rescue.proofs.keep.Goals as goal

pub returns-then-whole : goal.returns-then-whole
returns-then-whole c = search keep_all

pub returns : goal.returns
returns c = search keep_cut
