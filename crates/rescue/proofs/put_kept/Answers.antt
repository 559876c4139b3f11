-- `rescue::put_kept` meets its contract: the blocks are copied if they pass, because a slice of u8 consists of bytes;
-- else the file of the cut is written. Assumes nothing.
use Rattle.rescue.proofs.Jobs.{lay_there, lay_whole, lay_cut}
use Rattle.rescue.proofs.put_kept.Goals as goal

pub slice_bounds-put-end : goal.slice_bounds-put-end
slice_bounds-put-end c = search lay_there

pub returns-then-whole : goal.returns-then-whole
returns-then-whole c =
    let test = c.if-whole in
    lay_whole c.requires.keeping _ c.requires.names_in_bounds test.true (λ i. (c.type_inv.input i).fits)
    c.put.ensures

pub returns : goal.returns
returns c = search lay_cut
