-- `blocks::content` meets its contract: no bytes, those of a block that is cut short, or 504. Assumes nothing.
use Rattle.blocks.proofs.Runs.{content_none, content_short, content_cut, content_whole}
use Rattle.blocks.proofs.content.Goals as goal

pub returns-then-bytes-number : goal.returns-then-bytes-number
returns-then-bytes-number c = search content_none

pub returns-then-block-lt4 : goal.returns-then-block-lt4
returns-then-block-lt4 c = search content_short

pub returns-then-block-lt508 : goal.returns-then-block-lt508
returns-then-block-lt508 c = search content_cut

pub returns : goal.returns
returns c = search content_whole
