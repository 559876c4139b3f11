-- `forest::marks::joined` meets its contract: the test chooses. Assumes nothing.
use Rattle.forest.proofs.Marked.{joined_mark, joined_several}
use Rattle.forest.proofs.marks.joined.Goals as goal

pub returns-then-old-mark : goal.returns-then-old-mark
returns-then-old-mark c = search joined_mark

pub returns : goal.returns
returns c = search joined_several
