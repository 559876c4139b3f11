-- `books::search::first_empty` meets its contract: the first empty place so far (`Finding`). Assumes nothing.
use Rattle.books.proofs.Changing.{find_start, empty_hit, empty_miss, find_end}
use Rattle.books.proofs.search.first_empty.Goals as goal
use Rattle.books.proofs.search.first_empty.Goals.{then-here-first, else-here-first}

pub loop-p-init : goal.loop-p-init
loop-p-init c = find_start _ _

pub loop-p-preserved : goal.loop-p-preserved
loop-p-preserved c =
    let loop = c.loop-p in
    let test = c.loop-p-test in
    elim c.if-here-first.branch [
      | then-here-first w ↦ rw w.first-is (empty_hit
          c.args.book.now test.true c.entry.ensures loop.invariant c.empty-here.ensures w.if-here-first.true)
      | else-here-first w ↦ rw w.first-is (empty_miss
          c.args.book.now test.true c.entry.ensures loop.invariant c.empty-here.ensures w.if-here-first.false)
    ]

pub returns : goal.returns
returns c = search find_end
