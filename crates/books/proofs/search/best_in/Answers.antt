-- `books::search::best_in` meets its contract: the best of the earlier places (`Best`). Assumes nothing.
use Rattle.books.proofs.Laws.{best_start, best_taken, best_left, best_end}
use Rattle.books.proofs.search.best_in.Goals as goal
use Rattle.books.proofs.search.best_in.Goals.{then-better, else-better}

pub loop-p-init : goal.loop-p-init
loop-p-init c = best_start _ _ _

pub loop-p-preserved : goal.loop-p-preserved
loop-p-preserved c =
    let loop = c.loop-p in
    elim c.if-better.branch [
      | then-better w ↦ rw (w.best-is, w.top-is) (best_taken
          loop.invariant c.loop-p-test.true c.entry-e.ensures c.word-s.ensures c.fits.ensures w.if-better.true)
      | else-better w ↦ rw (w.best-is, w.top-is) (best_left
          loop.invariant c.loop-p-test.true c.entry-e.ensures c.word-s.ensures c.fits.ensures w.if-better.false)
    ]

pub returns : goal.returns
returns c = search best_end
