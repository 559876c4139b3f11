-- `books::judge_book` meets its contract: 95 is tested before 96. Assumes nothing.
use Rattle.books.proofs.Laws.{judge_unsound, judge_twice, judge_passed}
use Rattle.books.proofs.judge_book.Goals as goal

pub returns-then-not-sound_book : goal.returns-then-not-sound_book
returns-then-not-sound_book c = search judge_unsound

pub returns-then-twice_in : goal.returns-then-twice_in
returns-then-twice_in c = search judge_twice

pub returns : goal.returns
returns c = search judge_passed
