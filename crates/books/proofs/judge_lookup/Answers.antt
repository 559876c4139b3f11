-- `books::judge_lookup` meets its contract: 95 and 96 of both books in order, then the best places. Assumes nothing.
use native.Mathlib.Omega.{arith}
use Rattle.books.proofs.Laws.{best_place, look_zone, look_line, look_zone_twice, look_line_twice, look_found}
use Rattle.books.proofs.Laws.{look_general}
use Rattle.books.proofs.Laws.{look_nothing}
use Rattle.books.proofs.judge_lookup.Goals as goal

pub returns-then-not-sound_book : goal.returns-then-not-sound_book
returns-then-not-sound_book c = search look_zone

pub returns-then-not-sound_book-2 : goal.returns-then-not-sound_book-2
returns-then-not-sound_book-2 c = search look_line

pub returns-then-twice_in : goal.returns-then-twice_in
returns-then-twice_in c = search look_zone_twice

pub returns-then-twice_in-2 : goal.returns-then-twice_in-2
returns-then-twice_in-2 c = search look_line_twice

pub place_at-requires : goal.place_at-requires
place_at-requires c = omega (arith, best_place c.best_in-own.ensures c.if-own-gt0.true)

pub returns-then-own-gt0 : goal.returns-then-own-gt0
returns-then-own-gt0 c = search look_found

pub place_at-requires-then-general-gt0 : goal.place_at-requires-then-general-gt0
place_at-requires-then-general-gt0 c = omega (arith, best_place c.best_in-general.ensures c.if-general-gt0.true)

pub returns-then-general-gt0 : goal.returns-then-general-gt0
returns-then-general-gt0 c = search look_general

pub returns : goal.returns
returns c = search look_nothing
