-- `filepass::check_held` meets its contract: a bad edition, or the job on the content of the file. Assumes nothing.
use Rattle.tablefile.proofs.Lends.{into_fits}
use Rattle.filepass.proofs.Listing.{nodes_word, bad_answer, bad_words, file_answer, file_words}
use Rattle.filepass.proofs.check_held.Goals as goal

pub overflow_mul-h : goal.overflow_mul-h
overflow_mul-h c = search into_fits

pub returns-in-None : goal.returns-in-None
returns-in-None c = search (bad_answer, bad_words)

pub overflow_cast-h : goal.overflow_cast-h
overflow_cast-h c = search nodes_word

pub returns : goal.returns
returns c = search (file_answer, file_words)
