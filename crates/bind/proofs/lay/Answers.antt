-- `bind::lay` meets its contract: a refusal writes nothing. Assumes nothing.
use Rattle.bind.proofs.Whole.{lay_refused, lay_written}
use Rattle.bind.proofs.lay.Goals as goal

pub returns-then-is_refused : goal.returns-then-is_refused
returns-then-is_refused c =
    let found = c.fill_words-found in
    let all = lay_refused _ _ _ _ _ _ _ _ _ c.requires.words_len c.clear.ensures found.result found.ensures
    c.is_refused.ensures
    c.if-is_refused.true in
    record { result_value = all.0; list_after = all.1 }

pub returns : goal.returns
returns c =
    let found = c.fill_words-found in
    let all = lay_written _ _ _ _ _ _ _ _ _ c.requires.words_len c.clear.ensures found.result found.ensures
    c.is_refused.ensures
    c.if-is_refused.false c.write.ensures in
    record { result_value = all.0; list_after = all.1 }
