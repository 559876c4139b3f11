-- `namesakes::namesakes` meets its contract: a refusal, or the reports. Assumes nothing.
use mathlib.Core.Path.{refl}
use Rattle.std.proofs.lemmas.Result.{err_from_is_err_and}
use Rattle.namesakes.proofs.Whole.{entry_refused, entry_passed}
use Rattle.namesakes.proofs.namesakes.Goals as goal

pub returns-in_err-enter : goal.returns-in_err-enter
returns-in_err-enter c =
    let told = err_from_is_err_and c.from_residual.result c.from_residual.ensures.1 in
    let all = entry_refused _ _ _ _ _ c.enter.ensures c.in_err-enter.was in
    record { result_value = rw (told.1, told.2) all.0; list_after = all.1 }

pub bound-requires : goal.bound-requires
bound-requires c =
    record {
      list_value = entry_passed _ _ _ _ c.args.list.now c.enter.ensures c.in_ok-enter.was;
      words_value = refl;
    }
