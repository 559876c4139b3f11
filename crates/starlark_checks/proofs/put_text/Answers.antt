-- `starlark_checks::put_text` meets its contract: two words of the length, then the notice. Assumes nothing.
use Rattle.starlark_checks.proofs.FormatTold.{text_put}
use Rattle.starlark_checks.proofs.put_text.Goals as goal

pub returns : goal.returns
returns c =
    let args = c.args in
    let all = text_put args.n args.enabled args.out.now c.put_wide.ensures c.notice_word.ensures in
    record { value = all.0; out_after = all.1 }
