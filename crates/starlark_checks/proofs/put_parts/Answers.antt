-- `starlark_checks::put_parts` meets its contract: two words for each count. Assumes nothing.
use Rattle.starlark_checks.proofs.FormatTold.{parts_put}
use Rattle.starlark_checks.proofs.put_parts.Goals as goal

pub returns : goal.returns
returns c =
    let args = c.args in
    let all = parts_put args.parts args.bytes args.out.now c.put_wide.ensures c.put_wide-2.ensures in
    record { value = all.0; out_after = all.1 }
