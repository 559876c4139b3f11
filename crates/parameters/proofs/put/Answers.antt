-- `parameters::put` meets its contract: a mark puts nothing, a mode one byte. Assumes nothing.
use Rattle.parameters.proofs.Lists.{put_mark, put_mode}
use Rattle.parameters.proofs.put.Goals as goal

pub returns-then-mode-eq0 : goal.returns-then-mode-eq0
returns-then-mode-eq0 c =
    let all = put_mark _ _ _ c.if-mode-eq0.true in
    record { result_value = all.0; modes_after = all.1 }

pub returns : goal.returns
returns c = let all = put_mode _ _ _ c.if-mode-eq0.false in record { result_value = all.0; modes_after = all.1 }
