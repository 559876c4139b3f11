-- `validate::expressions::has_site` meets its contract: what is left decides, record by record. Assumes nothing.
use Rattle.std.proofs.Common.{◌∙◌}
use Rattle.validate.proofs.Sites.{scan_found, scan_on, scan_end}
use Rattle.validate.proofs.expressions.has_site.Goals as goal

pub returns-then-is_site : goal.returns-then-is_site
returns-then-is_site c =
    let given = c.in-Some.ensures.steps in
    let loop = c.loop-record.invariant in
    scan_found loop.1 _ _ given.1.0 (given.1.1 ∙ loop.0) c.kind.ensures c.is_site.ensures c.if-is_site.true

pub loop-record-preserved : goal.loop-record-preserved
loop-record-preserved c =
    let given = c.in-Some.ensures.steps in
    let loop = c.loop-record.invariant in (
      given.0 ∙ loop.0,
      scan_on loop.1 _ _ given.1.0 (given.1.1 ∙ loop.0) c.kind.ensures c.is_site.ensures c.if-is_site.false,
    )

pub returns : goal.returns
returns c =
    let ended = c.in-None.ensures.steps in
    let loop = c.loop-record.invariant in
    scan_end loop.1 (rw loop.0 at ended.1.0)
