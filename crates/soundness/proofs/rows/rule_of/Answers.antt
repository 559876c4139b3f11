-- `soundness::rows::rule_of` meets its contract: at detail 0 the row has the rule, else its number. Assumes nothing.
use mathlib.Core.Path.{◌∙◌}
use Rattle.soundness.proofs.Packing.{rule_first, rule_in}
use Rattle.soundness.proofs.rows.rule_of.Goals as goal

pub returns-then-detail-eq0 : goal.returns-then-detail-eq0
returns-then-detail-eq0 c = search rule_first

pub returns : goal.returns
returns c =
    c.rule_at.ensures ∙ c.rule_number.ensures
    ∙ rule_in c.row_of-row.ensures _
