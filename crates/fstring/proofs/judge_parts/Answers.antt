-- `fstring::judge_parts` meets its contract: 64, then 7. Assumes nothing.
use mathlib.Core.Path.{sym, ◌∙◌}
use Rattle.fstring.proofs.Jobs.{parts_broken, parts_short, left_less, parts_fit}
use Rattle.fstring.proofs.judge_parts.Goals as goal

pub returns-then-not-is_whole : goal.returns-then-not-is_whole
returns-then-not-is_whole c = search parts_broken

pub room_behind-behind-requires : goal.room_behind-behind-requires
room_behind-behind-requires c = sym c.is_whole.ensures ∙ c.if-not-is_whole.false

pub overflow_sub-result : goal.overflow_sub-result
overflow_sub-result c = search left_less

pub returns-in-Some : goal.returns-in-Some
returns-in-Some c = search parts_fit

pub returns-in-None : goal.returns-in-None
returns-in-None c = search parts_short
