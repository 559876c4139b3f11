-- A report over files one after another: one step over the file at the front, and the report of an input. These are
-- definitions.
use Rattle.std.specs.Prelude.{List, ℕ, zero, suc, ◌+◌, length, get_or, drop, replicate, eqb, ltb, Err, Ok, Result}
use Rattle.fields.specs.Choice.{if'}
use Rattle.table.specs.Numbers.{too_many_files}
use Rattle.table.specs.Answer.{Answer, accepted, refused, and_then}
use Rattle.blocks.specs.Block.{demand}
use Rattle.tablefile.specs.Reading.{header_at, content_at, front_check, sound_check}
use Rattle.figures.specs.Counting.{figures_of}
use Rattle.figures.specs.Adding.{added}
use Rattle.figures.specs.declared.Ending.TheVariants.{Whole, Refused as RefusedAt}
use Rattle.figures.specs.declared.Reported.{Reported}

-- the largest number of files in a report
abbrev pub most_files : ℕ
most_files = 4294967295

-- the check of the file at the front of some bytes: its blocks, then 1 to 5 on its content; the bytes after it are
-- not read
unfoldable pub window_check : List ℕ → Answer
window_check w = and_then (front_check w) (λ _. sound_check (content_at w))

-- the same with the counters, the first of which counts the files: 76 comes first
unfoldable pub step_check : List ℕ → List ℕ → Answer
step_check w figures = and_then (demand (ltb (get_or figures 0 0) most_files) too_many_files) (λ _. window_check w)

-- the answer of a step, given the check of the file at the front, which takes n bytes; and the counters afterwards
abbrev pub told : Answer → ℕ → Result ℕ ℕ
told (accepted vs) n = Ok n
told (refused k vs) n = Err k

abbrev pub counted : Answer → List ℕ → List ℕ → List ℕ
counted (accepted vs) figures more = added figures more
counted (refused k vs) figures more = figures

-- a step: the number of bytes that the file at the front takes, 0 if there is no byte, or why it is refused
unfoldable pub step_of : List ℕ → List ℕ → Result ℕ ℕ
step_of w figures = if' (eqb (length w) 0) (λ _. Ok 0) (λ _. told (step_check w figures) (header_at w).taken)

-- the counters afterwards: the file's figures are added, and a refusal changes nothing
unfoldable pub figures_after : List ℕ → List ℕ → List ℕ
figures_after w figures =
    if' (eqb (length w) 0) (λ _. figures) (λ _. counted (step_check w figures) figures (figures_of (content_at w)))

-- a report that is whole, and one that a refusal ended
abbrev pub whole : List ℕ → Reported
whole figures = record { figures = figures; ending = Whole }

abbrev pub ended_by : ℕ → ℕ → List ℕ → Reported
ended_by number at figures = record { figures = figures; ending = RefusedAt number at }

-- what follows a step from a place on
abbrev pub after_step : Result ℕ ℕ → ℕ → List ℕ → (ℕ → Reported) → Reported
after_step (Ok n) at figures next = next n
after_step (Err k) at figures next = ended_by k at figures

-- the report of the rest of an input, from a place on, with the counters so far, in at most k steps
unfoldable pub report_in : ℕ → ℕ → List ℕ → List ℕ → Reported
report_in zero at figures left = whole figures
report_in (suc k) at figures left =
    if' (eqb (length left) 0) (λ _. whole figures) (λ _.
    after_step (step_of left figures) at figures (λ n.
    report_in k (at + n) (figures_after left figures) (drop n left)))

-- a file takes at least one byte, so as many steps as bytes are enough
unfoldable pub report_from : ℕ → List ℕ → List ℕ → Reported
report_from at figures left = report_in (length left) at figures left

-- the report of an input
abbrev pub zeros : List ℕ
zeros = replicate 32 0

unfoldable pub report_of : List ℕ → Reported
report_of input = report_from 0 zeros input
