-- The words that W-214's sentences need: two inputs joined, the same input through a buffer, what figures add up to,
-- counters that stay small. These are definitions.
use Rattle.std.specs.Prelude.{◌≡◌, Bool, false, List, [], ◌∷◌, ℕ, zero, suc, ◌+◌, ◌*◌, ◌≤◌, length, get_or, take, drop, eqb}
use Rattle.fields.specs.Choice.{if'}
use Rattle.table.specs.Answer.{Answer, accepted, refused}
use Rattle.table.specs.Check.{most_nodes, node_fits}
use Rattle.table.specs.declared.Wanted.TheVariants.{Call}
use Rattle.parameters.specs.Params.{params_of}
use Rattle.blocks.specs.Block.{block_bytes}
use Rattle.tablefile.specs.File.{most_blocks}
use Rattle.figures.specs.Counting.{one}
use Rattle.figures.specs.Adding.{added}
use Rattle.table.specs.Numbers.{too_many_files}
use Rattle.figures.specs.Reporting.{most_files, step_of, figures_after, whole, after_step, zeros}
use Rattle.figures.specs.declared.Ending.{Ending}
use Rattle.figures.specs.declared.Ending.TheVariants.{Whole, Refused}
use Rattle.figures.specs.declared.Reported.{Reported}

-- an ending whose place is n bytes later
abbrev pub later : ℕ → Ending → Ending
later n Whole = Whole
later n (Refused k at) = Refused k (n + at)

-- the sum of two reports, the second of which begins n bytes later
abbrev pub summed : ℕ → Reported → Reported → Reported
summed n r s = record { figures = added r.figures s.figures; ending = later n s.ending }

-- whether 76 ended a report
abbrev pub ended_by76 : Ending → Bool
ended_by76 Whole = false
ended_by76 (Refused k at) = eqb k too_many_files

-- the length of the largest file: a buffer of this length contains the whole file at its front
abbrev pub window_bytes : ℕ
window_bytes = block_bytes * most_blocks

-- the report of the rest of an input, in which each step sees only the first bytes of the rest: as many as a buffer
-- holds at that place
unfoldable pub through_in : (ℕ → ℕ) → ℕ → ℕ → List ℕ → List ℕ → Reported
through_in room zero at figures left = whole figures
through_in room (suc k) at figures left =
    if' (eqb (length left) 0) (λ _. whole figures) (λ _.
    after_step (step_of (take (room at) left) figures) at figures (λ n.
    through_in room k (at + n) (figures_after (take (room at) left) figures) (drop n left)))

unfoldable pub through : (ℕ → ℕ) → List ℕ → Reported
through room input = through_in room (length input) 0 zeros input

-- a call, accepted or refused
unfoldable pub call_at : List ℕ → ℕ → ℕ
call_at t i = one (node_fits t i Call)

-- the number of flat parameters of a node, if its list is accepted: the last value of the parameters job's answer
abbrev pub flat_in : Answer → ℕ
flat_in (accepted vs) = get_or vs 10 0
flat_in (refused k vs) = 0

unfoldable pub flat_at : List ℕ → List ℕ → ℕ → ℕ
flat_at t names i = flat_in (params_of t names i most_nodes)

-- the sum of some numbers
unfoldable pub sum_of : List ℕ → ℕ
sum_of [] = 0
sum_of (n ∷ ns) = n + sum_of ns

-- the most that a file adds to a counter: 48 parameters of a mode in each of 2,100 lists
abbrev pub most_added : ℕ
most_added = 100800

-- counters that stay small: at most as many files as a report may have, and no counter above what these files can add
pub record Small (figures : List ℕ) : Type 0 where
  pub all : length figures ≡ 32
  pub files : get_or figures 0 0 ≤ most_files
  pub others : (i : ℕ) → get_or figures i 0 ≤ most_added * get_or figures 0 0
