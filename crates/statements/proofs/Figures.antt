-- W-214: THE LINE'S FIGURES
--
-- Theorems of the crate `figured` about the report of files one after another: `report_of` is the answer of
-- `figures::report`, `step_of` is the answer of `figures::step`, and `figures_after` the counters that it leaves. Each
-- statement is proved by citing the theorem. Assumes nothing.
use Rattle.std.specs.Prelude.{Ok}
use mathlib.Core.Path.{◌≡◌}
use mathlib.Core.Bool.{false}
use mathlib.Core.List.{List, [], ◌∷◌, ◌++◌}
use Prim.Native.Nat.{ℕ, ◌+◌, ◌*◌, ◌^◌, ◌<◌, ◌≤◌}
use lib.ListN.{length, get_or, take, replicate}
use Rattle.deflist.specs.Unpack.{mode_pos_only, mode_pos_or_name, mode_name_only, mode_args, mode_kwargs}
use Rattle.table.specs.Numbers.{block_short}
use Rattle.table.specs.Answer.{accepted}
use Rattle.validate.specs.Job.{errors_of}
use Rattle.blocks.specs.Block.{block_bytes}
use Rattle.tablefile.specs.File.{Content, file_of}
use Rattle.tablefile.specs.Reading.{content_at, sound_check}
use Rattle.tablefile.proofs.Accepted.{SoundContent}
use Rattle.tablefile.proofs.Example.{content}
use Rattle.figures.specs.Adding.{added}
use Rattle.figures.specs.Counting.{mode_at, accepted_at, refused_at, over, numbers_of, error_counts, figures_of}
use Rattle.figures.specs.Reporting.{most_files, step_of, figures_after, whole, ended_by, zeros, report_of}
use Rattle.figures.specs.declared.Ending.TheVariants.{Whole, Refused}
use Rattle.figured.specs.Said.{summed, ended_by76, window_bytes, through, call_at, flat_at, sum_of, most_added}
use Rattle.figured.proofs.Sums as theorem_sums
use Rattle.figured.proofs.Through as theorem_through
use Rattle.figured.proofs.Stops as theorem_stops
use Rattle.figured.proofs.Totals as theorem_totals
use Rattle.figured.proofs.Bounds as theorem_bounds
use Rattle.figured.proofs.Ends as theorem_ends
use Rattle.figured.proofs.Counted as theorem_counted

-- "An empty input holds no file and gives zeros"
-- In words: the report of no bytes is whole, and its 32 counters are 0.
pub empty_report : report_of [] ≡ whole zeros
empty_report = theorem_ends.empty_report

-- a file is counted, whatever follows it
-- In words: a step over the file of table, names and dialect, bytes that pass 1 to 5, followed by any bytes, counts
-- that file and adds its figures, if there are fewer than 4,294,967,295 files.
pub file_step : (c : Content) (rest figures : List ℕ)
    → sound_check c ≡ accepted []
    → ((i : ℕ) → get_or c.table i 0 < 256)
    → ((i : ℕ) → get_or c.names i 0 < 256)
    → ((i : ℕ) → get_or c.dialect i 0 < 256)
    → get_or figures 0 0 < most_files
    → (step_of (file_of c ++ rest) figures ≡ Ok (length (file_of c)))
    × (figures_after (file_of c ++ rest) figures ≡ added figures (figures_of c))
file_step c rest figures sound t n d room =
    let s : SoundContent c = record { sound = sound; table_bytes = t; names_bytes = n; dialect_bytes = d } in
    (theorem_counted.file_step c s rest figures room, theorem_counted.file_after_lem c s rest figures room)

-- a file is counted: its report
-- In words: the report of such a file by itself is whole, and its counters are the figures of what the file holds.
pub file_report : (c : Content)
    → sound_check c ≡ accepted []
    → ((i : ℕ) → get_or c.table i 0 < 256)
    → ((i : ℕ) → get_or c.names i 0 < 256)
    → ((i : ℕ) → get_or c.dialect i 0 < 256)
    → report_of (file_of c) ≡ whole (figures_of c)
file_report c sound t n d =
    theorem_counted.file_report c record { sound = sound; table_bytes = t; names_bytes = n; dialect_bytes = d }

-- a file is counted: one such file, with the numbers
-- In words: the report of the file of `x = 1` is whole: one file, four nodes, and every other counter 0.
pub example_report : report_of (file_of content) ≡ whole (1 ∷ 4 ∷ replicate 30 0)
example_report = theorem_counted.example_report

-- bytes after a file's last block begin the next file, however few they are
-- In words: an input that has a byte and is shorter than a block ends with 70 at its first byte, with all counters 0.
pub short_report : (a : List ℕ)
    → (length a ≡ 0 → ⊥)
    → length a < block_bytes
    → report_of a ≡ ended_by block_short 0 zeros
short_report = theorem_ends.short_report

-- "a single byte does too (70)": such an input, with the numbers
-- In words: the report of one byte, 0, ends with 70 at place 0.
pub one_byte : report_of (0 ∷ []) ≡ ended_by 70 0 zeros
one_byte = theorem_ends.one_byte

-- figures of parts may be added
-- In words: if the first of two inputs has no refused file, and the report of both joined does not end with 76, that
-- report is the sum of the two reports, and the place of a refused file of the second grows by the length of the first.
pub report_sums : (a b : List ℕ)
    → (report_of a).ending ≡ Whole
    → ended_by76 (report_of (a ++ b)).ending ≡ false
    → report_of (a ++ b) ≡ summed (length a) (report_of a) (report_of b)
report_sums = theorem_sums.report_sums

-- inputs of any length may be read through a buffer: one step
-- In words: a step gives the same answer for the first n bytes of what is left as for all of it, for any n from
-- `window_bytes` on.
pub window_step : (n : ℕ) (left : List ℕ)
    → window_bytes ≤ n
    → (figures : List ℕ)
    → (length left ≡ 0 → ⊥)
    → step_of (take n left) figures ≡ step_of left figures
window_step = theorem_through.window_step

-- inputs of any length may be read through a buffer: the counters
-- In words: such a step leaves the same counters.
pub window_after : (n : ℕ) (left : List ℕ)
    → window_bytes ≤ n
    → (figures : List ℕ)
    → (length left ≡ 0 → ⊥)
    → figures_after (take n left) figures ≡ figures_after left figures
window_after = theorem_through.window_after

-- inputs of any length may be read through a buffer: the whole report
-- In words: the steps of an input, each of which sees the first bytes of what is left, give its report, if the buffer
-- holds at least `window_bytes` bytes at each place.
pub report_through : (room : ℕ → ℕ)
    → ((at : ℕ) → window_bytes ≤ room at)
    → (input : List ℕ)
    → through room input ≡ report_of input
report_through = theorem_through.report_through

-- how large such a buffer is
-- In words: `window_bytes` is 59,904.
pub window_bytes_lem : window_bytes ≡ 59904
window_bytes_lem = theorem_through.window_bytes_lem

-- "Files before it are counted, that one not at all"
-- In words: if a refused file ends the report of an input at a place, the report of the bytes before that place is
-- whole, with the same counters.
pub report_before : (a : List ℕ) {number place : ℕ}
    → (report_of a).ending ≡ Refused number place
    → report_of (take place a) ≡ whole (report_of a).figures
report_before = theorem_stops.report_before

-- the place of a refused file
-- In words: it is not past the end of the input.
pub report_place : (a : List ℕ) {number place : ℕ}
    → (report_of a).ending ≡ Refused number place
    → place ≤ length a
report_place = theorem_stops.report_place

-- a refusal does not depend on what follows, except 70, which may mean that a file goes on in the next input
-- In words: if the report of an input ends with a number other than 70, the report of that input followed by any bytes
-- is the same.
pub report_same : (a : List ℕ) {number place : ℕ}
    → (report_of a).ending ≡ Refused number place
    → (number ≡ 70 → ⊥)
    → (b : List ℕ)
    → report_of (a ++ b) ≡ report_of a
report_same = theorem_stops.report_same

-- "Calls accepted and refused together are all calls"
-- In words: in any table, the numbers of calls accepted and refused add up to the number of nodes of kind 22.
pub calls_all : (t names : List ℕ) → over t (accepted_at t names) + over t (refused_at t names) ≡ over t (call_at t)
calls_all = theorem_totals.calls_all

-- "modes summed are the flat counts of the accepted lists"
-- In words: the five modes of a table add up to the flat counts that the parameters job returns for the lists of the
-- table that it accepts.
pub modes_all : (t names : List ℕ)
    → over t (mode_at mode_pos_only t names)
    + (over t (mode_at mode_pos_or_name t names)
    + (over t (mode_at mode_name_only t names)
    + (over t (mode_at mode_args t names)
    + over t (mode_at mode_kwargs t names))))
    ≡ over t (flat_at t names)
modes_all = theorem_totals.modes_all

-- "errors summed are the totals of the module pass"
-- In words: the errors of each number add up to the number of errors that the module pass finds.
pub errors_all : (t names dialect : List ℕ)
    → sum_of (error_counts (numbers_of (errors_of t names dialect))) ≡ length (errors_of t names dialect)
errors_all = theorem_totals.errors_all

-- "sums saturate at 64 bits in the definition, and from zeros this never happens": what a file adds
-- In words: a file that a step accepts adds at most `most_added` to a counter.
pub file_few : (window figures : List ℕ)
    → (length window ≡ 0 → ⊥)
    → {n : ℕ}
    → step_of window figures ≡ Ok n
    → (i : ℕ)
    → get_or (figures_of (content_at window)) i 0 ≤ most_added
file_few = theorem_bounds.file_few

-- sums that never saturate: a step
-- In words: for 32 counters, with at most 4,294,967,295 files and no counter above `most_added` for each file, a step
-- that accepts a file leaves the plain sums.
pub step_plain : (window figures : List ℕ)
    → (length window ≡ 0 → ⊥)
    → {n : ℕ}
    → step_of window figures ≡ Ok n
    → length figures ≡ 32
    → get_or figures 0 0 ≤ most_files
    → ((i : ℕ) → get_or figures i 0 ≤ most_added * get_or figures 0 0)
    → (i : ℕ)
    → get_or (figures_after window figures) i 0 ≡ get_or figures i 0 + get_or (figures_of (content_at window)) i 0
step_plain window figures some takes all files others =
    theorem_bounds.step_plain window figures some takes record { all = all; files = files; others = others }

-- sums that never saturate: the counters of every report
-- In words: a report has 32 counters, at most 4,294,967,295 files, and no counter above `most_added` for each file.
pub figures_small : (input : List ℕ)
    → (length (report_of input).figures ≡ 32)
    × (get_or (report_of input).figures 0 0 ≤ most_files)
    × ((i : ℕ) → get_or (report_of input).figures i 0 ≤ most_added * get_or (report_of input).figures 0 0)
figures_small input =
    let small = theorem_bounds.figures_small input in
    (small.all, small.files, small.others)

-- sums that never saturate: 64 bits are enough
-- In words: every counter of a report is below 2^64.
pub figures_fit : (input : List ℕ) (i : ℕ) → get_or (report_of input).figures i 0 < 2 ^ 64
figures_fit = theorem_bounds.figures_fit
