-- A report through a buffer: each step sees the first bytes of the rest, and 59,904 of them are enough. If the counts
-- of block 0 are within the limits, the file is no longer than that (`fits_window`), and a part that contains it
-- gives the same answer (Parts). If they are not, the file is refused by its first block or with 74, and the part
-- contains the first block too (`unfit_window`). So a step over the part is the step over the whole (`window_step`,
-- `window_after`), and the report follows by induction on the number of steps. Assumes nothing.
use Rattle.std.specs.Prelude.{Err, Ok, Result, ℕ}
use mathlib.Core.Path.{◌≡◌, refl}
use mathlib.Core.Bool.{Bool, true, false}
use mathlib.Core.List.{List, []}
use Prim.Native.Nat.{ℕ, zero, suc, ◌+◌, ◌≤◌}
use native.Mathlib.Omega.{arith}
use lib.ListN.{length, get_or, take, drop, length-take}
use lib.Dec.{eqb, ltb}
use borrow.Author.Tests.{ne_eqb, eqb-false}
use Rattle.fields.specs.Choice.{if'}
use Rattle.table.specs.Answer.{Answer, accepted, refused, and_then}
use Rattle.table.specs.Numbers.{block_counts, too_many_files}
use Rattle.blocks.specs.Block.{demand, judge}
use Rattle.blocks.proofs.Parts.{judge_front}
use Rattle.tablefile.specs.Reading.{header_at, used_of, content_at, counts_fit, blocks_check}
use Rattle.tablefile.proofs.Fronts.{header_front, counts_small, taken_few}
use Rattle.figures.specs.Counting.{figures_of}
use Rattle.figures.specs.Reporting.{most_files, window_check, step_check, counted, step_of}
use Rattle.figures.specs.Reporting.{figures_after, whole, after_step, report_in, report_from, report_of}
use Rattle.figured.specs.Said.{window_bytes, through_in, through}
use Rattle.figured.proofs.Parts.{part_step, part_after}

-- counts within the limits: the file is no longer than a window
fits_window : (w : List ℕ) → counts_fit (header_at w).nodes (header_at w).names ≡ true
    → (header_at w).taken ≤ window_bytes
fits_window w e = taken_few w (counts_small (header_at w).nodes (header_at w).names e)

-- a refusal is the same whatever would follow it
either : (x : Answer) (k : ℕ) (y z : Unit {0} → Answer)
    → and_then (and_then x (λ _. refused k [])) y ≡ and_then (and_then x (λ _. refused k [])) z
either (accepted vs) k y z = refl
either (refused m vs) k y z = refl

module _ (n : ℕ) (w : List ℕ) (big : window_bytes ≤ n) where
  -- counts beyond the limits: the first block or 74 decides, in the part as in the whole
  module _ (unfit : counts_fit (header_at w).nodes (header_at w).names ≡ false) where
    unfit_header : header_at (take n w) ≡ header_at w
    unfit_header = header_front n w (omega (arith, big))

    unfit_window : window_check (take n w) ≡ window_check w
    unfolding window_check blocks_check
    unfit_window =
        rw (unfit_header, judge_front 0 (used_of (header_at w)) n w (omega (arith, big)), unfit)
        (either (judge 0 (used_of (header_at w)) w) block_counts _ _)

    unfit_refused : (fs xs ys : List ℕ) → counted (step_check w fs) fs xs ≡ counted (step_check w fs) fs ys
    unfolding step_check window_check blocks_check
    unfit_refused fs xs ys =
        rw unfit (go (demand (ltb (get_or fs 0 0) most_files) too_many_files) (judge 0 (used_of (header_at w)) w) _)
      where
        go : (x y : Answer) (z : Unit {0} → Answer)
            → counted (and_then x (λ _. and_then (and_then y (λ _. refused block_counts [])) z)) fs xs
            ≡ counted (and_then x (λ _. and_then (and_then y (λ _. refused block_counts [])) z)) fs ys
        go (accepted vs) (accepted us) z = refl
        go (accepted vs) (refused k us) z = refl
        go (refused k vs) y z = refl

    module _ (fs : List ℕ) (some : length w ≡ 0 → ⊥) where
      unfit_some : length (take n w) ≡ 0 → ⊥
      unfit_some e = some (omega (arith, e, length-take n w, big))

      unfit_check : step_check (take n w) fs ≡ step_check w fs
      unfolding step_check
      unfit_check = rw unfit_window refl

      unfit_step : step_of (take n w) fs ≡ step_of w fs
      unfolding step_of
      unfit_step =
          rw (ne_eqb (length w) 0 some, ne_eqb (length (take n w)) 0 unfit_some, unfit_check, unfit_header) refl

      unfit_after : figures_after (take n w) fs ≡ figures_after w fs
      unfolding figures_after
      unfit_after =
          rw (ne_eqb (length w) 0 some, ne_eqb (length (take n w)) 0 unfit_some, unfit_check)
          (unfit_refused fs (figures_of (content_at (take n w))) (figures_of (content_at w)))

  -- LAW: a step over the first n bytes, and the counters at its exit
  module _ (fs : List ℕ) (some : length w ≡ 0 → ⊥) where
    pub window_step : step_of (take n w) fs ≡ step_of w fs
    window_step = go (counts_fit (header_at w).nodes (header_at w).names) refl
      where
        go : (b : Bool) → counts_fit (header_at w).nodes (header_at w).names ≡ b → step_of (take n w) fs ≡ step_of w fs
        go true e = part_step n w (omega (arith, fits_window w e, big)) fs some
        go false e = unfit_step e fs some

    pub window_after : figures_after (take n w) fs ≡ figures_after w fs
    window_after = go (counts_fit (header_at w).nodes (header_at w).names) refl
      where
        go : (b : Bool) → counts_fit (header_at w).nodes (header_at w).names ≡ b
            → figures_after (take n w) fs ≡ figures_after w fs
        go true e = part_after n w (omega (arith, fits_window w e, big)) fs some
        go false e = unfit_after e fs some

-- the steps of a report, each through the buffer
module _ (room : ℕ → ℕ) (enough : (at : ℕ) → window_bytes ≤ room at) where
  steps_through : (k at : ℕ) (fs left : List ℕ) → through_in room k at fs left ≡ report_in k at fs left
  unfolding through_in report_in
  steps_through zero at fs left = refl
  steps_through (suc k) at fs left =
      go (eqb (length left) 0) refl (λ n gs. steps_through k (at + n) gs (drop n left))
    where
      follows : (s : Result ℕ ℕ) (gs : List ℕ)
          → ((n : ℕ) (hs : List ℕ)
          → through_in room k (at + n) hs (drop n left) ≡ report_in k (at + n) hs (drop n left))
          → after_step s at fs (λ n. through_in room k (at + n) gs (drop n left))
          ≡ after_step s at fs (λ n. report_in k (at + n) gs (drop n left))
      follows (Ok n) gs rest = rest n gs
      follows (Err m) gs rest = refl

      go : (z : Bool) → eqb (length left) 0 ≡ z
          → ((n : ℕ) (hs : List ℕ)
          → through_in room k (at + n) hs (drop n left) ≡ report_in k (at + n) hs (drop n left))
          → if' z (λ _. whole fs) (λ _. after_step (step_of (take (room at) left) fs) at fs (λ n.
          through_in room k (at + n) (figures_after (take (room at) left) fs) (drop n left)))
          ≡ if' z (λ _. whole fs) (λ _. after_step (step_of left fs) at fs (λ n.
          report_in k (at + n) (figures_after left fs) (drop n left)))
      go true z rest = refl
      go false z rest =
          let some = eqb-false (length left) 0 z in
          rw (window_step (room at) left (enough at) fs some, window_after (room at) left (enough at) fs some)
          (follows (step_of left fs) (figures_after left fs) rest)

  -- THEOREM: the steps of an input through a buffer of at least 59,904 bytes give its report
  pub report_through : (input : List ℕ) → through room input ≡ report_of input
  unfolding through report_of report_from
  report_through input = steps_through (length input) 0 _ input

-- THEOREM: that window is 59,904 bytes
pub window_bytes_lem : window_bytes ≡ 59904
window_bytes_lem = refl
