-- A step reads the file at the front and nothing after it. So a part that contains that file gives the same answer as
-- the whole (`part_check`, `part_content`): both have the same first bytes, and those decide (figures' Windows).
-- Hence a step over a part that contains the file at the front is the step over the whole (`part_step`). Assumes
-- nothing.
use Rattle.std.specs.Prelude.{Ok}
use mathlib.Core.Path.{◌≡◌, refl, sym, ap, ◌∙◌}
use mathlib.Core.List.{List}
use Prim.Native.Nat.{ℕ, ◌≤◌}
use native.Mathlib.Omega.{arith}
use lib.ListN.{length, take, length-take}
use lib.Seq.{take-take}
use borrow.Author.Tests.{ne_eqb}
use Rattle.fields.proofs.Basics.{never}
use Rattle.table.specs.Answer.{Answer, accepted, refused}
use Rattle.tablefile.specs.Reading.{header_at, content_at, front_check}
use Rattle.tablefile.proofs.Fronts.{header_front}
use Rattle.figures.specs.Reporting.{window_check, step_check, told, step_of}
use Rattle.figures.specs.Reporting.{figures_after}
use Rattle.figures.proofs.Windows.{file_in, taken_least, front_window, content_window}

-- LAW: a step that continues takes the number of bytes that the header gives
pub taken_asked : (w fs : List ℕ) → (length w ≡ 0 → ⊥) → {n : ℕ} → step_of w fs ≡ Ok n → (header_at w).taken ≡ n
unfolding step_of
taken_asked w fs some {n} e = go (step_check w fs) (rw (ne_eqb (length w) 0 some) at e)
  where
    go : (a : Answer) → told a (header_at w).taken ≡ Ok n → (header_at w).taken ≡ n
    go (accepted vs) h = cc
    go (refused k vs) h = never (cc)

-- the first m bytes of a window, if they contain the file at its front
module _ (m : ℕ) (w : List ℕ) (holds : (header_at w).taken ≤ m) where
  pub part_header : header_at (take m w) ≡ header_at w
  part_header = header_front m w (omega (arith, holds, taken_least w))

  same_file : file_in (take m w) ≡ file_in w
  same_file =
      ap (λ (n : ℕ). take n (take m w)) (ap (λ h. h.taken) part_header) ∙ take-take (header_at w).taken m w holds

  pub part_content : content_at (take m w) ≡ content_at w
  part_content = sym (content_window (take m w)) ∙ ap content_at same_file ∙ content_window w

  part_front : front_check (take m w) ≡ front_check w
  part_front = sym (front_window (take m w)) ∙ ap front_check same_file ∙ front_window w

  pub part_check : window_check (take m w) ≡ window_check w
  unfolding window_check
  part_check = rw (part_front, part_content) refl

  -- LAW: a step over the part, from any counters
  module _ (fs : List ℕ) (some : length w ≡ 0 → ⊥) where
    part_some : length (take m w) ≡ 0 → ⊥
    part_some e = some (omega (arith, e, length-take m w, holds, taken_least w))

    part_step_check : step_check (take m w) fs ≡ step_check w fs
    unfolding step_check
    part_step_check = rw part_check refl

    pub part_step : step_of (take m w) fs ≡ step_of w fs
    unfolding step_of
    part_step =
        rw (ne_eqb (length w) 0 some, ne_eqb (length (take m w)) 0 part_some, part_step_check, part_header) refl

    pub part_after : figures_after (take m w) fs ≡ figures_after w fs
    unfolding figures_after
    part_after =
        rw (ne_eqb (length w) 0 some, ne_eqb (length (take m w)) 0 part_some, part_step_check, part_content) refl
