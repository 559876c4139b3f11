-- Each public function has one answer: two answers that meet its promise are equal, and so are the counters at exit.
-- Every promise is an equation, so each theorem is `coincide`, once for the answer and once for the counters. Assumes
-- nothing.
use Rattle.std.specs.Prelude.{Result, ℕ}
use mathlib.Core.Path.{◌≡◌}
use mathlib.Core.List.{List}
use Prim.Native.Nat.{ℕ}
use Rattle.fields.proofs.Coincide.{coincide}
use Rattle.figures.specs.Reporting.{step_of, figures_after, report_of}
use Rattle.figures.specs.declared.Reported.{Reported}

-- of `report`
pub report_one : (input : List ℕ) {r s : Reported} → r ≡ report_of input → s ≡ report_of input → r ≡ s
report_one input = coincide

-- of `step`
pub step_one : (window figures : List ℕ) {r s : Result ℕ ℕ} {figures-r figures-s : List ℕ} → r ≡ step_of window figures
    → figures-r ≡ figures_after window figures → s ≡ step_of window figures
    → figures-s ≡ figures_after window figures → (r ≡ s) × (figures-r ≡ figures-s)
step_one window figures r-is figures-is s-is figures_are = (coincide r-is s-is, coincide figures-is figures_are)
