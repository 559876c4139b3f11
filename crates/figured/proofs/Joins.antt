-- Two inputs joined: a report that reaches the end of the first continues with the second from there, with the
-- counters so far (`report_joined`). Each step over the first input is the same with more bytes after it, because a
-- file that is accepted is present whole (Parts). The induction is over the steps of the first input's report.
-- Assumes nothing.
use Rattle.std.specs.Prelude.{Ok}
use mathlib.Core.Path.{◌≡◌, refl, sym, ap, ◌∙◌}
use mathlib.Core.List.{List, [], ◌∷◌, ◌++◌}
use Prim.Native.Nat.{ℕ, ◌+◌, ◌≤◌}
use native.Mathlib.Omega.{arith}
use lib.ListN.{length, drop, length-drop, length-append}
use lib.Seq.{take-append_seam, drop-append-le}
use Rattle.fields.proofs.Basics.{never}
use Rattle.tablefile.specs.Reading.{header_at}
use Rattle.tablefile.specs.declared.Heading.{Heading}
use Rattle.tablefile.proofs.Fronts.{header_front}
use Rattle.figures.specs.Reporting.{step_of, figures_after, whole, ended_by, report_from}
use Rattle.figures.specs.declared.Ending.{Ending}
use Rattle.figures.specs.declared.Ending.TheVariants.{Whole, Refused as RefusedAt}
use Rattle.figures.specs.declared.Reported.{Reported}
use Rattle.figures.proofs.Running.{taken_fits, report_none, report_on, report_stop}
use Rattle.figures.proofs.Windows.{taken_least}
use Rattle.figured.proofs.Induction.{report_induction}
use Rattle.figured.proofs.Parts.{taken_asked, part_step, part_after}

-- a list without a byte
no_byte : (bs : List ℕ) → length bs ≡ 0 → bs ≡ []
no_byte [] e = refl
no_byte (b ∷ bs) e = absurd (omega (arith, e))

-- the first input has no byte
joined_none : (at : ℕ) (fs a b : List ℕ) → length a ≡ 0 → (gs : List ℕ) → report_from at fs a ≡ whole gs
    → report_from at fs (a ++ b) ≡ report_from (at + length a) gs b
joined_none at fs a b none gs e =
    let same : fs ≡ gs = ap (λ (r : Reported). r.figures) (sym (report_none at fs a none) ∙ e) in
    let here : at + length a ≡ at = omega (arith, none) in
    rw (here, ← same, no_byte a none) refl

-- a step that takes the file at the front is the same with more bytes after it
module _ (a b fs : List ℕ) (some : length a ≡ 0 → ⊥) {n : ℕ} (takes : step_of a fs ≡ Ok n) where
  held_whole : (header_at (a ++ b)).taken ≤ length a
  held_whole =
      let asked : (header_at a).taken ≡ n = taken_asked a fs some takes in
      let fits = taken_fits a fs some takes in
      let front : header_at a ≡ header_at (a ++ b) = ap header_at (sym (take-append_seam a b))
      ∙ header_front (length a) (a ++ b) (omega (arith, asked, fits, taken_least a)) in
      omega (arith, asked, fits, ap (λ (h : Heading). h.taken) front)

  joined_some : length (a ++ b) ≡ 0 → ⊥
  joined_some e = some (omega (arith, e, length-append a b))

  pub step_more : step_of (a ++ b) fs ≡ Ok n
  step_more =
      sym (part_step (length a) (a ++ b) held_whole fs joined_some)
      ∙ ap (λ (l : List ℕ). step_of l fs) (take-append_seam a b) ∙ takes

  pub after_more : figures_after (a ++ b) fs ≡ figures_after a fs
  after_more =
      sym (part_after (length a) (a ++ b) held_whole fs joined_some)
      ∙ ap (λ (l : List ℕ). figures_after l fs) (take-append_seam a b)

  -- the report from there on
  pub report_more : (at : ℕ)
      → report_from at fs (a ++ b) ≡ report_from (at + n) (figures_after a fs) (drop n a ++ b)
  report_more at =
      let fits = taken_fits a fs some takes in
      report_on at fs (a ++ b) joined_some step_more
      ∙ rw (after_more, drop-append-le n a b fits.1) refl

-- a report has one end
abbrev is_whole : Ending → ℕ
is_whole Whole = 1
is_whole (RefusedAt k at) = 0

pub not_both : {k at : ℕ} {fs gs : List ℕ} {P : Type 0} → ended_by k at fs ≡ whole gs → P
not_both e = never (ap (λ (r : Reported). is_whole r.ending) e)

-- LAW: the report continues after the first input
pub report_joined : (at : ℕ) (fs a b gs : List ℕ) → report_from at fs a ≡ whole gs
    → report_from at fs (a ++ b) ≡ report_from (at + length a) gs b
report_joined at fs a b gs = report_induction
    (λ at fs a. report_from at fs a ≡ whole gs → report_from at fs (a ++ b) ≡ report_from (at + length a) gs b) record {
      none = λ at fs a none e. joined_none at fs a b none gs e;
      stop = λ at fs a some m h e. not_both (sym (report_stop at fs a some h) ∙ e);
      on = λ at fs a some n h rest e.
          let place : at + n + length (drop n a) ≡ at + length a =
          omega (arith, taken_fits a fs some h, length-drop n a) in
          report_more a b fs some h at ∙ rest (sym (report_on at fs a some h) ∙ e)
          ∙ ap (λ (p : ℕ). report_from p gs b) place;
    } at fs a
