-- Induction over the steps of a report. A property of the report from a place on, with counters and the bytes left,
-- holds if it holds where no byte is left, where a step is refused, and where a step continues to a report that has it
-- (`Inductive`). A step that continues takes at least one byte (figures' `taken_fits`), so the induction is on the
-- number of bytes left. Cite `report_induction`. Assumes nothing.
use Rattle.std.specs.Prelude.{Err, Ok, Result, ℕ}
use mathlib.Core.Path.{◌≡◌, refl}
use mathlib.Core.Bool.{Bool, true, false}
use mathlib.Core.List.{List}
use Prim.Native.Nat.{ℕ, zero, suc, ◌+◌, ◌≤◌}
use native.Mathlib.Omega.{arith}
use lib.ListN.{length, drop, length-drop}
use lib.Dec.{eqb}
use borrow.Author.Tests.{eqb-true, eqb-false}
use Rattle.figures.specs.Reporting.{step_of, figures_after}
use Rattle.figures.proofs.Running.{taken_fits}

pub record Inductive (P : ℕ → List ℕ → List ℕ → Type 0) : Type 0 where
  pub none : (at : ℕ) (fs bs : List ℕ) → length bs ≡ 0 → P at fs bs
  pub stop : (at : ℕ) (fs bs : List ℕ) → (length bs ≡ 0 → ⊥) → (m : ℕ) → step_of bs fs ≡ Err m → P at fs bs
  pub on : (at : ℕ) (fs bs : List ℕ) → (length bs ≡ 0 → ⊥) → (n : ℕ) → step_of bs fs ≡ Ok n
      → P (at + n) (figures_after bs fs) (drop n bs) → P at fs bs

module _ (P : ℕ → List ℕ → List ℕ → Type 0) (i : Inductive P) where
  turn : (at : ℕ) (fs bs : List ℕ) (z : Bool) → eqb (length bs) 0 ≡ z → (s : Result ℕ ℕ) → step_of bs fs ≡ s
      → ((n : ℕ) → (1 ≤ n) × (n ≤ length bs) → P (at + n) (figures_after bs fs) (drop n bs)) → P at fs bs
  turn at fs bs true z s e rest = i.none at fs bs (eqb-true (length bs) 0 z)
  turn at fs bs false z (Err m) e rest = i.stop at fs bs (eqb-false (length bs) 0 z) m e
  turn at fs bs false z (Ok n) e rest =
      let some = eqb-false (length bs) 0 z in i.on at fs bs some n e (rest n (taken_fits bs fs some e))

  upto : (k at : ℕ) (fs bs : List ℕ) → length bs ≤ k → P at fs bs
  upto zero at fs bs few = i.none at fs bs (omega (arith, few))
  upto (suc k) at fs bs few = turn at fs bs (eqb (length bs) 0) refl (step_of bs fs) refl
      (λ n fits. upto k (at + n) (figures_after bs fs) (drop n bs) (omega (arith, few, fits, length-drop n bs)))

  pub report_induction : (at : ℕ) (fs bs : List ℕ) → P at fs bs
  report_induction at fs bs = upto (length bs) at fs bs (omega arith)
