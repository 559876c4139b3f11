-- Two answers of `class`, `first_unsound` or `first_unsound_in` that meet the promise are equal: each promise is an
-- equation over the arguments, so each law is fields' `coincide`. Assumes nothing.
use Rattle.std.specs.Prelude.{Option, ℕ}
use mathlib.Core.Path.{◌≡◌}
use mathlib.Core.List.{List}
use Prim.Native.Nat.{ℕ}
use Rattle.fields.proofs.Coincide.{coincide}
use Rattle.soundness.specs.Kinds.{class_of}
use Rattle.soundness.specs.Sound.{first_unsound, unsound_in}

-- of `class`
pub class_one : (kind : ℕ) {r s : ℕ} → r ≡ class_of kind → s ≡ class_of kind → r ≡ s
class_one kind = coincide

-- of `first_unsound`
pub first_unsound_one : (table names : List ℕ) {r s : Option ℕ} → r ≡ first_unsound table names
    → s ≡ first_unsound table names → r ≡ s
first_unsound_one table names = coincide

-- of `first_unsound_in`
pub first_unsound_in_one : (statement : List ℕ) (names : ℕ) {r s : Option ℕ} → r ≡ unsound_in names statement
    → s ≡ unsound_in names statement → r ≡ s
first_unsound_in_one statement names = coincide
