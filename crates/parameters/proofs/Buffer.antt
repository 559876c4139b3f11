-- A refusal of the parameter job changes no byte of the mode buffer, for every input: the buffer afterwards is defined
-- by the answer, and for a refusal it is the buffer before. Cite `refusal_keeps`. Assumes nothing.
use mathlib.Core.Path.{◌≡◌, refl}
use mathlib.Core.List.{List}
use Prim.Native.Nat.{ℕ}
use lib.ListN.{length}
use Rattle.table.specs.Answer.{refused}
use Rattle.parameters.specs.Params.{params_of, modes_after}

-- LAW: a refusal changes no byte
pub refusal_keeps : (t names : List ℕ) (node : ℕ) (modes : List ℕ) {n : ℕ} {vs : List ℕ}
    → params_of t names node (length modes) ≡ refused n vs → modes_after t names node modes ≡ modes
unfolding modes_after
refusal_keeps t names node modes e = rw e refl
