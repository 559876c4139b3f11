-- What a job knows once the table check and its node's check are passed: the table is clean (`passed`), and the stretch
-- of its node has at least one record and ends within the largest table (`stretch_within`). The node is within the
-- table because it fits, and in a clean table its subtree ends within the table (Checking's `stretch_size`). Cite
-- `stretch_within`. Assumes nothing.
use mathlib.Core.Path.{◌≡◌, sym}
use mathlib.Core.Bool.{true}
use mathlib.Core.List.{List}
use Prim.Native.Nat.{ℕ, ◌+◌, ◌*◌, ◌/◌, ◌≤◌}
use native.Mathlib.Omega.{arith}
use lib.ListN.{length, length-take, length-drop}
use borrow.Author.Tests.{ltb-true}
use Rattle.fields.proofs.Basics.{and_left}
use Rattle.table.specs.Answer.{accepted}
use Rattle.table.specs.Check.{check_of, node_fits, stretch_of}
use Rattle.table.specs.declared.Wanted.{Wanted}
use Rattle.table.proofs.Checking.{Clean, accepted_clean, stretch_is, stretch_size}

-- a table that passes the check
pub passed : (t names : List ℕ) {vs : List ℕ} → accepted vs ≡ check_of t names → Clean t names
passed t names e = accepted_clean t names (sym e)

-- LAW: a node that fits has a stretch of one record or more, within the table
pub stretch_within : (t names : List ℕ) (i : ℕ) (w : Wanted) → Clean t names → node_fits t i w ≡ true
    → (24 ≤ length (stretch_of t i)) × (24 * i + length (stretch_of t i) ≤ 50400)
unfolding node_fits
stretch_within t names i w c fits =
    let here = ltb-true i (length t / 24) (and_left _ _ fits) in
    let z = stretch_size c i here in
    rw (stretch_is c i here) (simp (length-take, length-drop) (omega (arith, c.most)))
