-- 4,200 words have room for the binding of any call and def of a table: 7 (the list is too short) is then given for no
-- two nodes. Each written parameter is a record of the table, and so is each argument, by induction on the stretch
-- behind the callee; a table has at most 2,100 records, and a call and a def two lists. Cite `room_enough`.
-- Assumes nothing.
use mathlib.Core.Path.{◌≡◌, refl}
use mathlib.Core.List.{List, []}
use Prim.Native.Nat.{ℕ, ◌+◌, ◌*◌, ◌/◌, ◌≤◌}
use native.Mathlib.Omega.{arith}
use lib.ListN.{length}
use borrow.Author.Tests.{le-leb}
use Rattle.forest.specs.Forest.{span_of, kids_of, forest}
use Rattle.forest.proofs.Stretch.{forest_induction, rest_part, length_rest}
use Rattle.table.specs.Answer.{accepted}
use Rattle.table.specs.Check.{most_nodes, check_of, stretch_of}
use Rattle.table.proofs.Checking.{accepted_clean}
use Rattle.deflist.specs.Written.{written}
use Rattle.deflist.proofs.Theorems.{list_short}
use Rattle.parameters.specs.Params.{list_of}
use Rattle.arguments.specs.Written.{arguments_in}
use Rattle.bind.specs.Job.{arguments_at, room_check}
use Rattle.bind.specs.Reading.{behind_callee}
use Rattle.bind.proofs.Lists.{args_end, args_on, args_behind}
use Rattle.bind.proofs.Entry.{params_few, args_few}

-- a record for each argument
arguments_short : (ns : List ℕ) (i : ℕ) (t : List ℕ) → 24 * length (arguments_in ns (forest i t)) ≤ length t
arguments_short ns =
    forest_induction (λ i t. 24 * length (arguments_in ns (forest i t)) ≤ length t)
    (λ i t s. rw (args_end ns i t s) (omega arith))
    (λ i t big ks rs. rw (args_on ns i t big refl, rest_part (span_of t) t refl) (omega (arith, rs, length_rest t)))

-- and for each parameter, so that neither list of a table has more entries than the table has nodes
module _ (t ns : List ℕ) (i : ℕ) where
  list_few : 24 * length (list_of t ns i) ≤ length t
  unfolding list_of written
  list_few = params_few t i refl (length (list_of t ns i)) refl (list_short ns (i + 1) (kids_of (stretch_of t i)))

  arguments_few : 24 * length (arguments_at t ns i) ≤ length t
  unfolding arguments_at
  arguments_few =
      let s = stretch_of t i in
      args_few t i refl (length (arguments_at t ns i)) refl
      (rw (← args_behind ns i s) (arguments_short ns (i + 1 + span_of (kids_of s) / 24) (behind_callee s)))

-- THEOREM: two words for each of 2,100 nodes are enough for any two nodes of a table that the check accepts
pub room_enough : (t ns : List ℕ) → check_of t ns ≡ accepted [] → (call def : ℕ)
    → room_check (2 * most_nodes) (list_of t ns def) (arguments_at t ns call) ≡ accepted []
room_enough t ns good call def =
    rw (le-leb (length (list_of t ns def) + length (arguments_at t ns call)) (2 * most_nodes)
    (omega (arith, list_few t ns def, arguments_few t ns call, (accepted_clean t ns good).most))) refl
