-- W-204: ROOM FOR ANY BINDING
--
-- A theorem of the crate `bind` about the room that a binding needs. The statement is proved by citing it: a list
-- of parameters or arguments has at most 2,100 entries. Assumes nothing.
use mathlib.Core.Path.{◌≡◌}
use mathlib.Core.List.{List, []}
use Prim.Native.Nat.{ℕ, ◌*◌}
use Rattle.table.specs.Answer.{accepted}
use Rattle.table.specs.Check.{most_nodes, check_of}
use Rattle.parameters.specs.Params.{list_of}
use Rattle.bind.specs.Job.{arguments_at, room_check}
use Rattle.bind.proofs.Room as theorem

-- "it needs room for the written parameters and the arguments": 4,200 words are enough
-- In words: for any two nodes of a sound table, a list of two words for each of 2,100 nodes has room, so that 7 is not
-- given.
pub room_enough : (t names : List ℕ)
    → check_of t names ≡ accepted []
    → (call def : ℕ)
    → room_check (2 * most_nodes) (list_of t names def) (arguments_at t names call) ≡ accepted []
room_enough = theorem.room_enough
