-- The limit over the whole job. 1 to 4, 6 and 7 come first, and then the one test of `limited`: a list of more than 48
-- entries gives 19 at the def or lambda (`long_refused`). 19 is given for nothing else, because unpack's own numbers
-- are at most 18 (`nineteen_long`). Assumes nothing.
use mathlib.Core.Path.{◌≡◌, refl}
use mathlib.Core.Bool.{true}
use mathlib.Core.List.{List, []}
use Prim.Native.Nat.{ℕ, ◌<◌, ◌≤◌}
use native.Mathlib.Omega.{arith}
use lib.ListN.{length}
use lib.Dec.{leb}
use borrow.Author.Tests.{le-leb}
use Rattle.fields.proofs.Basics.{never}
use Rattle.forest.specs.Forest.{Node, node_of}
use Rattle.table.specs.Numbers.{short_buffer, duplicated_parameter, too_many_parameters}
use Rattle.table.specs.Answer.{accepted, refused, refused_at}
use Rattle.table.specs.Check.{check_of, node_fits, stretch_of, entry_check, on_node}
use Rattle.table.specs.declared.Wanted.TheVariants.{Parameters}
use Rattle.table.proofs.Carried.{before_test, from_next, entry_before}
use Rattle.table.proofs.Entering.{sound_entry_lem}
use Rattle.deflist.specs.Written.{Param, written}
use Rattle.deflist.specs.Unpack as def
use Rattle.deflist.specs.Limited.{most_parameters, limited}
use Rattle.deflist.proofs.Limited.{limited_long, limited_nineteen}
use Rattle.parameters.specs.Params.{answer_of, room_check, list_answer, list_of, params_of}

-- LAW: a list that is too long is refused with 19 at its def or lambda
pub long_refused : (t ns : List ℕ) (node room : ℕ) → check_of t ns ≡ accepted []
    → node_fits t node Parameters ≡ true → length (list_of t ns node) ≤ room
    → most_parameters < length (list_of t ns node)
    → params_of t ns node room ≡ refused_at too_many_parameters (node_of node (stretch_of t node))
unfolding params_of on_node list_answer list_of written
long_refused t ns node room sound fits enough long = rw (
  sound_entry_lem Parameters t ns node sound fits,
  le-leb (length (list_of t ns node)) room enough,
  limited_long (node_of node (stretch_of t node)) (list_of t ns node) long,
) refl

-- LAW: and 19 says that the list is too long
pub nineteen_long : (t ns : List ℕ) (node room : ℕ) {vs : List ℕ}
    → params_of t ns node room ≡ refused too_many_parameters vs → most_parameters < length (list_of t ns node)
unfolding params_of on_node list_answer list_of written
nineteen_long t ns node room {vs} e =
    go (limited owner l) refl
    (from_next too_many_parameters (room_check room l) _
    (before_test too_many_parameters (leb (length l) room) short_buffer (omega arith))
    (from_next too_many_parameters (entry_check Parameters t ns node) _
    (entry_before too_many_parameters Parameters t ns node (omega arith)) e))
  where
    l : List Param
    l = list_of t ns node

    owner : Node
    owner = node_of node (stretch_of t node)

    go : (o : def.Outcome) → limited owner l ≡ o → answer_of o ≡ refused too_many_parameters vs
        → most_parameters < length l
    go (def.accepted c) h e = never (cc)
    go (def.refused n r) h e = let same : n ≡ too_many_parameters = cc in limited_nineteen owner l (rw same at h)
    go (def.repeated i r) h e = let same : duplicated_parameter
        ≡ too_many_parameters = cc in absurd (omega (arith, same))
    go (def.internal x r) h e = let same : 0 ≡ too_many_parameters = cc in absurd (omega (arith, same))
