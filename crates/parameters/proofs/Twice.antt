-- 11 over the whole job. 1 to 4, 6 and 7 come before 11 and carry no earlier node (table's `Before`), so an answer with
-- 11 is `unpack`'s. Of its outcomes only a repeated name carries an earlier node (`params_carries`), and that node is
-- the only earlier parameter of the name, with a smaller index (`params_twice`, from deflist's `written_twice`). Both
-- split on the outcome of the list. Assumes nothing.
use mathlib.Core.Path.{◌≡◌, refl}
use mathlib.Core.List.{List, [], ◌∷◌, ◌++◌}
use Prim.Native.Nat.{ℕ}
use native.Mathlib.Omega.{arith}
use lib.ListN.{length}
use lib.Dec.{leb}
use Rattle.fields.proofs.Basics.{never}
use Rattle.forest.specs.Forest.{Node, node_of}
use Rattle.table.specs.Numbers.{short_buffer, duplicated_parameter}
use Rattle.table.specs.Answer.{refused, OnlyCarries, span_values, span_at}
use Rattle.table.specs.Check.{stretch_of, entry_check, on_node}
use Rattle.table.specs.declared.Wanted.TheVariants.{Parameters}
use Rattle.table.proofs.Carried.{Before, before_test, carries_then, from_next, entry_before}
use Rattle.deflist.specs.Written.{Param, written}
use Rattle.deflist.specs.Unpack as def
use Rattle.deflist.specs.Limited.{limited}
use Rattle.deflist.specs.Twice.{NamedTwice}
use Rattle.deflist.proofs.Twice.{written_twice}
use Rattle.deflist.proofs.Limited.{limited_repeated, limited_other}
use Rattle.parameters.specs.Params.{answer_of, room_check, list_answer, list_of, params_of}

-- 1 to 4, 6 and 7 come before 11, and carry no earlier node
entry_first : (t ns : List ℕ) (node : ℕ) → Before duplicated_parameter (entry_check Parameters t ns node)
entry_first t ns node = entry_before duplicated_parameter Parameters t ns node (omega arith)

room_first : (room : ℕ) (l : List Param) → Before duplicated_parameter (room_check room l)
room_first room l = before_test duplicated_parameter (leb (length l) room) short_buffer (omega arith)

-- THEOREM: of all refusals of the job 11 alone carries an earlier node, and it always does
pub params_carries : (t ns : List ℕ) (node room : ℕ) → OnlyCarries duplicated_parameter (params_of t ns node room)
unfolding params_of on_node list_answer list_of written
params_carries t ns node room =
    carries_then duplicated_parameter (entry_check Parameters t ns node) _ (entry_first t ns node)
    (carries_then duplicated_parameter (room_check room l) _ (room_first room l) (go (limited owner l) refl))
  where
    l : List Param
    l = list_of t ns node

    owner : Node
    owner = node_of node (stretch_of t node)

    go : (o : def.Outcome) → limited owner l ≡ o → OnlyCarries duplicated_parameter (answer_of o)
    go (def.accepted c) h = tt
    go (def.refused n r) h = (λ e. absurd (limited_other owner l h e), λ d. omega arith)
    go (def.repeated i r) h = (λ e. refl, λ d. absurd (d refl))
    go (def.internal x r) h = (λ e. absurd (omega (arith, e)), λ d. omega arith)

-- THEOREM: and the parameter that it refuses has the name of one earlier one in the list, whose node it carries; that
-- is the only one, and has a smaller node
pub params_twice : (t ns : List ℕ) (node room : ℕ) {vs : List ℕ}
    → params_of t ns node room ≡ refused duplicated_parameter vs
    → (i : ℕ) × ((r : Node) × ((vs ≡ r.at ∷ span_values (span_at r) ++ i ∷ []) × NamedTwice (list_of t ns node) i r))
unfolding params_of on_node list_answer list_of written
params_twice t ns node room {vs} e =
    go (limited owner l) refl
    (from_next duplicated_parameter (room_check room l) _ (room_first room l)
    (from_next duplicated_parameter (entry_check Parameters t ns node) _ (entry_first t ns node) e))
  where
    l : List Param
    l = list_of t ns node

    owner : Node
    owner = node_of node (stretch_of t node)

    go : (o : def.Outcome) → limited owner l ≡ o → answer_of o ≡ refused duplicated_parameter vs
        → (i : ℕ) × ((r : Node) × ((vs ≡ r.at ∷ span_values (span_at r) ++ i ∷ []) × NamedTwice l i r))
    go (def.accepted c) h e = never (cc)
    go (def.refused n r) h e = let same : n ≡ duplicated_parameter = cc in absurd (limited_other owner l h same)
    go (def.repeated i r) h e = (i, (r, (cc, written_twice ns node _ (limited_repeated owner l h))))
    go (def.internal x r) h e = let same : 0 ≡ duplicated_parameter = cc in absurd (omega (arith, same))
