-- What an accepted call is, over the whole job: the table passes the check, the node is a call, and its arguments are
-- in order with distinct names (`accepted_is_ordered`). Such a call is accepted, with the counts and places of its
-- arguments (`ordered_accepted`), which are the only ones (`ordered_one`). The list itself is Order's and Converse's;
-- here the steps before it are put in front, by cases on what they gave. Assumes nothing.
use mathlib.Core.Path.{◌≡◌, refl, sym, ap, ◌∙◌}
use mathlib.Core.Bool.{true}
use mathlib.Core.List.{List, []}
use Prim.Native.Nat.{ℕ}
use Rattle.fields.proofs.Basics.{never}
use Rattle.forest.specs.Forest.{tree_of}
use Rattle.table.specs.Answer.{Answer, accepted, refused, and_then}
use Rattle.table.specs.Check.{check_of, node_fits, stretch_of, entry_check, on_node}
use Rattle.table.specs.declared.Wanted.TheVariants.{Call}
use Rattle.table.proofs.Checking.{check_values}
use Rattle.table.proofs.Entering.{entry_sound, sound_entry_lem}
use Rattle.arguments.specs.Written.{Argument, arguments_of}
use Rattle.arguments.specs.Call.{Outcome, unpacked, refused_with, repeated_name, internal_error, unpack}
use Rattle.arguments.specs.Job.{call_values, outcome_answer, call_answer, call_of}
use Rattle.arguments.specs.Accepted.{Ordered}
use Rattle.arguments.specs.declared.CallArgs.{CallArgs}
use Rattle.arguments.proofs.Order.{unpacked_ordered}
use Rattle.arguments.proofs.Converse.{ordered_unpacked}
use Rattle.arguments.proofs.Promises.{args_injective}

-- THEOREM: a list in order is so in one way
pub ordered_one : (l : List Argument) (a c : CallArgs) → Ordered l a → Ordered l c → a ≡ c
ordered_one l a c x y =
    let both : unpacked a ≡ unpacked c = sym (ordered_unpacked l a x) ∙ ordered_unpacked l c y in
    cc

answer_ordered : (l : List Argument) (c : CallArgs) → outcome_answer (unpack l) ≡ accepted (call_values c) → Ordered l c
answer_ordered l c e = go (unpack l) refl e
  where
    go : (o : Outcome) → unpack l ≡ o → outcome_answer o ≡ accepted (call_values c) → Ordered l c
    go (unpacked a) h e =
        let values : call_values a ≡ call_values c = cc in
        rw (args_injective a c values) at (unpacked_ordered l a h)
    go (refused_with n r) h e = never (cc)
    go (repeated_name i r) h e = never (cc)
    go internal_error h e = never (cc)

-- THEOREM: in a table that passes the check, a call whose arguments are in order with distinct names is accepted,
-- with their counts and places
pub ordered_accepted : (t names : List ℕ) (i : ℕ) (c : CallArgs) {vs : List ℕ} → check_of t names ≡ accepted vs
    → node_fits t i Call ≡ true → Ordered (arguments_of names (tree_of i (stretch_of t i))) c
    → call_of t names i ≡ accepted (call_values c)
unfolding on_node call_answer
ordered_accepted t names i c good fits o =
    let passed : check_of t names ≡ accepted [] = good ∙ ap accepted (check_values t names good) in
    rw (sound_entry_lem Call t names i passed fits, ordered_unpacked _ c o) refl

-- THEOREM: and only such a call is accepted
pub accepted_is_ordered : (t names : List ℕ) (i : ℕ) (c : CallArgs) → call_of t names i ≡ accepted (call_values c)
    → (check_of t names ≡ accepted []) × (node_fits t i Call ≡ true)
    × Ordered (arguments_of names (tree_of i (stretch_of t i))) c
unfolding on_node call_answer
accepted_is_ordered t names i c e = go (entry_check Call t names i) refl e
  where
    go : (x : Answer) → entry_check Call t names i ≡ x
        → and_then x (λ _. call_answer names (tree_of i (stretch_of t i))) ≡ accepted (call_values c)
        → (check_of t names ≡ accepted []) × (node_fits t i Call ≡ true)
        × Ordered (arguments_of names (tree_of i (stretch_of t i))) c
    go (accepted vs) h e = let k = entry_sound Call t names i h in (k.0, k.1, answer_ordered _ c e)
    go (refused n vs) h e = never (cc)
