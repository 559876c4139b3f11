-- THE CALL JOB: 1 TO 4, 6, 20 TO 24
--
-- Theorems of the crate `arguments` about the answer of `arguments::call`. The content of the records `Ordered`,
-- `NamedTwice` and `FirstPassing` is written field by field. Each statement is proved by citing the theorem. Assumes
-- nothing.
use mathlib.Core.Path.{◌≡◌}
use mathlib.Core.Bool.{true}
use mathlib.Core.List.{List, [], ◌∷◌, ◌++◌}
use Prim.Native.Nat.{ℕ, ◌+◌, ◌*◌, ◌<◌, ◌≤◌}
use lib.ListN.{length, get_or, drop}
use Rattle.fields.specs.Field.{field}
use Rattle.forest.specs.Forest.{Node, tree_of}
use Rattle.forest.specs.Names.{Distinct, NonePasses}
use Rattle.table.specs.Numbers.{slash_first, repeated_named}
use Rattle.table.specs.Answer.{accepted, refused, OnlyCarries}
use Rattle.table.specs.Check.{check_of, node_fits, stretch_of}
use Rattle.table.specs.Carrying.{CarriesFile}
use Rattle.table.specs.declared.Wanted.TheVariants.{Call}
use Rattle.arguments.specs.Written.{Name, Argument, node_in, arguments_of}
use Rattle.arguments.specs.Call.{bit, given, has_name, unpack}
use Rattle.arguments.specs.Accepted.{kinds_of, in_order, Placed, names_of, Expected}
use Rattle.arguments.specs.Job.{name_span, call_values, call_of}
use Rattle.arguments.specs.Twice.{index_of}
use Rattle.arguments.specs.declared.CallArgs.{CallArgs}
use Rattle.arguments.proofs.AcceptedCalls as theorem
use Rattle.arguments.proofs.Order as theorem_order
use Rattle.arguments.proofs.Twice as theorem_twice
use Rattle.arguments.proofs.Files as theorem_files

-- "Both files' internal errors are shown never to arise": call.rs 82, 97, 112
-- In words: no list of arguments gives an internal error.
pub no_internal_error : (l : List Argument) → Expected (unpack l)
no_internal_error = theorem_order.no_internal_error

-- "Accepted: positional, then named, then at most one star, then at most one `**`; names distinct."
-- In words: in a sound table, a call whose arguments are in this order is accepted, with their numbers and places.
pub ordered_accepted : (t names : List ℕ) (i : ℕ) (c : CallArgs) {vs : List ℕ}
    → check_of t names ≡ accepted vs
    → node_fits t i Call ≡ true
    → kinds_of (arguments_of names (tree_of i (stretch_of t i))) ≡ in_order c
    → Placed c.star (c.num_pos + c.num_named)
    → Placed c.star_star (c.num_pos + c.num_named + bit (given c.star))
    → Distinct (names_of (arguments_of names (tree_of i (stretch_of t i))))
    → call_of t names i ≡ accepted (call_values c)
ordered_accepted t names i c e fits kinds star kw apart = theorem.ordered_accepted t names i c e fits
    record { kinds = kinds; star_at = star; kwargs_at = kw; distinct = apart }

-- "Accepted": no other call is accepted
-- In words: an accepted call is a call of a sound table, its arguments are in this order, and the answer has their
-- numbers and places.
pub accepted_is_ordered : (t names : List ℕ) (i : ℕ) (c : CallArgs)
    → call_of t names i ≡ accepted (call_values c)
    → (check_of t names ≡ accepted [])
    × (node_fits t i Call ≡ true)
    × (kinds_of (arguments_of names (tree_of i (stretch_of t i))) ≡ in_order c)
    × Placed c.star (c.num_pos + c.num_named)
    × Placed c.star_star (c.num_pos + c.num_named + bit (given c.star))
    × Distinct (names_of (arguments_of names (tree_of i (stretch_of t i))))
accepted_is_ordered t names i c e =
    let x = theorem.accepted_is_ordered t names i c e in
    let o = x.2 in
    (x.0, x.1, o.kinds, o.star_at, o.kwargs_at, o.distinct)

-- "Answer: how many positional and named, and the argument places of star and `**`, if any": one answer
-- In words: if a list is in order with the numbers and places a, and also with c, then a and c are the same.
pub ordered_one : (l : List Argument) (a c : CallArgs)
    → kinds_of l ≡ in_order a
    → Placed a.star (a.num_pos + a.num_named)
    → Placed a.star_star (a.num_pos + a.num_named + bit (given a.star))
    → Distinct (names_of l)
    → kinds_of l ≡ in_order c
    → Placed c.star (c.num_pos + c.num_named)
    → Placed c.star_star (c.num_pos + c.num_named + bit (given c.star))
    → a ≡ c
ordered_one l a c kinds star kw apart kinds' star' kw' = theorem.ordered_one l a c
    record { kinds = kinds; star_at = star; kwargs_at = kw; distinct = apart }
    record { kinds = kinds'; star_at = star'; kwargs_at = kw'; distinct = apart }

-- W-203: "Refusals 11 and 22 carry that node besides what they carried; all other refusals carry none."
-- In words: 22 carries five numbers, and any other refusal of the call job at most four.
pub call_carries : (t names : List ℕ) (i : ℕ) → OnlyCarries repeated_named (call_of t names i)
call_carries = theorem_twice.call_carries

-- W-203: "The search for an equal earlier name shall answer the first such name's position."
-- In words: 22 carries the node and the name's span of an argument of the call and then an earlier node. Of the
-- arguments read before it, that node's has the same name, none before it has, and none after it has: it is the only
-- one.
pub call_twice : (t names : List ℕ) (i : ℕ) {vs : List ℕ}
    → call_of t names i ≡ refused repeated_named vs
    → (j : ℕ) × (r : Node)
    × (vs ≡ r.at ∷ (name_span r).begin ∷ (name_span r).end ∷ r.file ∷ j ∷ [])
    × (read : List Argument) × (again : Argument) × (rest : List Argument) × (name : Name)
    × (before : List Argument) × (there : Argument) × (after : List Argument)
    × (arguments_of names (tree_of i (stretch_of t i)) ≡ read ++ again ∷ rest)
    × (node_in again ≡ r)
    × (has_name name again ≡ true)
    × (read ≡ before ++ there ∷ after)
    × NonePasses (has_name name) before
    × (has_name name there ≡ true)
    × (index_of there ≡ j)
    × NonePasses (has_name name) after
    × (j < r.at)
call_twice t names i e =
    let x = theorem_twice.call_twice t names i e in
    let w = x.1.1.1 in
    let f = w.earlier in (
      x.0,
      x.1.0,
      x.1.1.0,
      w.read,
      w.again,
      w.rest,
      w.name,
      f.before,
      f.there,
      f.after,
      w.cut,
      w.here,
      w.has,
      f.cut,
      f.none,
      f.passes,
      f.at,
      w.only,
      w.smaller,
    )

-- W-208: "all answers with a span carry the file number": the call job
-- In words: a refusal with a number from 10 on carries, as its fourth number, the source file number of the record that
-- it names (bytes 18 and 19), which is also the number of the job's node. For 22 it is the number of the argument's
-- record.
pub call_file : (t names : List ℕ) (i : ℕ) {n : ℕ} {vs : List ℕ}
    → call_of t names i ≡ refused n vs
    → slash_first ≤ n
    → (4 ≤ length vs)
    × (get_or vs 3 0 ≡ field 2 (drop (24 * get_or vs 0 0) t) 18)
    × (get_or vs 3 0 ≡ field 2 (drop (24 * i) t) 18)
call_file t names i {n} {vs} e late =
    let told : CarriesFile t i (refused n vs) = rw e at (theorem_files.call_files t names i) in
    let f = told late in
    (f.there, f.named, f.same)
