-- THE PARAMETER JOB: 1 TO 4, 6, 7, 10 TO 19
--
-- Theorems of the crate `parameters` about the answer of `parameters::params` and the mode buffer at exit; the cut is
-- in demand 3, below. The content of the records `NamedTwice` and `FirstPassing` is written field by field. Each
-- statement is proved by citing the theorem. Assumes nothing.
use mathlib.Core.Path.{◌≡◌}
use mathlib.Core.Bool.{true}
use mathlib.Core.List.{List, [], ◌∷◌, ◌++◌}
use Prim.Native.Nat.{ℕ, ◌*◌, ◌<◌, ◌≤◌}
use lib.ListN.{length, get_or, drop}
use Rattle.fields.specs.Field.{field}
use Rattle.forest.specs.Forest.{Node}
use Rattle.forest.specs.Names.{NonePasses}
use Rattle.table.specs.Numbers.{slash_first, duplicated_parameter}
use Rattle.table.specs.Answer.{accepted, refused, OnlyCarries}
use Rattle.table.specs.Check.{check_of, node_fits}
use Rattle.table.specs.Carrying.{CarriesFile}
use Rattle.table.specs.declared.Wanted.TheVariants.{Parameters}
use Rattle.deflist.specs.Written.{Name, Param, node_in}
use Rattle.deflist.specs.Unpack.{has_name}
use Rattle.deflist.specs.Reached.{reached, AllAtMost}
use Rattle.deflist.specs.Twice.{index_of}
use Rattle.parameters.specs.Params.{list_of, params_of, modes_after, AllBelow}
use Rattle.parameters.proofs.Accepted as theorem
use Rattle.parameters.proofs.Buffer as theorem_buffer
use Rattle.parameters.proofs.Twice as theorem_twice
use Rattle.parameters.proofs.Files as theorem_files

-- "No refusal changes a buffer": modes
-- In words: if the job refuses, the mode buffer at exit is the buffer at entry.
pub refusal_keeps : (t names : List ℕ) (node : ℕ) (modes : List ℕ) {n : ℕ} {vs : List ℕ}
    → params_of t names node (length modes) ≡ refused n vs
    → modes_after t names node modes ≡ modes
refusal_keeps = theorem_buffer.refusal_keeps

-- "Too many parameters" and the unwraps of def.rs cannot fire: in a table that passes the check
-- In words: the list of a Def or Lambda of a sound table has fewer than 2,100 parameters.
pub list_short : (t names : List ℕ) (node : ℕ)
    → check_of t names ≡ accepted []
    → node_fits t node Parameters ≡ true
    → length (list_of t names node) < 2100
list_short = theorem.list_short

-- the same for every number that is counted while the list is read
-- In words: in every state while such a list is read, each number that is counted is at most 2,100.
pub counts_small : (t names : List ℕ) (node : ℕ)
    → check_of t names ≡ accepted []
    → node_fits t node Parameters ≡ true
    → AllAtMost 2100 (reached (list_of t names node))
counts_small = theorem.counts_small

-- the same for the answer
-- In words: every number of an accepted answer is at most 2,100.
pub accepted_small : (t names : List ℕ) (node room : ℕ) {vs : List ℕ}
    → params_of t names node room ≡ accepted vs
    → AllBelow 2100 vs
accepted_small = theorem.accepted_small

-- W-203: "Refusals 11 and 22 carry that node besides what they carried; all other refusals carry none."
-- In words: 11 carries five numbers, and any other refusal of the parameter job at most four.
pub params_carries : (t names : List ℕ) (node room : ℕ)
    → OnlyCarries duplicated_parameter (params_of t names node room)
params_carries = theorem_twice.params_carries

-- W-203: "The search for an equal earlier name shall answer the first such name's position."
-- In words: 11 carries the node and span of a parameter of the list and then an earlier node. Of the parameters read
-- before it, that node's has the same name, none before it has, and none after it has: it is the only one.
pub params_twice : (t names : List ℕ) (node room : ℕ) {vs : List ℕ}
    → params_of t names node room ≡ refused duplicated_parameter vs
    → (i : ℕ) × (r : Node)
    × (vs ≡ r.at ∷ r.begin ∷ r.stop ∷ r.file ∷ i ∷ [])
    × (read : List Param) × (again : Param) × (rest : List Param) × (name : Name)
    × (before : List Param) × (there : Param) × (after : List Param)
    × (list_of t names node ≡ read ++ again ∷ rest)
    × (node_in again ≡ r)
    × (has_name name again ≡ true)
    × (read ≡ before ++ there ∷ after)
    × NonePasses (has_name name) before
    × (has_name name there ≡ true)
    × (index_of there ≡ i)
    × NonePasses (has_name name) after
    × (i < r.at)
params_twice t names node room e =
    let x = theorem_twice.params_twice t names node room e in
    let w = x.1.1.1 in
    let f = w.earlier in (
      x.0,
      x.1.0,
      x.1.1.0,
      w.read,
      w.again,
      w.rest,
      w.name,
      f.before,
      f.there,
      f.after,
      w.cut,
      w.here,
      w.has,
      f.cut,
      f.none,
      f.passes,
      f.at,
      w.only,
      w.smaller,
    )

-- W-208: "all answers with a span carry the file number": the parameter job
-- In words: a refusal with a number from 10 on carries, as its fourth number, the source file number of the record that
-- it names (bytes 18 and 19), which is also the number of the job's node.
pub params_file : (t names : List ℕ) (i room : ℕ) {n : ℕ} {vs : List ℕ}
    → params_of t names i room ≡ refused n vs
    → slash_first ≤ n
    → (4 ≤ length vs)
    × (get_or vs 3 0 ≡ field 2 (drop (24 * get_or vs 0 0) t) 18)
    × (get_or vs 3 0 ≡ field 2 (drop (24 * i) t) 18)
params_file t names i room {n} {vs} e late =
    let told : CarriesFile t i (refused n vs) = rw e at (theorem_files.params_files t names i room) in
    let f = told late in
    (f.there, f.named, f.same)
