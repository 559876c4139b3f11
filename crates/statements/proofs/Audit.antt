-- THE AUDIT: `ERRORS 0` MEANS THAT THE WHOLE CHECKER PASSES
--
-- Theorems of the crate `audited` about the answers of `audit::audit`, for the number of any edition, and of
-- `validate::module`. The content of the records `Accepts` and `Fitting` is written field by field. Each statement is
-- proved by citing the theorem. Assumes nothing.
use Rattle.std.specs.Prelude.{Some}
use mathlib.Core.Path.{◌≡◌}
use mathlib.Core.Bool.{true}
use mathlib.Core.List.{List, [], ◌∷◌}
use Prim.Native.Nat.{ℕ, ◌*◌, ◌/◌, ◌≤◌}
use lib.ListN.{length, drop}
use Rattle.fields.specs.Field.{field}
use Rattle.dialect.specs.declared.Edition.{Edition}
use Rattle.dialect.specs.Editions.{edition_of}
use Rattle.forest.specs.Forest.{record_bytes, forest}
use Rattle.forest.proofs.Stretch.{records}
use Rattle.table.specs.Numbers.{slash_first}
use Rattle.table.specs.Answer.{accepted}
use Rattle.table.specs.Check.{node_fits, stretch_of}
use Rattle.table.specs.declared.Wanted.TheVariants.{Parameters, Call, Assignment}
use Rattle.parameters.specs.Params.{list_of, params_of}
use Rattle.arguments.specs.Job.{call_of}
use Rattle.targets.specs.Jobs.{target_of, assignment_of}
use Rattle.types.specs.Jobs.{type_shape_of}
use Rattle.errors.specs.declared.Finding.{Finding}
use Rattle.validate.specs.Job.{errors_of, module_of}
use Rattle.audit.specs.declared.Role.TheVariants.{AsTarget, AsType}
use Rattle.audit.specs.declared.Roles.TheVariants.{Nowhere}
use Rattle.audit.specs.Roles.{placed}
use Rattle.audit.specs.Job.{all_errors, audit_of}
use Rattle.deflist.specs.Written.{root_in}
use Rattle.audited.specs.Said.{All, roots_in, is_accepted, Accepts}
use Rattle.audited.specs.Checked.{targets_of, types_of, everywhere, Each, Fitting}
use Rattle.audited.proofs.Everywhere.{all_map}
use Rattle.audited.proofs.Checked.{each_map}
use Rattle.audited.proofs.Audited as theorem
use Rattle.audited.proofs.Checked as theorem_checked
use Rattle.audited.proofs.Files as theorem_files

-- "every node"
-- In words: the trees that the audit visits begin at the table's records, each once and in order.
pub every_node : (t : List ℕ) → roots_in (placed Nowhere (forest 0 t)) ≡ records (length t / 24) 0 t
every_node = theorem.every_node

-- "`errors 0` means that the whole checker passes"
-- In words: if the audit returns 0 errors, the module job returns 0 errors, and each node is accepted by every job that
-- fits it: as parameters, as a call, as an assignment; and as a target or as a type, if it has that role.
pub zero_passes : (t names bytes : List ℕ) (n : ℕ)
    → audit_of t names bytes n ≡ accepted (0 ∷ [])
    → (module_of t names bytes ≡ accepted (0 ∷ []))
    × All (λ p.
    (node_fits t (root_in p.tree).at Parameters ≡ true → (room : ℕ)
    → length (list_of t names (root_in p.tree).at) ≤ room
    → is_accepted (params_of t names (root_in p.tree).at room) ≡ true)
    × (node_fits t (root_in p.tree).at Call ≡ true
    → is_accepted (call_of t names (root_in p.tree).at) ≡ true)
    × (node_fits t (root_in p.tree).at Assignment ≡ true
    → is_accepted (assignment_of t names (root_in p.tree).at) ≡ true)
    × (p.role ≡ AsTarget → is_accepted (target_of t names (root_in p.tree).at) ≡ true)
    × (p.role ≡ AsType → (room : ℕ)
    → length (stretch_of t (root_in p.tree).at) / record_bytes ≤ room
    → is_accepted (type_shape_of t names bytes n (root_in p.tree).at room) ≡ true))
    (placed Nowhere (forest 0 t))
zero_passes t names bytes n e =
    let x = theorem.zero_passes t names bytes n e in (
      x.0,
      all_map (λ p (a : Accepts t names bytes n (root_in p.tree).at p.role).
          (a.params, a.call, a.assignment, a.target, a.type)) (placed Nowhere (forest 0 t)) x.1,
    )

-- "exactly": the converse
-- In words: if the module job returns 0 errors and each node is accepted in this sense, the audit returns 0 errors, if
-- its number is that of an edition.
pub passes_zero : (t names bytes : List ℕ) (n : ℕ) {edition : Edition}
    → edition_of n ≡ Some edition
    → module_of t names bytes ≡ accepted (0 ∷ [])
    → All (λ p.
    (node_fits t (root_in p.tree).at Parameters ≡ true → (room : ℕ)
    → length (list_of t names (root_in p.tree).at) ≤ room
    → is_accepted (params_of t names (root_in p.tree).at room) ≡ true)
    × (node_fits t (root_in p.tree).at Call ≡ true
    → is_accepted (call_of t names (root_in p.tree).at) ≡ true)
    × (node_fits t (root_in p.tree).at Assignment ≡ true
    → is_accepted (assignment_of t names (root_in p.tree).at) ≡ true)
    × (p.role ≡ AsTarget → is_accepted (target_of t names (root_in p.tree).at) ≡ true)
    × (p.role ≡ AsType → (room : ℕ)
    → length (stretch_of t (root_in p.tree).at) / record_bytes ≤ room
    → is_accepted (type_shape_of t names bytes n (root_in p.tree).at room) ≡ true))
    (placed Nowhere (forest 0 t))
    → audit_of t names bytes n ≡ accepted (0 ∷ [])
passes_zero t names bytes n known e a = theorem.passes_zero t names bytes n known e
    (all_map (λ p x. record { params = x.0; call = x.1; assignment = x.2; target = x.3; type = x.4 })
    (placed Nowhere (forest 0 t)) a)

-- "`errors 0` means that the whole checker passes": which nodes are checked as targets and as types
-- In words: if the audit returns 0 errors, the module job returns 0 errors; each record of the table is accepted as
-- parameters, as a call and as an assignment, if it fits; the first child of every For is accepted as a target; and as
-- a type the return type of every Def that has one, the type of every Assign, AssignModify and parameter that has one.
pub zero_checks_all : (t names bytes : List ℕ) (n : ℕ)
    → audit_of t names bytes n ≡ accepted (0 ∷ [])
    → (module_of t names bytes ≡ accepted (0 ∷ []))
    × Each (λ r.
    (node_fits t r.at Parameters ≡ true → (room : ℕ)
    → length (list_of t names r.at) ≤ room
    → is_accepted (params_of t names r.at room) ≡ true)
    × (node_fits t r.at Call ≡ true → is_accepted (call_of t names r.at) ≡ true)
    × (node_fits t r.at Assignment ≡ true → is_accepted (assignment_of t names r.at) ≡ true))
    (records (length t / 24) 0 t)
    × Each (λ u. is_accepted (target_of t names (root_in u).at) ≡ true) (everywhere targets_of (forest 0 t))
    × Each (λ u. (room : ℕ)
    → length (stretch_of t (root_in u).at) / record_bytes ≤ room
    → is_accepted (type_shape_of t names bytes n (root_in u).at room) ≡ true) (everywhere types_of (forest 0 t))
zero_checks_all t names bytes n e =
    let x = theorem_checked.zero_checks_all t names bytes n e in (
      x.0,
      each_map (λ r (f : Fitting t names r.at). (f.params, f.call, f.assignment)) (records (length t / 24) 0 t)
          x.1,
      x.2,
      x.3,
    )

-- "exactly": the converse
-- In words: if the module job returns 0 errors, and each record, each target and each type is accepted in this sense,
-- the audit returns 0 errors, if its number is that of an edition.
pub checks_all_zero : (t names bytes : List ℕ) (n : ℕ) {edition : Edition}
    → edition_of n ≡ Some edition
    → module_of t names bytes ≡ accepted (0 ∷ [])
    → Each (λ r.
    (node_fits t r.at Parameters ≡ true → (room : ℕ)
    → length (list_of t names r.at) ≤ room
    → is_accepted (params_of t names r.at room) ≡ true)
    × (node_fits t r.at Call ≡ true → is_accepted (call_of t names r.at) ≡ true)
    × (node_fits t r.at Assignment ≡ true → is_accepted (assignment_of t names r.at) ≡ true))
    (records (length t / 24) 0 t)
    → Each (λ u. is_accepted (target_of t names (root_in u).at) ≡ true) (everywhere targets_of (forest 0 t))
    → Each (λ u. (room : ℕ)
    → length (stretch_of t (root_in u).at) / record_bytes ≤ room
    → is_accepted (type_shape_of t names bytes n (root_in u).at room) ≡ true) (everywhere types_of (forest 0 t))
    → audit_of t names bytes n ≡ accepted (0 ∷ [])
checks_all_zero t names bytes n known e nodes = theorem_checked.checks_all_zero t names bytes n known e
    (each_map (λ r x. record { params = x.0; call = x.1; assignment = x.2 }) (records (length t / 24) 0 t) nodes)

-- W-208: "Errors become four words: number, file, begin, end": the module pass's list
-- In words: every error of the list with a number from 10 on has the source file number of the record that it names.
pub module_file : (t names bytes : List ℕ)
    → Each (λ (e : Finding). slash_first ≤ e.number → e.span.file ≡ field 2 (drop (24 * e.node) t) 18)
    (errors_of t names bytes)
module_file = theorem_files.module_filed

-- W-208: "all answers with a span carry the file number": the audit's list
-- In words: the same for the audit's list.
pub audit_file : (t names bytes : List ℕ) (n : ℕ)
    → Each (λ (e : Finding). slash_first ≤ e.number → e.span.file ≡ field 2 (drop (24 * e.node) t) 18)
    (all_errors t names bytes n)
audit_file = theorem_files.audit_filed
