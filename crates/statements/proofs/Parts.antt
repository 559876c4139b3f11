-- A SCRIPT IN SEVERAL TABLES
--
-- Theorems of the crate `parts`: a script that is too large for one table is cut between top-level statements, and each
-- part is checked in its own table. No job accepts the whole, so these are about trees. Each statement is proved by
-- citing the theorem. Assumes nothing.
use mathlib.Core.Path.{◌≡◌}
use mathlib.Core.Bool.{Bool}
use mathlib.Core.List.{List, [], ◌∷◌}
use Prim.Native.Nat.{ℕ}
use lib.ListN.{take}
use Rattle.dialect.specs.declared.Dialect.{Dialect}
use Rattle.dialect.specs.declared.Edition.{Edition}
use Rattle.dialect.specs.declared.Name.TheVariants.{Extended}
use Rattle.dialect.specs.Rows.{record_of, row_named}
use Rattle.forest.specs.Forest.{Node, forest}
use Rattle.soundness.specs.KindNumbers.{kind_statements}
use Rattle.table.specs.Check.{most_bytes}
use Rattle.validate.specs.Module.{validate_module}
use Rattle.audit.specs.Job.{audit_errors}
use Rattle.parts.specs.Parts.{Part, joined, Kept, under, audit_module, read, read_in_turn, how_many}
use Rattle.parts.specs.Example.{root_at, whole_names, in_two, twice, misplaced}
use Rattle.parts.proofs.Theorems as theorem
use Rattle.parts.proofs.Example as theorem_example

-- "the errors of a root Statements are, up to order, those of its parts": the module pass
-- In words: if each part's own table has a root Statements and statements that say the same as in the whole, every test
-- of a number, a source file, a begin and an end is passed by as many errors of the whole as of the parts.
pub module_in_parts : (d : Dialect) (names : List ℕ) (r : Node) (ps : List Part)
    → r.kind ≡ kind_statements
    → Kept names ps
    → (test : List ℕ → Bool)
    → how_many test (read (validate_module d names (under r (joined ps))))
    ≡ how_many test (read_in_turn (validate_module d) ps)
module_in_parts = theorem.module_in_parts

-- "the errors of a root Statements are, up to order, those of its parts": the audit
-- In words: the same for the list of all jobs, in either edition.
pub audit_in_parts : (d : Dialect) (edition : Edition) (names : List ℕ) (r : Node) (ps : List Part)
    → r.kind ≡ kind_statements
    → Kept names ps
    → (test : List ℕ → Bool)
    → how_many test (read (audit_module d edition names (under r (joined ps))))
    ≡ how_many test (read_in_turn (audit_module d edition) ps)
audit_in_parts = theorem.audit_in_parts

-- the audit's list of trees
-- In words: the audit's errors of any bytes in a dialect and an edition are this list of their trees.
pub audit_of_bytes : (d : Dialect) (edition : Edition) (names t : List ℕ)
    → audit_errors d edition names t ≡ audit_module d edition names (forest 0 (take most_bytes t))
audit_of_bytes = theorem.audit_of_bytes

-- an instance: `lambda a, a: 1` and `break`, in two tables
-- In words: the two parts keep what the two statements say, though names and nodes have other places in their tables.
pub kept : Kept whole_names in_two
kept = theorem_example.kept

-- an instance: the errors of the whole
-- In words: 55 is reported before 11, because the module pass reports statements before expressions.
pub whole_reads :
    read (validate_module (record_of (row_named Extended)) whole_names (under (root_at 0 20 7) (joined in_two)))
    ≡ misplaced ∷ twice ∷ []
whole_reads = theorem_example.whole_reads

-- an instance: the errors of the parts, in turn
-- In words: 11 comes before 55, so the order of the whole is not kept.
pub parts_read : read_in_turn (validate_module (record_of (row_named Extended))) in_two ≡ twice ∷ misplaced ∷ []
parts_read = theorem_example.parts_read
