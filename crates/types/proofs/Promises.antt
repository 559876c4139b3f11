-- The contract of each public function leaves one answer: two answers that meet it are equal, for every input. A
-- contract that states the answer itself needs no more than that (`coincide`); where it states the meaning of an
-- answer, no two answers have the same meaning (`shaped_injective`, by cases). Assumes nothing.
use Rattle.std.specs.Prelude.{Err, Ok, Result}
use Rattle.table.specs.declared.Refusal.{Refusal}
use mathlib.Core.Path.{◌≡◌, refl, sym, ap}
use mathlib.Core.List.{List}
use Prim.Native.Nat.{ℕ}
use Rattle.fields.proofs.Coincide.{coincide, coincide_by}
use Rattle.forest.specs.Forest.{node_of, tree_of}
use Rattle.dialect.specs.declared.Dialect.{Dialect}
use Rattle.dialect.specs.declared.Edition.{Edition}
use Rattle.table.specs.Check.{headed_of}
use Rattle.table.proofs.Answers.{refusal_injective, never_accepted}
use Rattle.types.specs.Forms.{form_of, shape_of, reads_of, rule_of}
use Rattle.types.specs.Types.{dialect_check_type}
use Rattle.types.specs.Jobs.{shaped, type_shape_of}
use Rattle.types.specs.declared.Form.{Form}
use Rattle.types.specs.declared.How.{How}
use Rattle.types.specs.declared.Reads.{Reads}

-- no two answers mean the same
pub shaped_injective : (x y : Result (Unit {0}) Refusal) → shaped x ≡ shaped y → x ≡ y
shaped_injective (Ok _) (Ok _) e = refl
shaped_injective (Ok _) (Err r) e = never_accepted r (sym e)
shaped_injective (Err q) (Ok _) e = never_accepted q e
shaped_injective (Err q) (Err r) e = ap Err (refusal_injective q r e)

-- of `judge`
pub judge_one : (table names dialect : List ℕ) (edition node room : ℕ) {r s : Result (Unit {0}) Refusal}
    → shaped r ≡ type_shape_of table names dialect edition node room
    → shaped s ≡ type_shape_of table names dialect edition node room
    → r ≡ s
judge_one table names dialect edition node room = coincide_by shaped shaped_injective

-- of `judge_type`
pub judge_type_one : (names : List ℕ) (d : Dialect) (edition : Edition) (t : List ℕ) (node : ℕ)
    {r s : Result (Unit {0}) Refusal}
    → shaped r ≡ dialect_check_type edition names d.enable_types (tree_of node (headed_of node t))
    → shaped s ≡ dialect_check_type edition names d.enable_types (tree_of node (headed_of node t)) → r ≡ s
judge_type_one names d edition t node = coincide_by shaped shaped_injective

-- of `forms::form`, `forms::shape_of`, `forms::reads_of` and `forms::rule_of`
pub form_one : (t : List ℕ) {r s : Form} → r ≡ form_of (node_of 0 t).kind (node_of 0 t).detail
    → s ≡ form_of (node_of 0 t).kind (node_of 0 t).detail → r ≡ s
form_one t = coincide

pub shape_of_one : (form : Form) {r s : ℕ} → r ≡ shape_of form → s ≡ shape_of form → r ≡ s
shape_of_one form = coincide

pub reads_of_one : (form : Form) {r s : Reads} → r ≡ reads_of form → s ≡ reads_of form → r ≡ s
reads_of_one form = coincide

pub rule_of_one : (how : How) (kind : ℕ) {r s : How} → r ≡ rule_of how kind → s ≡ rule_of how kind → r ≡ s
rule_of_one how kind = coincide
