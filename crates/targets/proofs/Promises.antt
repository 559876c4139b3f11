-- The contract of each public function leaves one answer: two answers that meet it are equal, for every table, names
-- and node. Both have the same meaning, which is what the contract equates, and no two answers have the same meaning
-- (`targeted_injective`, by cases). Assumes nothing.
use Rattle.std.specs.Prelude.{Err, Ok, Result, ℕ}
use Rattle.table.specs.declared.Refusal.{Refusal}
use mathlib.Core.Path.{◌≡◌, sym, ap}
use mathlib.Core.List.{List}
use Prim.Native.Nat.{ℕ}
use Rattle.fields.proofs.Coincide.{coincide_by}
use Rattle.forest.specs.Forest.{tree_of}
use Rattle.table.specs.Check.{headed_of}
use Rattle.table.proofs.Answers.{refusal_injective, never_accepted}
use Rattle.targets.specs.Targets.{counted, check_assignment}
use Rattle.targets.specs.Jobs.{targeted, target_of, assignment_of}

-- no two answers mean the same
pub targeted_injective : (x y : Result ℕ Refusal) → targeted x ≡ targeted y → x ≡ y
targeted_injective (Ok n) (Ok m) e = cc
targeted_injective (Ok n) (Err r) e = never_accepted r (sym e)
targeted_injective (Err q) (Ok m) e = never_accepted q e
targeted_injective (Err q) (Err r) e = ap Err (refusal_injective q r e)

-- of `target`
pub target_one : (table names : List ℕ) (node : ℕ) {r s : Result ℕ Refusal} → targeted r ≡ target_of table names node
    → targeted s ≡ target_of table names node → r ≡ s
target_one table names node = coincide_by targeted targeted_injective

-- of `assignment`
pub assignment_one : (table names : List ℕ) (node : ℕ) {r s : Result ℕ Refusal}
    → targeted r ≡ assignment_of table names node
    → targeted s ≡ assignment_of table names node → r ≡ s
assignment_one table names node = coincide_by targeted targeted_injective

-- of `judge_target`
pub judge_target_one : (t : List ℕ) (node : ℕ) {r s : Result ℕ Refusal}
    → targeted r ≡ counted 0 (tree_of node (headed_of node t))
    → targeted s ≡ counted 0 (tree_of node (headed_of node t)) → r ≡ s
judge_target_one t node = coincide_by targeted targeted_injective

-- of `judge_assignment`
pub judge_assignment_one : (t : List ℕ) (node : ℕ) {r s : Result ℕ Refusal}
    → targeted r ≡ check_assignment (tree_of node (headed_of node t))
    → targeted s ≡ check_assignment (tree_of node (headed_of node t)) → r ≡ s
judge_assignment_one t node = coincide_by targeted targeted_injective
