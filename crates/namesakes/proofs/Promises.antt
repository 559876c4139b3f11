-- Two answers of the job that meet its promise are equal, and so are the lists that they leave. The promise fixes what
-- the answer means, and no two answers mean the same (`named_injective`): a number of reports has one value, and a
-- refusal is table's `refusal_injective`. Assumes nothing.
use Rattle.std.specs.Prelude.{Err, Ok, Result, ℕ}
use Rattle.table.specs.declared.Refusal.{Refusal}
use mathlib.Core.Path.{◌≡◌, sym, ap}
use mathlib.Core.List.{List}
use Prim.Native.Nat.{ℕ}
use lib.ListN.{length}
use Rattle.fields.proofs.Coincide.{coincide, coincide_by}
use Rattle.table.proofs.Answers.{refusal_injective, never_accepted}
use Rattle.namesakes.specs.Job.{namesakes_of, list_after, named}

-- no two answers mean the same
pub named_injective : (r s : Result ℕ Refusal) → named r ≡ named s → r ≡ s
named_injective (Ok m) (Ok n) e = cc
named_injective (Ok m) (Err s) e = never_accepted s (sym e)
named_injective (Err r) (Ok n) e = never_accepted r e
named_injective (Err r) (Err s) e = ap Err (refusal_injective r s e)

-- of `namesakes`: the answer and the list at exit
pub namesakes_one : (table names : List ℕ) (call def : ℕ) (list : List ℕ) {r s : Result ℕ Refusal}
    {list-r list-s : List ℕ}
    → named r ≡ namesakes_of table names call def (length list) → list-r ≡ list_after table names call def list
    → named s ≡ namesakes_of table names call def (length list) → list-s ≡ list_after table names call def list
    → (r ≡ s) × (list-r ≡ list-s)
namesakes_one table names call def list r-is list_is s-is list-are =
    (coincide_by named named_injective r-is s-is, coincide list_is list-are)
