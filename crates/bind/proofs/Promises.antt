-- Two answers of `bind` or `is_def` that meet the promise are equal, and so are the lists that the job leaves. The
-- promise of `is_def` is an equation; that of `bind` fixes what its answer means, and no two answers mean the same
-- (`bound_injective`).
use Rattle.std.specs.Prelude.{Err, Ok, Result}
use Rattle.table.specs.declared.Refusal.{Refusal}
use mathlib.Core.Path.{◌≡◌, sym, ap}
use mathlib.Core.Bool.{Bool}
use mathlib.Core.List.{List}
use Prim.Native.Nat.{ℕ}
use lib.ListN.{length}
use Rattle.fields.proofs.Coincide.{coincide, coincide_by}
use Rattle.table.proofs.Answers.{refusal_injective, never_accepted}
use Rattle.bind.specs.Job.{is_def, bind_of, list_after, bound}
use Rattle.bind.specs.declared.Bound.{Bound}

-- no two answers mean the same
pub bound_injective : (r s : Result Bound Refusal) → bound r ≡ bound s → r ≡ s
bound_injective (Ok b) (Ok c) e =
    let flats : b.flat ≡ c.flat = cc in
    let manies : b.many ≡ c.many = cc in
    λ i. Ok (record { flat = flats i; many = manies i })
bound_injective (Ok b) (Err s) e = never_accepted s (sym e)
bound_injective (Err r) (Ok c) e = never_accepted r e
bound_injective (Err r) (Err s) e = ap Err (refusal_injective r s e)

-- of `bind`: the answer and the list at exit
pub bind_one : (table names : List ℕ) (call def : ℕ) (list : List ℕ) {r s : Result Bound Refusal}
    {list-r list-s : List ℕ}
    → bound r ≡ bind_of table names call def (length list) → list-r ≡ list_after table names call def list
    → bound s ≡ bind_of table names call def (length list) → list-s ≡ list_after table names call def list
    → (r ≡ s) × (list-r ≡ list-s)
bind_one table names call def list r-is list_is s-is list-are =
    (coincide_by bound bound_injective r-is s-is, coincide list_is list-are)

-- of `is_def`
pub is_def_one : (table : List ℕ) (node : ℕ) {r s : Bool} → r ≡ is_def table node → s ≡ is_def table node → r ≡ s
is_def_one table node r-is s-is = coincide r-is s-is
