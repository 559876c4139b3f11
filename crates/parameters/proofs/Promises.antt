-- Two answers of a public function that meet its promise are equal, and so are the buffers that the job leaves. Each
-- promise is an equation, of the answer or of what it means; no two answers mean the same, because their values give
-- back every field. Assumes nothing.
use Rattle.std.specs.Prelude.{Err, None, Ok, Option, Result, Some, ℕ}
use Rattle.table.specs.declared.Refusal.{Refusal}
use mathlib.Core.Path.{◌≡◌, refl, sym, ap}
use mathlib.Core.List.{List}
use Prim.Native.Nat.{ℕ}
use native.Mathlib.Omega.{arith}
use lib.ListN.{length, get_or}
use Rattle.fields.proofs.Coincide.{coincide, coincide_by}
use Rattle.table.proofs.Answers.{refusal_injective, never_accepted}
use Rattle.parameters.specs.Indices.{pos_only, pos_or_named, args_range, named_only, kwargs_range, place_range}
use Rattle.parameters.specs.Indices.{values_of}
use Rattle.parameters.specs.declared.Range.{Range}
use Rattle.parameters.specs.declared.DefParamIndices.{DefParamIndices}
use Rattle.parameters.specs.declared.Counted.{Counted}
use Rattle.parameters.specs.Params.{unpacked, params_of, modes_after}

-- a place is determined by its range, and by the range for none
place_same : (p q : Option ℕ) (n m : ℕ) → n ≡ m → (place_range p n).from ≡ (place_range q m).from
    → (place_range p n).upto ≡ (place_range q m).upto → p ≡ q
place_same (Some i) (Some j) n m h b e = ap Some b
place_same (Some i) None n m h b e = absurd (omega (arith, b, e))
place_same None (Some j) n m h b e = absurd (omega (arith, b, e))
place_same None None n m h b e = refl

indices_same : (p q : DefParamIndices) → p.num_positional ≡ q.num_positional
    → p.num_positional_only ≡ q.num_positional_only → p.args ≡ q.args → p.kwargs ≡ q.kwargs → p ≡ q
indices_same p q e f g h = λ i. record {
  num_positional = e i;
  num_positional_only = f i;
  args = g i;
  kwargs = h i;
}

-- the five ranges and the flat count determine DefParamIndices
pub values_injective : (p q : Counted) → values_of p ≡ values_of q → p ≡ q
values_injective p q e =
    let value : (i : ℕ) → get_or (values_of p) i 0
    ≡ get_or (values_of q) i 0 = λ i. ap (λ (vs : List ℕ). get_or vs i 0) e in
    λ i.
    record {
      indices =
          indices_same p.indices q.indices (value 3) (value 1)
          (place_same p.indices.args q.indices.args _ _ (value 3) (value 4) (value 5))
          (place_same p.indices.kwargs q.indices.kwargs _ _ (value 10) (value 8) (value 9)) i;
      flat = value 10 i;
    }

-- no two answers mean the same
pub unpacked_injective : (u v : Result Counted Refusal) → unpacked u ≡ unpacked v → u ≡ v
unpacked_injective (Ok p) (Ok q) e = let h : values_of p ≡ values_of q = cc in
    ap Ok (values_injective p q h)
unpacked_injective (Ok p) (Err r) e = never_accepted r (sym e)
unpacked_injective (Err r) (Ok p) e = never_accepted r e
unpacked_injective (Err r) (Err s) e = ap Err (refusal_injective r s e)

-- of `params`: the answer and the buffer at exit
pub params_one : (table names : List ℕ) (node : ℕ) (modes : List ℕ) {r s : Result Counted Refusal}
    {modes-r modes-s : List ℕ}
    → unpacked r ≡ params_of table names node (length modes) → modes-r ≡ modes_after table names node modes
    → unpacked s ≡ params_of table names node (length modes) → modes-s ≡ modes_after table names node modes
    → (r ≡ s) × (modes-r ≡ modes-s)
params_one table names node modes r-is modes-is s-is modes_are =
    (coincide_by unpacked unpacked_injective r-is s-is, coincide modes-is modes_are)

-- of the five ranges
pub pos_only_one : (self : DefParamIndices) {r s : Range} → r ≡ pos_only self → s ≡ pos_only self → r ≡ s
pos_only_one self = coincide

pub pos_or_named_one : (self : DefParamIndices) {r s : Range} → r ≡ pos_or_named self → s ≡ pos_or_named self → r ≡ s
pos_or_named_one self = coincide

pub args_range_one : (self : DefParamIndices) {r s : Range} → r ≡ args_range self → s ≡ args_range self → r ≡ s
args_range_one self = coincide

pub named_only_one : (self : DefParamIndices) (param_count : ℕ) {r s : Range} → r ≡ named_only self param_count
    → s ≡ named_only self param_count → r ≡ s
named_only_one self param_count = coincide

pub kwargs_range_one : (self : DefParamIndices) (param_count : ℕ) {r s : Range} → r ≡ kwargs_range self param_count
    → s ≡ kwargs_range self param_count → r ≡ s
kwargs_range_one self param_count = coincide
