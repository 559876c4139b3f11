-- Each public function has one answer: two answers that meet its promise are equal, and so are the buffers at exit,
-- for every file and buffer. The answer is promised by its meaning; no two answers have the same meaning
-- (`rescued_injective`), so `coincide_by` applies. The buffer is an equation (`coincide`). Assumes nothing.
use Rattle.std.specs.Prelude.{Err, Ok, Result}
use Rattle.table.specs.declared.Refusal.{Refusal}
use Rattle.rescue.specs.declared.Kept.{Kept}
use mathlib.Core.Path.{◌≡◌, ap}
use mathlib.Core.List.{List}
use Prim.Native.Nat.{ℕ}
use lib.ListN.{length}
use Rattle.fields.proofs.Basics.{never}
use Rattle.fields.proofs.Coincide.{coincide, coincide_by}
use Rattle.table.proofs.Answers.{refusal_injective}
use Rattle.rescue.specs.Job.{rescue_of, file_after, rescued}

-- no two answers have the same meaning
pub rescued_injective : (r s : Result Kept Refusal) → rescued r ≡ rescued s → r ≡ s
rescued_injective (Ok k) (Ok l) e =
    let bytes : k.bytes ≡ l.bytes = cc in
    let statements : k.statements ≡ l.statements = cc in
    let nodes : k.nodes ≡ l.nodes = cc in
    let dropped : k.dropped ≡ l.dropped = cc in
    let after : k.after ≡ l.after = cc in
    λ i. Ok record {
      bytes = bytes i;
      statements = statements i;
      nodes = nodes i;
      dropped = dropped i;
      after = after i;
    }
rescued_injective (Ok k) (Err s) e = never (cc)
rescued_injective (Err r) (Ok l) e = never (cc)
rescued_injective (Err r) (Err s) e = ap Err (refusal_injective r s e)

-- of `rescue`: the answer and the buffer at exit
pub rescue_one : (input file : List ℕ) {r s : Result Kept Refusal} {file-r file-s : List ℕ}
    → rescued r ≡ rescue_of input (length file) → file-r ≡ file_after input file
    → rescued s ≡ rescue_of input (length file) → file-s ≡ file_after input file → (r ≡ s) × (file-r ≡ file-s)
rescue_one input file r-is file-is s-is file-are =
    (coincide_by rescued rescued_injective r-is s-is, coincide file-is file-are)
