-- Each public function has one answer: two answers that meet its promise are equal, and so are the two lists of words
-- at exit. An answer is promised by its meaning; no two answers have the same meaning (`passed_injective`), so
-- `coincide_by` applies. The words and the part that `front` returns are equations (`coincide`). Assumes nothing.
use Rattle.std.specs.Prelude.{Err, Ok, Result}
use Rattle.table.specs.declared.Refusal.{Refusal}
use mathlib.Core.Path.{◌≡◌, sym, ap}
use mathlib.Core.List.{List}
use Prim.Native.Nat.{ℕ}
use lib.ListN.{length, take}
use Rattle.fields.proofs.Coincide.{coincide, coincide_by}
use Rattle.table.proofs.Answers.{refusal_injective, never_accepted}
use Rattle.filepass.specs.Sizes.{enough_bytes, enough_words}
use Rattle.filepass.specs.Passing.{passed, answer_of, words_after}
use Rattle.filepass.specs.declared.Passed.{Passed}

pub passed_injective : (r s : Result Passed Refusal) → passed r ≡ passed s → r ≡ s
passed_injective (Ok p) (Ok q) e =
    let nodes : p.nodes ≡ q.nodes = cc in
    let totals : p.total ≡ q.total = cc in
    λ i. Ok (record { nodes = nodes i; total = totals i })
passed_injective (Ok p) (Err r) e = never_accepted r (sym e)
passed_injective (Err r) (Ok p) e = never_accepted r e
passed_injective (Err r) (Err s) e = ap Err (refusal_injective r s e)

-- of `check_file`
pub check_file_one : (file errors : List ℕ) {r s : Result Passed Refusal} {errors-r errors-s : List ℕ}
    → passed r ≡ answer_of file
    → errors-r ≡ words_after file errors → passed s ≡ answer_of file → errors-s ≡ words_after file errors
    → (r ≡ s) × (errors-r ≡ errors-s)
check_file_one file errors r-is errors-is s-is errors-are =
    (coincide_by passed passed_injective r-is s-is, coincide errors-is errors-are)

-- of `check_read`
pub check_read_one : (buffer : List ℕ) (len : ℕ) (errors : List ℕ) {r s : Result Passed Refusal}
    {errors-r errors-s : List ℕ}
    → passed r ≡ answer_of (take len buffer) → errors-r ≡ words_after (take len buffer) errors
    → length buffer ≡ enough_bytes → length errors ≡ enough_words
    → passed s ≡ answer_of (take len buffer) → errors-s ≡ words_after (take len buffer) errors
    → length buffer ≡ enough_bytes → length errors ≡ enough_words → (r ≡ s) × (errors-r ≡ errors-s)
check_read_one buffer len errors r-is errors-is bytes words s-is errors-are bytes' words' =
    (coincide_by passed passed_injective r-is s-is, coincide errors-is errors-are)

-- of `front`
pub front_one : (bytes : List ℕ) (len : ℕ) {r s : List ℕ} → r ≡ take len bytes → s ≡ take len bytes → r ≡ s
front_one bytes len = coincide
