-- Each public function has one answer: two answers that meet its promise are equal, and so are the buffers at exit,
-- for every table, names, dialect bytes, edition and buffer. The answer of `write` is promised by its meaning; no two
-- answers have the same meaning (`written_injective`), so `coincide_by` applies. Everything else is an equation
-- (`coincide`). Assumes nothing.
use Rattle.std.specs.Prelude.{Err, Ok, Option, Result, ℕ}
use Rattle.table.specs.declared.Refusal.{Refusal}
use mathlib.Core.Path.{◌≡◌, ap}
use mathlib.Core.List.{List}
use Prim.Native.Nat.{ℕ}
use lib.ListN.{length, get_or}
use Rattle.fields.proofs.Coincide.{coincide, coincide_by}
use Rattle.table.specs.Answer.{Answer, accepted, refused}
use Rattle.table.proofs.Answers.{refusal_injective}
use Rattle.writer.specs.Writing.{holding, write_of, file_after, laid_over, written}
use Rattle.fields.proofs.Basics.{never}

-- the first value of an answer
abbrev value : Answer → ℕ
value (accepted vs) = get_or vs 0 0
value (refused n vs) = 0

-- no two answers have the same meaning
pub written_injective : (r s : Result ℕ Refusal) → written r ≡ written s → r ≡ s
written_injective (Ok n) (Ok m) e = ap Ok (ap value e)
written_injective (Ok n) (Err s) e = never (cc)
written_injective (Err r) (Ok m) e = never (cc)
written_injective (Err r) (Err s) e = ap Err (refusal_injective r s e)

-- of `write`: the answer and the buffer at exit
pub write_one : (table names dialect : List ℕ) (edition : Option ℕ) (file : List ℕ) {r s : Result ℕ Refusal}
    {file-r file-s : List ℕ} → written r ≡ write_of (holding table names dialect edition) (length file)
    → file-r ≡ file_after (holding table names dialect edition) file
    → written s ≡ write_of (holding table names dialect edition) (length file)
    → file-s ≡ file_after (holding table names dialect edition) file → (r ≡ s) × (file-r ≡ file-s)
write_one table names dialect edition file r-is file-is s-is file-are =
    (coincide_by written written_injective r-is s-is, coincide file-is file-are)

-- of `write_unchecked`: the buffer at exit
pub write_unchecked_one : (table names dialect : List ℕ) (edition : Option ℕ) (file : List ℕ) {file-r file-s : List ℕ}
    → file-r ≡ laid_over (holding table names dialect edition) file
    → file-s ≡ laid_over (holding table names dialect edition) file → file-r ≡ file-s
write_unchecked_one table names dialect edition file = coincide
