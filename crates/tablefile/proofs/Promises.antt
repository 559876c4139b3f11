-- Each public function has one answer: two answers that meet its promise are equal, and so are the buffers at exit.
-- Where the promise is an equation, `coincide` suffices. A verdict is promised by its meaning; no two verdicts have
-- the same meaning (Accepted's `verdict_injective`), so `coincide_by` applies. `read` promises its verdict by meaning
-- and the rest as a function of that verdict (`one`). Assumes nothing.
use Rattle.std.specs.Prelude.{Option, Result, ℕ}
use Rattle.table.specs.declared.Refusal.{Refusal}
use mathlib.Core.Path.{◌≡◌, sym, ap, ◌∙◌}
use mathlib.Core.Bool.{Bool}
use mathlib.Core.List.{List}
use Prim.Native.Nat.{ℕ}
use lib.ListN.{length}
use Rattle.fields.proofs.Coincide.{coincide, coincide_by}
use Rattle.table.specs.Answer.{Answer}
use Rattle.tablefile.specs.File.{Content}
use Rattle.tablefile.specs.Reading.{header_at, content_at, number_held, counts_fit, read_check}
use Rattle.tablefile.specs.Loading.{verdict, loaded_of}
use Rattle.tablefile.specs.Lending.{file_check, into_check, handed, copied}
use Rattle.tablefile.specs.declared.Loaded.{Loaded}
use Rattle.tablefile.specs.declared.Heading.{Heading}
use Rattle.tablefile.proofs.Accepted.{verdict_injective}

-- an answer of `read`: the verdict by its meaning, the rest by the verdict
one : (x : Answer) (c : Content) (n : ℕ) (r s : Loaded) → verdict r.verdict ≡ x → r ≡ loaded_of r.verdict c n
    → verdict s.verdict ≡ x → s ≡ loaded_of s.verdict c n → r ≡ s
one x c n r s p f q g =
    f ∙ ap (λ (v : Result (Unit {0}) Refusal). loaded_of v c n) (verdict_injective r.verdict s.verdict (p ∙ sym q))
    ∙ sym g

-- of `header`, the bytes as lent
pub header_one : (bytes : List ℕ) {r s : Heading} → r ≡ header_at bytes → s ≡ header_at bytes → r ≡ s
header_one bytes = coincide

-- of `read`, the file as lent
pub read_one : (file : List ℕ) {r s : Loaded} → verdict r.verdict ≡ read_check file
    → r ≡ loaded_of r.verdict (content_at file) (header_at file).taken → verdict s.verdict ≡ read_check file
    → s ≡ loaded_of s.verdict (content_at file) (header_at file).taken → r ≡ s
read_one file {r} {s} = one _ _ _ r s

-- of `judge_file`
pub judge_file_one : (file : List ℕ) {r s : Result (Unit {0}) Refusal} → verdict r ≡ file_check file
    → verdict s ≡ file_check file → r ≡ s
judge_file_one file = coincide_by verdict verdict_injective

-- of `unpack`, the file and the arrays as lent
pub unpack_one : (file table names : List ℕ) {r s : Result (Unit {0}) Refusal} {table-r table-s : List ℕ}
    {names-r names-s : List ℕ}
    → verdict r ≡ file_check file → table-r ≡ handed (file_check file) (content_at file).table table
    → names-r ≡ handed (file_check file) (content_at file).names names → verdict s ≡ file_check file
    → table-s ≡ handed (file_check file) (content_at file).table table
    → names-s ≡ handed (file_check file) (content_at file).names names
    → (r ≡ s) × (table-r ≡ table-s) × (names-r ≡ names-s)
unpack_one file table names r-is t-is n_is s-is t-are n-are =
    (coincide_by verdict verdict_injective r-is s-is, coincide t-is t-are, coincide n_is n-are)

-- of `read_into`, the file and the buffers as lent
pub read_into_one : (file table names : List ℕ) {r s : Result (Unit {0}) Refusal} {table-r table-s : List ℕ}
    {names-r names-s : List ℕ}
    → verdict r ≡ into_check file (length table) (length names)
    → table-r ≡ handed (into_check file (length table) (length names)) (content_at file).table table
    → names-r ≡ handed (into_check file (length table) (length names)) (content_at file).names names
    → verdict s ≡ into_check file (length table) (length names)
    → table-s ≡ handed (into_check file (length table) (length names)) (content_at file).table table
    → names-s ≡ handed (into_check file (length table) (length names)) (content_at file).names names
    → (r ≡ s) × (table-r ≡ table-s) × (names-r ≡ names-s)
read_into_one file table names r-is t-is n_is s-is t-are n-are =
    (coincide_by verdict verdict_injective r-is s-is, coincide t-is t-are, coincide n_is n-are)

-- of `dialect_bytes`, the file as lent
pub dialect_bytes_one : (file : List ℕ) {r s : List ℕ} → r ≡ (content_at file).dialect → s ≡ (content_at file).dialect
    → r ≡ s
dialect_bytes_one file = coincide

-- of `stated_edition`, the file as lent
pub stated_edition_one : (file : List ℕ) {r s : Option ℕ} → r ≡ (content_at file).edition
    → s ≡ (content_at file).edition
    → r ≡ s
stated_edition_one file = coincide

-- of `edition_number`
pub edition_number_one : (stated : Option ℕ) {r s : ℕ} → r ≡ number_held stated → s ≡ number_held stated → r ≡ s
edition_number_one stated = coincide

-- of `copy_content`, the bytes and the buffer as lent
pub copy_content_one : (bytes : List ℕ) (first len : ℕ) (out : List ℕ) {out-r out-s : List ℕ}
    → out-r ≡ copied first len bytes out → out-s ≡ copied first len bytes out → out-r ≡ out-s
copy_content_one bytes first len out = coincide

-- of `counts_fit`
pub counts_fit_one : (nodes names : ℕ) {r s : Bool} → r ≡ counts_fit nodes names → s ≡ counts_fit nodes names → r ≡ s
counts_fit_one nodes names = coincide
