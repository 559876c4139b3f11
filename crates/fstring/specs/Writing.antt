-- The job `write`: its answer, and the buffer at exit. These are definitions.
use Rattle.std.specs.Prelude.{Bool, true, false, List, [], ◌∷◌, ℕ, length, leb, Err, None, Ok, Option, Result, Some}
use Rattle.table.specs.declared.Refusal.{Refusal}
use Rattle.dialect.specs.declared.Dialect.{Dialect}
use Rattle.fields.specs.Choice.{if'}
use Rattle.fields.specs.Over.{over}
use Rattle.dialect.specs.Bytes.{from_bytes}
use Rattle.table.specs.Numbers.{bad_dialect, short_buffer, f_strings_disabled, broken_part}
use Rattle.table.specs.Answer.{Answer, accepted, refused, refusal}
use Rattle.fstring.specs.Parts.{format_of}
use Rattle.fstring.specs.Words.{is_whole, parts_of}
use Rattle.fstring.specs.declared.Written.{Written}

-- 62 if the dialect lacks enable_f_strings, else 0: a notice, not a refusal
abbrev pub notice : Bool → ℕ
notice true = 0
notice false = f_strings_disabled

-- the format text of the words and text bytes lent
unfoldable pub text_for : List ℕ → List ℕ → List ℕ
text_for ws ts = format_of (parts_of ws ts)

-- 7: the text is longer than the buffer; else the answer is its length, and the notice
unfoldable pub room_check : Bool → ℕ → ℕ → Answer
room_check enabled n room =
    if' (leb n room) (λ _. accepted (n ∷ notice enabled ∷ [])) (λ _. refused short_buffer [])

-- 64, then 7
unfoldable pub parts_check : Bool → List ℕ → List ℕ → ℕ → Answer
parts_check enabled ws ts room =
    if' (is_whole ws (length ts)) (λ _. room_check enabled (length (text_for ws ts)) room) (λ _. refused broken_part [])

-- 5, then 64, then 7
abbrev pub dialect_check : Option Dialect → List ℕ → List ℕ → ℕ → Answer
dialect_check (Some d) ws ts room = parts_check d.enable_f_strings ws ts room
dialect_check None ws ts room = refused bad_dialect []

-- the job, for a buffer of `room` bytes
unfoldable pub write_of : List ℕ → List ℕ → List ℕ → ℕ → Answer
write_of ws ts ds room = dialect_check (from_bytes ds) ws ts room

-- the buffer at exit: the text laid over its front if accepted, else unchanged
abbrev pub afterwards : Answer → List ℕ → List ℕ → List ℕ
afterwards (accepted vs) bs buffer = over 0 bs buffer
afterwards (refused n vs) bs buffer = buffer

unfoldable pub text_after : List ℕ → List ℕ → List ℕ → List ℕ → List ℕ
text_after ws ts ds buffer = afterwards (write_of ws ts ds (length buffer)) (text_for ws ts) buffer

-- the meaning of the answers of the code
abbrev pub written : Result Written Refusal → Answer
written (Ok w) = accepted (w.length ∷ notice w.enabled ∷ [])
written (Err r) = refusal r
