-- W-210: F-STRING FORMAT TEXT
--
-- Theorems of the crate `fstring` about the contracts of `fstring::write` and `fstring::read`: an answer with its
-- meaning, and the buffers at exit. Each statement is proved by citing the theorem. Assumes nothing.
use Rattle.std.specs.Prelude.{Ok, Result, Some}
use Rattle.table.specs.declared.Refusal.{Refusal}
use mathlib.Core.Path.{◌≡◌}
use mathlib.Core.Bool.{Bool, true, false}
use mathlib.Core.Logic.{◌⊎◌}
use mathlib.Core.List.{List, [], ◌∷◌, ◌++◌}
use Prim.Native.Nat.{ℕ, ◌*◌, ◌<◌, ◌≤◌}
use lib.ListN.{length, get_or, take, drop}
use Rattle.dialect.specs.declared.Dialect.{Dialect}
use Rattle.dialect.specs.Bytes.{from_bytes}
use Rattle.table.specs.Answer.{accepted, refused}
use Rattle.fstring.specs.Parts.{Part, text, none, str, repr, opening, closing, is_brace, plain_form, repr_form, format_of}
use Rattle.fstring.specs.Parts.{normal, is_normal}
use Rattle.fstring.specs.Parts.{texts_of, words_of, is_short}
use Rattle.fstring.specs.Words.{parts_of}
use Rattle.fstring.specs.Writing.{parts_check, write_of, text_after, written}
use Rattle.fstring.specs.Reading.{read_of, words_after, texts_after, got}
use Rattle.fstring.specs.declared.Written.{Written}
use Rattle.fstring.specs.declared.Reading.{Reading}
use Rattle.fstring.specs.declared.Reading.TheVariants as read_as
use Rattle.fstring.proofs.OverTheJobs as theorem
use Rattle.fstring.proofs.Normal as theorem_normal
use Rattle.fstring.proofs.Examples as theorem_example

-- "Writing and reading back gives the same parts, with neighbouring texts joined, empty texts dropped and str read as
-- none"
-- In words: if writing is accepted with length n, reading the first n bytes of the buffer is accepted with the parts of
-- the normal form and all text bytes, if there are two words for each of these parts and room for the text bytes, and
-- each text is shorter than 2^32; the words at exit begin with those of the normal form, the bytes with the texts, and
-- what is past them is unchanged.
pub write_then_read : (ws ts ds d : List ℕ) (r : Result Written Refusal) (after : List ℕ)
    → written r ≡ write_of ws ts ds (length d)
    → after ≡ text_after ws ts ds d
    → {n : ℕ} {enabled : Bool}
    → r ≡ Ok (record { length = n; enabled = enabled })
    → (w x : List ℕ) (s : Reading) (w-after x-after : List ℕ)
    → got s ≡ read_of (take n after) (length w) (length x)
    → w-after ≡ words_after (take n after) w (length x)
    → x-after ≡ texts_after (take n after) (length w) x
    → 2 * length (normal (parts_of ws ts)) ≤ length w
    → length ts ≤ length x
    → is_short (normal (parts_of ws ts)) ≡ true
    → (s ≡ read_as.Accepted (length (normal (parts_of ws ts))) (length ts))
    × (w-after ≡ words_of (normal (parts_of ws ts)) ++ drop (2 * length (normal (parts_of ws ts))) w)
    × (x-after ≡ ts ++ drop (length ts) x)
write_then_read = theorem.write_then_read

-- "reading and writing back gives the same bytes"
-- In words: if reading is accepted with k parts and m bytes, writing these parts and bytes, in any valid dialect and
-- into a buffer that the text fits, is accepted with the length of the text, and the buffer then begins with the text.
pub read_then_write : (t w x : List ℕ) (s : Reading) (w-after x-after : List ℕ)
    → got s ≡ read_of t (length w) (length x)
    → w-after ≡ words_after t w (length x)
    → x-after ≡ texts_after t (length w) x
    → {k m : ℕ}
    → s ≡ read_as.Accepted k m
    → (ds d : List ℕ) (dialect : Dialect)
    → from_bytes ds ≡ Some dialect
    → length t ≤ length d
    → (r : Result Written Refusal) (after : List ℕ)
    → written r ≡ write_of (take (2 * k) w-after) (take m x-after) ds (length d)
    → after ≡ text_after (take (2 * k) w-after) (take m x-after) ds d
    → (r ≡ Ok (record { length = length t; enabled = dialect.enable_f_strings }))
    × (after ≡ t ++ drop (length t) d)
read_then_write = theorem.read_then_write

-- "63 at the first brace that starts none of the four forms"
-- In words: if reading answers 63 at p, then p is inside the text, the bytes before it are the format text of some
-- parts, and at p is a brace with which none of `{{`, `}}`, `{}` and `{!r}` begins.
pub stray_stands : (t : List ℕ) (words bytes : ℕ) (s : Reading)
    → got s ≡ read_of t words bytes
    → {p : ℕ}
    → s ≡ read_as.StrayAt p
    → (p < length t)
    × ((ps : List Part) × (format_of ps ≡ take p t))
    × (is_brace (get_or t p 0) ≡ true)
    × (take 2 (drop p t) ≡ opening ∷ opening ∷ [] → ⊥)
    × (take 2 (drop p t) ≡ closing ∷ closing ∷ [] → ⊥)
    × (take 2 (drop p t) ≡ plain_form → ⊥)
    × (take 4 (drop p t) ≡ repr_form → ⊥)
stray_stands = theorem.stray_stands

-- "exactly": the converse, whatever the sizes of the buffers
-- In words: a place inside the text, after the format text of some parts, with a brace that begins none of the four
-- forms, is the position that 63 carries.
pub stray_found : (t : List ℕ) (words bytes : ℕ) (s : Reading)
    → got s ≡ read_of t words bytes
    → (p : ℕ)
    → p < length t
    → (ps : List Part)
    → format_of ps ≡ take p t
    → is_brace (get_or t p 0) ≡ true
    → (take 2 (drop p t) ≡ opening ∷ opening ∷ [] → ⊥)
    → (take 2 (drop p t) ≡ closing ∷ closing ∷ [] → ⊥)
    → (take 2 (drop p t) ≡ plain_form → ⊥)
    → (take 4 (drop p t) ≡ repr_form → ⊥)
    → s ≡ read_as.StrayAt p
stray_found = theorem.stray_found

-- a text that is not refused with 63 is a format text
-- In words: if reading does not answer 63, some parts have the text as their format text.
pub not_stray_format : (t : List ℕ) (words bytes : ℕ) (s : Reading)
    → got s ≡ read_of t words bytes
    → ((p : ℕ) → s ≡ read_as.StrayAt p → ⊥)
    → (ps : List Part) × (format_of ps ≡ t)
not_stray_format = theorem.not_stray_format

-- a format text is never refused with 63
-- In words: the format text of any parts is read without 63.
pub format_not_stray : (t : List ℕ) (words bytes : ℕ) (s : Reading)
    → got s ≡ read_of t words bytes
    → (ps : List Part)
    → format_of ps ≡ t
    → (p : ℕ)
    → s ≡ read_as.StrayAt p
    → ⊥
format_not_stray = theorem.format_not_stray

-- "then 7 exactly if parts or texts don't fit"
-- In words: if the format text of some parts is refused with 7, there are fewer words than two for each part of the
-- normal form, or fewer bytes than the texts have, or a text of 2^32 bytes or more.
pub short_is_room : (t : List ℕ) (words bytes : ℕ) (s : Reading)
    → got s ≡ read_of t words bytes
    → (ps : List Part)
    → format_of ps ≡ t
    → s ≡ read_as.Short
    → (words < 2 * length (normal ps)) ⊎ ((bytes < length (texts_of ps)) ⊎ (is_short (normal ps) ≡ false))
short_is_room = theorem.short_is_room

-- the normal form is normal
-- In words: the normal form has no str, no empty text and no two neighbouring texts.
pub normal_is_normal : (ps : List Part) → is_normal (normal ps) ≡ true
normal_is_normal = theorem_normal.normal_is_normal

-- parts in normal form are their own normal form
-- In words: the normal form of parts that are normal is these parts.
pub normal_stays : (ps : List Part) → is_normal ps ≡ true → normal ps ≡ ps
normal_stays = theorem_normal.normal_stays

-- an instance of writing: braces in two neighbouring texts, in a dialect with f-strings
-- In words: the parts `{`, str, an empty text and `}` give the six bytes `{{{}}}`, and no notice.
pub split_braces : parts_check true (0 ∷ 1 ∷ 2 ∷ 0 ∷ 0 ∷ 0 ∷ 0 ∷ 1 ∷ []) (123 ∷ 125 ∷ []) 6 ≡ accepted (6 ∷ 0 ∷ [])
split_braces = theorem_example.split_braces

-- an instance of the notice: repr in a dialect without f-strings
-- In words: `{!r}` is written all the same, and 62 is returned with its length.
pub switched_off : parts_check false (3 ∷ 0 ∷ []) [] 4 ≡ accepted (4 ∷ 62 ∷ [])
switched_off = theorem_example.switched_off

-- an instance of reading: `a{}b{!r}`
-- In words: these eight bytes are four parts with two text bytes.
pub four_parts : read_of (97 ∷ 123 ∷ 125 ∷ 98 ∷ 123 ∷ 33 ∷ 114 ∷ 125 ∷ []) 8 2 ≡ accepted (4 ∷ 2 ∷ [])
four_parts = theorem_example.four_parts

-- an instance of 63: `{{}`, with no room at all
-- In words: `{{` is a doubled brace, and the brace after it, at 2, starts none of the four forms.
pub stray_behind_doubled : read_of (123 ∷ 123 ∷ 125 ∷ []) 0 0 ≡ refused 63 (2 ∷ [])
stray_behind_doubled = theorem_example.stray_behind_doubled

-- an instance of the normal form
-- In words: an empty text is dropped, str becomes none, and two neighbouring texts are joined.
pub normal_instance : normal (text [] ∷ str ∷ text (97 ∷ []) ∷ text (98 ∷ []) ∷ repr ∷ [])
    ≡ none ∷ text (97 ∷ 98 ∷ []) ∷ repr ∷ []
normal_instance = theorem_example.normal_instance
