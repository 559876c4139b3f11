-- THE TABLE FILE
--
-- Theorems of the crate `tablefile` about the contract of `tablefile::read`: `Read`, two equations, is written as two
-- hypotheses, and so is the content of the record `SoundContent`. Each statement is proved by citing the theorem.
-- Assumes nothing.
use Rattle.std.specs.Prelude.{Err, None, Ok, Some}
use mathlib.Core.Path.{◌≡◌, ap}
use mathlib.Core.Logic.{◌⊎◌}
use mathlib.Core.List.{List, []}
use Prim.Native.Nat.{ℕ, ◌<◌}
use lib.ListN.{length, get_or, set}
use Rattle.table.specs.Numbers.{block_check}
use Rattle.table.specs.Answer.{accepted}
use Rattle.table.specs.declared.Refusal.TheVariants.{Bare}
use Rattle.tablefile.specs.File.{Content, file_of}
use Rattle.tablefile.specs.Reading.{header_at, content_at, number_held, sound_check, read_check}
use Rattle.tablefile.specs.Loading.{verdict, loaded_of, none, held}
use Rattle.tablefile.specs.declared.Loaded.{Loaded}
use Rattle.tablefile.proofs.Theorems as theorem

-- "The reader is lent the file and answers table, names and dialect by value"
-- In words: a file of bytes that the reader accepts is the file of the content that it returns.
pub accepted_is_file : (file : List ℕ) (r : Loaded)
    → ((i : ℕ) → get_or file i 0 < 256)
    → verdict r.verdict ≡ read_check file
    → r ≡ loaded_of r.verdict (content_at file) (header_at file).taken
    → r.verdict ≡ Ok tt
    → file ≡ file_of (held r)
accepted_is_file file r small v l = theorem.accepted_is_file file r small (v, l)

-- "Then 1 to 5"
-- In words: what an accepted file holds passes 1 to 5.
pub accepted_is_sound : (file : List ℕ) (r : Loaded)
    → verdict r.verdict ≡ read_check file
    → r ≡ loaded_of r.verdict (content_at file) (header_at file).taken
    → r.verdict ≡ Ok tt
    → sound_check (held r) ≡ accepted []
accepted_is_sound file r v l = theorem.accepted_is_sound file r (v, l)

-- the file of a table is read as that table
-- In words: the file of table, names, dialect and edition, bytes that pass 1 to 5, is accepted, and the answer is
-- these.
pub file_read_back : (c : Content) (r : Loaded)
    → sound_check c ≡ accepted []
    → ((i : ℕ) → get_or c.table i 0 < 256)
    → ((i : ℕ) → get_or c.names i 0 < 256)
    → ((i : ℕ) → get_or c.dialect i 0 < 256)
    → verdict r.verdict ≡ read_check (file_of c)
    → r ≡ loaded_of r.verdict (content_at (file_of c)) (header_at (file_of c)).taken
    → r ≡ loaded_of (Ok tt) c (length (file_of c))
file_read_back c r sound t n d v l = theorem.file_read_back c r
    record { sound = sound; table_bytes = t; names_bytes = n; dialect_bytes = d } (v, l)

-- "Any one changed byte in a block of an accepted file is refused with 72."
-- In words: if one byte of an accepted file has another value, the reader answers 72, with nothing but zeros.
pub changed_byte : (file : List ℕ) (r : Loaded) (i v : ℕ) (s : Loaded)
    → verdict r.verdict ≡ read_check file
    → r ≡ loaded_of r.verdict (content_at file) (header_at file).taken
    → r.verdict ≡ Ok tt
    → i < length file
    → (v ≡ get_or file i 0 → ⊥)
    → verdict s.verdict ≡ read_check (set file i v)
    → s ≡ loaded_of s.verdict (content_at (set file i v)) (header_at (set file i v)).taken
    → s ≡ loaded_of (Err (Bare block_check)) none 0
changed_byte file r i v s a b good h other c d = theorem.changed_byte file r i v s (a, b) good h other (c, d)

-- "An edition other than 1 or 2 is 5": in an accepted file the edition is 1 or 2, and without it 1 (W-212)
-- In words: the edition number of an accepted file is 1 or 2, and it is 1 if the file states none.
pub accepted_edition : (file : List ℕ) (r : Loaded)
    → verdict r.verdict ≡ read_check file
    → r ≡ loaded_of r.verdict (content_at file) (header_at file).taken
    → r.verdict ≡ Ok tt
    → ((number_held r.edition ≡ 1) ⊎ (number_held r.edition ≡ 2))
    × (r.edition ≡ None → number_held r.edition ≡ 1)
accepted_edition file r v l good = (theorem.accepted_edition file r (v, l) good, λ none. ap number_held none)

-- "13 used bytes and 14 used bytes with edition 1 are different files" (W-212)
-- In words: two contents that pass 1 to 5, one without an edition and one that states 1, have different files.
pub first_is_seen : (c d : Content)
    → sound_check c ≡ accepted []
    → ((i : ℕ) → get_or c.table i 0 < 256)
    → ((i : ℕ) → get_or c.names i 0 < 256)
    → ((i : ℕ) → get_or c.dialect i 0 < 256)
    → sound_check d ≡ accepted []
    → ((i : ℕ) → get_or d.table i 0 < 256)
    → ((i : ℕ) → get_or d.names i 0 < 256)
    → ((i : ℕ) → get_or d.dialect i 0 < 256)
    → c.edition ≡ None
    → d.edition ≡ Some 1
    → file_of c ≡ file_of d
    → ⊥
first_is_seen c d c-sound c-t c-n c-d d-sound d-t d-n d-d = theorem.first_is_seen c d
    record { sound = c-sound; table_bytes = c-t; names_bytes = c-n; dialect_bytes = c-d }
    record { sound = d-sound; table_bytes = d-t; names_bytes = d-n; dialect_bytes = d-d }
