-- TABLE FILES IN C
--
-- Theorems of the crate `starlark_checks` about the contracts of `starlark_read` and `starlark_write`. `Read`, two
-- equations, is written as two hypotheses. Each statement is proved by citing the theorem. Assumes nothing.
use Rattle.std.specs.Prelude.{Ok, Option, ℕ}
use mathlib.Core.Path.{◌≡◌}
use mathlib.Core.List.{List, [], ◌∷◌, ◌++◌}
use Prim.Native.Nat.{ℕ, ◌/◌, ◌<◌, ◌≤◌}
use lib.ListN.{length, get_or, take, drop}
use Rattle.fields.specs.Field.{field}
use Rattle.table.specs.Answer.{accepted}
use Rattle.tablefile.specs.Reading.{header_at, content_at, number_held, read_check}
use Rattle.tablefile.specs.Loading.{verdict, loaded_of, held}
use Rattle.tablefile.specs.declared.Loaded.{Loaded}
use Rattle.writer.specs.Writing.{holding, write_of, file_after}
use Rattle.starlark_checks.specs.Words.{stated_of, stated_word, held_values, read_of}
use Rattle.starlark_checks.proofs.ReadBack.{table_after, names_after}
use Rattle.starlark_checks.proofs.ReadBack as theorem

-- `starlark_read` accepts what the reader accepts
-- In words: for a file that the reader accepts, and buffers that table and names fit into, it returns what the file
-- holds.
pub read_accepts : (file : List ℕ) (l : Loaded)
    → verdict l.verdict ≡ read_check file
    → l ≡ loaded_of l.verdict (content_at file) (header_at file).taken
    → l.verdict ≡ Ok tt
    → (t ns : List ℕ)
    → length (held l).table ≤ length t
    → length (held l).names ≤ length ns
    → read_of file (length t) (length ns) ≡ accepted (held_values file)
read_accepts file l v e = theorem.read_accepts file l (v, e)

-- it copies the table
-- In words: the table's buffer then begins with the reader's table, and its other bytes are unchanged.
pub read_table : (file : List ℕ) (l : Loaded)
    → verdict l.verdict ≡ read_check file
    → l ≡ loaded_of l.verdict (content_at file) (header_at file).taken
    → l.verdict ≡ Ok tt
    → (t ns : List ℕ)
    → length (held l).table ≤ length t
    → length (held l).names ≤ length ns
    → table_after file t ns ≡ (held l).table ++ drop (length (held l).table) t
read_table file l v e = theorem.read_table file l (v, e)

-- and the names
-- In words: the names' buffer then begins with the reader's names, and its other bytes are unchanged.
pub read_names : (file : List ℕ) (l : Loaded)
    → verdict l.verdict ≡ read_check file
    → l ≡ loaded_of l.verdict (content_at file) (header_at file).taken
    → l.verdict ≡ Ok tt
    → (t ns : List ℕ)
    → length (held l).table ≤ length t
    → length (held l).names ≤ length ns
    → names_after file t ns ≡ (held l).names ++ drop (length (held l).names) ns
read_names file l v e = theorem.read_names file l (v, e)

-- what `starlark_write` has written, `starlark_read` gives back: the counts, the dialect and the edition
-- In words: it returns the numbers of nodes and of name bytes, whether there is a dialect, its nine bytes in words, the
-- edition as it was written or the word for none, and the edition that applies.
pub written_told : (t names ds : List ℕ) (e : Option ℕ) (buffer : List ℕ) {n : ℕ}
    → write_of (holding t names ds e) (length buffer) ≡ accepted (n ∷ [])
    → ((i : ℕ) → get_or t i 0 < 256)
    → ((i : ℕ) → get_or names i 0 < 256)
    → ((i : ℕ) → get_or ds i 0 < 256)
    → (room-t room-n : List ℕ)
    → length t ≤ length room-t
    → length names ≤ length room-n
    → read_of (take n (file_after (holding t names ds e) buffer)) (length room-t) (length room-n)
    ≡ accepted (length t / 24 ∷ length names ∷ (length ds / 9) ∷ field 4 ds 0 ∷ field 4 ds 4 ∷ field 4 ds 8
    ∷ stated_word e ∷ number_held e ∷ [])
written_told = theorem.written_told

-- and the table
-- In words: the table's buffer then begins with the table that was written, and its other bytes are unchanged.
pub written_table : (t names ds : List ℕ) (e : Option ℕ) (buffer : List ℕ) {n : ℕ}
    → write_of (holding t names ds e) (length buffer) ≡ accepted (n ∷ [])
    → ((i : ℕ) → get_or t i 0 < 256)
    → ((i : ℕ) → get_or names i 0 < 256)
    → ((i : ℕ) → get_or ds i 0 < 256)
    → (room-t room-n : List ℕ)
    → length t ≤ length room-t
    → length names ≤ length room-n
    → table_after (take n (file_after (holding t names ds e) buffer)) room-t room-n ≡ t ++ drop (length t) room-t
written_table = theorem.written_table

-- and the names
-- In words: the names' buffer then begins with the names that were written, and its other bytes are unchanged.
pub written_names : (t names ds : List ℕ) (e : Option ℕ) (buffer : List ℕ) {n : ℕ}
    → write_of (holding t names ds e) (length buffer) ≡ accepted (n ∷ [])
    → ((i : ℕ) → get_or t i 0 < 256)
    → ((i : ℕ) → get_or names i 0 < 256)
    → ((i : ℕ) → get_or ds i 0 < 256)
    → (room-t room-n : List ℕ)
    → length t ≤ length room-t
    → length names ≤ length room-n
    → names_after (take n (file_after (holding t names ds e) buffer)) room-t room-n ≡ names
    ++ drop (length names) room-n
written_names = theorem.written_names

-- and the word of the edition
-- In words: the word that is returned for an edition is the one that was given to write it.
pub stated_back : (n : ℕ) → stated_word (stated_of n) ≡ n
stated_back = theorem.stated_back
