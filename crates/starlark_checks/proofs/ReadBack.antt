-- Table files in C, from the promises of `starlark_read` and `starlark_write`, for every input. `starlark_read`
-- writes the content that the reader holds into its buffers. What `starlark_write` wrote, `starlark_read` gives back
-- as the same table, names, dialect and edition; the word for the edition is the one that was given to the writer.
-- Each follows from writer's and tablefile's theorems, by unfolding the words. Assumes nothing.
use Rattle.std.specs.Prelude.{None, Ok, Option, Some, ℕ}
use mathlib.Core.Path.{◌≡◌, refl, sym, ap, ◌∙◌}
use mathlib.Core.Bool.{Bool, true, false}
use mathlib.Core.List.{List, [], ◌∷◌, ◌++◌}
use Prim.Native.Nat.{ℕ, ◌/◌, ◌≤◌}
use native.Mathlib.Omega.{arith}
use lib.ListN.{length, take, drop}
use lib.Dec.{eqb}
use borrow.Author.Tests.{eqb-true}
use Rattle.fields.specs.Choice.{if'}
use Rattle.fields.specs.Field.{field}
use Rattle.fields.proofs.Spelling.{Bytes}
use Rattle.table.specs.Answer.{accepted}
use Rattle.tablefile.specs.File.{Content}
use Rattle.tablefile.specs.Reading.{header_at, content_at, number_held, read_check}
use Rattle.tablefile.specs.Loading.{verdict, held}
use Rattle.tablefile.specs.Lending.{into_check, handed}
use Rattle.tablefile.specs.declared.Loaded.{Loaded}
use Rattle.tablefile.proofs.Fronts.{table_length_lem, names_length, dialect_length}
use Rattle.tablefile.proofs.Accepted.{read_fronted}
use Rattle.tablefile.proofs.Lends.{into_passed}
use Rattle.tablefile.proofs.Theorems.{Read, holds}
use Rattle.writer.specs.Writing.{holding, write_of, file_after}
use Rattle.writer.proofs.RoundTrips.{back_content, back_read}
use Rattle.starlark_checks.specs.Words.{no_place, stated_of, stated_word, held_values, read_of}

-- the two buffers after a file is read
abbrev pub table_after : List ℕ → List ℕ → List ℕ → List ℕ
table_after file t ns = handed (into_check file (length t) (length ns)) (content_at file).table t

abbrev pub names_after : List ℕ → List ℕ → List ℕ → List ℕ
names_after file t ns = handed (into_check file (length t) (length ns)) (content_at file).names ns

-- a file that the reader accepts, with its content, and buffers that are large enough
module _ (file t ns : List ℕ) (c : Content) (passed : read_check file ≡ accepted []) (c-is : content_at file ≡ c)
    (t-fits : length c.table ≤ length t) (ns-fit : length c.names ≤ length ns) where
  room : into_check file (length t) (length ns) ≡ accepted []
  room = into_passed file passed (length t) (length ns) (rw c-is t-fits) (rw c-is ns-fit)

  its_table : table_after file t ns ≡ c.table ++ drop (length c.table) t
  unfolding handed
  its_table = rw (room, c-is) refl

  its_names : names_after file t ns ≡ c.names ++ drop (length c.names) ns
  unfolding handed
  its_names = rw (room, c-is) refl

  its_answer : read_of file (length t) (length ns) ≡ accepted (held_values file)
  unfolding read_of
  its_answer = rw room refl

  its_values : held_values file ≡ length c.table / 24 ∷ length c.names ∷ (length c.dialect / 9)
      ∷ field 4 c.dialect 0 ∷ field 4 c.dialect 4 ∷ field 4 c.dialect 8
      ∷ stated_word c.edition ∷ number_held c.edition ∷ []
  its_values =
      let f = read_fronted file passed in
      let nodes : (header_at file).nodes
      ≡ length (content_at file).table / 24 = omega (arith, table_length_lem file f) in
      rw (nodes, ← names_length file f, ← dialect_length file f, c-is) refl

-- THEOREM: if the reader accepts a file, and table and names fit the buffers, `starlark_read` writes the content of the
-- file; the rest of the buffers stays
module _ (file : List ℕ) (l : Loaded) (read : Read file l) (good : l.verdict ≡ Ok tt) (t ns : List ℕ)
    (t-fits : length (held l).table ≤ length t) (ns-fit : length (held l).names ≤ length ns) where
  reader : read_check file ≡ accepted []
  reader = sym read.0 ∙ ap verdict good

  same : content_at file ≡ held l
  same = sym (holds file l read.1 good)

  pub read_accepts : read_of file (length t) (length ns) ≡ accepted (held_values file)
  read_accepts = its_answer file t ns (held l) reader same t-fits ns-fit

  pub read_table : table_after file t ns ≡ (held l).table ++ drop (length (held l).table) t
  read_table = its_table file t ns (held l) reader same t-fits ns-fit

  pub read_names : names_after file t ns ≡ (held l).names ++ drop (length (held l).names) ns
  read_names = its_names file t ns (held l) reader same t-fits ns-fit

-- THEOREM: what is written is read back
module _ (t names ds : List ℕ) (e : Option ℕ) (buffer : List ℕ) {n : ℕ}
    (wrote : write_of (holding t names ds e) (length buffer) ≡ accepted (n ∷ []))
    (table_bytes : Bytes t) (names_bytes : Bytes names) (dialect_bytes : Bytes ds) (room-t room-n : List ℕ)
    (t-fits : length t ≤ length room-t) (names_fit : length names ≤ length room-n) where
  abbrev pub file : List ℕ
  file = take n (file_after (holding t names ds e) buffer)

  accepts : read_check file ≡ accepted []
  accepts =
      back_read (holding t names ds e) buffer (Ok n) (file_after (holding t names ds e) buffer) (sym wrote, refl)
      refl table_bytes names_bytes dialect_bytes

  content : content_at file ≡ holding t names ds e
  content =
      back_content (holding t names ds e) buffer (Ok n) (file_after (holding t names ds e) buffer) (sym wrote, refl)
      refl table_bytes names_bytes dialect_bytes

  -- the counts, the dialect and the edition
  pub written_told : read_of file (length room-t) (length room-n)
      ≡ accepted (length t / 24 ∷ length names ∷ (length ds / 9) ∷ field 4 ds 0 ∷ field 4 ds 4 ∷ field 4 ds 8
      ∷ stated_word e ∷ number_held e ∷ [])
  written_told = its_answer file room-t room-n (holding t names ds e) accepts content t-fits names_fit
      ∙ ap accepted (its_values file room-t room-n (holding t names ds e) accepts content t-fits names_fit)

  -- the table, and the names
  pub written_table : table_after file room-t room-n ≡ t ++ drop (length t) room-t
  written_table = its_table file room-t room-n (holding t names ds e) accepts content t-fits names_fit

  pub written_names : names_after file room-t room-n ≡ names ++ drop (length names) room-n
  written_names = its_names file room-t room-n (holding t names ds e) accepts content t-fits names_fit

-- THEOREM: the word for an edition is the word that states it
pub stated_back : (n : ℕ) → stated_word (stated_of n) ≡ n
stated_back n = go (eqb n no_place) refl
  where
    go : (b : Bool) → eqb n no_place ≡ b → stated_word (if' b (λ _. None) (λ _. Some n)) ≡ n
    go true e = sym (eqb-true n no_place e)
    go false e = refl
