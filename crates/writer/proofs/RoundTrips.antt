-- The theorems of W-201 on the writer, from the promises of writer and reader, for every input. What is written is
-- read back as the same table, names, dialect and edition, none as none, so the reader does not refuse it, and
-- `read_into` gives the same parts. Each file that the reader accepts is written again to the same bytes. If 1 to 5
-- are passed, it is refused exactly if the blocks do not fit, with 7. A refusal changes no byte, and bytes past the
-- blocks always stay. An accepted answer leaves the file of the content (`Says` of Jobs), and that file reads back
-- (tablefile's theorems); each claim is a step from there. Assumes nothing.
use Rattle.std.specs.Prelude.{Err, Ok, Result, ℕ}
use mathlib.Core.Path.{◌≡◌, refl, sym, ap, ◌∙◌}
use mathlib.Core.List.{List, [], ◌∷◌, ◌++◌}
use Prim.Native.Nat.{ℕ, ◌*◌, ◌<◌, ◌≤◌}
use native.Mathlib.Omega.{arith}
use lib.ListN.{length, take, drop}
use lib.Seq.{take_at, drop_at}
use borrow.Author.Tests.{lt-leb}
use Rattle.fields.proofs.Spelling.{Bytes}
use Rattle.fields.proofs.Over.{over_front}
use Rattle.table.specs.Numbers.{short_buffer}
use Rattle.table.specs.Answer.{accepted, is_refused}
use Rattle.table.specs.declared.Refusal.{Refusal}
use Rattle.table.specs.declared.Refusal.TheVariants.{Bare}
use Rattle.tablefile.specs.File.{Content, file_of, most_blocks}
use Rattle.tablefile.specs.Reading.{content_at, sound_check, read_check}
use Rattle.tablefile.specs.Lending.{into_check, handed}
use Rattle.tablefile.specs.Loading.{loaded_of, held}
use Rattle.tablefile.specs.declared.Loaded.{Loaded}
use Rattle.tablefile.proofs.Loads.{held_is}
use Rattle.tablefile.proofs.Accepted.{SoundContent, back_holds, back_accepted}
use Rattle.tablefile.proofs.Lends.{into_passed}
use Rattle.tablefile.proofs.Theorems.{Read, accepted_is_file, accepted_is_sound, file_read_back}
use Rattle.writer.specs.Writing.{bytes_for, write_of, file_after, written}
use Rattle.writer.proofs.Building.{length_file}
use Rattle.writer.proofs.Jobs.{Says, passed_says, sound_few, sound_accepted}
use Rattle.writer.proofs.Promises.{written_injective}

-- the promise of `write`, called with the parts of a content: the answer, and the buffer at exit
abbrev pub Write : Content → List ℕ → Result ℕ Refusal → List ℕ → Type 0
Write c buffer r after = (written r ≡ write_of c (length buffer)) × (after ≡ file_after c buffer)

module _ (c : Content) (buffer : List ℕ) (r : Result ℕ Refusal) (after : List ℕ) (w : Write c buffer r after) where
  -- what an accepted write implies, and what it leaves
  module _ {n : ℕ} (good : r ≡ Ok n) where
    answer_is : write_of c (length buffer) ≡ accepted (n ∷ [])
    answer_is = sym w.0 ∙ ap written good

    says : Says c (length buffer)
    says = passed_says c (length buffer) (ap is_refused answer_is)

    pub written_length : n ≡ length (file_of c)
    written_length =
        let same : ◌≡◌ {A = Result ℕ Refusal} (Ok n) (Ok (bytes_for (length c.table) (length c.names))) =
        written_injective _ _ (sym answer_is ∙ says.answer) in
        value same ∙ sym (length_file c says.few.dialect)
      where
        value : {a b : ℕ} → ◌≡◌ {A = Result ℕ Refusal} (Ok a) (Ok b) → a ≡ b
        value e = cc

    -- LAW: the buffer is the file and then the old bytes
    pub written_is : after ≡ file_of c ++ drop n buffer
    written_is = w.1 ∙ rw (answer_is, written_length) (over_front (file_of c) buffer)

    pub written_front : take n after ≡ file_of c
    written_front = ap (take n) written_is ∙ take_at (file_of c) (drop n buffer) n (sym written_length)

    -- THEOREM: what is written is read back as the same table, names, dialect and edition
    module _ (table_bytes : Bytes c.table) (names_bytes : Bytes c.names) (dialect_bytes : Bytes c.dialect)
      where
        sound_content : SoundContent c
        sound_content = record {
          sound = says.sound;
          table_bytes = table_bytes;
          names_bytes = names_bytes;
          dialect_bytes = dialect_bytes;
        }

        module _ (s : Loaded) (read : Read (take n after) s) where
          pub reads_back : s ≡ loaded_of (Ok tt) c n
          reads_back =
              let read' : Read (file_of c) s = rw written_front at read in
              file_read_back c s sound_content read' ∙ ap (loaded_of (Ok tt) c) (sym written_length)

          pub same_content : held s ≡ c
          same_content = ap held reads_back ∙ held_is c n

          -- THEOREM: so the reader does not refuse it
          pub not_refused : s.verdict ≡ Ok tt
          unfolding loaded_of
          not_refused = ap (λ (l : Loaded). l.verdict) reads_back

        -- THEOREM: `read_into` writes the same table and names, if they fit its buffers
        pub back_content : content_at (take n after) ≡ c
        back_content = ap content_at written_front ∙ back_holds c sound_content

        pub back_read : read_check (take n after) ≡ accepted []
        back_read = ap read_check written_front ∙ back_accepted c sound_content

        module _ (room-t room-n : List ℕ) (t-fits : length c.table ≤ length room-t)
            (names_fit : length c.names ≤ length room-n) where
          pub into_accepted : into_check (take n after) (length room-t) (length room-n) ≡ accepted []
          into_accepted = into_passed (take n after) back_read (length room-t) (length room-n)
              (rw back_content t-fits) (rw back_content names_fit)

          pub hands_back_table : handed (into_check (take n after) (length room-t) (length room-n))
              (content_at (take n after)).table room-t ≡ c.table ++ drop (length c.table) room-t
          unfolding handed
          hands_back_table = rw (into_accepted, back_content) refl

          pub hands_back_names : handed (into_check (take n after) (length room-t) (length room-n))
              (content_at (take n after)).names room-n ≡ c.names ++ drop (length c.names) room-n
          unfolding handed
          hands_back_names = rw (into_accepted, back_content) refl

    -- LAW: bytes past the blocks stay
    pub past_stays : drop n after ≡ drop n buffer
    past_stays = ap (drop n) written_is ∙ drop_at (file_of c) (drop n buffer) n (sym written_length)

  -- LAW: a refusal changes no byte
  pub refusal_keeps : {why : Refusal} → r ≡ Err why → after ≡ buffer
  refusal_keeps {why} e =
      let told : write_of c (length buffer) ≡ written (Err why) = sym w.0 ∙ ap written e in
      w.1 ∙ rw told refl

  -- LAW: if 1 to 5 are passed, it is refused exactly if the blocks do not fit, with 7
  module _ (sound : sound_check c ≡ accepted []) where
    abbrev size : ℕ
    size = bytes_for (length c.table) (length c.names)

    pub short_is_7 : length buffer < size → r ≡ Err (Bare short_buffer)
    unfolding write_of
    short_is_7 h = written_injective r (Err (Bare short_buffer))
        (w.0 ∙ rw (sound, lt-leb size (length buffer) h) refl)

    pub fits_is_accepted : size ≤ length buffer → r ≡ Ok size
    fits_is_accepted h = written_injective r (Ok size) (w.0 ∙ sound_accepted c (length buffer) sound h)

    -- LAW: 59,904 bytes are never too short
    pub never_too_short : size ≤ 512 * most_blocks
    never_too_short = omega (arith, (sound_few c sound).blocks)

-- THEOREM: a file that the reader accepts, written again from the reader's answer, gives the same bytes: with no
-- dialect, with a dialect, and with a dialect and an edition
module _ (file : List ℕ) (s : Loaded) (small : Bytes file) (read : Read file s) (good : s.verdict ≡ Ok tt)
    (buffer : List ℕ) (r : Result ℕ Refusal) (after : List ℕ) (w : Write (held s) buffer r after) where
  is_file : file ≡ file_of (held s)
  is_file = accepted_is_file file s small read good

  is_sound : sound_check (held s) ≡ accepted []
  is_sound = accepted_is_sound file s read good

  file_size : length file ≡ bytes_for (length (held s).table) (length (held s).names)
  file_size = ap length is_file ∙ length_file (held s) (sound_few (held s) is_sound).dialect

  pub written_again : length file ≤ length buffer
      → (r ≡ Ok (length file)) × (after ≡ file ++ drop (length file) buffer)
  written_again h =
      let fits : r ≡ Ok (length file) =
      fits_is_accepted (held s) buffer r after w is_sound (rw file_size at h) ∙ ap Ok (sym file_size) in (
        fits,
        written_is (held s) buffer r after w fits
            ∙ ap (λ (x : List ℕ). x ++ drop (length file) buffer) (sym is_file),
      )
