-- The theorems on table files (docs/FORMAT.md, a table file), from the promises of the reader. An accepted file is
-- the file of its answer; the file of a sound table is read back as that table; and any one changed byte of an
-- accepted file is refused with 72. A header has 4, 13 or 14 used bytes, and files of different contents differ: so
-- the file with 13 used bytes is not the file with 14 and edition 1. Each follows from Accepted and Files in a step.
-- Assumes nothing.
use Rattle.std.specs.Prelude.{Err, None, Ok, Option, Result, Some, ℕ}
use Rattle.table.specs.declared.Refusal.{Refusal}
use mathlib.Core.Path.{◌≡◌, refl, sym, ap, ◌∙◌}
use mathlib.Core.List.{List, [], ◌++◌}
use mathlib.Core.Logic.{◌⊎◌, inl, inr, ⊎_elim}
use Prim.Native.Nat.{ℕ, ◌<◌}
use lib.ListN.{length, get_or, take, set}
use Rattle.dialect.specs.Editions.{stated_bytes, edition_held}
use Rattle.dialect.specs.declared.Edition.{Edition}
use Rattle.dialect.specs.declared.Edition.TheVariants.{One, Two}
use Rattle.dialect.proofs.Editions.{edition_number, held_none}
use Rattle.fields.proofs.Basics.{never}
use Rattle.table.specs.Numbers.{block_check}
use Rattle.table.specs.Answer.{accepted, refused}
use Rattle.table.specs.declared.Refusal.TheVariants.{Bare}
use Rattle.fields.proofs.Spelling.{Bytes}
use Rattle.tablefile.specs.File.{Content, file_of}
use Rattle.tablefile.specs.Reading.{header_at, content_at, edition_read, number_held, front_check, sound_check}
use Rattle.tablefile.specs.Reading.{read_check}
use Rattle.tablefile.specs.Loading.{verdict, loaded_of, none, held}
use Rattle.tablefile.specs.declared.Loaded.{Loaded}
use Rattle.tablefile.proofs.Fronts.{fronted}
use Rattle.tablefile.proofs.Files.{Fits, front_is_file, front_changed, file_passes, file_holds, file_taken}
use Rattle.tablefile.proofs.Loads.{held_is}
use Rattle.tablefile.proofs.Accepted.{verdict_injective, read_is_sound, read_is_file, read_changed}
use Rattle.tablefile.proofs.Accepted.{held_cases, sound_known, SoundContent, back_holds, back_taken}
use Rattle.tablefile.proofs.Accepted.{back_accepted}

-- the promise of `read`
abbrev pub Read : List ℕ → Loaded → Type 0
Read bs r = (verdict r.verdict ≡ read_check bs) × (r ≡ loaded_of r.verdict (content_at bs) (header_at bs).taken)

-- an accepted answer holds the content of the file
pub holds : (bs : List ℕ) (r : Loaded) → r ≡ loaded_of r.verdict (content_at bs) (header_at bs).taken
    → r.verdict ≡ Ok tt
    → held r ≡ content_at bs
holds bs r r-is good =
    ap held (r-is ∙ ap (λ (w : Result (Unit {0}) Refusal). loaded_of w (content_at bs) (header_at bs).taken) good)
    ∙ held_is (content_at bs) (header_at bs).taken

-- an accepted file is the file of its answer
pub accepted_is_file : (file : List ℕ) (r : Loaded) → Bytes file → Read file r → r.verdict ≡ Ok tt
    → file ≡ file_of (held r)
accepted_is_file file r small p good =
    read_is_file file (sym p.0 ∙ ap verdict good) small ∙ ap file_of (sym (holds file r p.1 good))

-- its answer is sound
pub accepted_is_sound : (file : List ℕ) (r : Loaded) → Read file r → r.verdict ≡ Ok tt
    → sound_check (held r) ≡ accepted []
accepted_is_sound file r p good =
    ap sound_check (holds file r p.1 good) ∙ read_is_sound file (sym p.0 ∙ ap verdict good)

-- the file of a sound content is accepted, and its answer is that content
pub file_read_back : (c : Content) (r : Loaded) → SoundContent c → Read (file_of c) r
    → r ≡ loaded_of (Ok tt) c (length (file_of c))
file_read_back c r s p =
    let good : r.verdict ≡ (Ok tt) = verdict_injective r.verdict (Ok tt) (p.0 ∙ back_accepted c s) in
    p.1 ∙ rw (good, back_holds c s, back_taken c s) refl

-- the number that holds is that of the edition that holds
number_held_lem : (ds : List ℕ) (s : Option ℕ) {e : Edition} → edition_held ds (stated_bytes s) ≡ Some e
    → number_held s ≡ edition_number e
number_held_lem ds None {e} h =
    let known : Some One ≡ Some e = sym (held_none ds) ∙ h in
    let same : One ≡ e = cc in
    rw (← same) refl
number_held_lem ds (Some n) {e} h = ⊎_elim
    (λ (none : Some n ≡ None). never (cc))
    (λ (told : (length ds ≡ 0 → ⊥) × (Some n ≡ Some (edition_number e))). ap number_held told.1)
    (held_cases ds (Some n) h)

-- an edition holds in a content that passes 1 to 5, and its number, 1 or 2, is the number that holds
pub sound_edition : (c : Content) → sound_check c ≡ accepted []
    → (e : Edition) × (edition_read c ≡ Some e) × (number_held c.edition ≡ edition_number e)
sound_edition c sound =
    let known = sound_known c sound in
    (known.edition, known.held, number_held_lem c.dialect c.edition known.held)

-- the same for the answer of an accepted file
pub accepted_edition : (file : List ℕ) (r : Loaded) → Read file r → r.verdict ≡ Ok tt
    → (number_held r.edition ≡ 1) ⊎ (number_held r.edition ≡ 2)
unfolding held
accepted_edition file r p good =
    let (e, known, number) = sound_edition (held r) (accepted_is_sound file r p good) in
    go e number
  where
    go : (e : Edition) → number_held r.edition ≡ edition_number e
        → (number_held r.edition ≡ 1) ⊎ (number_held r.edition ≡ 2)
    go One h = inl h
    go Two h = inr h

-- files of different contents differ
pub file_injective : (c d : Content) → SoundContent c → SoundContent d → file_of c ≡ file_of d → c ≡ d
file_injective c d s t e = sym (back_holds c s) ∙ ap content_at e ∙ back_holds d t

-- so the file that states edition 1 is not the file that states none
pub first_is_seen : (c d : Content) → SoundContent c → SoundContent d → c.edition ≡ None → d.edition ≡ Some 1
    → file_of c ≡ file_of d → ⊥
first_is_seen c d s t none first e =
    let same : c.edition ≡ d.edition = ap (λ (x : Content). x.edition) (file_injective c d s t e) in
    let no : None ≡ Some 1 = sym none ∙ same ∙ first in
    never (cc)

-- an accepted file with any one byte changed is refused with 72, and the answer is all zero
pub changed_byte : (file : List ℕ) (r : Loaded) (i v : ℕ) (s : Loaded) → Read file r → r.verdict ≡ Ok tt
    → i < length file → (v ≡ get_or file i 0 → ⊥) → Read (set file i v) s
    → s ≡ loaded_of (Err (Bare block_check)) none 0
unfolding loaded_of
changed_byte file r i v s p good h other q =
    let told : s.verdict ≡ Err (Bare block_check) =
    verdict_injective s.verdict (Err (Bare block_check))
    (q.0 ∙ read_changed file (sym p.0 ∙ ap verdict good) i v h other) in
    q.1 ∙ ap (λ (w : Result (Unit {0}) Refusal). loaded_of w (content_at (set file i v))
    (header_at (set file i v)).taken) told

-- the same for the file at the front of some bytes, which `front_check` judges: the bytes that it takes are the file
-- of its content
module _ (bytes : List ℕ) (good : front_check bytes ≡ accepted []) where
  pub front_accepted_is_file : Bytes bytes → take (header_at bytes).taken bytes ≡ file_of (content_at bytes)
  front_accepted_is_file small = front_is_file bytes small (fronted bytes good)

  -- with any one of these bytes changed, it is refused with 72
  pub front_changed_byte : (i v : ℕ) → i < (header_at bytes).taken → (v ≡ get_or bytes i 0 → ⊥)
      → front_check (set bytes i v) ≡ refused block_check []
  front_changed_byte i v h other = front_changed bytes (fronted bytes good) i v other h

-- the file of a content within the limits is read as that content, whatever bytes follow it
pub front_read_back : (c : Content) (rest : List ℕ) → Fits c
    → (front_check (file_of c ++ rest) ≡ accepted []) × (content_at (file_of c ++ rest) ≡ c)
    × ((header_at (file_of c ++ rest)).taken ≡ length (file_of c))
front_read_back c rest fit = (file_passes c fit rest, file_holds c fit rest, file_taken c fit rest)
