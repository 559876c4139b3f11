-- What acceptance of a file means. `read_check` is three checks in a row, so an accepted file passes each: its blocks
-- pass (`read_fronted`), no byte is left over (`read_whole`), and its content passes 1 to 5 (`read_is_sound`). With
-- the theorems of Files it is then the file of its content (`read_is_file`), and one changed byte makes it 72
-- (`read_changed`). Conversely a content that passes 1 to 5 has one of the three headers (`sound_headed`), so it fits
-- a file (`sound_fits`), which is accepted and read back as it (`back_accepted`, `back_holds`). No induction: each
-- law is a case distinction on the tests. Assumes nothing.
use Rattle.std.specs.Prelude.{Err, None, Ok, Option, Result, Some, ℕ}
use Rattle.table.specs.declared.Refusal.{Refusal}
use mathlib.Core.Path.{◌≡◌, refl, sym, ap, ◌∙◌}
use mathlib.Core.Bool.{Bool, true, false}
use mathlib.Core.Logic.{◌⊎◌, inl, inr, ⊎_elim}
use mathlib.Core.List.{List, [], ◌∷◌, append-nil}
use Prim.Native.Nat.{ℕ, zero, suc, ◌<◌}
use native.Mathlib.Omega.{arith}
use lib.ListN.{length, get_or, set}
use lib.Seq.{take_all}
use lib.Dec.{eqb, leb}
use borrow.Author.Tests.{leb-true, le-leb, eqb-true, eqb-false}
use Rattle.fields.proofs.Basics.{never}
use Rattle.dialect.specs.Bytes.{from_bytes}
use Rattle.dialect.specs.Editions.{stated_bytes, edition_held}
use Rattle.dialect.specs.declared.Dialect.{Dialect}
use Rattle.dialect.specs.declared.Edition.{Edition}
use Rattle.dialect.specs.declared.Edition.TheVariants.{One, Two}
use Rattle.dialect.proofs.Laws.{other_length}
use Rattle.dialect.proofs.Editions.{edition_number, edition_back, held_alone, held_number}
use Rattle.table.specs.Numbers.{block_check, bytes_left_over}
use Rattle.table.specs.Answer.{Answer, accepted, refused, and_then}
use Rattle.table.proofs.Answers.{refusal_injective, never_accepted}
use Rattle.table.proofs.Entering.{given_known}
use Rattle.table.proofs.Checking.{Clean}
use Rattle.table.proofs.Ruling.{rules_known, rules_passed}
use Rattle.blocks.specs.Block.{demand}
use Rattle.fields.proofs.Spelling.{Bytes}
use Rattle.tablefile.specs.File.{Content, file_of}
use Rattle.tablefile.specs.Reading.{header_at, content_at, edition_read, front_check, sound_check}
use Rattle.tablefile.specs.Reading.{read_check}
use Rattle.tablefile.specs.Loading.{verdict}
use Rattle.tablefile.proofs.Fronts.{Fronted, demand_then, fronted_then, taken_there}
use Rattle.tablefile.proofs.Files.{Headed, bare, in_dialect, by_edition, Fits, front_is_file, front_changed}
use Rattle.tablefile.proofs.Files.{file_passes, file_holds, file_taken}

-- no two verdicts have the same meaning
pub verdict_injective : (r s : Result (Unit {0}) Refusal) → verdict r ≡ verdict s → r ≡ s
verdict_injective (Ok _) (Ok _) e = refl
verdict_injective (Ok _) (Err s) e = never_accepted s (sym e)
verdict_injective (Err r) (Ok _) e = never_accepted r e
verdict_injective (Err r) (Err s) e = ap Err (refusal_injective r s e)

-- an accepted file: its blocks pass, nothing is left over, and its content passes 1 to 5
record Steps (bs : List ℕ) : Type 0 where
  fronted : Fronted bs
  whole : leb (length bs) (header_at bs).taken ≡ true
  sound : sound_check (content_at bs) ≡ accepted []

module _ (bs : List ℕ) (e : read_check bs ≡ accepted []) where
  steps : Steps bs
  unfolding read_check
  steps =
      let sound : Unit {0} → Answer = λ _. sound_check (content_at bs) in
      let one = fronted_then bs (λ _. and_then (demand (leb (length bs) (header_at bs).taken) bytes_left_over) sound)
      e in
      let two = demand_then (leb (length bs) (header_at bs).taken) bytes_left_over sound one.1 in
      record { fronted = one.0; whole = two.0; sound = two.1 }

  pub read_fronted : Fronted bs
  read_fronted = steps.fronted

  pub read_whole : length bs ≡ (header_at bs).taken
  read_whole = omega (arith, leb-true (length bs) (header_at bs).taken steps.whole, taken_there bs read_fronted)

  pub read_is_sound : sound_check (content_at bs) ≡ accepted []
  read_is_sound = steps.sound

  pub read_is_file : Bytes bs → bs ≡ file_of (content_at bs)
  read_is_file small = sym (take_all (header_at bs).taken bs (omega (arith, read_whole)))
      ∙ front_is_file bs small read_fronted

  pub read_changed : (i v : ℕ) → i < length bs → (v ≡ get_or bs i 0 → ⊥)
      → read_check (set bs i v) ≡ refused block_check []
  unfolding read_check
  read_changed i v h other = rw (front_changed bs read_fronted i v other (omega (arith, read_whole))) refl

-- a dialect that is valid has no bytes or nine
pub dialect_lengths : (ds : List ℕ) {d : Dialect} → from_bytes ds ≡ Some d → (length ds ≡ 0) ⊎ (length ds ≡ 9)
dialect_lengths ds {d} e = go (eqb (length ds) 0) (eqb (length ds) 9) refl refl
  where
    go : (a b : Bool) → eqb (length ds) 0 ≡ a → eqb (length ds) 9 ≡ b → (length ds ≡ 0) ⊎ (length ds ≡ 9)
    go true b p q = inl (eqb-true (length ds) 0 p)
    go false true p q = inr (eqb-true (length ds) 9 q)
    go false false p q =
        let bad : from_bytes ds ≡ None = other_length ds (eqb-false (length ds) 0 p)
        (eqb-false (length ds) 9 q) in
        let no : None ≡ Some d = sym bad ∙ e in
        never (cc)

-- an edition that holds: none is stated, or one is stated after a dialect, and it has the edition's number
pub held_cases : (ds : List ℕ) (s : Option ℕ) {e : Edition} → edition_held ds (stated_bytes s) ≡ Some e
    → (s ≡ None) ⊎ ((length ds ≡ 0 → ⊥) × (s ≡ Some (edition_number e)))
held_cases ds None h = inl refl
held_cases ds (Some n) {e} h = go (eqb (length ds) 0) refl
  where
    go : (b : Bool) → eqb (length ds) 0 ≡ b
        → (Some n ≡ None) ⊎ ((length ds ≡ 0 → ⊥) × (Some n ≡ Some (edition_number e)))
    go true p =
        let no : None ≡ Some e = sym (held_alone ds n (eqb-true (length ds) 0 p)) ∙ h in
        never (cc)
    go false p =
        let some = eqb-false (length ds) 0 p in
        inr (some, ap Some (edition_back n (sym (held_number ds n some) ∙ h)))

-- a content that passes 1 to 5: the table is clean, the dialect bytes are valid, and an edition holds
pub record Knows (c : Content) : Type 0 where
  pub clean : Clean c.table c.names
  pub dialect : Dialect
  pub decoded : from_bytes c.dialect ≡ Some dialect
  pub edition : Edition
  pub held : edition_read c ≡ Some edition

pub sound_known : (c : Content) → sound_check c ≡ accepted [] → Knows c
sound_known c sound =
    let (d, e, rules) = rules_passed c.table c.names c.dialect (edition_read c) sound in
    let known = rules_known c.table c.names c.dialect rules in
    let given = given_known c.table c.names c.dialect known.0 in
    record { clean = given.0; dialect = d; decoded = given.1; edition = e; held = known.1 }

-- a sound content: it passes 1 to 5, and its numbers are bytes
pub record SoundContent (c : Content) : Type 0 where
  pub sound : sound_check c ≡ accepted []
  pub table_bytes : Bytes c.table
  pub names_bytes : Bytes c.names
  pub dialect_bytes : Bytes c.dialect

-- LAW: a content that passes 1 to 5 has one of the three headers
pub sound_headed : (c : Content) → Knows c → Headed (length c.dialect) (length (stated_bytes c.edition))
sound_headed c known = ⊎_elim
    (λ (e : c.edition ≡ None). rw e (⊎_elim (λ (n : length c.dialect ≡ 0). bare n refl)
    (λ (n : length c.dialect ≡ 9). in_dialect n refl) lengths))
    (λ (e : (length c.dialect ≡ 0 → ⊥) × (c.edition ≡ Some (edition_number known.edition))). rw e.1
    (⊎_elim (λ (n : length c.dialect ≡ 0). absurd (e.0 n)) (λ (n : length c.dialect ≡ 9). by_edition n refl)
    lengths))
    (held_cases c.dialect c.edition known.held)
  where
    lengths : (length c.dialect ≡ 0) ⊎ (length c.dialect ≡ 9)
    lengths = dialect_lengths c.dialect known.decoded

-- its edition is a byte
pub sound_byte : (c : Content) → Knows c → Bytes (stated_bytes c.edition)
sound_byte c known = ⊎_elim
    (λ (e : c.edition ≡ None). rw e (λ i. omega arith))
    (λ (e : (length c.dialect ≡ 0 → ⊥) × (c.edition ≡ Some (edition_number known.edition))). rw e.1
    (one known.edition))
    (held_cases c.dialect c.edition known.held)
  where
    one : (e : Edition) → Bytes (edition_number e ∷ [])
    one One zero = omega arith
    one One (suc i) = omega arith
    one Two zero = omega arith
    one Two (suc i) = omega arith

module _ (c : Content) (s : SoundContent c) where
  pub sound_fits : Fits c
  sound_fits =
      let known = sound_known c s.sound in
      record {
        whole = known.clean.whole;
        some = known.clean.least;
        few = known.clean.most;
        names = known.clean.few;
        headed = sound_headed c known;
        table_bytes = s.table_bytes;
        names_bytes = s.names_bytes;
        dialect_bytes = s.dialect_bytes;
        edition_bytes = sound_byte c known;
      }

  pub back_holds : content_at (file_of c) ≡ c
  back_holds = ap content_at (sym (append-nil (file_of c))) ∙ file_holds c sound_fits []

  pub back_taken : (header_at (file_of c)).taken ≡ length (file_of c)
  back_taken = ap (λ (x : List ℕ). (header_at x).taken) (sym (append-nil (file_of c))) ∙ file_taken c sound_fits []

  pub back_accepted : read_check (file_of c) ≡ accepted []
  unfolding read_check
  back_accepted =
      let passes : front_check (file_of c) ≡ accepted [] = ap front_check (sym (append-nil (file_of c)))
      ∙ file_passes c sound_fits [] in
      rw (passes, back_taken, le-leb (length (file_of c)) (length (file_of c)) (omega arith), back_holds) s.sound
