-- Laws of `write` and `write_unchecked`, one for each `return`. The job is 1 to 5, then 7. A content that passes 1 to
-- 5 has at most 117 blocks, nine dialect bytes and an edition of one byte (`sound_few`), so no sum overflows. An
-- accepted answer implies that 1 to 5 are passed and that the file fits (`passed_says`, as the record `Says`);
-- `write_refused` and `write_done` give the buffer in both cases. `write_unchecked` tests lengths only: `unfit_table`
-- to `fit_room` follow its tests, and `Fitting` lists what they imply (`fit_says`, `says_fit`). No induction. Assumes
-- nothing.
use Rattle.std.specs.Prelude.{Err, None, Ok, Option, Result, Some, ℕ}
use mathlib.Core.Path.{◌≡◌, refl, sym, ◌∙◌}
use mathlib.Core.Bool.{Bool, true, false}
use mathlib.Core.Logic.{⊎_elim}
use mathlib.Core.List.{List, [], ◌∷◌}
use Prim.Native.Nat.{ℕ, ◌+◌, ◌*◌, ◌<◌, ◌≤◌, ◌^◌}
use native.Mathlib.Omega.{arith}
use lib.ListN.{length}
use lib.Dec.{leb}
use borrow.Author.Tests.{le-leb, lt-leb, lt-ltb, leb-true}
use Rattle.fields.proofs.Basics.{clash, and_left, and_right}
use Rattle.fields.proofs.Spelling.{Bytes}
use Rattle.dialect.specs.Editions.{stated_bytes, edition_held}
use Rattle.dialect.specs.declared.Dialect.{Dialect}
use Rattle.dialect.specs.declared.Edition.{Edition}
use Rattle.table.specs.Numbers.{short_buffer}
use Rattle.table.specs.Answer.{Answer, accepted, refused, and_then, is_refused, refusal}
use Rattle.table.specs.Check.{Ruling, by_rules, unruled, ruled, rules_of, in_rules}
use Rattle.table.specs.declared.Refusal.{Refusal}
use Rattle.table.proofs.Ruling.{unruled_is, by_is}
use Rattle.blocks.specs.Run.{blocks_for}
use Rattle.tablefile.specs.File.{Content, file_of, most_blocks}
use Rattle.tablefile.specs.Reading.{edition_read, sound_check}
use Rattle.tablefile.proofs.Accepted.{dialect_lengths, sound_known, sound_byte}
use Rattle.writer.specs.Writing.{holding, bytes_for, room_check, write_of, afterwards, file_after}
use Rattle.writer.specs.Writing.{is_byte, fits_in, laid_over}
use Rattle.fields.specs.Choice.{if'}
use Rattle.fields.specs.Over.{over}

-- the returns of `room_for`
module _ (t n room : ℕ) {k m : ℕ} (k_is : k ≡ blocks_for n) (m_is : m ≡ blocks_for t) where
  pub room_short : room < 512 * (1 + k + m) → refused short_buffer [] ≡ room_check (bytes_for t n) room
  room_short h = rw (← k_is, ← m_is, lt-leb (512 * (1 + k + m)) room h) refl

  pub room_enough : 512 * (1 + k + m) ≤ room → accepted (512 * (1 + k + m) ∷ []) ≡ room_check (bytes_for t n) room
  room_enough h = rw (← k_is, ← m_is, le-leb (512 * (1 + k + m)) room h) refl

-- what 1 to 5 imply for the lengths: at most 117 blocks, at most nine dialect bytes, and an edition of one byte
pub record Few (c : Content) : Type 0 where
  pub blocks : 1 + blocks_for (length c.names) + blocks_for (length c.table) ≤ most_blocks
  pub dialect : length c.dialect ≤ 9
  pub edition : is_byte c.edition ≡ true

byte_is : (edition : Option ℕ) → Bytes (stated_bytes edition) → is_byte edition ≡ true
byte_is (Some n) small = lt-ltb n 256 (small 0)
byte_is None small = refl

pub sound_few : (c : Content) → sound_check c ≡ accepted [] → Few c
unfolding blocks_for
sound_few c sound =
    let known = sound_known c sound in
    record {
      blocks = omega (arith, known.clean.most, known.clean.few);
      dialect = ⊎_elim (λ (n : length c.dialect ≡ 0). omega arith) (λ (n : length c.dialect ≡ 9). omega arith)
          (dialect_lengths c.dialect known.decoded);
      edition = byte_is c.edition (sound_byte c known);
    }

-- the returns of `judge`: x is the answer of `edition_held`, and g that of `enter_rules`
module _ (t names ds : List ℕ) (edition : Option ℕ) {x : Option Edition}
    (x-is : x ≡ edition_held ds (stated_bytes edition))
    (g : Result (Dialect × Edition) Refusal) (g-is : ruled g ≡ rules_of t names ds x) where
  rules_are : ruled g ≡ rules_of t names ds (edition_held ds (stated_bytes edition))
  rules_are = rw x-is at g-is

  pub job_refused : (room : ℕ) {why : Refusal} → g ≡ Err why → refusal why ≡ write_of (holding t names ds edition) room
  unfolding write_of
  job_refused room e = rw (unruled_is t names ds (edition_held ds (stated_bytes edition)) rules_are e) refl

  module _ {p : Dialect × Edition} (e : g ≡ Ok p) where
    passed : sound_check (holding t names ds edition) ≡ accepted []
    passed = rw (by_is t names ds (edition_held ds (stated_bytes edition)) rules_are e) refl

    pub job_few : 1 + blocks_for (length names) + blocks_for (length t) ≤ most_blocks
    job_few = (sound_few (holding t names ds edition) passed).blocks

    pub job_room : (room : ℕ) {r : Answer} → r ≡ room_check (bytes_for (length t) (length names)) room
        → r ≡ write_of (holding t names ds edition) room
    unfolding write_of
    job_room room r-is = r-is ∙ rw passed refl

-- LAW: what acceptance implies: 1 to 5 are passed, there is room, and the answer is the number of bytes written
pub record Says (c : Content) (room : ℕ) : Type 0 where
  pub sound : sound_check c ≡ accepted []
  pub few : Few c
  pub fits : bytes_for (length c.table) (length c.names) ≤ room
  pub answer : write_of c room ≡ accepted (bytes_for (length c.table) (length c.names) ∷ [])

module _ (c : Content) (room : ℕ) where
  abbrev size : ℕ
  size = bytes_for (length c.table) (length c.names)

  pub sound_accepted : sound_check c ≡ accepted [] → size ≤ room → write_of c room ≡ accepted (size ∷ [])
  unfolding write_of
  sound_accepted sound h = rw (sound, le-leb size room h) refl

  pub passed_says : is_refused (write_of c room) ≡ false → Says c room
  unfolding write_of
  passed_says p = go (rules_of c.table c.names c.dialect (edition_read c)) (leb size room) refl refl p
    where
      go : (h : Ruling) (b : Bool) → rules_of c.table c.names c.dialect (edition_read c) ≡ h
          → leb size room ≡ b
          → is_refused (and_then (in_rules h (λ _ _. accepted []))
          (λ _. if' b (λ _. accepted (size ∷ [])) (λ _. refused short_buffer []))) ≡ false
          → Says c room
      go (unruled n vs) b h-is b_is p = clash refl p
      go (by_rules d e) false h-is b_is p = clash refl p
      go (by_rules d e) true h-is b_is p =
          let sound : sound_check c ≡ accepted [] = rw h-is refl in
          let fits : size ≤ room = leb-true size room b_is in
          record { sound = sound; few = sound_few c sound; fits = fits; answer = sound_accepted sound fits }

-- the returns of `write`: a is its judgement, q whether that is a refusal
module _ (t names ds : List ℕ) (edition : Option ℕ) (file : List ℕ) {a : Answer}
    (a-is : a ≡ write_of (holding t names ds edition) (length file)) {q : Bool} (q-is : q ≡ is_refused a) where
  pub write_refused : q ≡ true → file ≡ file_after (holding t names ds edition) file
  write_refused h = rw (← a-is) (kept a (sym q-is ∙ h))
    where
      kept : (x : Answer) → is_refused x ≡ true → file ≡ afterwards x (file_of (holding t names ds edition)) file
      kept (accepted vs) e = clash e refl
      kept (refused n vs) e = refl

  module _ (no : q ≡ false) where
    says : Says (holding t names ds edition) (length file)
    says = passed_says (holding t names ds edition) (length file) (rw (← a-is) (sym q-is ∙ no))

    pub write_nine : length ds ≤ 9
    write_nine = says.few.dialect

    pub write_byte : is_byte edition ≡ true
    write_byte = says.few.edition

    pub write_few : 1 + blocks_for (length names) + blocks_for (length t) ≤ most_blocks
    write_few = says.few.blocks

    pub write_room : bytes_for (length t) (length names) ≤ length file
    write_room = says.fits

    pub write_done : {after : List ℕ} → after ≡ over 0 (file_of (holding t names ds edition)) file
        → after ≡ file_after (holding t names ds edition) file
    write_done after_is = rw says.answer after_is

-- the returns of `fits`: each length that is too large, then the edition and the room
module _ (t n d : ℕ) (edition : Option ℕ) (room : ℕ) where
  pub unfit_table : 50400 < t → false ≡ fits_in t n d edition room
  unfolding fits_in
  unfit_table h = rw (lt-leb t 50400 h) refl

  module _ (few : t ≤ 50400) where
    pub unfit_names : 8064 < n → false ≡ fits_in t n d edition room
    unfolding fits_in
    unfit_names h = rw (le-leb t 50400 few, lt-leb n 8064 h) refl

    module _ (named : n ≤ 8064) where
      pub unfit_dialect : 9 < d → false ≡ fits_in t n d edition room
      unfolding fits_in
      unfit_dialect h = rw (le-leb t 50400 few, le-leb n 8064 named, lt-leb d 9 h) refl

      pub fit_one : {k : ℕ} → k ≡ blocks_for n → 1 + k < 2 ^ 64
      unfolding blocks_for
      fit_one k_is = omega arith

      module _ {k m : ℕ} (k_is : k ≡ blocks_for n) (m_is : m ≡ blocks_for t) where
        pub fit_bytes : 512 * (1 + k + m) < 2 ^ 64
        unfolding blocks_for
        fit_bytes = omega arith

        pub fit_sum : 1 + k + m < 2 ^ 64
        fit_sum = omega (arith, fit_bytes)

      module _ (nine : d ≤ 9) {q : Bool} (q-is : q ≡ is_byte edition) where
        pub unfit_edition : q ≡ false → false ≡ fits_in t n d edition room
        unfolding fits_in
        unfit_edition h = rw (le-leb t 50400 few, le-leb n 8064 named, le-leb d 9 nine, ← q-is, h) refl

        pub fit_room : q ≡ true → {k m : ℕ} → k ≡ blocks_for n → m ≡ blocks_for t
            → leb (512 * (1 + k + m)) room ≡ fits_in t n d edition room
        unfolding fits_in
        fit_room h k_is m_is =
            rw (k_is, m_is, le-leb t 50400 few, le-leb n 8064 named, le-leb d 9 nine, ← q-is, h) refl

-- LAW: what the test of `write_unchecked` implies
pub record Fitting (t n d : ℕ) (edition : Option ℕ) (room : ℕ) : Type 0 where
  pub few : t ≤ 50400
  pub named : n ≤ 8064
  pub nine : d ≤ 9
  pub byte : is_byte edition ≡ true
  pub there : bytes_for t n ≤ room

module _ (t n d : ℕ) (edition : Option ℕ) (room : ℕ) where
  pub fit_says : fits_in t n d edition room ≡ true → Fitting t n d edition room
  unfolding fits_in
  fit_says e =
      let names = and_right (leb t 50400) _ e in
      let dialect = and_right (leb n 8064) _ names in
      let byte = and_right (leb d 9) _ dialect in
      record {
        few = leb-true t 50400 (and_left (leb t 50400) _ e);
        named = leb-true n 8064 (and_left (leb n 8064) _ names);
        nine = leb-true d 9 (and_left (leb d 9) _ dialect);
        byte = and_left (is_byte edition) _ byte;
        there = leb-true (bytes_for t n) room (and_right (is_byte edition) _ byte);
      }

  pub says_fit : Fitting t n d edition room → fits_in t n d edition room ≡ true
  unfolding fits_in
  says_fit f = rw (
    le-leb t 50400 f.few,
    le-leb n 8064 f.named,
    le-leb d 9 f.nine,
    f.byte,
    le-leb (bytes_for t n) room f.there,
  ) refl

pub fit_writes : (t n d : ℕ) (edition : Option ℕ) (room : ℕ) {q : Bool} → q ≡ fits_in t n d edition room → q ≡ true
    → (d ≤ 9) × (is_byte edition ≡ true) × (1 + blocks_for n + blocks_for t ≤ most_blocks) × (bytes_for t n ≤ room)
unfolding blocks_for
fit_writes t n d edition room q-is e =
    let f = fit_says t n d edition room (sym q-is ∙ e) in
    (f.nine, f.byte, omega (arith, f.few, f.named), f.there)

module _ (t names ds : List ℕ) (edition : Option ℕ) (buffer : List ℕ) {q : Bool}
    (q-is : q ≡ fits_in (length t) (length names) (length ds) edition (length buffer)) where
  pub unfit_keeps : q ≡ false → buffer ≡ laid_over (holding t names ds edition) buffer
  unfolding laid_over
  unfit_keeps e = rw (← q-is, e) refl

  module _ (e : q ≡ true) where
    pub fit_laid : {after : List ℕ} → after ≡ over 0 (file_of (holding t names ds edition)) buffer
        → after ≡ laid_over (holding t names ds edition) buffer
    unfolding laid_over
    fit_laid is = is ∙ rw (← q-is, e) refl

pub laid_over_lem : (c : Content) (buffer : List ℕ)
    → Fitting (length c.table) (length c.names) (length c.dialect) c.edition (length buffer)
    → laid_over c buffer ≡ over 0 (file_of c) buffer
unfolding laid_over
laid_over_lem c buffer f = rw (says_fit _ _ _ _ _ f) refl
