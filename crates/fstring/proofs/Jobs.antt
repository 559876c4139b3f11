-- The job `write`: the code makes the tests of `write_of` in the same order, so each refusal is the first test that
-- fails: 5 (`job_bad`), then 64 (`parts_broken`), then 7 (`parts_short`). An answer that is no refusal has passed all
-- three (`passed_says`): the dialect is valid, the parts are whole and the text fits. So the text may be written
-- without a test, what is written is the buffer at exit (`write_done`), and a refusal changes no byte
-- (`write_refused`). There is no induction. Assumes nothing.
use Rattle.std.specs.Prelude.{None, Option, Some, ℕ}
use mathlib.Core.Path.{◌≡◌, refl, sym, ◌∙◌}
use mathlib.Core.Bool.{Bool, true, false}
use mathlib.Core.List.{List, [], ◌∷◌}
use Prim.Native.Nat.{ℕ, ◌-◌, ◌≤◌}
use native.Mathlib.Omega.{arith}
use lib.ListN.{length}
use lib.Dec.{leb}
use borrow.Author.Tests.{le-leb, lt-leb, leb-true}
use Rattle.fields.proofs.Basics.{clash}
use Rattle.fields.specs.Choice.{if'}
use Rattle.dialect.specs.declared.Dialect.{Dialect}
use Rattle.dialect.specs.Bytes.{from_bytes}
use Rattle.table.specs.Numbers.{broken_part, bad_dialect, short_buffer}
use Rattle.table.specs.Answer.{Answer, accepted, refused, is_refused}
use Rattle.fields.specs.Over.{over}
use Rattle.fstring.specs.Words.{is_whole}
use Rattle.fstring.specs.Writing.{notice, text_for, room_check, parts_check, dialect_check, write_of}
use Rattle.fstring.specs.Writing.{afterwards, text_after}
use Rattle.fstring.specs.Steps.{leaving}
use Rattle.fstring.proofs.Sizes.{leaving_not, leaving_left}

-- 5
module _ (ws ts ds : List ℕ) (room : ℕ) {g : Option Dialect} (g-is : g ≡ from_bytes ds) where
  pub job_bad : g ≡ None → refused bad_dialect [] ≡ write_of ws ts ds room
  unfolding write_of
  job_bad e = rw (sym g-is ∙ e) refl

  pub job_valid : {d : Dialect} → g ≡ Some d → {r : Answer} → r ≡ parts_check d.enable_f_strings ws ts room
      → r ≡ write_of ws ts ds room
  unfolding write_of
  job_valid e r-is = r-is ∙ rw (sym g-is ∙ e) refl

-- 64, then 7
module _ (enabled : Bool) (ws ts : List ℕ) (room : ℕ) {q : Bool} (q-is : q ≡ is_whole ws (length ts)) where
  pub parts_broken : q ≡ false → refused broken_part [] ≡ parts_check enabled ws ts room
  unfolding parts_check
  parts_broken e = rw (sym q-is ∙ e) refl

  module _ (e : q ≡ true) {b : Option ℕ} (b_is : b ≡ leaving (length (text_for ws ts)) room) where
    pub parts_short : b ≡ None → refused short_buffer [] ≡ parts_check enabled ws ts room
    unfolding parts_check room_check
    parts_short f =
        rw (sym q-is ∙ e, lt-leb (length (text_for ws ts)) room (leaving_not _ room (sym b_is ∙ f))) refl

    module _ {m : ℕ} (f : b ≡ Some m) where
      pub left_less : m ≤ room
      left_less = omega (arith, leaving_left (length (text_for ws ts)) room m (sym b_is ∙ f))

      pub parts_fit : accepted ((room - m) ∷ notice enabled ∷ []) ≡ parts_check enabled ws ts room
      unfolding parts_check room_check
      parts_fit =
          let got = leaving_left (length (text_for ws ts)) room m (sym b_is ∙ f) in
          let n : room - m ≡ length (text_for ws ts) = omega arith in
          rw (sym q-is ∙ e, le-leb (length (text_for ws ts)) room got.0, n) refl

-- what acceptance says
pub record Says (ws ts ds : List ℕ) (room : ℕ) : Type 0 where
  pub whole : is_whole ws (length ts) ≡ true
  pub fits : length (text_for ws ts) ≤ room
  pub dialect : Dialect
  pub valid : from_bytes ds ≡ Some dialect
  pub answer : write_of ws ts ds room
      ≡ accepted (length (text_for ws ts) ∷ notice dialect.enable_f_strings ∷ [])

module _ (ws ts ds : List ℕ) (room : ℕ) where
  pub sound_accepted : {d : Dialect} → from_bytes ds ≡ Some d → is_whole ws (length ts) ≡ true
      → length (text_for ws ts) ≤ room
      → write_of ws ts ds room ≡ accepted (length (text_for ws ts) ∷ notice d.enable_f_strings ∷ [])
  unfolding write_of parts_check room_check
  sound_accepted valid whole fits = rw (valid, whole, le-leb (length (text_for ws ts)) room fits) refl

  parts_say : (enabled : Bool) → is_refused (parts_check enabled ws ts room) ≡ false
      → (is_whole ws (length ts) ≡ true) × (length (text_for ws ts) ≤ room)
  unfolding parts_check room_check
  parts_say enabled p = go (is_whole ws (length ts)) (leb (length (text_for ws ts)) room) refl refl p
    where
      go : (a b : Bool) → is_whole ws (length ts) ≡ a → leb (length (text_for ws ts)) room ≡ b
          → is_refused (if' a (λ _. if' b (λ _. accepted (length (text_for ws ts) ∷ notice enabled ∷ []))
          (λ _. refused short_buffer [])) (λ _. refused broken_part [])) ≡ false
          → (is_whole ws (length ts) ≡ true) × (length (text_for ws ts) ≤ room)
      go false b a-is b_is p = clash refl p
      go true false a-is b_is p = clash refl p
      go true true a-is b_is p = (a-is, leb-true _ room b_is)

  pub passed_says : is_refused (write_of ws ts ds room) ≡ false → Says ws ts ds room
  unfolding write_of
  passed_says p = go (from_bytes ds) refl p
    where
      go : (g : Option Dialect) → from_bytes ds ≡ g → is_refused (dialect_check g ws ts room) ≡ false
          → Says ws ts ds room
      go None g-is p = clash refl p
      go (Some d) g-is p =
          let says = parts_say d.enable_f_strings p in
          record {
            whole = says.0;
            fits = says.1;
            dialect = d;
            valid = g-is;
            answer = sound_accepted g-is says.0 says.1;
          }

-- the job, by the judged answer a and the bool q, whether a is a refusal
module _ (ws ts ds d : List ℕ) {a : Answer} (a-is : a ≡ write_of ws ts ds (length d)) {q : Bool}
    (q-is : q ≡ is_refused a) where
  pub write_refused : q ≡ true → d ≡ text_after ws ts ds d
  unfolding text_after
  write_refused h = rw (← a-is) (kept a (sym q-is ∙ h))
    where
      kept : (x : Answer) → is_refused x ≡ true → d ≡ afterwards x (text_for ws ts) d
      kept (accepted vs) e = clash e refl
      kept (refused n vs) e = refl

  module _ (no : q ≡ false) where
    says : Says ws ts ds (length d)
    says = passed_says ws ts ds (length d) (rw (← a-is) (sym q-is ∙ no))

    pub write_whole : is_whole ws (length ts) ≡ true
    write_whole = says.whole

    pub write_room : length (text_for ws ts) ≤ length d
    write_room = says.fits

    pub write_done : {after : List ℕ} → after ≡ over 0 (text_for ws ts) d → after ≡ text_after ws ts ds d
    unfolding text_after
    write_done after_is = rw says.answer after_is
