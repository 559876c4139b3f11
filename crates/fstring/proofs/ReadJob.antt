-- The job `read`: it accepts exactly if no brace is stray and the words, the bytes and the lengths fit
-- (`readable_accepted`, `accepted_readable`). So after the judging pass the parts may be written without a test
-- (`read_can`), what is written are the buffers at exit (`read_done`), and a refusal changes neither (`read_refused`).
-- There is no induction: the tests of the definition decide. Assumes nothing.
use mathlib.Core.Path.{◌≡◌, refl, sym, ◌∙◌}
use mathlib.Core.Bool.{Bool, true, false, ◌&&◌}
use mathlib.Core.List.{List, [], ◌∷◌}
use Prim.Native.Nat.{ℕ, ◌*◌}
use lib.ListN.{length}
use lib.Dec.{leb, eqb}
use borrow.Author.Tests.{leb-true, le-leb, eqb-true, eq-eqb}
use Rattle.fields.proofs.Basics.{clash, and_left, and_right}
use Rattle.fields.specs.Choice.{if'}
use Rattle.table.specs.Numbers.{stray_brace, short_buffer}
use Rattle.table.specs.Answer.{Answer, accepted, refused, is_refused}
use Rattle.fields.specs.Over.{over}
use Rattle.fstring.specs.Parts.{texts_of, words_of, is_short}
use Rattle.fstring.specs.Writing.{afterwards}
use Rattle.fstring.specs.Reading.{legible, parts_in, fit_check, read_of, words_after, texts_after}
use Rattle.fstring.specs.Steps.{Readable}

module _ (t : List ℕ) (words bytes : ℕ) where
  -- LAW: acceptance means `Readable`, in both directions
  pub readable_accepted : Readable t words bytes
      → read_of t words bytes ≡ accepted (length (parts_in 0 t) ∷ length (texts_of (parts_in 0 t)) ∷ [])
  unfolding read_of fit_check
  readable_accepted s = rw (
    eq-eqb (legible 0 t) (length t) s.legal,
    le-leb (2 * length (parts_in 0 t)) words s.words_fit,
    le-leb (length (texts_of (parts_in 0 t))) bytes s.bytes_fit,
    s.short,
  ) refl

  pub accepted_readable : is_refused (read_of t words bytes) ≡ false → Readable t words bytes
  unfolding read_of fit_check
  accepted_readable p = go (eqb (legible 0 t) (length t)) fit refl refl p
    where
      fit : Bool
      fit = leb (2 * length (parts_in 0 t)) words
          && (leb (length (texts_of (parts_in 0 t))) bytes && is_short (parts_in 0 t))

      go : (a b : Bool) → eqb (legible 0 t) (length t) ≡ a
          → (leb (2 * length (parts_in 0 t)) words
          && (leb (length (texts_of (parts_in 0 t))) bytes && is_short (parts_in 0 t))) ≡ b
          → is_refused (if' a (λ _. if' b
          (λ _. accepted (length (parts_in 0 t) ∷ length (texts_of (parts_in 0 t)) ∷ []))
          (λ _. refused short_buffer [])) (λ _. refused stray_brace (legible 0 t ∷ []))) ≡ false
          → Readable t words bytes
      go false b a-is b_is p = clash refl p
      go true false a-is b_is p = clash refl p
      go true true a-is b_is p =
          let rest = and_right (leb (2 * length (parts_in 0 t)) words) _ b_is in
          record {
            legal = eqb-true (legible 0 t) (length t) a-is;
            words_fit = leb-true (2 * length (parts_in 0 t)) words (and_left _ _ b_is);
            bytes_fit = leb-true (length (texts_of (parts_in 0 t))) bytes (and_left _ _ rest);
            short = and_right (leb (length (texts_of (parts_in 0 t))) bytes) _ rest;
          }

-- the job, by the judged answer a and the bool q, whether a is a refusal
module _ (t w x : List ℕ) {a : Answer} (a-is : a ≡ read_of t (length w) (length x)) {q : Bool}
    (q-is : q ≡ is_refused a) where
  kept : (z : Answer) (bs d : List ℕ) → is_refused z ≡ true → d ≡ afterwards z bs d
  kept (accepted vs) bs d e = clash e refl
  kept (refused n vs) bs d e = refl

  pub read_refused : q ≡ true
      → (a ≡ read_of t (length w) (length x)) × ((w ≡ words_after t w (length x)) × (x ≡ texts_after t (length w) x))
  unfolding words_after texts_after
  read_refused h = (
    a-is,
    (
      rw (← a-is) (kept a (words_of (parts_in 0 t)) w (sym q-is ∙ h)),
      rw (← a-is) (kept a (texts_of (parts_in 0 t)) x (sym q-is ∙ h)),
    ),
  )

  module _ (fine : q ≡ false) where
    pub read_can : Readable t (length w) (length x)
    read_can = accepted_readable t (length w) (length x) (rw (← a-is) (sym q-is ∙ fine))

    pub read_done : {v : List ℕ} → v ≡ over 0 (words_of (parts_in 0 t)) w → {y : List ℕ}
        → y ≡ over 0 (texts_of (parts_in 0 t)) x
        → (a ≡ read_of t (length w) (length x)) × ((v ≡ words_after t w (length x)) × (y ≡ texts_after t (length w) x))
    unfolding words_after texts_after
    read_done v-is y-is =
        let e = readable_accepted t (length w) (length x) read_can in (a-is, (rw e v-is, rw e y-is))
