-- Theorem 2: what `read` gives, written again, is the same text. The words and texts that the reader leaves are those
-- of the parts that it read (`words_read`, `texts_read`). Read as parts again they are these parts (`parts_again`, by
-- induction on the parts), and they are whole (`words_whole`), so writing them never refuses with 64. Their format text
-- is the text that was read (Fronts' `same_text`). Cite `read_then_write`. Assumes nothing.
use Rattle.std.specs.Prelude.{Some}
use mathlib.Core.Path.{◌≡◌, refl, sym, ap, ◌∙◌}
use mathlib.Core.Bool.{true}
use mathlib.Core.List.{List, [], ◌∷◌, ◌++◌}
use Prim.Native.Nat.{ℕ, ◌*◌, ◌≤◌}
use native.Mathlib.Omega.{arith}
use lib.ListN.{length, get_or, take, drop, length-append}
use lib.Seq.{take-append_seam, drop-append_seam}
use borrow.Author.Tests.{eq-eqb}
use Rattle.fields.proofs.Basics.{and_both}
use Rattle.fields.proofs.Over.{over_front}
use Rattle.dialect.specs.declared.Dialect.{Dialect}
use Rattle.dialect.specs.Bytes.{from_bytes}
use Rattle.table.specs.Answer.{Answer, accepted, refused}
use Rattle.fields.specs.Over.{over}
use Rattle.fstring.specs.Parts.{Part, text, none, str, repr}
use Rattle.fstring.specs.Parts.{format_of, texts_of, words_of}
use Rattle.fstring.specs.Words.{text_length, sound_part, sound, total, is_whole, part_of, parts_of}
use Rattle.fstring.specs.Writing.{notice, text_for, write_of, text_after}
use Rattle.fstring.specs.Reading.{parts_in, read_of}
use Rattle.fstring.specs.Reading.{words_after, texts_after}
use Rattle.fstring.specs.Steps.{Readable}
use Rattle.fstring.proofs.Storing.{words_long}
use Rattle.fstring.proofs.Jobs.{sound_accepted}
use Rattle.fstring.proofs.ReadJob.{readable_accepted, accepted_readable}
use Rattle.fstring.proofs.Fronts.{same_text}

-- the words and texts of parts are those parts again
pub parts_again : (ps : List Part) → parts_of (words_of ps) (texts_of ps) ≡ ps
unfolding parts_of words_of texts_of part_of text_length
parts_again [] = refl
parts_again (text t ∷ ps) =
    ap (λ (x : List ℕ). text x ∷ parts_of (words_of ps) (drop (length t) (t ++ texts_of ps)))
    (take-append_seam t (texts_of ps))
    ∙ ap (λ (x : List ℕ). text t ∷ parts_of (words_of ps) x) (drop-append_seam t (texts_of ps))
    ∙ ap (λ (qs : List Part). text t ∷ qs) (parts_again ps)
parts_again (none ∷ ps) = ap (λ (qs : List Part). none ∷ qs) (parts_again ps)
parts_again (str ∷ ps) = ap (λ (qs : List Part). str ∷ qs) (parts_again ps)
parts_again (repr ∷ ps) = ap (λ (qs : List Part). repr ∷ qs) (parts_again ps)

words_sound : (ps : List Part) → sound (words_of ps) ≡ true
unfolding sound sound_part words_of
words_sound [] = refl
words_sound (text t ∷ ps) = words_sound ps
words_sound (none ∷ ps) = words_sound ps
words_sound (str ∷ ps) = words_sound ps
words_sound (repr ∷ ps) = words_sound ps

words_total : (ps : List Part) → total (words_of ps) ≡ length (texts_of ps)
unfolding total text_length words_of texts_of
words_total [] = refl
words_total (text t ∷ ps) = omega (arith, words_total ps, length-append t (texts_of ps))
words_total (none ∷ ps) = omega (arith, words_total ps)
words_total (str ∷ ps) = omega (arith, words_total ps)
words_total (repr ∷ ps) = omega (arith, words_total ps)

pub words_whole : (ps : List Part) → is_whole (words_of ps) (length (texts_of ps)) ≡ true
unfolding is_whole
words_whole ps = and_both _ _ (words_sound ps) (eq-eqb _ _ (words_total ps))

front_taken : (bs d : List ℕ) → take (length bs) (over 0 bs d) ≡ bs
front_taken bs d = ap (take (length bs)) (over_front bs d) ∙ take-append_seam bs (drop (length bs) d)

-- THEOREM 2: `read` is lent t, w and x; its k parts and m bytes are then written in any valid dialect, with room
module _ (t w x : List ℕ) (k m : ℕ) (e : read_of t (length w) (length x) ≡ accepted (k ∷ m ∷ [])) where
  can : Readable t (length w) (length x)
  can = accepted_readable t (length w) (length x) (rw e refl)

  answer : read_of t (length w) (length x) ≡ accepted (length (parts_in 0 t) ∷ length (texts_of (parts_in 0 t)) ∷ [])
  answer = readable_accepted t (length w) (length x) can

  unfoldable value_at : ℕ → Answer → ℕ
  value_at i (accepted vs) = get_or vs i 0
  value_at i (refused n vs) = 0

  k_is : k ≡ length (parts_in 0 t)
  unfolding value_at
  k_is = ap (value_at 0) (sym e ∙ answer)

  m_is : m ≡ length (texts_of (parts_in 0 t))
  unfolding value_at
  m_is = ap (value_at 1) (sym e ∙ answer)

  words_read : take (2 * k) (words_after t w (length x)) ≡ words_of (parts_in 0 t)
  unfolding words_after
  words_read =
      let n : 2 * k ≡ length (words_of (parts_in 0 t)) = omega (arith, k_is, words_long (parts_in 0 t)) in
      rw (answer, n) (front_taken (words_of (parts_in 0 t)) w)

  texts_read : take m (texts_after t (length w) x) ≡ texts_of (parts_in 0 t)
  unfolding texts_after
  texts_read = rw (answer, m_is) (front_taken (texts_of (parts_in 0 t)) x)

  text_again : text_for (words_of (parts_in 0 t)) (texts_of (parts_in 0 t)) ≡ t
  unfolding text_for
  text_again = ap format_of (parts_again (parts_in 0 t)) ∙ same_text t can.legal

  pub record WrittenBack (ds d : List ℕ) (dialect : Dialect) : Type 0 where
    pub accepts : write_of (take (2 * k) (words_after t w (length x))) (take m (texts_after t (length w) x)) ds
        (length d)
        ≡ accepted (length t ∷ notice dialect.enable_f_strings ∷ [])
    pub buffer : text_after (take (2 * k) (words_after t w (length x))) (take m (texts_after t (length w) x)) ds d
        ≡ over 0 t d

  pub read_then_write : (ds d : List ℕ) (dialect : Dialect) → from_bytes ds ≡ Some dialect → length t ≤ length d
      → WrittenBack ds d dialect
  unfolding text_after
  read_then_write ds d dialect valid room =
      let whole = words_whole (parts_in 0 t) in
      let fits : length (text_for (words_of (parts_in 0 t)) (texts_of (parts_in 0 t))) ≤ length d =
      rw text_again room in
      let done = sound_accepted (words_of (parts_in 0 t)) (texts_of (parts_in 0 t)) ds (length d) valid whole fits in
      record {
        accepts = rw (words_read, texts_read) (done ∙ rw text_again refl);
        buffer = rw (words_read, texts_read, done) (ap (λ (y : List ℕ). over 0 y d) text_again);
      }
