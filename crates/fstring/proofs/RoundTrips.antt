-- Theorem 1: what `write` has written, `read` gives back as the normal form of the parts. The reader meets the forms in
-- the order in which the writer wrote them: `{{` or `}}` or a single byte for each byte of text, then `{}` and `{!r}`
-- (`reads_back`, by induction on the parts; `meets_text`, by induction on a text). No brace of them is stray
-- (`legal_back`), whatever follows (`legal_with`). The text bytes of whole parts are the text bytes lent
-- (`texts_whole`). Cite `write_then_read`. Assumes nothing.
use mathlib.Core.Path.{◌≡◌, refl, sym, ap, ◌∙◌}
use mathlib.Core.Bool.{Bool, true, false}
use mathlib.Core.List.{List, [], ◌∷◌, ◌++◌, append_assoc}
use Prim.Native.Nat.{ℕ, ◌+◌, ◌*◌, ◌≤◌}
use native.Mathlib.Omega.{arith}
use lib.ListN.{length, get_or, take, drop, length-append, take-append-drop}
use lib.Seq.{take-append_seam}
use lib.Dec.{eqb}
use borrow.Author.Tests.{eq-eqb, eqb-true}
use Rattle.fields.proofs.Basics.{clash}
use Rattle.fields.specs.Choice.{if'}
use Rattle.fields.proofs.Over.{over_front}
use Rattle.table.specs.Answer.{Answer, accepted, refused}
use Rattle.fields.specs.Over.{over}
use Rattle.fstring.specs.Parts.{Part, text, none, str, repr, text_in, is_brace, escape, escaped, form_of, format_of}
use Rattle.fstring.specs.Parts.{leading_text, behind_text, text_before, normal, texts_of, words_of, is_short}
use Rattle.fstring.specs.Words.{text_length, sound, total, is_whole, part_of, parts_of}
use Rattle.fstring.specs.Writing.{text_for, write_of, text_after}
use Rattle.fstring.specs.Reading.{form_at, first_form, legible, parts_in, read_of}
use Rattle.fstring.specs.Reading.{words_after, texts_after}
use Rattle.fstring.specs.Steps.{Readable}
use Rattle.fstring.specs.declared.Form.TheVariants.{Plain, Doubled}
use Rattle.fstring.proofs.Counting.{rest_of}
use Rattle.fstring.proofs.Jobs.{Says, passed_says}
use Rattle.fstring.proofs.ReadJob.{readable_accepted}
use Rattle.fstring.proofs.Normal.{texts_normal}

before_cons : (c : ℕ) (t : List ℕ) (ps : List Part) → text_before (c ∷ []) (text_before t ps) ≡ text_before (c ∷ t) ps
unfolding text_before leading_text behind_text
before_cons c [] ps = refl
before_cons c (d ∷ t) ps = refl

-- the reader meets a byte of text as the writer wrote it
doubled_seen : (c : ℕ) (l : List ℕ) → is_brace c ≡ true → first_form (c ∷ c ∷ l) ≡ Doubled c
unfolding first_form form_at
doubled_seen c l e = rw (e, eq-eqb c c refl) refl

plain_seen : (c : ℕ) (l : List ℕ) → is_brace c ≡ false → first_form (c ∷ l) ≡ Plain c
unfolding first_form form_at
plain_seen c l e = rw e refl

pub record Meets (front l : List ℕ) (ps : List Part) : Type 0 where
  pub parts : parts_in 0 (front ++ l) ≡ ps
  pub legal : legible 0 (front ++ l) ≡ length front + legible 0 l

meets_byte : (c : ℕ) (l : List ℕ) → Meets (escape c) l (text_before (c ∷ []) (parts_in 0 l))
unfolding escape parts_in legible
meets_byte c l = go (is_brace c) refl
  where
    go : (b : Bool) → is_brace c ≡ b
        → Meets (if' b (λ _. c ∷ c ∷ []) (λ _. c ∷ [])) l (text_before (c ∷ []) (parts_in 0 l))
    go true e = record {
      parts = rw (doubled_seen c l e) refl;
      legal = rw (doubled_seen c l e) (omega arith);
    }
    go false e = record { parts = rw (plain_seen c l e) refl; legal = rw (plain_seen c l e) (omega arith) }

meets_text : (t l : List ℕ) → Meets (escaped t) l (text_before t (parts_in 0 l))
unfolding escaped text_before
meets_text [] l = record { parts = refl; legal = omega arith }
meets_text (c ∷ t) l =
    let first = meets_byte c (escaped t ++ l) in
    let rest = meets_text t l in
    let both : escaped (c ∷ t) ++ l ≡ escape c ++ (escaped t ++ l) = append_assoc (escape c) (escaped t) l in
    record {
      parts = ap (parts_in 0) both ∙ first.parts ∙ ap (text_before (c ∷ [])) rest.parts
          ∙ before_cons c t (parts_in 0 l);
      legal = ap (legible 0) both ∙ omega (arith, first.legal, rest.legal, length-append (escape c) (escaped t));
    }

-- LAW: what is written is read back, and no brace of it is stray
pub reads_back : (ps : List Part) → parts_in 0 (format_of ps) ≡ normal ps
unfolding format_of form_of normal parts_in first_form form_at
reads_back [] = refl
reads_back (text t ∷ ps) = (meets_text t (format_of ps)).parts ∙ ap (text_before t) (reads_back ps)
reads_back (none ∷ ps) = ap (λ (qs : List Part). none ∷ qs) (reads_back ps)
reads_back (str ∷ ps) = ap (λ (qs : List Part). none ∷ qs) (reads_back ps)
reads_back (repr ∷ ps) = ap (λ (qs : List Part). repr ∷ qs) (reads_back ps)

pub legal_back : (ps : List Part) → legible 0 (format_of ps) ≡ length (format_of ps)
unfolding format_of form_of legible first_form form_at
legal_back [] = refl
legal_back (text t ∷ ps) =
    omega (arith, (meets_text t (format_of ps)).legal, legal_back ps, length-append (escaped t) (format_of ps))
legal_back (none ∷ ps) = omega (arith, legal_back ps)
legal_back (str ∷ ps) = omega (arith, legal_back ps)
legal_back (repr ∷ ps) = omega (arith, legal_back ps)

-- the same, whatever bytes follow
pub legal_with : (ps : List Part) (l : List ℕ) → legible 0 (format_of ps ++ l) ≡ length (format_of ps) + legible 0 l
unfolding format_of form_of legible first_form form_at
legal_with [] l = omega arith
legal_with (text t ∷ ps) l =
    ap (legible 0) (append_assoc (escaped t) (format_of ps) l)
    ∙ omega (
      arith,
      (meets_text t (format_of ps ++ l)).legal,
      legal_with ps l,
      length-append (escaped t) (format_of ps),
    )
legal_with (none ∷ ps) l = omega (arith, legal_with ps l)
legal_with (str ∷ ps) l = omega (arith, legal_with ps l)
legal_with (repr ∷ ps) l = omega (arith, legal_with ps l)

-- the texts of whole parts are the text bytes
part_text : (kind n : ℕ) (ts : List ℕ)
    → text_in (part_of kind (take (text_length kind n) ts)) ≡ take (text_length kind n) ts
unfolding part_of text_length
part_text kind n ts = go (eqb kind 0) (eqb kind 3) (eqb kind 2)
  where
    go : (a b c : Bool) → text_in (if' a (λ _. text (take (if' a (λ _. n) (λ _. 0)) ts))
        (λ _. if' b (λ _. repr) (λ _. if' c (λ _. str) (λ _. none)))) ≡ take (if' a (λ _. n) (λ _. 0)) ts
    go true b c = refl
    go false true c = refl
    go false false true = refl
    go false false false = refl

pub texts_whole : (ws ts : List ℕ) → is_whole ws (length ts) ≡ true → texts_of (parts_of ws ts) ≡ ts
unfolding texts_of parts_of is_whole sound total
texts_whole [] [] e = refl
texts_whole [] (c ∷ ts) e =
    absurd (omega (arith, eqb-true 0 (length (c ∷ ts)) e))
texts_whole (kind ∷ []) ts e = clash {b = is_whole (kind ∷ []) (length ts)} e refl
texts_whole (kind ∷ n ∷ ws) ts e =
    ap (λ (x : List ℕ). x ++ texts_of (parts_of ws (drop (text_length kind n) ts))) (part_text kind n ts)
    ∙ ap (λ (x : List ℕ). take (text_length kind n) ts ++ x)
    (texts_whole ws (drop (text_length kind n) ts) (rest_of (kind ∷ n ∷ ws) ts e (omega arith)))
    ∙ take-append-drop (text_length kind n) ts

-- THEOREM 1: `write` is lent ws, ts, ds and d, and then `read` is lent w and x
module _ (ws ts ds d w x : List ℕ) where
  abbrev pub normal_parts : List Part
  normal_parts = normal (parts_of ws ts)

  pub record ReadBack (n : ℕ) : Type 0 where
    pub answer : read_of (take n (text_after ws ts ds d)) (length w) (length x)
        ≡ accepted (length (normal (parts_of ws ts)) ∷ length ts ∷ [])
    pub words : words_after (take n (text_after ws ts ds d)) w (length x)
        ≡ over 0 (words_of (normal (parts_of ws ts))) w
    pub texts : texts_after (take n (text_after ws ts ds d)) (length w) x ≡ over 0 ts x

  written : (says : Says ws ts ds (length d)) → take (length (text_for ws ts)) (text_after ws ts ds d) ≡ text_for ws ts
  unfolding text_after
  written says = rw says.answer (ap (take (length (text_for ws ts))) (over_front (text_for ws ts) d)
      ∙ take-append_seam (text_for ws ts) (drop (length (text_for ws ts)) d))

  -- reading the written text gives the normal form, whose texts are the text bytes lent
  text_back : parts_in 0 (text_for ws ts) ≡ normal (parts_of ws ts)
  unfolding text_for
  text_back = reads_back (parts_of ws ts)

  texts_back : is_whole ws (length ts) ≡ true → texts_of (normal (parts_of ws ts)) ≡ ts
  texts_back whole = texts_normal (parts_of ws ts) ∙ texts_whole ws ts whole

  can_read : is_whole ws (length ts) ≡ true → 2 * length (normal (parts_of ws ts)) ≤ length w → length ts ≤ length x
      → is_short (normal (parts_of ws ts)) ≡ true → Readable (text_for ws ts) (length w) (length x)
  unfolding text_for
  can_read whole room texts short = record {
    legal = legal_back (parts_of ws ts);
    words_fit = rw text_back room;
    bytes_fit = rw (text_back, texts_back whole) texts;
    short = rw text_back short;
  }

  pub write_then_read : (n v : ℕ) → write_of ws ts ds (length d) ≡ accepted (n ∷ v ∷ [])
      → 2 * length (normal (parts_of ws ts)) ≤ length w → length ts ≤ length x
      → is_short (normal (parts_of ws ts)) ≡ true → ReadBack n
  unfolding text_for words_after texts_after
  write_then_read n v e room texts short =
      let says = passed_says ws ts ds (length d) (rw e refl) in
      let n_is : n ≡ length (text_for ws ts) = ap (λ (a : Answer). first a) (sym e ∙ says.answer) in
      let back : parts_in 0 (text_for ws ts) ≡ normal (parts_of ws ts) = text_back in
      let same : texts_of (normal (parts_of ws ts)) ≡ ts = texts_back says.whole in
      let read = readable_accepted (text_for ws ts) (length w) (length x) (can_read says.whole room texts short) in
      let it : take n (text_after ws ts ds d) ≡ text_for ws ts =
      ap (λ (m : ℕ). take m (text_after ws ts ds d)) n_is ∙ written says in
      record {
        answer = rw it (read ∙ rw (back, same) refl);
        words = rw (it, read) (ap (λ (ps : List Part). over 0 (words_of ps) w) back);
        texts = rw (it, read) (ap (λ (y : List ℕ). over 0 y x) (ap texts_of back ∙ same));
      }
    where
      first : Answer → ℕ
      first (accepted vs) = get_or vs 0 0
      first (refused m vs) = 0
