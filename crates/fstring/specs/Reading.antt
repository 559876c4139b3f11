-- The job `read`: the four forms, its answer, and the buffers at exit. These are definitions.
use Rattle.std.specs.Prelude.{Bool, true, false, ◌&&◌, List, [], ◌∷◌, ℕ, zero, suc, ◌*◌, length, get_or, eqb, leb}
use Rattle.fields.specs.Choice.{if'}
use Rattle.table.specs.Numbers.{short_buffer, stray_brace}
use Rattle.table.specs.Answer.{Answer, accepted, refused}
use Rattle.fstring.specs.Parts.{Part, none, repr, opening, closing, bang, letter_r, is_brace}
use Rattle.fstring.specs.Parts.{text_before, texts_of, words_of, is_short}
use Rattle.fstring.specs.Writing.{afterwards}
use Rattle.fstring.specs.declared.Form.{Form}
use Rattle.fstring.specs.declared.Form.TheVariants.{Plain, Doubled, Empty, Converted, Stray}
use Rattle.fstring.specs.declared.Reading.{Reading}
use Rattle.fstring.specs.declared.Reading.TheVariants.{Accepted, StrayAt, Short}

-- the form at the start of some bytes: a byte of text, `{{` or `}}`, `{}`, `{!r}`; or a brace that starts none of these
-- four. Bytes past the end are taken as 0.
unfoldable pub form_at : ℕ → ℕ → ℕ → ℕ → Form
form_at a b c d =
    if' (is_brace a)
    (λ _. if' (eqb b a) (λ _. Doubled a)
    (λ _. if' (eqb a opening && eqb b closing) (λ _. Empty)
    (λ _. if' (eqb a opening && (eqb b bang && (eqb c letter_r && eqb d closing))) (λ _. Converted) (λ _. Stray))))
    (λ _. Plain a)

unfoldable pub first_form : List ℕ → Form
first_form l = form_at (get_or l 0 0) (get_or l 1 0) (get_or l 2 0) (get_or l 3 0)

-- a brace that starts none of the four
abbrev pub is_stray : Form → Bool
is_stray (Plain c) = false
is_stray (Doubled c) = false
is_stray Empty = false
is_stray Converted = false
is_stray Stray = true

-- the number of bytes of a form after its first
abbrev pub behind : Form → ℕ
behind (Plain c) = 0
behind (Doubled c) = 1
behind Empty = 1
behind Converted = 3
behind Stray = 0

-- a form reaches one byte further than what is behind its first; a stray brace is not passed
abbrev pub reach : Form → ℕ → ℕ
reach (Plain c) n = suc n
reach (Doubled c) n = suc n
reach Empty n = suc n
reach Converted n = suc n
reach Stray n = 0

-- the number of bytes from the left that are forms: all, or up to the first brace that starts none. The next k bytes
-- belong to the form that began before.
unfoldable pub legible : ℕ → List ℕ → ℕ
legible zero [] = 0
legible (suc k) [] = 0
legible (suc k) (c ∷ cs) = suc (legible k cs)
legible zero (c ∷ cs) = reach (first_form (c ∷ cs)) (legible (behind (first_form (c ∷ cs))) cs)

-- a form before parts: a byte of text is joined with a text that they begin with
abbrev pub reading : Form → List Part → List Part
reading (Plain c) ps = text_before (c ∷ []) ps
reading (Doubled c) ps = text_before (c ∷ []) ps
reading Empty ps = none ∷ ps
reading Converted ps = repr ∷ ps
reading Stray ps = ps

-- the parts that are read from the left, if no brace is stray
unfoldable pub parts_in : ℕ → List ℕ → List Part
parts_in zero [] = []
parts_in (suc k) [] = []
parts_in (suc k) (c ∷ cs) = parts_in k cs
parts_in zero (c ∷ cs) =
    reading (first_form (c ∷ cs)) (parts_in (behind (first_form (c ∷ cs))) cs)

-- 7: the words, the bytes or a text's length do not fit
unfoldable pub fit_check : List Part → ℕ → ℕ → Answer
fit_check ps words bytes =
    if' (leb (2 * length ps) words && (leb (length (texts_of ps)) bytes && is_short ps))
    (λ _. accepted (length ps ∷ length (texts_of ps) ∷ []))
    (λ _. refused short_buffer [])

-- the job, for the numbers of words and bytes lent: 63 with its position, then 7
unfoldable pub read_of : List ℕ → ℕ → ℕ → Answer
read_of t words bytes =
    if' (eqb (legible 0 t) (length t)) (λ _. fit_check (parts_in 0 t) words bytes)
    (λ _. refused stray_brace (legible 0 t ∷ []))

-- the buffers at exit
unfoldable pub words_after : List ℕ → List ℕ → ℕ → List ℕ
words_after t words bytes = afterwards (read_of t (length words) bytes) (words_of (parts_in 0 t)) words

unfoldable pub texts_after : List ℕ → ℕ → List ℕ → List ℕ
texts_after t words bytes = afterwards (read_of t words (length bytes)) (texts_of (parts_in 0 t)) bytes

-- the meaning of the answers of the code
abbrev pub got : Reading → Answer
got (Accepted parts bytes) = accepted (parts ∷ bytes ∷ [])
got (StrayAt p) = refused stray_brace (p ∷ [])
got Short = refused short_buffer []
