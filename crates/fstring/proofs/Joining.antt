-- The reader goes from left to right. What it has read is a list of parts `done` and a text `u` that may still grow;
-- the parts of the whole text are these, joined with the parts of what is left (`Reached`). Each form keeps this
-- (`reached_on`): a byte of text makes `u` longer, an expression closes it and adds a part (`next_done`, `next_open`).
-- The numbers that the code counts (parts, text bytes, the length of `u`) change in the same way (`parts_next`,
-- `bytes_next`, `run_next`). All are by cases on the form; the loops of the reader are the induction. Tallying and
-- Storing cite this file. Assumes nothing.
use mathlib.Core.Path.{◌≡◌, refl, sym, ap, ◌∙◌}
use mathlib.Core.Bool.{Bool, true, false}
use mathlib.Core.List.{List, [], ◌∷◌, ◌++◌, append_assoc, append-nil}
use Prim.Native.Nat.{ℕ, ◌+◌, ◌-◌, ◌<◌, ◌≤◌}
use native.Mathlib.Omega.{arith}
use lib.ListN.{length, take, drop, length-append, length-drop}
use lib.Dec.{eqb-suc-zero}
use Rattle.fields.proofs.Basics.{clash}
use Rattle.fields.proofs.Fields.{tail_part}
use Rattle.fields.specs.Choice.{if'}
use Rattle.fstring.specs.Parts.{Part, text, none, repr, text_in, leading_text, behind_text, text_before, texts_of}
use Rattle.fstring.specs.Reading.{first_form, behind, legible, reading, parts_in, is_stray}
use Rattle.fstring.specs.Steps.{is_literal, literal, begun, run_on, ones, width_of}
use Rattle.fstring.specs.declared.Form.{Form}
use Rattle.fstring.specs.declared.Form.TheVariants.{Plain, Doubled, Empty, Converted, Stray}
use Rattle.fstring.proofs.Forms.{parts_front, width_fits, legible_stray, legible_front}

-- an open text as parts: none if it is empty
abbrev pub closed : List ℕ → List Part
closed [] = []
closed (c ∷ t) = text (c ∷ t) ∷ []

abbrev pub form_part : Form → Part
form_part (Plain c) = none
form_part (Doubled c) = none
form_part Empty = none
form_part Converted = repr
form_part Stray = none

abbrev pub next_done : Form → List Part → List ℕ → List Part
next_done f done u = if' (is_literal f) (λ _. done) (λ _. done ++ (closed u ++ (form_part f ∷ [])))

abbrev pub next_open : Form → List ℕ → List ℕ
next_open f u = if' (is_literal f) (λ _. u ++ literal f) (λ _. [])

-- a text before no parts, before a byte of text, and before an expression
pub before_end : (u : List ℕ) → text_before u [] ≡ closed u
unfolding text_before leading_text behind_text
before_end [] = refl
before_end (c ∷ t) = rw (append-nil t) refl

pub before_byte : (u : List ℕ) (x : ℕ) (ps : List Part)
    → text_before u (text_before (x ∷ []) ps) ≡ text_before (u ++ (x ∷ [])) ps
unfolding text_before leading_text behind_text
before_byte [] x ps = refl
before_byte (c ∷ t) x ps =
    ap (λ (v : List ℕ). text (c ∷ v) ∷ behind_text ps) (sym (append_assoc t (x ∷ []) (leading_text ps)))

pub before_none : (u : List ℕ) (ps : List Part) → text_before u (none ∷ ps) ≡ closed u ++ (none ∷ ps)
unfolding text_before leading_text behind_text
before_none [] ps = refl
before_none (c ∷ t) ps = rw (append-nil t) refl

pub before_repr : (u : List ℕ) (ps : List Part) → text_before u (repr ∷ ps) ≡ closed u ++ (repr ∷ ps)
unfolding text_before leading_text behind_text
before_repr [] ps = refl
before_repr (c ∷ t) ps = rw (append-nil t) refl

regroup : (a b : List Part) (p : Part) (ps : List Part) → a ++ (b ++ (p ∷ ps)) ≡ (a ++ (b ++ (p ∷ []))) ++ ps
regroup a b p ps = sym (append_assoc a (b ++ (p ∷ [])) ps ∙ ap (λ (x : List Part). a ++ x) (append_assoc b (p ∷ []) ps))

reading_step : (f : Form) (done : List Part) (u : List ℕ) (ps : List Part) → is_stray f ≡ false
    → done ++ text_before u (reading f ps) ≡ next_done f done u ++ text_before (next_open f u) ps
unfolding text_before
reading_step (Plain c) done u ps e = ap (λ (x : List Part). done ++ x) (before_byte u c ps)
reading_step (Doubled c) done u ps e = ap (λ (x : List Part). done ++ x) (before_byte u c ps)
reading_step Empty done u ps e = ap (λ (x : List Part). done ++ x) (before_none u ps) ∙ regroup done (closed u) none ps
reading_step Converted done u ps e =
    ap (λ (x : List Part). done ++ x) (before_repr u ps) ∙ regroup done (closed u) repr ps
reading_step Stray done u ps e = clash refl e

width_is : (f : Form) → width_of f ≡ behind f + 1
width_is (Plain c) = refl
width_is (Doubled c) = refl
width_is Empty = refl
width_is Converted = refl
width_is Stray = refl

pub width_some : (f : Form) → 1 ≤ width_of f
width_some f = omega (arith, width_is f)

pub step_less : (left : List ℕ) (f : Form) → 0 < length left → {w : ℕ} → w ≡ width_of f
    → length (take (length left - w) (drop w left)) < length left
step_less left f h {w} w-is = rw (tail_part w left, length-drop w left) (omega (arith, w-is, width_some f))

pub record Reached (t left : List ℕ) (done : List Part) (u : List ℕ) : Type 0 where
  pub upto : length left ≤ length t
  pub read : parts_in 0 t ≡ done ++ text_before u (parts_in 0 left)
  pub legal : legible 0 t ≡ (length t - length left) + legible 0 left

pub reached_start : (t : List ℕ) → Reached t t [] []
unfolding text_before
reached_start t = record { upto = omega arith; read = refl; legal = omega arith }

module _ {t left : List ℕ} {done : List Part} {u : List ℕ} (s : Reached t left done u) where
  module _ (h : 0 < length left) {f : Form} (f-is : f ≡ first_form left) where
    pub reached_stray : is_stray f ≡ true → legible 0 t ≡ length t - length left
    reached_stray e = omega (arith, s.legal, legible_stray left h (ap is_stray (sym f-is) ∙ e))

    pub reached_legal : legible 0 t ≡ length t → is_stray f ≡ false
    reached_legal e = go (is_stray f) refl
      where
        go : (b : Bool) → is_stray f ≡ b → is_stray f ≡ false
        go false b_is = b_is
        go true b_is = absurd (omega (arith, reached_stray b_is, s.upto))

    pub width_in : {w : ℕ} → w ≡ width_of f → w ≤ length left
    width_in w-is = omega (arith, w-is, width_is f, ap behind f-is, width_fits left h)

    pub reached_on : is_stray f ≡ false → {w : ℕ} → w ≡ width_of f
        → Reached t (take (length left - w) (drop w left)) (next_done f done u) (next_open f u)
    reached_on calm {w} v-is =
        let e : w ≡ behind (first_form left) + 1 = v-is ∙ width_is f ∙ ap (λ (g : Form). behind g + 1) f-is in
        let still : is_stray (first_form left) ≡ false = ap is_stray (sym f-is) ∙ calm in
        let read : parts_in 0 left ≡ reading f (parts_in 0 (drop w left)) =
        rw (f-is, e) (parts_front left h) in
        let legal : legible 0 left ≡ w + legible 0 (drop w left) = rw e (legible_front left h still) in
        record {
          upto = rw (tail_part w left, length-drop w left) (omega (arith, s.upto));
          read = rw (tail_part w left) (s.read ∙ ap (λ (x : List Part). done ++ text_before u x) read
              ∙ reading_step f done u (parts_in 0 (drop w left)) calm);
          legal = rw (tail_part w left, length-drop w left)
              (omega (arith, s.legal, s.upto, legal, width_in v-is));
        }

  pub reached_end : length left ≤ 0 → (parts_in 0 t ≡ done ++ closed u) × (legible 0 t ≡ length t)
  unfolding parts_in legible
  reached_end h = go left h s.read s.legal
    where
      go : (l : List ℕ) → length l ≤ 0 → parts_in 0 t ≡ done ++ text_before u (parts_in 0 l)
          → legible 0 t ≡ (length t - length l) + legible 0 l
          → (parts_in 0 t ≡ done ++ closed u) × (legible 0 t ≡ length t)
      go [] h read legal = (read ∙ ap (λ (x : List Part). done ++ x) (before_end u), omega arith)
      go (c ∷ cs) h read legal = absurd (omega arith)

-- the text bytes of two lists of parts are those of each
pub texts_append : (ps qs : List Part) → texts_of (ps ++ qs) ≡ texts_of ps ++ texts_of qs
unfolding texts_of
texts_append [] qs = refl
texts_append (p ∷ ps) qs = ap (λ (x : List ℕ). text_in p ++ x) (texts_append ps qs)
    ∙ sym (append_assoc (text_in p) (texts_of ps) (texts_of qs))

pub texts_closed : (u : List ℕ) → texts_of (closed u) ≡ u
unfolding texts_of
texts_closed [] = refl
texts_closed (c ∷ t) = append-nil (c ∷ t)

texts_through : (done : List Part) (u : List ℕ) (p : Part) → text_in p ≡ []
    → texts_of (done ++ (closed u ++ (p ∷ []))) ++ [] ≡ (texts_of done ++ u) ++ []
unfolding texts_of
texts_through done u p e = ap (λ (x : List ℕ). x ++ []) (texts_append done (closed u ++ (p ∷ []))
    ∙ ap (λ (x : List ℕ). texts_of done ++ x) (texts_append (closed u) (p ∷ [])
    ∙ rw (texts_closed u, e) (append-nil u)))

-- LAW: a form adds its byte of text, if it is one, to the text bytes
pub texts_next : (f : Form) (done : List Part) (u : List ℕ)
    → texts_of (next_done f done u) ++ next_open f u ≡ (texts_of done ++ u) ++ literal f
texts_next (Plain c) done u = sym (append_assoc (texts_of done) u (c ∷ []))
texts_next (Doubled c) done u = sym (append_assoc (texts_of done) u (c ∷ []))
texts_next Empty done u = texts_through done u none refl
texts_next Converted done u = texts_through done u repr refl
texts_next Stray done u = texts_through done u none refl

pub run_next : (f : Form) (u : List ℕ) → length (next_open f u) ≡ run_on (is_literal f) (length u)
unfolding run_on
run_next (Plain c) u = length-append u (c ∷ [])
run_next (Doubled c) u = length-append u (c ∷ [])
run_next Empty u = refl
run_next Converted u = refl
run_next Stray u = refl

literal_one : (f : Form) → length (literal f) ≡ ones (is_literal f)
literal_one (Plain c) = refl
literal_one (Doubled c) = refl
literal_one Empty = refl
literal_one Converted = refl
literal_one Stray = refl

pub bytes_next : (f : Form) (done : List Part) (u : List ℕ)
    → length (texts_of (next_done f done u)) + length (next_open f u)
    ≡ length (texts_of done) + length u + ones (is_literal f)
bytes_next f done u = omega (
  arith,
  length-append (texts_of (next_done f done u)) (next_open f u),
  ap length (texts_next f done u),
  length-append (texts_of done ++ u) (literal f),
  length-append (texts_of done) u,
  literal_one f,
)

-- LAW: a form begins a part or does not, as `begun` says
closed_grown : (u : List ℕ) (c : ℕ) → length (closed (u ++ (c ∷ []))) ≡ length (closed u) + begun true (length u)
unfolding begun
closed_grown [] c = refl
closed_grown (x ∷ u) c = rw (eqb-suc-zero (length u)) refl

closed_through : (done : List Part) (u : List ℕ) (p : Part)
    → length (done ++ (closed u ++ (p ∷ []))) + 0 ≡ length done + length (closed u) + 1
closed_through done u p =
    omega (arith, length-append done (closed u ++ (p ∷ [])), length-append (closed u) (p ∷ []))

pub parts_next : (f : Form) (done : List Part) (u : List ℕ)
    → length (next_done f done u) + length (closed (next_open f u))
    ≡ length done + length (closed u) + begun (is_literal f) (length u)
unfolding begun
parts_next (Plain c) done u = omega (arith, closed_grown u c)
parts_next (Doubled c) done u = omega (arith, closed_grown u c)
parts_next Empty done u = closed_through done u none
parts_next Converted done u = closed_through done u repr
parts_next Stray done u = closed_through done u none
