-- The bytes up to the first stray brace are the format text of some parts (`front`). The induction is on the length of
-- the text: the form at the front gives back its own bytes (`first_of`), and the rest is shorter. So a text with no
-- stray brace is the format text of what is read from it (`same_text`), because reading a format text gives the normal
-- form of its parts (`reads_back`), and the normal form has the same format text (`format_normal`). Theorems 2 and 3
-- cite `same_text` and `front`. Assumes nothing.
use mathlib.Core.Path.{◌≡◌, refl, sym, ap, ◌∙◌}
use mathlib.Core.Bool.{Bool, true, false}
use mathlib.Core.List.{List, [], ◌∷◌, ◌++◌, append_assoc, append-nil}
use Prim.Native.Nat.{ℕ, zero, suc, ◌+◌, ◌<◌, ◌≤◌}
use native.Mathlib.Omega.{arith}
use lib.ListN.{length, get_or, take, drop, length-drop}
use lib.Seq.{take-add, drop-drop, take-length}
use Rattle.fields.proofs.Basics.{clash}
use Rattle.fstring.specs.Parts.{Part, text, none, str, repr, is_brace, escape, escaped, form_of}
use Rattle.fstring.specs.Parts.{format_of, plain_form, repr_form, leading_text, behind_text, text_before, normal}
use Rattle.fstring.specs.Reading.{first_form, behind, legible, reading, parts_in, is_stray}
use Rattle.fstring.specs.declared.Form.{Form}
use Rattle.fstring.specs.declared.Form.TheVariants.{Plain, Doubled, Empty, Converted, Stray}
use Rattle.fstring.proofs.Forms.{Seen, seen, there, brace_not_zero, legible_stray, legible_front}
use Rattle.fstring.proofs.RoundTrips.{reads_back}

-- the bytes of a form
abbrev bytes_in : Form → List ℕ
bytes_in (Plain c) = c ∷ []
bytes_in (Doubled c) = c ∷ c ∷ []
bytes_in Empty = plain_form
bytes_in Converted = repr_form
bytes_in Stray = []

take_one : (l : List ℕ) → 0 < length l → take 1 l ≡ get_or l 0 0 ∷ []
take_one [] h = absurd (omega arith)
take_one (a ∷ l) h = refl

take_three : (l : List ℕ) → 2 < length l → take 3 l ≡ get_or l 0 0 ∷ get_or l 1 0 ∷ get_or l 2 0 ∷ []
take_three [] h = absurd (omega arith)
take_three (a ∷ []) h = absurd (omega arith)
take_three (a ∷ b ∷ []) h = absurd (omega arith)
take_three (a ∷ b ∷ c ∷ l) h = refl

-- a form f at the front of c ∷ cs: the bytes there are those of the form, and writing it gives them back
pub record First (f : Form) (c : ℕ) (cs : List ℕ) : Type 0 where
  pub bytes : c ∷ take (behind f) cs ≡ bytes_in f
  pub format : (ps : List Part) → format_of (reading f ps) ≡ bytes_in f ++ format_of ps

escaped_append : (t u : List ℕ) → escaped (t ++ u) ≡ escaped t ++ escaped u
unfolding escaped
escaped_append [] u = refl
escaped_append (c ∷ t) u = ap (λ (x : List ℕ). escape c ++ x) (escaped_append t u)
    ∙ sym (append_assoc (escape c) (escaped t) (escaped u))

led : (ps : List Part) → escaped (leading_text ps) ++ format_of (behind_text ps) ≡ format_of ps
unfolding leading_text behind_text escaped format_of form_of
led [] = refl
led (text t ∷ ps) = refl
led (none ∷ ps) = refl
led (str ∷ ps) = refl
led (repr ∷ ps) = refl

format_before : (t : List ℕ) (ps : List Part) → format_of (text_before t ps) ≡ escaped t ++ format_of ps
unfolding text_before format_of form_of escaped
format_before [] ps = refl
format_before (c ∷ t) ps =
    ap (λ (x : List ℕ). x ++ format_of (behind_text ps)) (escaped_append (c ∷ t) (leading_text ps))
    ∙ append_assoc (escaped (c ∷ t)) (escaped (leading_text ps)) (format_of (behind_text ps))
    ∙ ap (λ (x : List ℕ). escaped (c ∷ t) ++ x) (led ps)

pub format_normal : (ps : List Part) → format_of (normal ps) ≡ format_of ps
unfolding format_of form_of normal
format_normal [] = refl
format_normal (text t ∷ ps) = format_before t (normal ps) ∙ ap (λ (x : List ℕ). escaped t ++ x) (format_normal ps)
format_normal (none ∷ ps) = ap (λ (x : List ℕ). plain_form ++ x) (format_normal ps)
format_normal (str ∷ ps) = ap (λ (x : List ℕ). plain_form ++ x) (format_normal ps)
format_normal (repr ∷ ps) = ap (λ (x : List ℕ). repr_form ++ x) (format_normal ps)

one_escaped : (c : ℕ) → escaped (c ∷ []) ≡ escape c
unfolding escaped
one_escaped c = append-nil (escape c)

twice_escaped : (c : ℕ) → is_brace c ≡ true → escape c ≡ c ∷ c ∷ []
unfolding escape
twice_escaped c e = rw e refl

once_escaped : (c : ℕ) → is_brace c ≡ false → escape c ≡ c ∷ []
unfolding escape
once_escaped c e = rw e refl

first_of : (f : Form) (c : ℕ) (cs : List ℕ) → Seen f c (get_or cs 0 0) (get_or cs 1 0) (get_or cs 2 0)
    → is_stray f ≡ false
    → First f c cs
unfolding format_of form_of
first_of (Plain x) c cs s calm = record {
  bytes = ap (λ (y : ℕ). y ∷ []) (sym s.0);
  format = λ ps. format_before (x ∷ []) ps ∙ ap (λ (y : List ℕ). y ++ format_of ps)
      (one_escaped x ∙ once_escaped x (ap is_brace s.0 ∙ s.1));
}
first_of (Doubled x) c cs s calm =
    let here = there cs 0 (λ (z : get_or cs 0 0 ≡ 0). brace_not_zero c s.brace (sym s.twice ∙ z)) in
    record {
      bytes = ap (λ (y : List ℕ). c ∷ y) (take_one cs here ∙ ap (λ (y : ℕ). y ∷ []) s.twice)
          ∙ ap (λ (y : ℕ). y ∷ y ∷ []) (sym s.byte);
      format = λ ps. format_before (x ∷ []) ps ∙ ap (λ (y : List ℕ). y ++ format_of ps)
          (one_escaped x ∙ twice_escaped x (ap is_brace s.byte ∙ s.brace));
    }
first_of Empty c cs s calm =
    let here = there cs 0 (λ (z : get_or cs 0 0 ≡ 0). absurd (omega (arith, s.1))) in
    record { bytes = rw (take_one cs here, s.0, s.1) refl; format = λ ps. refl }
first_of Converted c cs s calm =
    let here = there cs 2 (λ (z : get_or cs 2 0 ≡ 0). absurd (omega (arith, s.closes))) in
    record { bytes = rw (take_three cs here, s.opens, s.marked, s.letter, s.closes) refl; format = λ ps. refl }
first_of Stray c cs s calm = clash refl calm

-- LAW: the bytes up to the first stray brace, as the format text of some parts
pub record Front (t : List ℕ) : Type 0 where
  pub parts : List Part
  pub same : format_of parts ≡ take (legible 0 t) t
  pub stop : legible 0 t < length t → is_stray (first_form (drop (legible 0 t) t)) ≡ true

front_stray : (c : ℕ) (cs : List ℕ) → is_stray (first_form (c ∷ cs)) ≡ true → Front (c ∷ cs)
unfolding format_of
front_stray c cs e =
    let z : legible 0 (c ∷ cs) ≡ 0 = legible_stray (c ∷ cs) (omega arith) e in
    record { parts = []; same = rw z refl; stop = λ h. rw z e }

seen_first : (c : ℕ) (cs : List ℕ) → Seen (first_form (c ∷ cs)) c (get_or cs 0 0) (get_or cs 1 0) (get_or cs 2 0)
unfolding first_form
seen_first c cs = seen c (get_or cs 0 0) (get_or cs 1 0) (get_or cs 2 0)

front_on : (c : ℕ) (cs : List ℕ) → is_stray (first_form (c ∷ cs)) ≡ false
    → Front (drop (behind (first_form (c ∷ cs)) + 1) (c ∷ cs)) → Front (c ∷ cs)
front_on c cs calm s =
    let f : Form = first_form (c ∷ cs) in
    let k : ℕ = behind (first_form (c ∷ cs)) + 1 in
    let m : ℕ = legible 0 (drop (behind (first_form (c ∷ cs)) + 1) (c ∷ cs)) in
    let e : legible 0 (c ∷ cs) ≡ behind (first_form (c ∷ cs)) + 1 + m = legible_front (c ∷ cs) (omega arith) calm in
    let one = first_of (first_form (c ∷ cs)) c cs (seen_first c cs) calm in
    let k_is : behind (first_form (c ∷ cs)) + 1 ≡ suc (behind (first_form (c ∷ cs))) = omega arith in
    record {
      parts = reading (first_form (c ∷ cs)) s.parts;
      same = one.format s.parts
          ∙ ap (λ (x : List ℕ). bytes_in (first_form (c ∷ cs)) ++ x) s.same
          ∙ ap (λ (x : List ℕ). x ++ take m (drop k (c ∷ cs)))
          (sym one.bytes ∙ ap (λ (i : ℕ). take i (c ∷ cs)) (sym k_is))
          ∙ sym (take-add k m (c ∷ cs)) ∙ ap (λ (i : ℕ). take i (c ∷ cs)) (sym e);
      stop = λ h. ap (λ (x : List ℕ). is_stray (first_form x))
          (ap (λ (i : ℕ). drop i (c ∷ cs)) e ∙ sym (drop-drop m k (c ∷ cs)))
          ∙ s.stop (omega (arith, e, length-drop k (c ∷ cs)));
    }

pub front : (n : ℕ) (t : List ℕ) → length t ≤ n → Front t
unfolding format_of legible
front zero [] h = record { parts = []; same = refl; stop = λ g. absurd (omega arith) }
front zero (c ∷ cs) h = absurd (omega arith)
front (suc n) [] h = record { parts = []; same = refl; stop = λ g. absurd (omega arith) }
front (suc n) (c ∷ cs) h = go (is_stray (first_form (c ∷ cs))) refl
    (front n (drop (behind (first_form (c ∷ cs)) + 1) (c ∷ cs))
    (omega (arith, length-drop (behind (first_form (c ∷ cs)) + 1) (c ∷ cs))))
  where
    go : (b : Bool) → is_stray (first_form (c ∷ cs)) ≡ b → Front (drop (behind (first_form (c ∷ cs)) + 1) (c ∷ cs))
        → Front (c ∷ cs)
    go true e s = front_stray c cs e
    go false e s = front_on c cs e s

-- a text with no stray brace is the format text of what is read from it
pub same_text : (t : List ℕ) → legible 0 t ≡ length t → format_of (parts_in 0 t) ≡ t
same_text t e =
    let s = front (length t) t (omega arith) in
    let is : format_of s.parts ≡ t = s.same ∙ ap (λ (i : ℕ). take i t) e ∙ take-length t in
    ap (λ (x : List ℕ). format_of (parts_in 0 x)) (sym is) ∙ ap format_of (reads_back s.parts)
    ∙ format_normal s.parts ∙ is
