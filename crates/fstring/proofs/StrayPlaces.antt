-- Theorem 3: the position of 63. The reader passes the whole format text of any parts, whatever follows it
-- (`legal_with`). So a brace after such a text that starts none of the four forms is the first stray brace
-- (`place_refused`). Before the first stray brace there is the format text of some parts (`front`), so 63 is given
-- nowhere else (`refused_place`). The claim names the four forms by their bytes; `stray_none` and `none_stray` show
-- that these are the forms that the reader knows. Hence a text is not refused with 63 exactly if it is the format text
-- of some parts (`format_fits`, `read_format`). The inductions are those of `legal_with` and `front`. Assumes nothing.
use mathlib.Core.Path.{◌≡◌, refl, sym, ap, ◌∙◌}
use mathlib.Core.Bool.{Bool, true, false, ◌&&◌}
use mathlib.Core.Logic.{⊎_elim}
use mathlib.Core.List.{List, [], ◌∷◌, ◌++◌}
use Prim.Native.Nat.{ℕ, zero, suc, ◌*◌, ◌-◌, ◌<◌, ◌≤◌}
use native.Mathlib.Nat.{add-zero}
use native.Mathlib.Omega.{arith}
use lib.ListN.{length, get_or, take, drop, length-drop, take-append-drop}
use lib.Seq.{get_or-drop, get_or-take, length-take-le}
use lib.Dec.{eqb, leb}
use borrow.Author.Tests.{eq-eqb, ne_eqb, eqb-true, eqb-false}
use Rattle.fields.proofs.Basics.{clash, le_or_lt}
use Rattle.fields.specs.Choice.{if'}
use Rattle.table.specs.Numbers.{stray_brace, short_buffer}
use Rattle.table.specs.Answer.{Answer, accepted, refused}
use Rattle.fstring.specs.Parts.{Part, opening, closing, bang, letter_r, repr_form, is_brace}
use Rattle.fstring.specs.Parts.{format_of, normal, texts_of, is_short}
use Rattle.fstring.specs.Reading.{form_at, first_form, behind, legible, parts_in, reach, is_stray, read_of}
use Rattle.fstring.specs.Reading.{fit_check}
use Rattle.fstring.specs.declared.Form.{Form}
use Rattle.fstring.specs.declared.Form.TheVariants.{Plain, Doubled, Empty, Converted, Stray}
use Rattle.fstring.proofs.Forms.{Seen, seen, there, brace_not_zero, legible_stray}
use Rattle.fstring.proofs.Fronts.{front, same_text}
use Rattle.fstring.proofs.RoundTrips.{reads_back, legal_back, legal_with}
use Rattle.fstring.specs.Claims.{NoForm, StrayPlace}

-- the bytes at the front, where a form begins
front_byte : (n i : ℕ) (form l : List ℕ) → take n l ≡ form → i < n → get_or l i 0 ≡ get_or form i 0
front_byte n i form l e h = sym (get_or-take n l i 0 h) ∙ ap (λ (x : List ℕ). get_or x i 0) e

-- two bytes with which a form begins are not at the front of a stray brace
not_two : (l : List ℕ) (a b : ℕ) → is_stray (first_form l) ≡ true → ((c d : ℕ) → is_stray (form_at a b c d) ≡ false)
    → take 2 l ≡ a ∷ b ∷ [] → ⊥
unfolding first_form
not_two l a b e calm f =
    let x : get_or l 0 0 ≡ a = front_byte 2 0 _ l f (omega arith) in
    let y : get_or l 1 0 ≡ b = front_byte 2 1 _ l f (omega arith) in
    clash (rw (x, y) at e) (calm (get_or l 2 0) (get_or l 3 0))

-- a stray brace begins none of the four
pub stray_none : (l : List ℕ) → is_stray (first_form l) ≡ true → NoForm l
unfolding first_form form_at
stray_none l e = record {
  no_opening_twice = not_two l opening opening e (λ c d. refl);
  no_closing_twice = not_two l closing closing e (λ c d. refl);
  no_plain = not_two l opening closing e (λ c d. refl);
  no_repr = λ (b : take 4 l ≡ repr_form).
      let x : get_or l 0 0 ≡ opening = front_byte 4 0 _ l b (omega arith) in
      let y : get_or l 1 0 ≡ bang = front_byte 4 1 _ l b (omega arith) in
      let z : get_or l 2 0 ≡ letter_r = front_byte 4 2 _ l b (omega arith) in
      let v : get_or l 3 0 ≡ closing = front_byte 4 3 _ l b (omega arith) in
      clash (rw (x, y, z, v) at e) refl;
}

take_two : (l : List ℕ) → 1 < length l → take 2 l ≡ get_or l 0 0 ∷ get_or l 1 0 ∷ []
take_two [] h = absurd (omega arith)
take_two (a ∷ []) h = absurd (omega arith)
take_two (a ∷ b ∷ l) h = refl

take_four : (l : List ℕ) → 3 < length l → take 4 l ≡ get_or l 0 0 ∷ get_or l 1 0 ∷ get_or l 2 0 ∷ get_or l 3 0 ∷ []
take_four [] h = absurd (omega arith)
take_four (a ∷ []) h = absurd (omega arith)
take_four (a ∷ b ∷ []) h = absurd (omega arith)
take_four (a ∷ b ∷ c ∷ []) h = absurd (omega arith)
take_four (a ∷ b ∷ c ∷ d ∷ l) h = refl

two_alike : (a b : ℕ) → is_brace a ≡ true → b ≡ a
    → (a ∷ b ∷ [] ≡ opening ∷ opening ∷ [] → ⊥) → (a ∷ b ∷ [] ≡ closing ∷ closing ∷ [] → ⊥) → ⊥
two_alike a b brace same f g = go (eqb a opening) (eqb a closing) refl refl
  where
    go : (p q : Bool) → eqb a opening ≡ p → eqb a closing ≡ q → ⊥
    go true q p-is q-is = let e : a ≡ opening = eqb-true a opening p-is in f (rw (same, e) refl)
    go false true p-is q-is = let e : a ≡ closing = eqb-true a closing q-is in g (rw (same, e) refl)
    go false false p-is q-is = clash {b = is_brace a} brace (rw (p-is, q-is) refl)

-- a brace that begins none of the four is stray
pub none_stray : (l : List ℕ) → is_brace (get_or l 0 0) ≡ true → NoForm l → is_stray (first_form l) ≡ true
unfolding first_form
none_stray l brace s = go (form_at (get_or l 0 0) (get_or l 1 0) (get_or l 2 0) (get_or l 3 0))
    (seen (get_or l 0 0) (get_or l 1 0) (get_or l 2 0) (get_or l 3 0))
  where
    go : (f : Form) → Seen f (get_or l 0 0) (get_or l 1 0) (get_or l 2 0) (get_or l 3 0) → is_stray f ≡ true
    go (Plain x) t = clash brace t.1
    go (Doubled x) t =
        let two = take_two l (there l 1 (λ (z : get_or l 1 0 ≡ 0). brace_not_zero _ brace (sym t.twice ∙ z))) in
        absurd (two_alike _ _ brace t.twice (λ e. s.no_opening_twice (two ∙ e))
        (λ e. s.no_closing_twice (two ∙ e)))
    go Empty t =
        let two = take_two l (there l 1 (λ (z : get_or l 1 0 ≡ 0). absurd (omega (arith, t.1)))) in
        absurd (s.no_plain (two ∙ rw (t.0, t.1) refl))
    go Converted t =
        let four = take_four l (there l 3 (λ (z : get_or l 3 0 ≡ 0). absurd (omega (arith, t.closes)))) in
        absurd (s.no_repr (four ∙ rw (t.opens, t.marked, t.letter, t.closes) refl))
    go Stray t = refl

stray_brace_lem : (l : List ℕ) → is_stray (first_form l) ≡ true → is_brace (get_or l 0 0) ≡ true
unfolding first_form
stray_brace_lem l e = go (form_at (get_or l 0 0) (get_or l 1 0) (get_or l 2 0) (get_or l 3 0))
    (seen (get_or l 0 0) (get_or l 1 0) (get_or l 2 0) (get_or l 3 0)) e
  where
    go : (f : Form) → Seen f (get_or l 0 0) (get_or l 1 0) (get_or l 2 0) (get_or l 3 0) → is_stray f ≡ true
        → is_brace (get_or l 0 0) ≡ true
    go (Plain x) s e = clash e refl
    go (Doubled x) s e = clash e refl
    go Empty s e = clash e refl
    go Converted s e = clash e refl
    go Stray s e = s

brace_at : (t : List ℕ) (p : ℕ) → is_stray (first_form (drop p t)) ≡ true → is_brace (get_or t p 0) ≡ true
brace_at t p e = ap (λ (i : ℕ). is_brace (get_or t i 0)) (sym (add-zero p)) ∙ ap is_brace (sym (get_or-drop p t 0 0))
    ∙ stray_brace_lem (drop p t) e

legible_most : (k : ℕ) (t : List ℕ) → legible k t ≤ length t
unfolding legible
legible_most zero [] = omega arith
legible_most (suc k) [] = omega arith
legible_most (suc k) (c ∷ cs) = omega (arith, legible_most k cs)
legible_most zero (c ∷ cs) = go (first_form (c ∷ cs)) (legible (behind (first_form (c ∷ cs))) cs)
    (legible_most (behind (first_form (c ∷ cs))) cs)
  where
    go : (f : Form) (n : ℕ) → n ≤ length cs → reach f n ≤ suc (length cs)
    go (Plain x) n h = omega arith
    go (Doubled x) n h = omega arith
    go Empty n h = omega arith
    go Converted n h = omega arith
    go Stray n h = omega arith

pub place_refused : (t : List ℕ) (words bytes p : ℕ) → StrayPlace t p
    → read_of t words bytes ≡ refused stray_brace (p ∷ [])
unfolding read_of
place_refused t words bytes p s =
    let long : length (drop p t) ≡ length t - p = length-drop p t in
    let here : get_or (drop p t) 0 0 ≡ get_or t p 0 = get_or-drop p t 0 0 ∙ ap (λ (i : ℕ). get_or t i 0) (add-zero p) in
    let stray : is_stray (first_form (drop p t)) ≡ true =
    none_stray (drop p t) (ap is_brace here ∙ s.brace) s.no_form in
    let at : legible 0 t ≡ p =
    ap (legible 0) (sym (take-append-drop p t)) ∙ ap (λ (y : List ℕ). legible 0 (y ++ drop p t)) (sym s.before_it)
    ∙ omega (
      arith,
      legal_with s.parts (drop p t),
      legible_stray (drop p t) (omega (arith, s.inside)) stray,
      ap length s.before_it,
      length-take-le p t (omega (arith, s.inside)),
    ) in
    rw (at, ne_eqb p (length t) (λ (q : p ≡ length t). absurd (omega (arith, s.inside)))) refl

strictly : (a b : ℕ) → a ≤ b → eqb a b ≡ false → a < b
strictly a b h n = ⊎_elim (λ (f : b ≤ a). absurd (eqb-false a b n (omega arith))) (λ (f : a < b). f) (le_or_lt b a)

-- the first byte that is not read, if there is one, is at such a place
stray_place : (t : List ℕ) → legible 0 t < length t → StrayPlace t (legible 0 t)
stray_place t less =
    let s = front (length t) t (omega arith) in
    record {
      parts = s.parts;
      before_it = s.same;
      inside = less;
      brace = brace_at t (legible 0 t) (s.stop less);
      no_form = stray_none _ (s.stop less);
    }

-- the number of an answer, and the first number that a refusal carries
abbrev pub number_in : Answer → ℕ
number_in (accepted vs) = 0
number_in (refused n vs) = n

abbrev place_in : Answer → ℕ
place_in (accepted vs) = 0
place_in (refused n vs) = get_or vs 0 0

pub refused_place : (t : List ℕ) (words bytes p : ℕ) → read_of t words bytes ≡ refused stray_brace (p ∷ [])
    → StrayPlace t p
unfolding read_of fit_check
refused_place t words bytes p e = go (eqb (legible 0 t) (length t)) fit refl e
  where
    fit : Bool
    fit = leb (2 * length (parts_in 0 t)) words
        && (leb (length (texts_of (parts_in 0 t))) bytes && is_short (parts_in 0 t))

    go : (a b : Bool) → eqb (legible 0 t) (length t) ≡ a
        → if' a (λ _. if' b (λ _. accepted (length (parts_in 0 t) ∷ length (texts_of (parts_in 0 t)) ∷ []))
        (λ _. refused short_buffer [])) (λ _. refused stray_brace (legible 0 t ∷ [])) ≡ refused stray_brace (p ∷ [])
        → StrayPlace t p
    go true true a-is e = absurd (omega (arith, ap number_in e))
    go true false a-is e = absurd (omega (arith, ap number_in e))
    go false b a-is e =
        let at : p ≡ legible 0 t = ap place_in (sym e) in
        rw at (stray_place t (strictly (legible 0 t) (length t) (legible_most 0 t) a-is))

-- so a format text is never refused with 63, only with 7; and a text that is not 63 is the format text of what is read
-- from it
pub format_fits : (ps : List Part) (words bytes : ℕ)
    → read_of (format_of ps) words bytes ≡ fit_check (normal ps) words bytes
unfolding read_of
format_fits ps words bytes = rw (
  eq-eqb (legible 0 (format_of ps)) (length (format_of ps)) (legal_back ps),
  reads_back ps,
) refl

pub read_format : (t : List ℕ) (words bytes : ℕ) → ((p : ℕ) → read_of t words bytes ≡ refused stray_brace (p ∷ []) → ⊥)
    → format_of (parts_in 0 t) ≡ t
unfolding read_of
read_format t words bytes h = go (eqb (legible 0 t) (length t)) refl
  where
    go : (a : Bool) → eqb (legible 0 t) (length t) ≡ a → format_of (parts_in 0 t) ≡ t
    go true e = same_text t (eqb-true (legible 0 t) (length t) e)
    go false e = absurd (h (legible 0 t) (rw e refl))
