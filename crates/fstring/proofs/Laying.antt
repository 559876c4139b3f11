-- The writer goes from left to right. The invariant of its two loops is: what is still to be written, laid over the
-- buffer as it is now, gives the buffer at exit (`Laying` for the bytes of a text, `Writing` for the parts; field
-- `same`). A byte or a part that is written moves from what is left into the buffer (`over_next`), and at the end
-- nothing is left. A brace takes two bytes and any other byte one (`byte_twice`, `byte_once`); there is room, because
-- the whole text fits. Cite `lay_on`, `lay_end` for a text and `parts_on`, `parts_end` for the parts. Assumes nothing.
use Rattle.std.specs.Prelude.{Option, ℕ}
use mathlib.Core.Path.{◌≡◌, refl, sym, ap, ◌∙◌}
use mathlib.Core.Bool.{Bool, true, false}
use mathlib.Core.List.{List, [], ◌∷◌, ◌++◌}
use Prim.Native.Nat.{ℕ, suc, ◌+◌, ◌*◌, ◌-◌, ◌<◌, ◌≤◌}
use native.Mathlib.Nat.{sub-zero}
use native.Mathlib.Numerals.{add-one}
use native.Mathlib.Omega.{arith}
use lib.ListN.{length, get_or, take, drop, set, length-append}
use lib.Dec.{eqb}
use borrow.Author.Tests.{ne_eqb}
use Rattle.fields.proofs.Fields.{tail_part}
use Rattle.fields.specs.Choice.{if'}
use Rattle.fields.proofs.Over.{over_none, length_over, over_next, over_sets}
use Rattle.fields.specs.Over.{over}
use Rattle.fstring.specs.Parts.{none, str, is_brace, escape, escaped, form_of, plain_form, repr_form}
use Rattle.fstring.specs.Words.{is_whole, part_of}
use Rattle.fstring.specs.Writing.{text_for}
use Rattle.fstring.specs.Steps.{leaving}
use Rattle.fstring.proofs.Sizes.{escaped_step, escaped_past}
use Rattle.fstring.proofs.Counting.{Pair, length_left, first_length, first_fits, rest_of, parts_step, parts_past}

-- a byte of text: a brace is written twice, any other byte once
module _ (c at : ℕ) (d : List ℕ) (h : at + length (escape c) ≤ length d) where
  pub byte_room : at < length d
  unfolding escape
  byte_room = go (is_brace c) refl
    where
      go : (t : Bool) → is_brace c ≡ t → at < length d
      go true e = let f : at + 2 ≤ length d = rw e at h in omega arith
      go false e = let f : at + 1 ≤ length d = rw e at h in omega arith

  module _ {q : Bool} (q-is : q ≡ is_brace c) where
    pub brace_room : q ≡ true → at + 1 < length d
    unfolding escape
    brace_room e = let f : at + 2 ≤ length d = rw (sym q-is ∙ e) at h in omega arith

    pub byte_twice : q ≡ true
        → (at + 2 ≡ at + length (escape c)) × (set (set d at c) (at + 1) c ≡ over at (escape c) d)
    unfolding escape
    byte_twice e =
        let b : is_brace c ≡ true = sym q-is ∙ e in
        let f : at + 2 ≤ length d = rw b at h in
        (rw b refl, rw (b, add-one at) (over_sets at (c ∷ c ∷ []) d f))

    pub byte_once : q ≡ false → (at + 1 ≡ at + length (escape c)) × (set d at c ≡ over at (escape c) d)
    unfolding escape
    byte_once e =
        let b : is_brace c ≡ false = sym q-is ∙ e in
        let f : at + 1 ≤ length d = rw b at h in
        (rw b refl, rw b (over_sets at (c ∷ []) d f))

-- the invariant of the loop over the bytes of a text
pub record Laying (d bytes : List ℕ) (at : ℕ) (out : List ℕ) (p i : ℕ) : Type 0 where
  pub long : length out ≡ length d
  pub fits : at + length (escaped bytes) ≤ length d
  pub place : p + length (escaped (drop i bytes)) ≡ at + length (escaped bytes)
  pub same : over p (escaped (drop i bytes)) out ≡ over at (escaped bytes) d

pub lay_start : (d bytes : List ℕ) (at : ℕ) → at + length (escaped bytes) ≤ length d → Laying d bytes at d at 0
lay_start d bytes at h = record { long = refl; fits = h; place = refl; same = refl }

module _ {d bytes : List ℕ} {at : ℕ} {out : List ℕ} {p i : ℕ} (s : Laying d bytes at out p i) where
  pub lay_long : length out ≡ length d
  lay_long = s.long

  module _ (h : i < length bytes) where
    abbrev rest : List ℕ
    rest = escaped (drop (i + 1) bytes)

    sizes : length (escaped (drop i bytes)) ≡ length (escape (get_or bytes i 0)) + length rest
    sizes = ap length (escaped_step bytes i h) ∙ length-append (escape (get_or bytes i 0)) rest

    pub lay_room : p + length (escape (get_or bytes i 0)) ≤ length out
    lay_room = omega (arith, sizes, s.place, s.fits, s.long)

    module _ {r : ℕ} (r-is : r ≡ p + length (escape (get_or bytes i 0))) {o : List ℕ}
        (o_is : o ≡ over p (escape (get_or bytes i 0)) out) where
      pub lay_on : Laying d bytes at o r (i + 1)
      lay_on = record {
        long = ap length o_is ∙ length_over p (escape (get_or bytes i 0)) out lay_room ∙ s.long;
        fits = s.fits;
        place = rw r-is (omega (arith, sizes, s.place));
        same = rw (r-is, o_is) (over_next p (escape (get_or bytes i 0)) out rest
            ∙ ap (λ (t : List ℕ). over p t out) (sym (escaped_step bytes i h)) ∙ s.same);
      }

  pub lay_end : length bytes ≤ i → (p ≡ at + length (escaped bytes)) × (out ≡ over at (escaped bytes) d)
  lay_end h =
      let none : escaped (drop i bytes) ≡ [] = escaped_past bytes i h in
      let place : p + 0 ≡ at + length (escaped bytes) = rw none at s.place in
      (omega arith, sym (over_none p out) ∙ ap (λ (t : List ℕ). over p t out) (sym none) ∙ s.same)

-- a part's form by its first word: text, repr, and the others
pub text_form : (kind : ℕ) (bytes : List ℕ) → kind ≡ 0 → form_of (part_of kind bytes) ≡ escaped bytes
unfolding form_of part_of
text_form kind bytes e = rw e refl

pub repr_form_lem : (kind : ℕ) (bytes : List ℕ) → kind ≡ 3 → form_of (part_of kind bytes) ≡ repr_form
unfolding form_of part_of
repr_form_lem kind bytes e = rw e refl

pub plain_is : (kind : ℕ) (bytes : List ℕ) → (kind ≡ 0 → ⊥) → (kind ≡ 3 → ⊥) → form_of (part_of kind bytes) ≡ plain_form
unfolding form_of part_of
plain_is kind bytes a b = rw (ne_eqb kind 0 a, ne_eqb kind 3 b) (go (eqb kind 2))
  where
    go : (t : Bool) → form_of (if' t (λ _. str) (λ _. none)) ≡ plain_form
    go true = refl
    go false = refl

-- the room of a part
module _ (kind room : ℕ) (bytes : List ℕ) {r : Option ℕ} where
  pub text_left : kind ≡ 0 → r ≡ leaving (length (escaped bytes)) room
      → r ≡ leaving (length (form_of (part_of kind bytes))) room
  text_left e r-is = rw (text_form kind bytes e) r-is

  pub repr_left : kind ≡ 3 → r ≡ leaving 4 room → r ≡ leaving (length (form_of (part_of kind bytes))) room
  repr_left e r-is = rw (repr_form_lem kind bytes e) r-is

  pub plain_left : (kind ≡ 0 → ⊥) → (kind ≡ 3 → ⊥) → r ≡ leaving 2 room
      → r ≡ leaving (length (form_of (part_of kind bytes))) room
  plain_left a b r-is = rw (plain_is kind bytes a b) r-is

pub text_laid : (kind at : ℕ) (bytes d : List ℕ) → kind ≡ 0 → {r : ℕ} → r ≡ at + length (escaped bytes)
    → {o : List ℕ} → o ≡ over at (escaped bytes) d
    → (r ≡ at + length (form_of (part_of kind bytes))) × (o ≡ over at (form_of (part_of kind bytes)) d)
text_laid kind at bytes d e r-is o_is = (rw (text_form kind bytes e) r-is, rw (text_form kind bytes e) o_is)

-- the two forms of expressions
module _ (kind at : ℕ) (bytes d : List ℕ) (h : at + length (form_of (part_of kind bytes)) ≤ length d) where
  pub repr_room : kind ≡ 3 → at + 4 ≤ length d
  unfolding form_of part_of
  repr_room e = rw e at h

  pub text_room : kind ≡ 0 → at + length (escaped bytes) ≤ length d
  unfolding form_of part_of
  text_room e = rw e at h

  module _ (e : kind ≡ 3) where
    pub repr_first : at < length d
    repr_first = omega (arith, repr_room e)

    pub repr_second : at + 1 < length d
    repr_second = omega (arith, repr_room e)

    pub repr_third : at + 2 < length d
    repr_third = omega (arith, repr_room e)

    pub repr_fourth : at + 3 < length d
    repr_fourth = omega (arith, repr_room e)

  pub repr_laid : kind ≡ 3 → (at + 4 ≡ at + length (form_of (part_of kind bytes)))
      × (set (set (set (set d at 123) (at + 1) 33) (at + 2) 114) (at + 3) 125
      ≡ over at (form_of (part_of kind bytes)) d)
  unfolding form_of part_of
  repr_laid e =
      let two : at + 2 ≡ suc (suc at) = omega arith in
      let three : at + 3 ≡ suc (suc (suc at)) = omega arith in
      (rw e refl, rw (e, add-one at, two, three) (over_sets at repr_form d (repr_room e)))

  module _ (a : kind ≡ 0 → ⊥) (b : kind ≡ 3 → ⊥) where
    pub plain_room : at + 2 ≤ length d
    plain_room = rw (plain_is kind bytes a b) at h

    pub plain_first : at < length d
    plain_first = omega (arith, plain_room)

    pub plain_second : at + 1 < length d
    plain_second = omega (arith, plain_room)

    pub plain_laid : (at + 2 ≡ at + length (form_of (part_of kind bytes)))
        × (set (set d at 123) (at + 1) 125 ≡ over at (form_of (part_of kind bytes)) d)
    plain_laid = (
      rw (plain_is kind bytes a b) refl,
      rw (plain_is kind bytes a b, add-one at) (over_sets at plain_form d plain_room),
    )

-- the invariant of the loop over the parts
pub record Writing (ws ts d left more out : List ℕ) (at : ℕ) : Type 0 where
  pub whole : is_whole left (length more) ≡ true
  pub long : length out ≡ length d
  pub fits : at + length (text_for left more) ≤ length out
  pub same : over at (text_for left more) out ≡ over 0 (text_for ws ts) d

pub parts_start : (ws ts d : List ℕ) {left : List ℕ} → left ≡ ws
    → (is_whole ws (length ts) ≡ true) × (length (text_for ws ts) ≤ length d) → Writing ws ts d left ts d 0
parts_start ws ts d is (e, h) = rw is record { whole = e; long = refl; fits = omega arith; same = refl }

module _ {ws ts d left more out : List ℕ} {at : ℕ} (s : Writing ws ts d left more out at) where
  pub parts_long : length out ≡ length d
  parts_long = s.long

  module _ {part rest : List ℕ} (p : Pair left part rest) {n : ℕ} (n_here : n ≡ first_length part) where
    n_is : n ≡ first_length left
    n_is = length_left p n_here

    pub part_fits : n ≤ length more
    part_fits = omega (arith, n_is, first_fits left (length more) s.whole p.two)

    -- the code cuts the text from 0 to n
    abbrev form : List ℕ
    form = form_of (part_of (get_or part 0 0) (take (n - 0) more))

    abbrev others : List ℕ
    others = text_for rest (drop n more)

    both : text_for left more ≡ form ++ others
    both = parts_step left more p.two ∙ rw (← n_is, p.kind, p.after, sub-zero n) refl

    size : length (text_for left more) ≡ length form + length others
    size = ap length both ∙ length-append form others

    pub part_room : at + length (form_of (part_of (get_or part 0 0) (take (n - 0) more))) ≤ length out
    part_room = omega (arith, size, s.fits)

    module _ {r : ℕ} (r-is : r ≡ at + length (form_of (part_of (get_or part 0 0) (take (n - 0) more)))) {o : List ℕ}
        (o_is : o ≡ over at (form_of (part_of (get_or part 0 0) (take (n - 0) more))) out) where
      o_long : length o ≡ length out
      o_long = ap length o_is ∙ length_over at form out part_room

      pub parts_on : Writing ws ts d rest (take (length more - n) (drop n more)) o r
      parts_on = record {
        whole = rw (← p.after, tail_part n more, n_is) (rest_of left more s.whole p.two);
        long = o_long ∙ s.long;
        fits = rw (tail_part n more, r-is) (omega (arith, size, s.fits, o_long));
        same = rw (tail_part n more, r-is, o_is)
            (over_next at form out others
            ∙ ap (λ (t : List ℕ). over at t out) (sym both) ∙ s.same);
      }

  pub parts_end : {size : ℕ} → size ≡ 2 → length left < size → out ≡ over 0 (text_for ws ts) d
  parts_end size-is few = sym (over_none at out)
      ∙ ap (λ (t : List ℕ). over at t out) (sym (parts_past left more (omega arith))) ∙ s.same

-- two words of the last part, which the reader writes
module _ (kind n count : ℕ) (d : List ℕ) (h : (1 ≤ count) × (2 * count ≤ length d)) where
  pub pair_second : 2 * count - 2 + 1 < length d
  pair_second = omega (arith, h.0, h.1)

  pub pair_laid : set (set d (2 * count - 2) kind) (2 * count - 2 + 1) n ≡ over (2 * count - 2) (kind ∷ n ∷ []) d
  pair_laid = rw (add-one (2 * count - 2)) (over_sets (2 * count - 2) (kind ∷ n ∷ []) d (omega (arith, h.0, h.1)))
