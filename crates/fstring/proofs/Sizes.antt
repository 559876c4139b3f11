-- A room is counted down, so that no sum can wrap: `leaving n room` is what is left of a room after n bytes, or Short.
-- Counting down by a and then by b is counting down by a + b (`leaving_both`). So the loop over a text has the
-- invariant `Sizing`: taking the rest of the text from the rest of the room gives the same as taking the whole text
-- from the whole room. Each byte of text keeps it, with one or two bytes for its form. Cite `size_on`, `size_stop`,
-- `size_end`. Assumes nothing.
use Rattle.std.specs.Prelude.{None, Option, Some, ℕ}
use mathlib.Core.Path.{◌≡◌, refl, sym, ap, ◌∙◌}
use mathlib.Core.Logic.{⊎_elim}
use mathlib.Core.Bool.{Bool, true, false}
use mathlib.Core.List.{List, [], ◌++◌}
use Prim.Native.Nat.{ℕ, ◌+◌, ◌-◌, ◌<◌, ◌≤◌}
use native.Mathlib.Nat.{sub-zero}
use native.Mathlib.Numerals.{add-one}
use native.Mathlib.Omega.{arith}
use lib.ListN.{length, get_or, drop, length-append, drop_of_length-le}
use lib.Seq.{drop-cons}
use borrow.Author.Tests.{le-leb, lt-leb}
use Rattle.fields.proofs.Basics.{never, le_or_lt}
use Rattle.fstring.specs.Parts.{is_brace, escape, escaped}
use Rattle.fstring.specs.Steps.{leaving}

module _ (n room : ℕ) where
  pub leaving_fits : n ≤ room → Some (room - n) ≡ leaving n room
  unfolding leaving
  leaving_fits h = rw (le-leb n room h) refl

  pub leaving_short : room < n → None ≡ leaving n room
  unfolding leaving
  leaving_short h = rw (lt-leb n room h) refl

pub leaving_none : (room : ℕ) → Some room ≡ leaving 0 room
unfolding leaving
leaving_none room = rw (le-leb 0 room (omega arith), sub-zero room) refl

module _ (a b room : ℕ) where
  pub leaving_both : a ≤ room → leaving b (room - a) ≡ leaving (a + b) room
  leaving_both h = ⊎_elim
      (λ (f : a + b ≤ room).
      let e : room - a - b ≡ room - (a + b) = omega arith in
      sym (leaving_fits b (room - a) (omega arith)) ∙ ap Some e ∙ leaving_fits (a + b) room f)
      (λ (f : room < a + b). sym (leaving_short b (room - a) (omega arith)) ∙ leaving_short (a + b) room f)
      (le_or_lt (a + b) room)

  pub leaving_over : room < a → None ≡ leaving (a + b) room
  leaving_over h = leaving_short (a + b) room (omega arith)

-- what an answer says about n and the room
unfoldable left_in : Option ℕ → ℕ
left_in (Some m) = m
left_in None = 0

unfoldable tagged : Option ℕ → ℕ
tagged (Some m) = 0
tagged None = 1

pub leaving_not : (n room : ℕ) → leaving n room ≡ None → room < n
unfolding left_in tagged
leaving_not n room e = ⊎_elim
    (λ (f : n ≤ room). never (ap tagged (leaving_fits n room f ∙ e)))
    (λ (f : room < n). f)
    (le_or_lt n room)

pub leaving_left : (n room m : ℕ) → leaving n room ≡ Some m → (n ≤ room) × (m ≡ room - n)
unfolding left_in tagged
leaving_left n room m e = ⊎_elim
    (λ (f : n ≤ room). (f, ap left_in (sym e ∙ sym (leaving_fits n room f))))
    (λ (f : room < n). never (ap tagged (sym e ∙ sym (leaving_short n room f))))
    (le_or_lt n room)

-- the number of bytes that a byte of text takes
module _ (c : ℕ) {q : Bool} (q-is : q ≡ is_brace c) where
  pub size_two : q ≡ true → 2 ≡ length (escape c)
  unfolding escape
  size_two h = rw (sym q-is ∙ h) refl

  pub size_one : q ≡ false → 1 ≡ length (escape c)
  unfolding escape
  size_one h = rw (sym q-is ∙ h) refl

-- the first byte of what is left of a text
pub escaped_step : (bytes : List ℕ) (i : ℕ) → i < length bytes
    → escaped (drop i bytes) ≡ escape (get_or bytes i 0) ++ escaped (drop (i + 1) bytes)
unfolding escaped
escaped_step bytes i h = rw (drop-cons bytes i 0 h, add-one i) refl

pub escaped_past : (bytes : List ℕ) (i : ℕ) → length bytes ≤ i → escaped (drop i bytes) ≡ []
unfolding escaped
escaped_past bytes i h = rw (drop_of_length-le bytes {i = i} h) refl

pub record Sizing (bytes : List ℕ) (room spare i : ℕ) : Type 0 where
  pub left : leaving (length (escaped (drop i bytes))) spare ≡ leaving (length (escaped bytes)) room

pub size_start : (bytes : List ℕ) (room : ℕ) → Sizing bytes room room 0
size_start bytes room = record { left = refl }

module _ {bytes : List ℕ} {room spare i : ℕ} (s : Sizing bytes room spare i) where
  module _ (h : i < length bytes) {n : ℕ} (n_is : n ≡ length (escape (get_or bytes i 0))) where
    long : length (escaped (drop i bytes)) ≡ n + length (escaped (drop (i + 1) bytes))
    long = ap length (escaped_step bytes i h)
        ∙ length-append (escape (get_or bytes i 0)) (escaped (drop (i + 1) bytes))
        ∙ ap (λ (m : ℕ). m + length (escaped (drop (i + 1) bytes))) (sym n_is)

    pub size_stop : spare < n → None ≡ leaving (length (escaped bytes)) room
    size_stop f = leaving_over n (length (escaped (drop (i + 1) bytes))) spare f
        ∙ ap (λ (m : ℕ). leaving m spare) (sym long) ∙ s.left

    pub size_on : n ≤ spare → Sizing bytes room (spare - n) (i + 1)
    size_on f = record {
      left = leaving_both n (length (escaped (drop (i + 1) bytes))) spare f
          ∙ ap (λ (m : ℕ). leaving m spare) (sym long) ∙ s.left;
    }

  pub size_end : length bytes ≤ i → Some spare ≡ leaving (length (escaped bytes)) room
  size_end h = leaving_none spare
      ∙ ap (λ (t : List ℕ). leaving (length t) spare) (sym (escaped_past bytes i h)) ∙ s.left
