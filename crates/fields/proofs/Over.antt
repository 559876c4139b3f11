-- Laws of bytes laid over a buffer. Laid bytes split the buffer in three: what is before them, themselves, and what
-- is behind (`over`). A place past the end has nothing behind it, so what is laid up to the end of the bytes
-- (`over_upto`) and what is left behind (`over_from`) need no premise: both cases of `le_or_lt` agree. Two stretches
-- one after the other are therefore one (`over_next`), and a part that is lent from a place on, with bytes laid over
-- its front, is the whole with them laid over that place (`over_part`). Bytes stored one by one are laid (`over_sets`).
-- Only the length needs room (`length_over`). Assumes nothing.
use mathlib.Core.Path.{◌≡◌, refl, sym, ap, ◌∙◌}
use mathlib.Core.List.{List, [], ◌++◌, append_assoc, append-nil}
use mathlib.Core.Logic.{⊎_elim}
use Prim.Native.Nat.{ℕ, ◌+◌, ◌-◌, ◌<◌, ◌≤◌}
use native.Mathlib.Nat.{add-zero, zero-add}
use native.Mathlib.Omega.{arith}
use lib.ListN.{length, take, drop, length-append, length-drop, take-append-drop, drop_of_length-le}
use lib.Seq.{length-take-le, take_at, drop_at, drop-drop, take_all, sets, sets-eq}
use borrow.Rule.Slice.PartMut.{put_mid}
use Rattle.fields.specs.Over.{over}
use Rattle.fields.proofs.Basics.{le_or_lt}
use Rattle.fields.proofs.Fields.{tail_part}

-- nothing is laid over
pub over_none : (at : ℕ) (d : List ℕ) → over at [] d ≡ d
unfolding over
over_none at d = rw (add-zero at) (take-append-drop at d)

-- laid over the front
pub over_front : (a d : List ℕ) → over 0 a d ≡ a ++ drop (length a) d
unfolding over
over_front a d = rw (zero-add (length a)) refl

module _ (at : ℕ) (a d : List ℕ) where
  pub length_over : at + length a ≤ length d → length (over at a d) ≡ length d
  unfolding over
  length_over h = simp (length-append, length-take-le at d (omega arith), length-drop) (omega arith)

  -- bytes stored one after another
  pub over_sets : at + length a ≤ length d → sets d at a ≡ over at a d
  unfolding over
  over_sets h = sets-eq a d at h ∙ append_assoc (take at d) a (drop (at + length a) d)

  parts : over at a d ≡ (take at d ++ a) ++ drop (at + length a) d
  unfolding over
  parts = sym (append_assoc (take at d) a (drop (at + length a) d))

  -- a place inside the buffer: the bytes end behind as many as are before them
  long : at ≤ length d → length (take at d ++ a) ≡ at + length a
  long h = simp (length-append, length-take-le at d h) refl

  -- a place past its end: nothing is behind the bytes
  module _ (h : length d < at) where
    whole : over at a d ≡ take at d ++ a
    whole = parts ∙ rw (drop_of_length-le d {i = at + length a} (omega arith)) (append-nil (take at d ++ a))

    ends : length (take at d ++ a) ≤ at + length a
    ends = simp (length-append, take_all at d (omega arith)) (omega arith)

  -- what is there up to the end of the bytes, and from there on
  pub over_upto : take (at + length a) (over at a d) ≡ take at d ++ a
  over_upto = ⊎_elim
      (λ (h : at ≤ length d). ap (take (at + length a)) parts
      ∙ take_at (take at d ++ a) (drop (at + length a) d) (at + length a) (long h))
      (λ (h : length d < at). ap (take (at + length a)) (whole h)
      ∙ take_all (at + length a) (take at d ++ a) (ends h))
      (le_or_lt at (length d))

  pub over_from : drop (at + length a) (over at a d) ≡ drop (at + length a) d
  over_from = ⊎_elim
      (λ (h : at ≤ length d). ap (drop (at + length a)) parts
      ∙ drop_at (take at d ++ a) (drop (at + length a) d) (at + length a) (long h))
      (λ (h : length d < at). ap (drop (at + length a)) (whole h)
      ∙ drop_of_length-le (take at d ++ a) {i = at + length a} (ends h)
      ∙ sym (drop_of_length-le d {i = at + length a} (omega arith)))
      (le_or_lt at (length d))

  -- LAW: a part and the next one are both
  pub over_next : (b : List ℕ) → over (at + length a) b (over at a d) ≡ over at (a ++ b) d
  unfolding over
  over_next b =
      let n : ℕ = at + length a in
      let rest : List ℕ = drop (n + length b) d in
      let behind : drop (n + length b) (over at a d) ≡ rest =
      sym (drop-drop (length b) n (over at a d)) ∙ ap (drop (length b)) over_from ∙ drop-drop (length b) n d in
      let upto : n + length b ≡ at + length (a ++ b) = omega (arith, length-append a b) in
      ap (λ (x : List ℕ). x ++ (b ++ drop (n + length b) (over at a d))) over_upto
      ∙ ap (λ (x : List ℕ). (take at d ++ a) ++ (b ++ x)) behind
      ∙ append_assoc (take at d) a (b ++ rest)
      ∙ ap (λ (x : List ℕ). take at d ++ x) (sym (append_assoc a b rest))
      ∙ ap (λ (m : ℕ). take at d ++ ((a ++ b) ++ drop m d)) upto

  -- LAW: a part of the buffer that is lent from a place on, with bytes laid over its front
  pub over_part : {ys : List ℕ} → ys ≡ over 0 a (take (length d - at) (drop at d))
      → put_mid at (length d - at) d ys ≡ over at a d
  unfolding over
  over_part ys-is =
      let behind : drop (length a) (drop at d) ≡ drop (at + length a) d = drop-drop (length a) at d in
      let none : drop (length d - at) (drop at d) ≡ [] =
      drop_of_length-le (drop at d) {i = length d - at} (simp length-drop (omega arith)) in
      rw (ys-is, none, tail_part at d, zero-add (length a), behind, append-nil) refl
