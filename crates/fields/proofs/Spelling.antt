-- Numbers as bytes, for all widths. Reading gives back a number that was spelled, if it fits the width (`field_bytes`),
-- and spelling gives back bytes that were read, if each is below 256 (`bytes_field`). So one changed byte changes the
-- number (`field_changed`): the byte is the lowest one, or a byte of the field behind it, and the induction is on the
-- width. The laws `bytes-...` say that parts, joined lists and stored bytes are bytes again; `field_behind` and
-- `field_before` find a field in a joined list.
use mathlib.Core.Path.{◌≡◌, refl, sym, ap, ◌∙◌}
use mathlib.Core.Logic.{⊎_elim}
use mathlib.Core.List.{List, [], ◌∷◌, ◌++◌}
use Prim.Native.Nat.{ℕ, zero, suc, ◌+◌, ◌*◌, ◌-◌, ◌/◌, ◌%◌, ◌<◌, ◌≤◌, ◌^◌}
use native.Mathlib.Nat.{pow-succ'}
use native.Mathlib.Numerals.{add-one}
use native.Mathlib.Omega.{arith}
use lib.ListN.{length, get_or, take, drop, set, replicate, length-take, get_or-append, get_or-eq_default}
use lib.Seq.{get_or-take, get_or-drop, get_or-set_same, get_or-set_other, drop-cons, drop-append_seam}
use Rattle.fields.specs.Field.{field, bytes_of}
use Rattle.fields.proofs.Basics.{le_or_lt}
use Rattle.fields.proofs.Fields.{field_drop}

-- every byte is below 256
abbrev pub Bytes : List ℕ → Type 0
Bytes l = (i : ℕ) → get_or l i 0 < 256

pub bytes_take : (l : List ℕ) (n : ℕ) → Bytes l → Bytes (take n l)
bytes_take l n small i = ⊎_elim
    (λ (h : n ≤ i). let e : get_or (take n l) i 0
    ≡ 0 = get_or-eq_default (take n l) 0 (simp length-take (omega arith)) in omega arith)
    (λ (h : i < n). rw (get_or-take n l i 0 h) (small i))
    (le_or_lt n i)

pub bytes_append : (a l : List ℕ) → Bytes a → Bytes l → Bytes (a ++ l)
bytes_append [] l p q i = q i
bytes_append (x ∷ a) l p q zero = p zero
bytes_append (x ∷ a) l p q (suc i) = bytes_append a l (λ j. p (suc j)) q i

pub bytes_zeros : (n : ℕ) → Bytes (replicate n 0)
bytes_zeros zero i = omega arith
bytes_zeros (suc n) zero = omega arith
bytes_zeros (suc n) (suc i) = bytes_zeros n i

pub bytes_drop : (l : List ℕ) (n : ℕ) → Bytes l → Bytes (drop n l)
bytes_drop l n small i = rw (get_or-drop n l i 0) (small (n + i))

pub bytes_set : (l : List ℕ) (i x : ℕ) → Bytes l → x < 256 → Bytes (set l i x)
bytes_set [] i x small h j = small j
bytes_set (y ∷ l) zero x small h zero = h
bytes_set (y ∷ l) zero x small h (suc j) = small (suc j)
bytes_set (y ∷ l) (suc i) x small h zero = small zero
bytes_set (y ∷ l) (suc i) x small h (suc j) = bytes_set l i x (λ k. small (suc k)) h j

pub bytes_spelled : (w n : ℕ) → Bytes (bytes_of w n)
unfolding bytes_of
bytes_spelled zero n i = omega arith
bytes_spelled (suc w) n zero = omega arith
bytes_spelled (suc w) n (suc i) = bytes_spelled w (n / 256) i

pub length_bytes : (w n : ℕ) → length (bytes_of w n) ≡ w
unfolding bytes_of
length_bytes zero n = refl
length_bytes (suc w) n = ap suc (length_bytes w (n / 256))

-- a field behind the front of a list, and one in it
pub field_behind : (w : ℕ) (a l : List ℕ) (at : ℕ) → field w (a ++ l) (length a + at) ≡ field w l at
field_behind w a l at = sym (field_drop w (a ++ l) (length a) at)
    ∙ ap (λ (x : List ℕ). field w x at) (drop-append_seam a l)

pub field_before : (w : ℕ) (a l : List ℕ) (at : ℕ) → at + w ≤ length a → field w (a ++ l) at ≡ field w a at
unfolding field
field_before zero a l at h = refl
field_before (suc w) a l at h = rw (
  get_or-append a l 0 at (omega arith),
  field_before w a l (at + 1) (omega arith),
) refl

-- LAW: a number that fits is read as it is spelled
pub field_bytes : (w n : ℕ) (l : List ℕ) → n < 256 ^ w → field w (bytes_of w n ++ l) 0 ≡ n
unfolding field bytes_of
field_bytes zero n l h = omega arith
field_bytes (suc w) n l h =
    let small : n / 256 < 256 ^ w = omega (arith, pow-succ' 256 w) in
    let rest : field w (bytes_of w (n / 256) ++ l) 0 ≡ n / 256 = field_bytes w (n / 256) l small in
    let here : field w (n % 256 ∷ bytes_of w (n / 256) ++ l) (0 + 1) ≡ field w (bytes_of w (n / 256) ++ l) 0 =
    sym (field_drop w (n % 256 ∷ bytes_of w (n / 256) ++ l) 1 0) in
    omega (arith, here, rest)

-- LAW: bytes are spelled as they are read
pub bytes_field : (w : ℕ) (l : List ℕ) (at : ℕ) → Bytes l → at + w ≤ length l
    → bytes_of w (field w l at) ≡ take w (drop at l)
unfolding field bytes_of
bytes_field zero l at small h = refl
bytes_field (suc w) l at small h =
    let b : get_or l at 0 < 256 = small at in
    let low : (get_or l at 0 + 256 * field w l (at + 1)) % 256 ≡ get_or l at 0 = omega arith in
    let high : (get_or l at 0 + 256 * field w l (at + 1)) / 256 ≡ field w l (at + 1) = omega arith in
    rw (low, high, bytes_field w l (at + 1) small (omega arith), drop-cons l at 0 (omega arith), ← add-one at) refl

-- a byte changed elsewhere
pub field_outside : (w : ℕ) (l : List ℕ) (at i v : ℕ) → i < at → field w (set l i v) at ≡ field w l at
unfolding field
field_outside zero l at i v h = refl
field_outside (suc w) l at i v h =
    let other : at ≡ i → ⊥ = λ e. omega arith in
    rw (get_or-set_other l i at v 0 other, field_outside w l (at + 1) i v (omega arith)) refl

-- LAW: one changed byte changes the field
pub field_changed : (w : ℕ) (l : List ℕ) (at i v : ℕ) → at ≤ i → i < at + w → i < length l
    → field w (set l i v) at ≡ field w l at → v ≡ get_or l i 0
unfolding field
field_changed zero l at i v h k m e = absurd (omega arith)
field_changed (suc w) l at i v h k m e = go (i - at) refl (field_changed w l (at + 1) i v)
  where
    go : (n : ℕ) → i - at ≡ n → (at + 1 ≤ i → i < at + 1 + w → i < length l
        → field w (set l i v) (at + 1) ≡ field w l (at + 1) → v ≡ get_or l i 0) → v ≡ get_or l i 0
    go zero d rest =
        let here : at ≡ i = omega arith in
        let same : field w (set l i v) (at + 1)
        ≡ field w l (at + 1) = field_outside w l (at + 1) i v (omega arith) in
        let new : get_or (set l i v) at 0 ≡ v = rw here (get_or-set_same l i v 0 m) in
        let old : get_or l at 0 ≡ get_or l i 0 = rw here refl in
        omega (arith, e)
    go (suc n) d rest =
        let other : at ≡ i → ⊥ = λ q. omega arith in
        let same : get_or (set l i v) at 0 ≡ get_or l at 0 = get_or-set_other l i at v 0 other in
        let next : field w (set l i v) (at + 1) ≡ field w l (at + 1) = omega (arith, e) in
        rest (omega arith) (omega arith) m next
