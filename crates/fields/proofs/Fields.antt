-- Little-endian fields, each law once for all widths. A field of j + k bytes is one of j bytes and, 256^j times, one of
-- k bytes (`field_split`). A field depends on its own bytes alone: dropping bytes before it moves it (`field_drop`), a
-- part that holds it reads the same (`field_take`, `field_same`), and past the end it is 0 (`field_past`). All these
-- are by induction on the width. `word` and `long` read a field as two fields of half the width of the part that begins
-- there: cite `field_halves` and `field_words`. Assumes nothing.
use mathlib.Core.Path.{◌≡◌, refl, sym}
use mathlib.Core.List.{List}
use Prim.Native.Nat.{ℕ, zero, suc, ◌+◌, ◌*◌, ◌<◌, ◌≤◌, ◌-◌, ◌^◌}
use native.Mathlib.Numerals.{one-add}
use native.Mathlib.Nat.{pow-succ', suc-add, add-zero, zero-add, one-mul, add_assoc, mul_assoc, mul-add}
use native.Mathlib.Omega.{arith}
use lib.ListN.{length, get_or, take, drop, length-drop, get_or-eq_default}
use lib.Seq.{get_or-drop, get_or-take, take_all}
use Rattle.fields.specs.Field.{field}

-- the first j bytes, then the k after them
pub field_split : (j k : ℕ) (l : List ℕ) (at : ℕ) → field (j + k) l at ≡ field j l at + 256 ^ j * field k l (at + j)
unfolding field
field_split zero k l at = simp (zero-add, add-zero, one-mul)
field_split (suc j) k l at =
    simp (suc-add, field_split j k l (at + 1), pow-succ', mul-add, add_assoc, mul_assoc, one-add)

-- a field of a part that starts at a
pub field_drop : (w : ℕ) (l : List ℕ) (a at : ℕ) → field w (drop a l) at ≡ field w l (a + at)
unfolding field
field_drop zero l a at = refl
field_drop (suc w) l a at = rw (get_or-drop, field_drop w l a (at + 1), add_assoc)

-- a field of a part that holds it
pub field_take : (w : ℕ) (l : List ℕ) (n at : ℕ) → at + w ≤ n → field w (take n l) at ≡ field w l at
unfolding field
field_take zero l n at h = refl
field_take (suc w) l n at h = rw (get_or-take n l at 0 (omega arith), field_take w l n (at + 1) (omega arith))

-- fields of equal bytes
pub field_same : (w : ℕ) (l m : List ℕ) (at : ℕ) → ((i : ℕ) → at ≤ i → i < at + w → get_or l i 0 ≡ get_or m i 0)
    → field w l at ≡ field w m at
unfolding field
field_same zero l m at alike = refl
field_same (suc w) l m at alike = rw (
  alike at (omega arith) (omega arith),
  field_same w l m (at + 1) (λ i h g. alike i (omega arith) (omega arith)),
) refl

-- past the end there is nothing
pub field_past : (w : ℕ) (l : List ℕ) (at : ℕ) → length l ≤ at → field w l at ≡ 0
unfolding field
field_past zero l at h = refl
field_past (suc w) l at h =
    let here : get_or l at 0 ≡ 0 = get_or-eq_default l 0 h in
    let next : field w l (at + 1) ≡ 0 = field_past w l (at + 1) (omega arith) in
    omega arith

-- a part from a start to the end, as code cuts it
pub tail_part : {A : Type 0} (a : ℕ) (l : List A) → take (length l - a) (drop a l) ≡ drop a l
tail_part a l = take_all (length l - a) (drop a l) (simp length-drop (omega arith))

-- a field of twice the width is two fields of the part from its start on
field_double : (w : ℕ) (l : List ℕ) (at : ℕ)
    → field w (take (length l - at) (drop at l)) 0 + 256 ^ w * field w (take (length l - at) (drop at l)) w
    ≡ field (w + w) l at
field_double w l at = rw (tail_part at l, field_drop w l at 0, field_drop w l at w, add-zero)
    (sym (field_split w w l at))

pub field_halves : (l : List ℕ) (at : ℕ) {a b : ℕ} → a ≡ field 2 (take (length l - at) (drop at l)) 0
    → b ≡ field 2 (take (length l - at) (drop at l)) 2 → a + 65536 * b ≡ field 4 l at
field_halves l at a-is b_is = omega (arith, field_double 2 l at)

pub field_words : (l : List ℕ) (at : ℕ) {a b : ℕ} → a ≡ field 4 (take (length l - at) (drop at l)) 0
    → b ≡ field 4 (take (length l - at) (drop at l)) 4 → a + 4294967296 * b ≡ field 8 l at
field_words l at a-is b_is = omega (arith, field_double 4 l at)
