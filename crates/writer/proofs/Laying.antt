-- Laws of `lay`, the loop that copies bytes into a block and adds their weights to the sum. One invariant, `Laying`,
-- has two parts: the first i bytes are pasted over the old block (`Putting`), and the sum is that of all places up to
-- the last copied one (`Summed`). A byte that is stored at place at + i does not change the sum of the places before
-- it, so each turn extends both parts by one place (`lay_on`). At the end the bytes are in the block (`lay_end`) and
-- weighed (`lay_sum`). Assumes nothing.
use mathlib.Core.Path.{◌≡◌, sym, ap, ◌∙◌}
use mathlib.Core.List.{List, append_assoc}
use Prim.Native.Nat.{ℕ, ◌+◌, ◌*◌, ◌<◌, ◌≤◌, ◌^◌}
use native.Mathlib.Nat.{add-zero}
use native.Mathlib.Numerals.{add-one}
use native.Mathlib.Omega.{arith}
use lib.ListN.{length, get_or, take, drop, set}
use lib.Seq.{get_or-set_same, paste, paste-zero, paste-suc, length-paste, take-length}
use Rattle.fields.specs.Over.{over}
use Rattle.fields.proofs.Spelling.{Bytes, bytes_set}
use Rattle.blocks.specs.Block.{weight_of, weighed}
use Rattle.blocks.proofs.Sums.{Summed, weighed_outside, weighed_small, weight_small, sum_on}

-- out has the first i of the bytes from place `at` on; every other byte is that of d
pub record Putting (d bytes : List ℕ) (at : ℕ) (out : List ℕ) (i : ℕ) : Type 0 where
  pub upto : i ≤ length bytes
  pub room : at + length bytes ≤ length d
  pub is : out ≡ paste d at bytes i

put_start : (d bytes : List ℕ) (at : ℕ) → at + length bytes ≤ length d → Putting d bytes at d 0
put_start d bytes at h = record { upto = omega arith; room = h; is = paste-zero d at bytes }

module _ {d bytes : List ℕ} {at : ℕ} {out : List ℕ} {i : ℕ} (s : Putting d bytes at out i) where
  put_long : length out ≡ length d
  put_long = ap length s.is
      ∙ length-paste d at bytes i (omega (arith, s.upto, s.room)) s.upto

  put_on : i < length bytes → {x : ℕ} → x ≡ get_or bytes i 0 → Putting d bytes at (set out (at + i) x) (i + 1)
  put_on h x-is = record {
    upto = omega arith;
    room = s.room;
    is = rw (s.is, x-is, add-one i) (paste-suc d at bytes i 0 (omega (arith, s.room)) h);
  }

  put_end : length bytes ≤ i → out ≡ over at bytes d
  unfolding over
  put_end h =
      let e : i ≡ length bytes = omega (arith, s.upto) in
      let is : out ≡ paste d at bytes (length bytes) = rw e at s.is in
      is ∙ rw (take-length bytes) (append_assoc (take at d) bytes (drop (at + length bytes) d))

-- the first i bytes are copied, and the sum covers them and the places before them
pub record Laying (d bytes : List ℕ) (at : ℕ) (out : List ℕ) (sum i : ℕ) : Type 0 where
  pub put : Putting d bytes at out i
  pub summed : Summed out sum (at + i)
  pub few : at + length bytes ≤ 508
  pub small : Bytes bytes

pub lay_start : (d bytes : List ℕ) (at before : ℕ) → Bytes d → Bytes bytes
    → (at + length bytes ≤ 508) × (508 ≤ length d) × (before ≡ weighed at d) → Laying d bytes at d before 0
lay_start d bytes at before d_small small (few, room, is) = record {
  put = put_start d bytes at (omega arith);
  summed = rw (add-zero at) record { upto = omega arith; small = d_small; is = is };
  few = few;
  small = small;
}

module _ {d bytes : List ℕ} {at : ℕ} {out : List ℕ} {sum i : ℕ} (s : Laying d bytes at out sum i) where
  pub lay_long : length out ≡ length d
  lay_long = put_long s.put

  pub lay_place : i < length bytes → at + i < length out
  lay_place h = omega (arith, lay_long, s.put.room)

  pub lay_fits : (p : ℕ) {w : ℕ} → w ≡ weight_of p (get_or bytes i 0) → p < 508 → sum + w < 2 ^ 32
  lay_fits p w-is h = rw w-is (omega (
    arith,
    weight_small 508 p (get_or bytes i 0) h (s.small i),
    s.summed.is,
    s.summed.upto,
    weighed_small (at + i) out s.summed.upto s.summed.small,
  ))

  module _ (h : i < length bytes) {x w : ℕ} (x-is : x ≡ get_or bytes i 0) (w-is : w ≡ (at + i + 1) * x) where
    now : Summed (set out (at + i) x) sum (at + i)
    now = record {
      upto = s.summed.upto;
      small = bytes_set out (at + i) x s.summed.small (rw x-is (s.small i));
      is = s.summed.is ∙ sym (weighed_outside (at + i) out (at + i) x (omega arith));
    }

    byte : w ≡ (at + i + 1) * get_or (set out (at + i) x) (at + i) 0
    byte = w-is ∙ ap (λ (y : ℕ). (at + i + 1) * y) (sym (get_or-set_same out (at + i) x 0 (lay_place h)))

    pub lay_on : Laying d bytes at (set out (at + i) x) (sum + w) (i + 1)
    lay_on = let e : at + (i + 1) ≡ at + i + 1 = omega arith in record {
      put = put_on s.put h x-is;
      summed = rw e (sum_on now (omega (arith, s.few)) byte);
      few = s.few;
      small = s.small;
    }

  module _ (h : length bytes ≤ i) where
    pub lay_end : out ≡ over at bytes d
    lay_end = put_end s.put h

    pub lay_sum : sum ≡ weighed (at + length bytes) out
    lay_sum = let e : i ≡ length bytes = omega (arith, s.put.upto) in rw e at s.summed.is
