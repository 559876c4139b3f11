-- One law for each `return` of `padded`, `examine` and `judge`. `padded` adds up the bytes of the padding; its
-- invariant (`Padding`) says that the padding is zero if the total so far and all bytes from place p on are, so at byte
-- 508 the total decides (`pad_end`). `examine` tests 72, 71 and 73 in the order of the definition, so each law rewrites
-- by the tests that came before (`examine_check` to `examine_passed`). `judge` adds the test of the length
-- (`judge_short`, `judge_long`). `zeros_all` is by induction on the bytes. Assumes nothing.
use mathlib.Core.Path.{◌≡◌, refl, sym, ap, ◌∙◌}
use mathlib.Core.Bool.{Bool, true, false, ◌&&◌, and-true}
use mathlib.Core.List.{List, [], ◌∷◌}
use Prim.Native.Nat.{ℕ, zero, suc, ◌+◌, ◌*◌, ◌<◌, ◌≤◌, ◌^◌}
use native.Mathlib.Nat.{zero-add}
use native.Mathlib.Numerals.{add-one}
use native.Mathlib.Omega.{arith}
use Rattle.std.specs.List.{list_all}
use lib.ListN.{length, get_or, take, drop, length-take, drop_of_length-le}
use lib.Seq.{drop-cons, get_or-take, length-take-le}
use lib.Dec.{eqb}
use borrow.Author.Tests.{eq-eqb, ne_eqb, le-leb, lt-leb}
use Rattle.fields.specs.Field.{field}
use Rattle.fields.proofs.Spelling.{Bytes}
use Rattle.table.specs.Numbers.{block_short, block_number, block_check, block_used}
use Rattle.table.specs.Answer.{Answer, accepted, refused}
use Rattle.blocks.specs.Block.{sum_of, zeros, demand, examine, judge}

-- all bytes are zero if each of them is
pub zeros_all : (l : List ℕ) → zeros l ≡ list_all (λ x. eqb x 0) l
unfolding zeros
zeros_all [] = refl
zeros_all (x ∷ l) = rw (zeros_all l) refl

-- the invariant of `padded`: the total so far and the bytes from place p on decide
pub record Padding (b : List ℕ) (from total p : ℕ) : Type 0 where
  pub long : length b ≡ 512
  pub few : total ≤ 255 * p
  pub left : (eqb total 0 && zeros (drop p (take 508 b))) ≡ zeros (drop from (take 508 b))

pub pad_start : (b : List ℕ) (from : ℕ) → length b ≡ 512 → Padding b from 0 from
pad_start b from h = record { long = h; few = omega arith; left = refl }

-- a total is zero if both of its parts are
total_zero : (m n : ℕ) (r : Bool) → (eqb (m + n) 0 && r) ≡ (eqb m 0 && (eqb n 0 && r))
total_zero zero n r = rw (zero-add n) refl
total_zero (suc m) n r = rw (ne_eqb (suc m + n) 0 (λ e. omega arith), ne_eqb (suc m) 0 (λ e. omega arith)) refl

module _ {b : List ℕ} {from total p : ℕ} (s : Padding b from total p) where
  module _ (h : p < 508) (small : Bytes b) where
    step : zeros (drop p (take 508 b)) ≡ (eqb (get_or b p 0) 0 && zeros (drop (p + 1) (take 508 b)))
    unfolding zeros
    step =
        let long : length (take 508 b) ≡ 508 = length-take-le 508 b (omega (arith, s.long)) in
        rw (drop-cons (take 508 b) p 0 (omega arith), get_or-take 508 b p 0 h, add-one p) refl

    pub pad_fits : total + get_or b p 0 < 2 ^ 32
    pad_fits = omega (arith, s.few, small p)

    pub pad_on : Padding b from (total + get_or b p 0) (p + 1)
    pad_on = record {
      long = s.long;
      few = omega (arith, s.few, small p);
      left = rw (total_zero total (get_or b p 0) (zeros (drop (p + 1) (take 508 b))), ← step) s.left;
    }

  pub pad_end : 508 ≤ p → eqb total 0 ≡ zeros (drop from (take 508 b))
  unfolding zeros
  pad_end h =
      let none : drop p (take 508 b) ≡ [] = drop_of_length-le (take 508 b) {i = p} (simp length-take (omega arith)) in
      sym (and-true (eqb total 0)) ∙ rw none at s.left

-- the tests of `examine`, in their order
module _ (number used : ℕ) (b : List ℕ) {s w n : ℕ} (s-is : s ≡ sum_of b) (w-is : w ≡ field 4 b 508)
    (n_is : n ≡ field 2 b 0) where
  pub examine_check : eqb s w ≡ false → refused block_check [] ≡ examine number used b
  unfolding examine
  examine_check wrong = rw (← s-is, ← w-is, wrong) refl

  module _ (right : eqb s w ≡ true) where
    pub examine_number : eqb n number ≡ false → refused block_number [] ≡ examine number used b
    unfolding examine
    examine_number wrong = rw (← s-is, ← w-is, right, ← n_is, wrong) refl

    module _ (numbered : eqb n number ≡ true) {u : ℕ} (u-is : u ≡ field 2 b 2) where
      pub examine_used : (u ≡ used → ⊥) → refused block_used [] ≡ examine number used b
      unfolding examine
      examine_used e = rw (← s-is, ← w-is, right, ← n_is, numbered, ← u-is, ne_eqb u used e) refl

      module _ (said : u ≡ used) {z : Bool} (z-is : z ≡ zeros (drop (4 + u) (take 508 b))) where
        whole : examine number used b ≡ demand z block_used
        unfolding examine
        whole = rw (← s-is, ← w-is, right, ← n_is, numbered, ← u-is, eq-eqb u used said, z-is, said) refl

        pub examine_padding : z ≡ false → refused block_used [] ≡ examine number used b
        examine_padding e = sym (whole ∙ rw e refl)

        pub examine_passed : z ≡ true → accepted [] ≡ examine number used b
        examine_passed e = sym (whole ∙ rw e refl)

module _ (number used : ℕ) (bs : List ℕ) where
  pub judge_short : length bs < 512 → refused block_short [] ≡ judge number used bs
  unfolding judge
  judge_short h = rw (lt-leb 512 (length bs) h) refl

  pub judge_long : 512 ≤ length bs → {b : List ℕ} {r : Answer} → b ≡ take 512 bs → r ≡ examine number used b
      → r ≡ judge number used bs
  unfolding judge
  judge_long h b_is r-is = r-is ∙ ap (examine number used) b_is ∙ rw (le-leb 512 (length bs) h) refl
