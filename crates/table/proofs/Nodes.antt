-- The node of a job and its stretch, in the terms of code: one law for each return of `node_fits` (`node_beyond`,
-- `node_here`) and of `stretch` (`stretch_beyond`, `stretch_rest`, `stretch_inside`). Code cuts parts by their ends,
-- the definitions by lengths; each law shows that the two cuts are the same list. Assumes nothing.
use mathlib.Core.Path.{◌≡◌, refl, sym, ap, ◌∙◌}
use mathlib.Core.Bool.{Bool, false}
use mathlib.Core.List.{List}
use Prim.Native.Nat.{ℕ, ◌+◌, ◌-◌, ◌*◌, ◌/◌, ◌<◌, ◌≤◌}
use native.Mathlib.Omega.{arith}
use lib.ListN.{length, take, drop, length-drop}
use lib.Seq.{take_all}
use borrow.Author.Tests.{lt-ltb, le-ltb}
use Rattle.fields.proofs.Fields.{tail_part}
use Rattle.forest.specs.Forest.{size_of, node_of}
use Rattle.table.specs.Check.{wants, node_fits, stretch_of}
use Rattle.table.specs.declared.Wanted.{Wanted}

module _ (t : List ℕ) (i : ℕ) where
  pub node_beyond : (w : Wanted) → length t / 24 ≤ i → false ≡ node_fits t i w
  unfolding node_fits
  node_beyond w h = rw (le-ltb i (length t / 24) h) refl

  pub node_here : (w : Wanted) → i < length t / 24 → {k : ℕ} {r : Bool}
      → k ≡ (node_of 0 (take (length t - 24 * i) (drop (24 * i) t))).kind → r ≡ wants w k → r ≡ node_fits t i w
  unfolding node_fits
  node_here w h k_is r-is = r-is ∙ ap (wants w) k_is ∙ rw (tail_part (24 * i) t, lt-ltb i (length t / 24) h) refl

  pub stretch_beyond : length t / 24 ≤ i → take 0 t ≡ stretch_of t i
  unfolding stretch_of
  stretch_beyond h = rw (le-ltb i (length t / 24) h) refl

  module _ (h : i < length t / 24) {s : ℕ} (s-is : s ≡ size_of (take (length t - 24 * i) (drop (24 * i) t))) where
    size_here : s ≡ size_of (drop (24 * i) t)
    size_here = s-is ∙ ap size_of (tail_part (24 * i) t)

    pub stretch_rest : length t < 24 * (i + s) → take (length t - 24 * i) (drop (24 * i) t) ≡ stretch_of t i
    unfolding stretch_of
    stretch_rest g = rw (lt-ltb i (length t / 24) h, tail_part (24 * i) t, ← size_here)
        (sym (take_all (24 * s) (drop (24 * i) t) (simp length-drop (omega arith))))

    pub stretch_inside : take (24 * (i + s) - 24 * i) (drop (24 * i) t) ≡ stretch_of t i
    unfolding stretch_of
    stretch_inside =
        let long : 24 * (i + s) - 24 * i ≡ 24 * s = omega arith in
        rw (lt-ltb i (length t / 24) h, long, ← size_here) refl
