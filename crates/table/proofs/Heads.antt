-- Checks that take a stretch by itself, and not a whole table, read any bytes. They read at most as many bytes as a
-- table may have (`all_within`, `within_short`), and a stretch only if it is headed: it begins with a record and lies
-- within the largest table at its index. A headed stretch is read as it is (`headed_all`), any other as nothing
-- (`headed_none`). Each law computes from the test of `is_headed`; callers cite `headed_long`, `headed_within` and
-- `headed_is`. Assumes nothing.
use mathlib.Core.Path.{◌≡◌, refl, sym, ◌∙◌}
use mathlib.Core.Bool.{Bool, true, false}
use mathlib.Core.List.{List, []}
use Prim.Native.Nat.{ℕ, ◌+◌, ◌*◌, ◌<◌, ◌≤◌}
use native.Mathlib.Omega.{arith}
use lib.ListN.{length, take, length-take}
use lib.Seq.{take_all}
use lib.Dec.{leb}
use borrow.Author.Tests.{le-leb, lt-leb, leb-true}
use Rattle.fields.proofs.Basics.{and_left, and_right}
use Rattle.forest.specs.Forest.{node_of, kids_of, node, none, tree_of}
use Rattle.forest.proofs.Stretch.{forest_none, length_kids}
use Rattle.table.specs.Check.{Headed, is_headed, headed_of}

-- as much of some bytes as a table has at most
module _ (t : List ℕ) where
  pub all_within : length t ≤ 50400 → t ≡ take 50400 t
  all_within h = sym (take_all 50400 t h)

  pub within_short : {w : List ℕ} → w ≡ take 50400 t → length w ≤ 50400
  within_short w-is = rw w-is (simp length-take (omega arith))

-- each return of `is_headed`
module _ (i : ℕ) (t : List ℕ) where
  pub head_long : 50400 < length t → false ≡ is_headed i t
  head_long h = rw (lt-leb (24 * i + length t) 50400 (omega arith)) refl

  -- LAW: a stretch that is headed is read as it is, and any other as nothing
  pub headed_all : Headed i t → headed_of i t ≡ t
  unfolding headed_of
  headed_all h = rw (le-leb (24 * i + length t) 50400 h.1, le-leb 24 (length t) h.0) refl

  -- a check of a stretch, in the terms of code: b is what `is_headed` answered
  module _ {b : Bool} (b_is : b ≡ is_headed i t) where
    pub headed_none : b ≡ false → headed_of i t ≡ []
    unfolding headed_of
    headed_none h = rw (← b_is, h) refl

    pub headed_leaf : b ≡ false → tree_of i (headed_of i t) ≡ node (node_of i []) none
    headed_leaf h =
        let no : length (kids_of []) < 24 = omega (arith, length_kids []) in
        rw (headed_none h, forest_none (i + 1) (kids_of []) no) refl

    module _ (good : b ≡ true) where
      headed : is_headed i t ≡ true
      headed = sym b_is ∙ good

      pub headed_long : 24 ≤ length t
      headed_long = leb-true 24 (length t) (and_right (leb (24 * i + length t) 50400) _ headed)

      pub headed_within : 24 * i + length t ≤ 50400
      headed_within = leb-true (24 * i + length t) 50400 (and_left (leb (24 * i + length t) 50400) _ headed)

      pub headed_is : headed_of i t ≡ t
      headed_is = headed_all (headed_long, headed_within)
