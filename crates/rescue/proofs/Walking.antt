-- The walk along the root's children. The records of a child, taken by themselves, decode to that child alone
-- (`child_forest`). So what the code finds in them decides whether the child can be kept (`child_test`, by
-- soundness's `statement_parts`); the place of the child does not matter (soundness's `sound_anywhere` and
-- `files_anywhere`, table's `flat_anywhere`). The invariant: the bytes done, and the leading keepable ones of the
-- rest, are the leading keepable bytes of the whole. Each turn adds one child or stops. Assumes nothing.
use Rattle.std.specs.Prelude.{None}
use mathlib.Core.Path.{◌≡◌, refl, sym, ap, ◌∙◌}
use mathlib.Core.Bool.{Bool, true, false, ◌&&◌, and-true}
use mathlib.Core.List.{List, []}
use Prim.Native.Nat.{ℕ, ◌+◌, ◌-◌, ◌*◌, ◌/◌, ◌<◌, ◌≤◌}
use native.Mathlib.Omega.{arith}
use lib.ListN.{length, take}
use lib.Seq.{length-take-le, get_or-take}
use Rattle.forest.specs.Forest.{node_of, span_of, kids_of, rest_of, Tree, Forest, none, ◌then◌, forest, tree_of, firsts}
use Rattle.forest.specs.Forest.{count, count_tree}
use Rattle.forest.proofs.Stretch.{tree, forest_none, forest_tree, count_forest, length_kids, length_rest}
use Rattle.forest.proofs.Prefix.{span_part, forest_part, firsts_count}
use Rattle.soundness.specs.Kinds.{class_of}
use Rattle.soundness.specs.Files.{any_file, files_top}
use Rattle.soundness.specs.Sound.{Context, context, unsound_in, clear}
use Rattle.soundness.proofs.SoundTables.{all_sound, tree_sound, sound_anywhere}
use Rattle.soundness.proofs.OneStatement.{files_anywhere, statement_parts}
use Rattle.table.specs.Depth.{first_deep, deep_in}
use Rattle.table.proofs.Anywhere.{clear_or, flat_anywhere}
use Rattle.rescue.specs.Steps.{keepable, keepable_at, leading, leading_bytes}

-- the first child of a stretch, and its own records
module _ (m : ℕ) (left : List ℕ) (big : 24 ≤ length left) (whole : 24 * (length left / 24) ≡ length left) (i : ℕ)
  where
    abbrev c : List ℕ
    c = take (span_of left) left

    abbrev child : Tree
    child = tree_of i left

    long : length c ≡ span_of left
    long = length-take-le (span_of left) left (omega arith)

    covers : span_of c ≡ length c
    covers = span_part (span_of left) left big (omega arith) (omega arith) ∙ sym long

    child_forest : (j : ℕ) → forest j c ≡ tree (node_of j left) (forest (j + 1) (kids_of left)) none
    child_forest j =
        let end : span_of left - span_of left ≡ 0 = omega arith in
        forest_part (span_of left) left big (omega arith) (omega arith) j
        ∙ rw (end, forest_none (j + span_of left / 24) [] (omega arith)) refl

    abbrev x : Context
    x = context m any_file

    any_is : tree_sound (λ k. x) child ≡ all_sound (λ k. x) (forest 0 c)
    unfolding all_sound
    any_is = sym (and-true (tree_sound (λ k. x) child)) ∙ sym (ap (all_sound (λ k. x)) (child_forest i))
        ∙ sound_anywhere x i c 0

    files_is : files_top (child then none) ≡ files_top (forest 0 c)
    unfolding files_top
    files_is = rw (child_forest 0, files_anywhere (node_of 0 left).file (i + 1) (kids_of left) 1) refl

    sound_is : (tree_sound (λ k. x) child && files_top (child then none)) ≡ clear (unsound_in m c)
    sound_is = rw (any_is, files_is) (sym (statement_parts m c covers (omega (arith, long)) (omega (arith, long))))

    flat_is_lem : clear (deep_in 1 child) ≡ clear (first_deep 1 (forest 0 c))
    unfolding first_deep
    flat_is_lem = sym (clear_or (deep_in 1 child) None ∙ and-true (clear (deep_in 1 child)))
        ∙ sym (ap (λ (f : Forest). clear (first_deep 1 f)) (child_forest i)) ∙ flat_anywhere i c 0 1

    class_is : class_of (node_of i left).kind ≡ class_of (node_of 0 c).kind
    class_is = sym (ap class_of (get_or-take (span_of left) left 0 0 (omega arith)))

    -- LAW: the test of the code is that of the definition
    pub child_test : keepable m child ≡ keepable_at m c
    unfolding keepable keepable_at
    child_test = rw (class_is, sound_is, flat_is_lem) refl

-- the leading bytes of a forest
leading_on : (p : Tree → Bool) (t : Tree) (ts : Forest) → p t ≡ true
    → leading_bytes p (t then ts) ≡ 24 * count_tree t + leading_bytes p ts
unfolding leading_bytes leading firsts count
leading_on p t ts e = rw e (omega arith)

leading_stop : (p : Tree → Bool) (t : Tree) (ts : Forest) → p t ≡ false → leading_bytes p (t then ts) ≡ 0
unfolding leading_bytes leading firsts count
leading_stop p t ts e = rw e refl

leading_none : (p : Tree → Bool) (i : ℕ) (bs : List ℕ) → length bs < 24 → leading_bytes p (forest i bs) ≡ 0
unfolding leading_bytes leading firsts count
leading_none p i bs short = rw (forest_none i bs short) refl

pub leading_fits : (p : Tree → Bool) (i : ℕ) (bs : List ℕ) → leading_bytes p (forest i bs) ≤ length bs
unfolding leading_bytes
leading_fits p i bs = omega (arith, firsts_count (leading p (forest i bs)) (forest i bs), count_forest i bs)

-- the invariant of `leading`: the bytes done, and the rest
pub record Walking (m : ℕ) (row left : List ℕ) (done : ℕ) : Type 0 where
  pub sum : done + length left ≡ length row
  pub whole : 24 * (length left / 24) ≡ length left
  pub at : 24 * (done / 24) ≡ done
  pub same : leading_bytes (keepable m) (forest 1 row)
      ≡ done + leading_bytes (keepable m) (forest (1 + done / 24) left)

pub walk_start : (m : ℕ) (row : List ℕ) → 24 * (length row / 24) ≡ length row → Walking m row row 0
walk_start m row whole = record { sum = omega arith; whole = whole; at = omega arith; same = omega arith }

module _ {m : ℕ} {row left : List ℕ} {done : ℕ} (w : Walking m row left done) where
  pub walk_few : done ≤ length row
  walk_few = omega (arith, w.sum)

  pub walk_end : length left < 24 → done ≡ leading_bytes (keepable m) (forest 1 row)
  walk_end short =
      let none = leading_none (keepable m) (1 + done / 24) left short in
      omega (arith, w.same)

  module _ (big : 24 ≤ length left) {e : ℕ} (e-is : e ≡ span_of left) {k : Bool}
      (k_is : k ≡ keepable_at m (take (e - 0) left)) where
    k_test : keepable m (tree_of (1 + done / 24) left) ≡ k
    k_test =
        let all : e - 0 ≡ span_of left = omega arith in
        child_test m left big w.whole (1 + done / 24) ∙ sym (rw all at k_is)

    pub walk_stop : k ≡ false → done ≡ leading_bytes (keepable m) (forest 1 row)
    walk_stop bad =
        let none : leading_bytes (keepable m) (forest (1 + done / 24) left) ≡ 0 =
        ap (leading_bytes (keepable m)) (forest_tree (1 + done / 24) left big)
        ∙ leading_stop (keepable m) (tree_of (1 + done / 24) left) _ (k_test ∙ bad) in
        omega (arith, w.same)

    pub walk_on : k ≡ true → {after : List ℕ} → after ≡ rest_of left → Walking m row after (done + e)
    unfolding count
    walk_on good rest =
        let next : ℕ = 1 + done / 24 + span_of left / 24 in
        let at : 1 + (done + e) / 24 ≡ next = omega (arith, w.at, w.whole) in
        let one : 24 * (1 + count (forest (1 + done / 24 + 1) (kids_of left))) ≡ e = omega
        (arith, count_forest (1 + done / 24 + 1) (kids_of left), length_kids left, w.whole) in
        let here : leading_bytes (keepable m) (forest (1 + done / 24) left)
        ≡ 24 * (1 + count (forest (1 + done / 24 + 1) (kids_of left)))
        + leading_bytes (keepable m) (forest next (rest_of left)) =
        ap (leading_bytes (keepable m)) (forest_tree (1 + done / 24) left big)
        ∙ leading_on (keepable m) (tree_of (1 + done / 24) left) _ (k_test ∙ good) in
        record {
          sum = rw rest (omega (arith, w.sum, length_rest left));
          whole = rw rest (omega (arith, w.whole, length_rest left));
          at = omega (arith, w.at, w.whole);
          same = rw (rest, at) (omega (arith, w.same));
        }
