-- Laws of the rule of a record with its children, in the terms of code. Children are counted and judged one by one, and
-- those that are left decide (`classes_counted`, `Fitting`). A record is judged by its fields, its size and its
-- children (`record_fields`, `record_size`, `record_kids`), wherever it is (`sound_index`). The loop over the records
-- keeps the top-level statement of the record before: of a table (`Going`, with Tops), or of one statement, which does
-- not end (`Judging`); in both the records that are left decide (`Searching`). Assumes nothing.
use Rattle.std.specs.Prelude.{None, Option, Some, ℕ}
use mathlib.Core.Path.{◌≡◌, refl, sym, ap, ◌∙◌}
use mathlib.Core.Bool.{Bool, true, false, ◌&&◌, and-false}
use mathlib.Core.List.{List, [], ◌∷◌}
use Prim.Native.Nat.{ℕ, ◌+◌, ◌-◌, ◌*◌, ◌/◌, ◌<◌, ◌≤◌, max}
use native.Mathlib.Numerals.{add-one}
use native.Mathlib.Omega.{arith}
use lib.ListN.{length, get_or, take, drop, length-take, length-drop, drop_of_length-le}
use lib.Seq.{drop-cons}
use lib.Dec.{eqb, leb}
use borrow.Author.Tests.{eq-eqb, ne_eqb, eqb-true, eqb-false, leb-true, leb-false}
use Rattle.fields.proofs.Basics.{and_left, and_right, never}
use Rattle.fields.specs.Choice.{if'}
use Rattle.forest.specs.Forest.{Node, size_of, node_of, span_of, kids_of, rest_of, forest, count}
use Rattle.forest.specs.Names.{same}
use Rattle.fields.proofs.Fields.{tail_part}
use Rattle.forest.proofs.Drained.{drained, there_left, rest_left}
use Rattle.forest.specs.Nodes.{NextNode}
use Rattle.forest.specs.declared.Nodes.{Nodes}
use Rattle.std.specs.Iterator.{Drains}
use denote.Ref.{Bor}
use Rattle.forest.proofs.Stretch.{forest_none, forest_tree, forest_induction, count_forest, length_kids}
use Rattle.forest.proofs.Stretch.{length_rest, kids_part, rest_part, node_take, size_take}
use Rattle.forest.proofs.Named.{same_length}
use Rattle.soundness.specs.Files.{range, file_numbers}
use Rattle.soundness.specs.Kinds.{statement, Children, kind_of, class_of}
use Rattle.soundness.specs.Sound.{Context, fields_sound, whole_trees, classes, permitted, fixed, between}
use Rattle.soundness.specs.Sound.{wanted, permits, kids_sound, sound_node, sound_at, context, context_of}
use Rattle.soundness.specs.Sound.{context_in, root_sound, record_sound, first_false, first_unsound, sound_in, unsound_in}
use Rattle.soundness.specs.Packed.{rule_of, number_sound, LastFrom, child_sound, child_of, root_end, Turned}
use Rattle.soundness.specs.Packed.{Searched, in_range, child_in}
use Rattle.soundness.proofs.Packing.{length_wanted}
use Rattle.soundness.proofs.Search.{Looking, look_start, look_here, look_on, look_end}
use Rattle.soundness.proofs.Tops.{Placed, place_start, Turns, turn_files}

-- whether children are whole, and their classes, do not depend on their indices
pub classes_index : (i : ℕ) (bs : List ℕ) (j : ℕ) → classes (forest i bs) ≡ classes (forest j bs)
unfolding classes
classes_index =
    forest_induction (λ i bs. (j : ℕ) → classes (forest i bs) ≡ classes (forest j bs))
    (λ i bs s j. rw (forest_none i bs s, forest_none j bs s) refl)
    (λ i bs big ks rs j. rw (forest_tree i bs big, forest_tree j bs big, rs (j + span_of bs / 24)) refl)

pub whole_index : (i : ℕ) (bs : List ℕ) (j : ℕ) → whole_trees (forest i bs) ≡ whole_trees (forest j bs)
unfolding whole_trees
whole_index =
    forest_induction (λ i bs. (j : ℕ) → whole_trees (forest i bs) ≡ whole_trees (forest j bs))
    (λ i bs s j. rw (forest_none i bs s, forest_none j bs s) refl)
    (λ i bs big ks rs j. rw (
      forest_tree i bs big,
      forest_tree j bs big,
      rs (j + span_of bs / 24),
      count_forest (i + 1) (kids_of bs),
      count_forest (j + 1) (kids_of bs),
    ) refl)

-- a subtree's size, as code tests it
pub whole_size : (i e : ℕ) (bs : List ℕ) → 24 ≤ length bs → e ≡ span_of bs
    → 1 + count (forest i (kids_of bs)) ≡ e / 24
whole_size i e bs big h = omega (arith, count_forest i (kids_of bs), length_kids bs)

-- a stretch of nodes side by side, cut as code cuts it
module _ {e : ℕ} (bs : List ℕ) (big : 24 ≤ length bs) (h : e ≡ span_of bs) where
  pub classes_cut : classes (forest 0 bs) ≡ class_of (node_of 0 bs).kind
      ∷ classes (forest 0 (take (length bs - e) (drop e bs)))
  unfolding classes
  classes_cut = rw (forest_tree 0 bs big, classes_index (0 + span_of bs / 24) (rest_of bs) 0, rest_part e bs h) refl

  pub whole_cut : whole_trees (forest 0 bs)
      ≡ (eqb (size_of bs) (e / 24) && whole_trees (forest 0 (take (length bs - e) (drop e bs))))
  unfolding whole_trees
  whole_cut = rw (
    forest_tree 0 bs big,
    whole_index (0 + span_of bs / 24) (rest_of bs) 0,
    whole_size (0 + 1) e bs big h,
    rest_part e bs h,
  ) refl

-- a walk gives a node for each class
pub classes_counted : (xs : List (ℕ × Bor (List ℕ))) (s : Nodes) → Drains NextNode s xs
    → length xs ≡ length (classes (forest 0 s.left.now))
unfolding classes
classes_counted xs s given =
    drained NextNode (λ (i : ℕ) (u : Nodes). length (classes (forest i u.left.now)))
    (λ i u v short. rw (forest_none i u.left.now short) refl)
    (λ i u x v on.
    (i + span_of u.left.now / 24, rw (forest_tree i u.left.now (there_left on), rest_left on) refl)) xs 0 s given

-- what children a rule permits, as the two tests of code
permits_tests : (c : Children) (cs : List ℕ)
    → permits c cs ≡ (number_sound c (length cs) && same cs (wanted c (length cs)))
unfolding permits number_sound
permits_tests c cs = go (leb (fixed c) (length cs)) refl
  where
    go : (b : Bool) → leb (fixed c) (length cs) ≡ b
        → (permitted c.times (between c (length cs)) && same cs (wanted c (length cs)))
        ≡ ((b && permitted c.times (between c (length cs))) && same cs (wanted c (length cs)))
    go true e = refl
    go false e =
        let few : length cs < fixed c = leb-false (fixed c) (length cs) e in
        let apart : same cs (wanted c (length cs))
        ≡ false = sym (same_length cs (wanted c (length cs))
        (λ (l : length cs ≡ length (wanted c (length cs))). omega (arith, length_wanted c (length cs)))) in
        rw apart (and-false (permitted c.times (between c (length cs))))

and_swap : (w n s : Bool) → (w && (n && s)) ≡ (n && (w && s))
and_swap true n s = refl
and_swap false true s = refl
and_swap false false s = refl

-- the number of nodes side by side
abbrev pub kids_number : List ℕ → ℕ
kids_number t = length (classes (forest 0 t))

number_within : (i : ℕ) (bs : List ℕ) → 24 * length (classes (forest i bs)) ≤ length bs
unfolding classes
number_within =
    forest_induction (λ i bs. 24 * length (classes (forest i bs)) ≤ length bs)
    (λ i bs s. rw (forest_none i bs s) (omega arith))
    (λ i bs big ks rs. rw (forest_tree i bs big) (omega (arith, length_rest bs)))

-- where a rule has no last ones, no child is past the records
pub no_last : (t : List ℕ) {b : ℕ} → b ≡ 0 → LastFrom (kids_number t) b (length t / 24)
no_last t e = omega (arith, number_within 0 t)

-- the nodes side by side in `left`, a rest of t, are whole and of the classes wanted of the children of t from j on
abbrev ordered : Children → List ℕ → List ℕ → ℕ → Bool
ordered c t left j = whole_trees (forest 0 left) && same (classes (forest 0 left)) (drop j (wanted c (kids_number t)))

-- the children, by the two tests of code; the order matters only where the number is permitted
pub kids_tests : (c : Children) (t : List ℕ) {r : Bool}
    → (number_sound c (kids_number t) ≡ true → fixed c ≤ kids_number t → r ≡ ordered c t t 0)
    → (number_sound c (kids_number t) ≡ false → r ≡ false) → r ≡ kids_sound c (forest 0 t)
unfolding kids_sound number_sound
kids_tests c t {r} in_order_lem few = go (number_sound c (kids_number t)) refl ∙ sym
    (rw (permits_tests c (classes (forest 0 t)))
    (and_swap (whole_trees (forest 0 t)) (number_sound c (kids_number t))
    (same (classes (forest 0 t)) (wanted c (kids_number t)))))
  where
    go : (b : Bool) → number_sound c (kids_number t) ≡ b → r ≡ (b && ordered c t t 0)
    go true e = in_order_lem e (leb-true (fixed c) (kids_number t) (and_left _ _ e))
    go false e = few e

-- a child as code tests it
module _ (want : ℕ) (bs : List ℕ) (big : 24 ≤ length bs) {e : ℕ} (e-is : e ≡ child_of want bs) where
  child_cases : (P : Type 0) → (child_sound want bs ≡ true → e ≡ span_of bs → P)
      → (child_sound want bs ≡ false → e ≡ 0 → P) → P
  unfolding child_of
  child_cases P sound unsound = go (child_sound want bs) refl e-is
    where
      go : (b : Bool) → child_sound want bs ≡ b → e ≡ if' b (λ _. span_of bs) (λ _. 0) → P
      go true s f = sound s f
      go false s f = unsound s f

  child_no : e ≡ 0 → child_sound want bs ≡ false
  child_no z = child_cases (child_sound want bs ≡ false) (λ s f. absurd (omega arith)) (λ s f. s)

  child_yes : (e ≡ 0 → ⊥) → child_sound want bs ≡ true
  child_yes d = child_cases (child_sound want bs ≡ true) (λ s f. s) (λ s f. absurd (d f))

  child_span : (e ≡ 0 → ⊥) → e ≡ span_of bs
  child_span d = child_cases (e ≡ span_of bs) (λ s f. f) (λ s f. absurd (d f))

  pub child_within : e ≤ length bs
  child_within = child_cases (e ≤ length bs) (λ s f. omega arith) (λ s f. omega arith)

-- testing the children of t in order: j have passed, and left are those that have not
pub record Fitting (c : Children) (t left : List ℕ) (j : ℕ) : Type 0 where
  pub room : 24 * j + length left ≤ length t
  pub number : kids_number t ≡ j + kids_number left
  pub rest : fixed c ≤ kids_number t → ordered c t left j ≡ ordered c t t 0

pub fit_start : (c : Children) (t : List ℕ) → Fitting c t t 0
fit_start c t = record { room = omega arith; number = omega arith; rest = λ enough. refl }

and_pairs : (a x b y : Bool) → ((a && x) && (b && y)) ≡ ((a && b) && (x && y))
and_pairs true x true y = refl
and_pairs true true false y = refl
and_pairs true false false y = refl
and_pairs false x b y = refl

module _ {c : Children} {t left : List ℕ} {j : ℕ} (s : Fitting c t left j) where
  pub fit_end : length left < 24 → {r : Bool} → r ≡ number_sound c j → r ≡ kids_sound c (forest 0 t)
  unfolding whole_trees classes same
  fit_end h {r} r-is =
      let none_left : kids_number left ≡ 0 = rw (forest_none 0 left h) refl in
      let all : j ≡ kids_number t = omega (arith, s.number) in
      let number_is : r ≡ number_sound c (kids_number t) = r-is ∙ ap (number_sound c) all in
      kids_tests c t (λ permitted enough.
      let past : drop j (wanted c (kids_number t)) ≡
      [] = drop_of_length-le (wanted c (kids_number t)) {i = j}
      (omega (arith, length_wanted c (kids_number t))) in
      number_is ∙ permitted ∙ (rw (forest_none 0 left h, past) at (s.rest enough))) (λ few. number_is ∙ few)

  module _ (big : 24 ≤ length left) where
    pub fit_index : j < kids_number t
    fit_index = omega (arith, s.number, ap length (classes_cut left big refl))

    step : ordered c t left j ≡ (child_sound (get_or (wanted c (kids_number t)) j 0) left
        && ordered c t (take (length left - span_of left) (drop (span_of left) left)) (j + 1))
    unfolding same
    step =
        let inside : j < length (wanted c (kids_number t)) = omega
        (arith, fit_index, length_wanted c (kids_number t)) in
        rw (
          whole_cut left big refl,
          classes_cut left big refl,
          drop-cons (wanted c (kids_number t)) j 0 inside,
          add-one,
        )
        (and_pairs (eqb (size_of left) (span_of left / 24)) _
        (eqb (class_of (node_of 0 left).kind) (get_or (wanted c (kids_number t)) j 0)) _)

    module _ {e at : ℕ} (at-is : fixed c ≤ kids_number t → at ≡ get_or (wanted c (kids_number t)) j 0)
        (e-is : e ≡ child_of at left) where
      pub fit_stop : e ≡ 0 → false ≡ kids_sound c (forest 0 t)
      fit_stop z = kids_tests c t (λ permitted enough.
          let this : child_sound (get_or (wanted c (kids_number t)) j 0) left
          ≡ false = rw (at-is enough) at (child_no at left big e-is z) in
          (rw (step, this) at (s.rest enough))) (λ few. refl)

      pub fit_on : (e ≡ 0 → ⊥) → Fitting c t (take (length left - e) (drop e left)) (j + 1)
      fit_on d =
          let span : e ≡ span_of left = child_span at left big e-is d in
          record {
            room = simp (length-take, length-drop) (omega (arith, s.room));
            number = omega (arith, s.number, ap length (classes_cut left big span));
            rest = λ enough.
                let this : child_sound (get_or (wanted c (kids_number t)) j 0) left
                ≡ true = rw (at-is enough) at (child_yes at left big e-is d) in
                rw span (rw (step, this) at (s.rest enough));
          }

-- a subtree's size as code tests it
module _ (size len : ℕ) {w : Bool} (w-is : w ≡ (leb 1 size && leb (24 * size) len)) (w-yes : w ≡ true) where
  both : (leb 1 size && leb (24 * size) len) ≡ true
  both = sym w-is ∙ w-yes

  pub whole_start : 24 ≤ 24 * size
  whole_start = let l : 1 ≤ size = leb-true 1 size (and_left _ _ both) in omega arith

  pub whole_end : 24 * size ≤ len
  whole_end = leb-true (24 * size) len (and_right (leb 1 size) _ both)

-- its record read from 24 bytes
module _ (t : List ℕ) (big : 24 ≤ length t) {size : ℕ} (size_is : size ≡ size_of (take 24 t)) {w : Bool}
    (w-is : w ≡ (leb 1 size && leb (24 * size) (length t))) where
  same_size : size ≡ size_of t
  same_size = size_is ∙ size_take 24 t (omega arith)

  whole_no : w ≡ false → eqb (size_of t) (span_of t / 24) ≡ false
  whole_no w-no = ne_eqb (size_of t) (span_of t / 24)
      (go (leb 1 size) refl (leb (24 * size) (length t)) refl (sym w-is ∙ w-no))
    where
      go : (a : Bool) → leb 1 size ≡ a → (b : Bool) → leb (24 * size) (length t) ≡ b → (a && b) ≡ false
          → size_of t ≡ span_of t / 24 → ⊥
      go true p true q e f = never (cc)
      go true p false q e f = let l : length t < 24 * size = leb-false (24 * size) (length t) q in
          omega (arith, same_size)
      go false p b q e f = let l : size < 1 = leb-false 1 size p in omega (arith, same_size)

  module _ (w-yes : w ≡ true) where
    whole_span : 24 * size ≡ span_of t
    whole_span = omega (
      arith,
      same_size,
      whole_start size (length t) w-is w-yes,
      whole_end size (length t) w-is w-yes,
    )

    whole_yes : eqb (size_of t) (span_of t / 24) ≡ true
    whole_yes = eq-eqb (size_of t) (span_of t / 24) (omega (arith, same_size, whole_span))

  -- a child, return by return
  pub child_cut : (want : ℕ) → w ≡ false → 0 ≡ child_of want t
  unfolding child_of
  child_cut want w-no = rw (whole_no w-no) refl

  module _ {kind class : ℕ} (w-yes : w ≡ true) (kind-is : kind ≡ (node_of 0 (take 24 t)).kind)
      (class_is : class ≡ class_of kind) where
    this_class : class ≡ class_of (node_of 0 t).kind
    this_class = class_is ∙ ap class_of (kind-is ∙ ap (λ (r : Node). r.kind) (node_take 0 24 t (omega arith)))

    pub child_class : (want : ℕ) → (class ≡ want → ⊥) → 0 ≡ child_of want t
    unfolding child_of
    child_class want d = rw (whole_yes w-yes, ← this_class, ne_eqb class want d) refl

    pub child_fits : (want : ℕ) → class ≡ want → 24 * size ≡ child_of want t
    unfolding child_of
    child_fits want f = rw (whole_yes w-yes, ← this_class, eq-eqb class want f) (whole_span w-yes)

  -- the same by the range of its kind
  pub in_cut : (range : ℕ) → w ≡ false → 0 ≡ child_in range t
  unfolding child_in
  in_cut range w-no = rw (whole_no w-no) refl

  module _ {kind : ℕ} (w-yes : w ≡ true) (kind-is : kind ≡ (node_of 0 (take 24 t)).kind) (range : ℕ) where
    this_kind : (node_of 0 t).kind ≡ kind
    this_kind = sym (kind-is ∙ ap (λ (r : Node). r.kind) (node_take 0 24 t (omega arith)))

    pub in_outside : in_range range kind ≡ false → 0 ≡ child_in range t
    unfolding child_in
    in_outside d = rw (whole_yes w-yes, this_kind, d) refl

    pub in_fits : in_range range kind ≡ true → 24 * size ≡ child_in range t
    unfolding child_in
    in_fits f = rw (whole_yes w-yes, this_kind, f) (whole_span w-yes)

-- the record that the rest t of a table begins with, as code tests it
module _ (x : Context) (t : List ℕ) where
  pub sound_index : (i : ℕ) → sound_at x i t ≡ sound_at x 0 t
  unfolding sound_at sound_node kids_sound fields_sound
  sound_index i = rw (
    classes_index (i + 1) (kids_of t) (0 + 1),
    whole_index (i + 1) (kids_of t) (0 + 1),
    count_forest (i + 1) (kids_of t),
    count_forest (0 + 1) (kids_of t),
  ) refl

  head_is : node_of 0 (take 24 t) ≡ node_of 0 t
  head_is = node_take 0 24 t (omega arith)

  module _ {f : Bool} (f-is : f ≡ fields_sound x (node_of 0 (take 24 t))) where
    fields_are : fields_sound x (node_of 0 t) ≡ f
    fields_are = sym (f-is ∙ ap (fields_sound x) head_is)

    pub record_fields : f ≡ false → false ≡ sound_at x 0 t
    unfolding sound_at sound_node
    record_fields f-no = rw (fields_are, f-no) refl

    module _ (f-yes : f ≡ true) (big : 24 ≤ length t) {size : ℕ} (size_is : size ≡ size_of (take 24 t)) {w : Bool}
        (w-is : w ≡ (leb 1 size && leb (24 * size) (length t))) where
      record_tests : sound_at x 0 t ≡ (eqb (size_of t) (span_of t / 24)
          && kids_sound (rule_of (node_of 0 t).kind (node_of 0 t).detail) (forest 0 (kids_of t)))
      unfolding sound_at sound_node fields_sound kids_sound rule_of
      record_tests =
          let good : fields_sound x (node_of 0 t) ≡ true = fields_are ∙ f-yes in
          let small : leb (node_of 0 t).detail (kind_of (node_of 0 t).kind).details
          ≡ true = and_left _ _ (and_right (leb 1 (class_of (node_of 0 t).kind)) _ good) in
          rw (
            good,
            small,
            whole_size (0 + 1) (span_of t) t big refl,
            classes_index (0 + 1) (kids_of t) 0,
            whole_index (0 + 1) (kids_of t) 0,
          ) refl

      pub record_size : w ≡ false → false ≡ sound_at x 0 t
      record_size w-no = sym (record_tests ∙ rw (whole_no t big size_is w-is w-no) refl)

      pub record_kids : w ≡ true → {kind detail : ℕ} {r : Bool} → kind ≡ (node_of 0 (take 24 t)).kind
          → detail ≡ (node_of 0 (take 24 t)).detail
          → r ≡ kids_sound (rule_of kind detail) (forest 0 (take (24 * size - 24) (drop 24 t))) → r ≡ sound_at x 0 t
      record_kids w-yes kind-is detail-is r-is =
          r-is ∙ sym (record_tests
          ∙ rw (
            whole_yes t big size_is w-is w-yes,
            ← (kids_part (24 * size) t (whole_span t big size_is w-is w-yes)),
            kind-is ∙ ap (λ (r : Node). r.kind) head_is,
            detail-is ∙ ap (λ (r : Node). r.detail) head_is,
          ) refl)

-- a root that is sound covers its table
pub sound_covers : (t : List ℕ) → root_sound t ≡ true → 24 * size_of t ≡ length t
unfolding root_sound
sound_covers t e = eqb-true (24 * size_of t) (length t) (and_right (eqb (class_of (node_of 0 t).kind) statement) _ e)

-- where the root is not sound
pub root_first : (t names : List ℕ) {b : Bool} → b ≡ root_sound t → b ≡ false → 24 ≤ length t
    → Some 0 ≡ first_unsound t names
unfolding first_unsound record_sound
root_first t names b_is b-no big =
    let bad : root_sound t ≡ false = cc in
    look_here (look_start (record_sound t names) (length t / 24)) (omega arith) (rw bad refl)

-- the loop has passed the records below i; `end` and `file` are those of the top-level statement of the one before it
pub record Going (t names : List ℕ) (n i end file : ℕ) : Type 0 where
  pub looking : Looking (record_sound t names) n i
  pub placed : Placed t n i end file

pub going_start : (t names : List ℕ) (n : ℕ) {end : ℕ} → end ≡ root_end t → Going t names n 0 end 0
going_start t names n e = record { looking = look_start (record_sound t names) n; placed = place_start t n e }

pub going_end : {t names : List ℕ} {n i end file : ℕ} → Going t names n i end file → n ≤ i
    → None ≡ first_false (record_sound t names) 0 n
going_end s h = look_end s.looking h

-- a table from record i on, as code lends it
abbrev lent : List ℕ → ℕ → List ℕ
lent t i = take (length t - 24 * i) (drop (24 * i) t)

-- record i, as code tests it
module _ (t names : List ℕ) {b : Bool} (b_is : b ≡ root_sound t) (b-yes : b ≡ true) {i end file : ℕ}
    (s : Going t names (length t / 24) i end file) (h : i < length t / 24) {later own least most : ℕ}
    (turned : Turned (lent t i) i end file later own least most) {r : Bool}
    (r-is : r ≡ sound_at (context (length names) (range least most)) 0 (lent t i)) where
  root_yes : root_sound t ≡ true
  root_yes = sym b_is ∙ b-yes

  turns : Turns t (length t / 24) i later own least most
  turns = turn_files i (omega (arith, sound_covers t root_yes)) s.placed h (rw (tail_part (24 * i) t) at turned)

  tested : record_sound t names i ≡ r
  unfolding record_sound context_of
  tested =
      let x : Context = context (length names) (range least most) in
      let here = sound_index x (drop (24 * i) t) i ∙ ap (sound_at x 0) (sym (tail_part (24 * i) t)) in
      rw (turns.files, here, ← r-is) (go (eqb i 0))
    where
      go : (z : Bool) {r : Bool} → (if' z (λ _. root_sound t) (λ _. true) && r) ≡ r
      go true = rw root_yes refl
      go false = refl

  pub record_here : r ≡ false → Some i ≡ first_false (record_sound t names) 0 (length t / 24)
  record_here e = look_here s.looking h (tested ∙ e)

  pub record_on : r ≡ true → Going t names (length t / 24) (i + 1) later own
  unfolding Placed
  record_on e = record { looking = look_on s.looking h (tested ∙ e); placed = rw add-one turns.after }

-- the same of a top-level statement, which does not end before the stretch does
pub record Judging (names : ℕ) (bs : List ℕ) (n i end file : ℕ) : Type 0 where
  pub looking : Looking (sound_in (context_in names bs) bs) n i
  pub opens : i ≡ 0 → end ≡ 0
  pub under : 1 ≤ i → (n ≤ end) × (file ≡ (node_of 0 bs).file)

judge_start : (names : ℕ) (bs : List ℕ) (n : ℕ) {end : ℕ} → end ≡ 0 → Judging names bs n 0 end 0
judge_start names bs n end_is = record {
  looking = look_start (sound_in (context_in names bs) bs) n;
  opens = λ z. end_is;
  under = λ z. absurd (omega arith);
}

module _ {names : ℕ} {bs : List ℕ} {n i end file : ℕ} (s : Judging names bs n i end file) (h : i < n)
    {later own least most : ℕ} (turned : Turned (lent bs i) i end file later own least most) where
  judge_file : own ≡ (node_of 0 bs).file
  judge_file = go (eqb i 0) refl
    where
      go : (z : Bool) → eqb i 0 ≡ z → own ≡ (node_of 0 bs).file
      go true e =
          let none : i ≡ 0 = eqb-true i 0 e in
          let here : lent bs i ≡ bs = tail_part (24 * i) bs ∙ ap (λ (k : ℕ). drop (24 * k) bs) none in
          (turned.opens (omega (arith, s.opens none))).1.0 ∙ ap (λ (x : List ℕ). (node_of 0 x).file) here
      go false e =
          let some : i ≡ 0 → ⊥ = eqb-false i 0 e in
          let kept = s.under (omega arith) in
          (turned.inside (omega (arith, kept.0))).1.0 ∙ kept.1

  judge_numbers : context_in names bs i ≡ context names (range least most)
  unfolding context_in
  judge_numbers = go (eqb i 0) refl
    where
      go : (z : Bool) → eqb i 0 ≡ z → context names (if' z (λ _. file_numbers)
          (λ _. range (node_of 0 bs).file (node_of 0 bs).file)) ≡ context names (range least most)
      go true e =
          let none : i ≡ 0 = eqb-true i 0 e in
          let told = (turned.opens (omega (arith, s.opens none))).1.1 in
          rw (told.0, told.1) refl
      go false e =
          let some : i ≡ 0 → ⊥ = eqb-false i 0 e in
          let kept = s.under (omega arith) in
          let told = (turned.inside (omega (arith, kept.0))).1.1 in
          rw (told.0, told.1, kept.1) refl

  module _ {r : Bool} (r-is : r ≡ sound_at (context names (range least most)) 0 (lent bs i)) where
    judge_test : sound_in (context_in names bs) bs i ≡ r
    unfolding sound_in
    judge_test = rw judge_numbers (sound_index (context names (range least most)) (drop (24 * i) bs) i
        ∙ ap (sound_at (context names (range least most)) 0) (sym (tail_part (24 * i) bs)) ∙ sym r-is)

    judge_here : r ≡ false → Some i ≡ first_false (sound_in (context_in names bs) bs) 0 n
    judge_here e = look_here s.looking h (judge_test ∙ e)

    judge_on : r ≡ true → {next : ℕ} → next ≡ max later n → Judging names bs n (i + 1) next own
    judge_on e next_is = record {
      looking = look_on s.looking h (judge_test ∙ e);
      opens = λ z. absurd (omega arith);
      under = λ z. (omega (arith, next_is), judge_file);
    }

-- the loop, whichever of the two it goes through
pub record Searching (t : List ℕ) (names first whole n i end file : ℕ) : Type 0 where
  pub alone : first ≡ 0 → whole ≡ n → Judging names t n i end file
  pub table : first ≡ root_end t → whole ≡ 0 → root_sound t ≡ true → (ns : List ℕ) → names ≡ length ns
      → Going t ns n i end file

pub search_start : (t : List ℕ) (names first whole n : ℕ) → Searching t names first whole n 0 first 0
search_start t names first whole n = record {
  alone = λ first_is whole_is. judge_start names t n first_is;
  table = λ first_is whole_is root ns names_are. going_start t ns n first_is;
}

module _ {t : List ℕ} {names first whole i end file : ℕ}
    (s : Searching t names first whole (length t / 24) i end file) where
  pub search_end : length t / 24 ≤ i → Searched t names first whole None
  unfolding unsound_in first_unsound
  search_end h = record {
    alone = λ first_is whole_is. look_end (s.alone first_is whole_is).looking h;
    table = λ first_is whole_is root ns names_are. going_end (s.table first_is whole_is root ns names_are) h;
  }

  module _ (h : i < length t / 24) {later own least most : ℕ}
      (turned : Turned (lent t i) i end file later own least most) {r : Bool}
      (r-is : r ≡ sound_at (context names (range least most)) 0 (lent t i)) where
    told_of_lem : (ns : List ℕ) → names ≡ length ns
        → r ≡ sound_at (context (length ns) (range least most)) 0 (lent t i)
    told_of_lem ns names_are = rw names_are at r-is

    pub search_here : r ≡ false → Searched t names first whole (Some i)
    unfolding unsound_in first_unsound
    search_here e = record {
      alone = λ first_is whole_is. judge_here (s.alone first_is whole_is) h turned r-is e;
      table = λ first_is whole_is root ns names_are.
          record_here t ns refl root (s.table first_is whole_is root ns names_are) h turned
          (told_of_lem ns names_are) e;
    }

    pub search_on : r ≡ true → {next : ℕ} → next ≡ max later whole
        → Searching t names first whole (length t / 24) (i + 1) next own
    search_on e {next} next_is = record {
      alone = λ first_is whole_is.
          judge_on (s.alone first_is whole_is) h turned r-is e (rw whole_is at next_is);
      table = λ first_is whole_is root ns names_are.
          let same : next ≡ later = omega (arith, next_is, whole_is) in
          rw same
          (record_on t ns refl root (s.table first_is whole_is root ns names_are) h turned
          (told_of_lem ns names_are) e);
    }

-- what the two searches find
pub table_found : (t ns : List ℕ) {first : ℕ} {b : Bool} {r : Option ℕ} → Searched t (length ns) first 0 r
    → first ≡ root_end t → b ≡ root_sound t → b ≡ true → r ≡ first_unsound t ns
table_found t ns s first_is b_is b-yes = s.table first_is refl (sym b_is ∙ b-yes) ns refl

pub statement_found : (bs : List ℕ) (names : ℕ) {r : Option ℕ} → Searched bs names 0 (length bs / 24) r
    → r ≡ unsound_in names bs
statement_found bs names s = s.alone refl refl
