-- A table with no unsound record is a forest whose every node is sound, and so is the stretch of each of its nodes
-- (`sound_table`, `sound_subtree`): a record's children are found by stepping over their sizes, and what is sound is as
-- long as it says, so that the records are the forest's nodes. The induction is on the records of a stretch
-- (`stretch_induction`): from its first node, whose size fits (`First`), to the children and to what follows. The other
-- way round, where the root covers the table and all nodes are sound, no record is unsound (`sound_clean`); so too for
-- a subtree by itself (`clear_sound`), and where its records have one context it does not matter where it is
-- (`sound_anywhere`). Subtrees are nested: one that begins within another ends within it (`nested`). Assumes nothing.
use Rattle.std.specs.Prelude.{None, Option, ℕ}
use mathlib.Core.Path.{◌≡◌, refl, sym, ap, ◌∙◌}
use mathlib.Core.Bool.{Bool, true, false, ◌&&◌}
use mathlib.Core.List.{List}
use mathlib.Core.Logic.{⊎_elim}
use Prim.Native.Nat.{ℕ, zero, suc, ◌+◌, ◌-◌, ◌*◌, ◌/◌, ◌<◌, ◌≤◌}
use native.Mathlib.Omega.{arith}
use lib.ListN.{length, take, drop, length-drop}
use lib.Seq.{take_all, take-take, drop-drop, length-take-le}
use lib.Dec.{eqb}
use borrow.Author.Tests.{eqb-true, eq-eqb}
use Rattle.fields.proofs.Basics.{and_both, and_left, and_right, both_ways, drop_take, le_or_lt}
use Rattle.fields.specs.Choice.{if'}
use Rattle.forest.specs.Forest.{Node, size_of, span_of, node_of, kids_of, rest_of, Tree, node, Forest, none, ◌then◌}
use Rattle.forest.specs.Forest.{forest, count}
use Rattle.forest.proofs.Stretch.{node_take, size_take, length_kids, length_rest, forest_none}
use Rattle.forest.proofs.Stretch.{forest_tree, forest_induction, count_forest, record_or_none}
use Rattle.forest.proofs.Named.{same_bytes_equal}
use Rattle.soundness.specs.Kinds.{Children, kind_of}
use Rattle.soundness.specs.Sound.{Context, fields_sound, whole_tree, whole_trees, classes, permitted, between}
use Rattle.soundness.specs.Sound.{wanted, permits, kids_sound, sound_node, sound_at, root_sound, context_of}
use Rattle.soundness.specs.Sound.{record_sound, first_false, first_unsound, sound_in, clear}
use Rattle.soundness.proofs.Search.{none_found_lem, all_found, clear_is}
use Rattle.soundness.proofs.Records.{whole_size, sound_index, sound_covers}

-- THEOREM: a record is whole exactly where its size is at least 1 and its subtree does not pass the end of what is
-- there
module _ (i : ℕ) (bs : List ℕ) (big : 24 ≤ length bs) where
  pub whole_size_fits : whole_tree (node_of i bs) (forest (i + 1) (kids_of bs)) ≡ true
      → (1 ≤ size_of bs) × (24 * size_of bs ≤ length bs)
  whole_size_fits e =
      let same_size = eqb-true (size_of bs) (1 + count (forest (i + 1) (kids_of bs))) e in
      omega (arith, same_size, count_forest (i + 1) (kids_of bs), length_kids bs)

  pub size_fits_whole : 1 ≤ size_of bs → 24 * size_of bs ≤ length bs
      → whole_tree (node_of i bs) (forest (i + 1) (kids_of bs)) ≡ true
  size_fits_whole least most = eq-eqb (size_of bs) (1 + count (forest (i + 1) (kids_of bs)))
      (omega (arith, count_forest (i + 1) (kids_of bs), length_kids bs))

-- every node of a forest is sound, each in its own context
unfoldable mutual
  pub all_sound : (ℕ → Context) → Forest → Bool
  all_sound x none = true
  all_sound x (t then ts) = tree_sound x t && all_sound x ts

  pub tree_sound : (ℕ → Context) → Tree → Bool
  tree_sound x (node r ks) = sound_node (x r.at) r ks && all_sound x ks

-- a stretch of whole records, each of them sound; its first record has the index i
pub record Sound (x : ℕ → Context) (i : ℕ) (bs : List ℕ) : Type 0 where
  pub records : 24 * (length bs / 24) ≡ length bs
  pub nodes : all_sound x (forest i bs) ≡ true

-- the parts of what is sound
module _ (x : Context) (r : Node) (ks : Forest) (e : sound_node x r ks ≡ true) where
  pub node_fields : fields_sound x r ≡ true
  unfolding sound_node
  node_fields = and_left (fields_sound x r) _ e

  pub node_size : r.size ≡ 1 + count ks
  unfolding sound_node
  node_size = eqb-true r.size (1 + count ks) (and_left (whole_tree r ks) _ (and_right (fields_sound x r) _ e))

  node_kids : kids_sound ((kind_of r.kind).kids r.detail) ks ≡ true
  unfolding sound_node
  node_kids = and_right (whole_tree r ks) _ (and_right (fields_sound x r) _ e)

  pub node_whole : whole_trees ks ≡ true
  unfolding kids_sound
  node_whole = and_left (whole_trees ks) _ node_kids

  -- the classes of the children, in order: what the kind requires of this number of children
  pub node_classes : classes ks ≡ wanted ((kind_of r.kind).kids r.detail) (length (classes ks))
  unfolding kids_sound permits
  node_classes =
      let c : Children = (kind_of r.kind).kids r.detail in
      same_bytes_equal (classes ks) (wanted c (length (classes ks)))
      (and_right (permitted c.times (between c (length (classes ks)))) _
      (and_right (whole_trees ks) _ node_kids))

-- the first node of a stretch whose nodes are whole: its subtree takes its size
module _ (i : ℕ) (bs : List ℕ) (big : 24 ≤ length bs) (whole : whole_trees (forest i bs) ≡ true) where
  cut_whole : (whole_tree (node_of i bs) (forest (i + 1) (kids_of bs))
      && whole_trees (forest (i + span_of bs / 24) (rest_of bs))) ≡ true
  unfolding whole_trees
  cut_whole = ap whole_trees (sym (forest_tree i bs big)) ∙ whole

  first_size : size_of bs ≡ span_of bs / 24
  first_size =
      eqb-true (size_of bs) (1 + count (forest (i + 1) (kids_of bs)))
      (and_left (whole_tree (node_of i bs) (forest (i + 1) (kids_of bs))) _ cut_whole)
      ∙ whole_size (i + 1) (span_of bs) bs big refl

  rest_whole : whole_trees (forest (i + span_of bs / 24) (rest_of bs)) ≡ true
  rest_whole = and_right (whole_tree (node_of i bs) (forest (i + 1) (kids_of bs))) _ cut_whole

-- a stretch that is one whole subtree
one_whole : (i : ℕ) (bs : List ℕ) → 1 ≤ size_of bs → length bs ≡ 24 * size_of bs → whole_trees (forest i bs) ≡ true
unfolding whole_trees
one_whole i bs some long =
    let w : size_of bs ≡ 1 + count (forest (i + 1) (kids_of bs)) = omega
    (arith, whole_size (i + 1) (span_of bs) bs (omega arith) refl) in
    rw (
      forest_tree i bs (omega arith),
      forest_none (i + span_of bs / 24) (rest_of bs)
          (omega (arith, length_rest bs)),
      ← w,
    ) (and_both _ true (eq-eqb (size_of bs) (size_of bs) refl) refl)

-- m records of a table t from record i on
abbrev stretch : List ℕ → ℕ → ℕ → List ℕ
stretch t i m = take (24 * m) (drop (24 * i) t)

length_stretch : (t : List ℕ) (i m : ℕ) → 24 * (i + m) ≤ length t → length (stretch t i m) ≡ 24 * m
length_stretch t i m h = length-take-le (24 * m) (drop (24 * i) t) (simp length-drop (omega arith))

span_size : (bs : List ℕ) {s : ℕ} → s ≡ size_of bs → 1 ≤ s → 24 * s ≤ length bs → span_of bs ≡ 24 * s
span_size bs s-is least room = omega arith

-- a stretch of at least one record, whose first node has a size of at least 1 that fits into it
record First (t : List ℕ) (i m : ℕ) : Type 0 where
  room : 24 * (i + m) ≤ length t
  some : 1 ≤ m
  size : span_of (stretch t i m) ≡ 24 * size_of (stretch t i m)
  least : 1 ≤ size_of (stretch t i m)

-- its first node: the record, its children and what follows
module _ {t : List ℕ} {i m : ℕ} (f : First t i m) where
  same_size : size_of (stretch t i m) ≡ size_of (drop (24 * i) t)
  same_size = size_take (24 * m) (drop (24 * i) t) (omega (arith, f.some))

  most : size_of (stretch t i m) ≤ m
  most = omega (arith, f.size, length_stretch t i m f.room)

  after : i + span_of (stretch t i m) / 24 ≡ i + size_of (stretch t i m)
  after = omega (arith, f.size)

  kids_are : kids_of (stretch t i m) ≡ stretch t (i + 1) (size_of (stretch t i m) - 1)
  unfolding kids_of
  kids_are =
      let n : span_of (stretch t i m) - 24 ≡ 24 * (size_of (stretch t i m) - 1) = omega (arith, f.size) in
      let a : 24 * i + 24 ≡ 24 * (i + 1) = omega arith in
      rw (
        drop_take 24 (24 * m) (drop (24 * i) t),
        take-take (span_of (stretch t i m) - 24) (24 * m - 24) (drop 24 (drop (24 * i) t))
            (omega (arith, f.size, most)),
        drop-drop 24 (24 * i) t,
        n,
        a,
      ) refl

  kids_same : kids_of (stretch t i m) ≡ kids_of (drop (24 * i) t)
  unfolding kids_of
  kids_same =
      let n : span_of (drop (24 * i) t) ≡ span_of (stretch t i m) = span_size (drop (24 * i) t) same_size f.least
      (simp length-drop (omega (arith, f.room, most))) ∙ sym f.size in
      rw (n, drop_take 24 (24 * m) (drop (24 * i) t))
      (take-take (span_of (stretch t i m) - 24) (24 * m - 24) (drop 24 (drop (24 * i) t)) (omega (arith, f.size, most)))

  rest_is : rest_of (stretch t i m) ≡ stretch t (i + size_of (stretch t i m)) (m - size_of (stretch t i m))
  unfolding rest_of
  rest_is =
      let n : 24 * m - 24 * size_of (stretch t i m) ≡ 24 * (m - size_of (stretch t i m)) = omega arith in
      let a : 24 * i + 24 * size_of (stretch t i m) ≡ 24 * (i + size_of (stretch t i m)) = omega arith in
      rw (
        f.size,
        drop_take (24 * size_of (stretch t i m)) (24 * m) (drop (24 * i) t),
        drop-drop (24 * size_of (stretch t i m)) (24 * i) t,
        n,
        a,
      ) refl

  here_sound : (x : Context) → sound_at x i (drop (24 * i) t) ≡ true
      → sound_node x (node_of i (stretch t i m)) (forest (i + 1) (kids_of (stretch t i m))) ≡ true
  unfolding sound_at
  here_sound x h = rw (kids_same, node_take i (24 * m) (drop (24 * i) t) (omega (arith, f.some))) h

-- a record from i on is record i, another of the n records of its subtree, or one behind these
by_place_lem : {P : Type 0} (i n j : ℕ) → i ≤ j → (j ≡ i → P) → (i + 1 ≤ j → j < i + n → P) → (i + n ≤ j → P) → P
by_place_lem i n j h here under behind =
    ⊎_elim behind
    (λ (near : j < i + n). ⊎_elim
    (λ (a : i + 1 ≤ j). under a near)
    (λ (a : j < i + 1). here (omega arith))
    (le_or_lt (i + 1) j))
    (le_or_lt (i + n) j)

-- the nodes of a stretch are whole, and the stretch lies in the table
record Whole (t : List ℕ) (i m : ℕ) : Type 0 where
  room : 24 * (i + m) ≤ length t
  trees : whole_trees (forest i (stretch t i m)) ≡ true

all_none : (x : ℕ → Context) (i : ℕ) (bs : List ℕ) → length bs < 24 → all_sound x (forest i bs) ≡ true
unfolding all_sound
all_none x i bs h = rw (forest_none i bs h) refl

all_tree : (x : ℕ → Context) (i : ℕ) (bs : List ℕ) → 24 ≤ length bs
    → sound_node (x i) (node_of i bs) (forest (i + 1) (kids_of bs)) ≡ true
    → all_sound x (forest (i + 1) (kids_of bs)) ≡ true → all_sound x (forest (i + span_of bs / 24) (rest_of bs)) ≡ true
    → all_sound x (forest i bs) ≡ true
unfolding all_sound
all_tree x i bs big a b c = rw (forest_tree i bs big, a, b, c) refl

-- where each record of a table is sound: stretches of it whose nodes are whole
module _ (x : ℕ → Context) (t : List ℕ) (clean : (j : ℕ) → j < length t / 24
    → sound_at (x j) j (drop (24 * j) t) ≡ true) where
  -- the first node of such a stretch, its children and what follows
  whole_first : {i m : ℕ} → Whole t i m → 1 ≤ m → First t i m
  whole_first {i} {m} w some =
      let long = length_stretch t i m w.room in
      let fits = first_size i (stretch t i m) (omega arith) w.trees in
      record { room = w.room; some = some; size = omega arith; least = omega arith }

  first_sound_lem : {i m : ℕ} → First t i m
      → sound_node (x i) (node_of i (stretch t i m)) (forest (i + 1) (kids_of (stretch t i m))) ≡ true
  first_sound_lem {i} f = here_sound f (x i) (clean i (omega (arith, f.room, f.some)))

  whole_kids : {i m : ℕ} → First t i m → Whole t (i + 1) (size_of (stretch t i m) - 1)
  whole_kids {i} {m} f = record {
    room = omega (arith, f.room, f.least, most f);
    trees = rw (kids_are f) at (node_whole (x i) (node_of i (stretch t i m)) _ (first_sound_lem f));
  }

  whole_behind : {i m : ℕ} → First t i m → Whole t i m
      → Whole t (i + size_of (stretch t i m)) (m - size_of (stretch t i m))
  whole_behind {i} {m} f w =
      let big : 24 ≤ length (stretch t i m) = omega (arith, f.some, length_stretch t i m f.room) in
      record {
        room = omega (arith, f.room, most f);
        trees = rw (rest_is f, after f) at (rest_whole i (stretch t i m) big w.trees);
      }

  -- LAW: to show something of each, show it of none and of a first node from its children and what follows
  stretch_induction : (P : ℕ → ℕ → Type 0) → ((i : ℕ) → P i 0)
      → ((i m : ℕ) → First t i m → P (i + 1) (size_of (stretch t i m) - 1)
      → P (i + size_of (stretch t i m)) (m - size_of (stretch t i m)) → P i m)
      → (k i m : ℕ) → m ≤ k → Whole t i m → P i m
  stretch_induction P nothing more zero i m hk w = let z : m ≡ 0 = omega arith in rw z (nothing i)
  stretch_induction P nothing more (suc k) i zero hk w = nothing i
  stretch_induction P nothing more (suc k) i (suc l) hk w =
      let f : First t i (suc l) = whole_first w (omega arith) in
      let n : ℕ = size_of (stretch t i (suc l)) in
      more i (suc l) f
      (stretch_induction P nothing more k (i + 1) (n - 1) (omega (arith, most f)) (whole_kids f))
      (stretch_induction P nothing more k (i + n) (suc l - n) (omega (arith, f.least)) (whole_behind f w))

  -- their nodes are sound
  all_in_lem : (k i m : ℕ) → m ≤ k → Whole t i m → all_sound x (forest i (stretch t i m)) ≡ true
  all_in_lem =
      stretch_induction (λ i m. all_sound x (forest i (stretch t i m)) ≡ true)
      (λ i. all_none x i (stretch t i 0) (omega arith))
      (λ i m f kids rest.
      let big : 24 ≤ length (stretch t i m) = omega (arith, f.some, length_stretch t i m f.room) in
      all_tree x i (stretch t i m) big (first_sound_lem f) (rw (kids_are f) kids) (rw (rest_is f, after f) rest))

  -- the subtree of a node in one ends in it
  ends_in : (k i m : ℕ) → m ≤ k → Whole t i m
      → (j : ℕ) → i ≤ j → j < i + m → j + size_of (drop (24 * j) t) ≤ i + m
  ends_in =
      stretch_induction (λ i m. (j : ℕ) → i ≤ j → j < i + m → j + size_of (drop (24 * j) t) ≤ i + m)
      (λ i j h g. absurd (omega arith))
      (λ i m f kids rest j h g.
      let upto = most f in
      by_place_lem i (size_of (stretch t i m)) j h
      (λ at. rw at (omega (arith, same_size f)))
      (λ under near. omega (arith, kids j under (omega arith)))
      (λ far. omega (arith, rest j far (omega arith))))

-- LAWS: a table with no unsound record
module _ (t names : List ℕ) (e : first_unsound t names ≡ None) where
  -- each of its records is sound
  pub record_clean : (i : ℕ) → i < length t / 24 → record_sound t names i ≡ true
  unfolding first_unsound
  record_clean i h = none_found_lem (record_sound t names) (length t / 24) e i h

  clean : (i : ℕ) → i < length t / 24 → sound_at (context_of t names i) i (drop (24 * i) t) ≡ true
  unfolding record_sound
  clean i h = and_right (if' (eqb i 0) (λ _. root_sound t) (λ _. true)) _ (record_clean i h)

  -- its root is a statement that covers it
  module _ (some : 24 ≤ length t) where
    root : root_sound t ≡ true
    unfolding record_sound
    root = and_left (root_sound t) _ (record_clean 0 (omega arith))

    pub root_covers : 24 * size_of t ≡ length t
    root_covers = sound_covers t root

  -- its nodes have a size, and their subtrees lie within it
  module _ (i : ℕ) (h : i < length t / 24) where
    pub here_size : (1 ≤ size_of (drop (24 * i) t)) × (24 * (i + size_of (drop (24 * i) t)) ≤ length t)
    unfolding sound_at
    here_size =
        let x : List ℕ = drop (24 * i) t in
        let s = node_size (context_of t names i) (node_of i x) (forest (i + 1) (kids_of x)) (clean i h) in
        omega (arith, whole_size (i + 1) (span_of x) x (simp length-drop (omega arith)) refl, length-drop (24 * i) t)

    -- the stretch of a node is one whole subtree
    subtree_whole : Whole t i (size_of (drop (24 * i) t))
    subtree_whole =
        let s : ℕ = size_of (drop (24 * i) t) in
        let z = here_size in
        let long = length_stretch t i s (omega arith) in
        let same : size_of (stretch t i s) ≡ s = size_take (24 * s) (drop (24 * i) t) (omega arith) in
        record { room = omega arith; trees = one_whole i (stretch t i s) (omega arith) (omega arith) }

    -- and is sound
    pub sound_subtree : Sound (context_of t names) i (take (24 * size_of (drop (24 * i) t)) (drop (24 * i) t))
    sound_subtree =
        let s : ℕ = size_of (drop (24 * i) t) in
        record {
          records = omega (arith, length_stretch t i s subtree_whole.room);
          nodes = all_in_lem (context_of t names) t clean s i s (omega arith) subtree_whole;
        }

    -- the subtree of a node within it ends within it
    pub nested : (j : ℕ) → i ≤ j → j < i + size_of (drop (24 * i) t)
        → j + size_of (drop (24 * j) t) ≤ i + size_of (drop (24 * i) t)
    nested = let s : ℕ = size_of (drop (24 * i) t) in
        ends_in (context_of t names) t clean s i s (omega arith) subtree_whole

  pub sound_table : 24 ≤ length t → Sound (context_of t names) 0 t
  sound_table some =
      let s = root_covers some in
      let all : take (24 * size_of t) t ≡ t = take_all (24 * size_of t) t (omega arith) in
      rw all at (sound_subtree 0 (omega arith))

-- LAWS: the first node of a sound stretch, its children and what follows
module _ (x : ℕ → Context) (i : ℕ) (bs : List ℕ) (s : Sound x i bs) (big : 24 ≤ length bs) where
  parts : ((sound_node (x i) (node_of i bs) (forest (i + 1) (kids_of bs)) && all_sound x (forest (i + 1) (kids_of bs)))
      && all_sound x (forest (i + span_of bs / 24) (rest_of bs))) ≡ true
  unfolding all_sound
  parts = sym (ap (all_sound x) (forest_tree i bs big)) ∙ s.nodes

  tree_part : (sound_node (x i) (node_of i bs) (forest (i + 1) (kids_of bs))
      && all_sound x (forest (i + 1) (kids_of bs))) ≡ true
  tree_part = and_left _ _ parts

  pub sound_first : sound_node (x i) (node_of i bs) (forest (i + 1) (kids_of bs)) ≡ true
  sound_first = and_left (sound_node (x i) (node_of i bs) (forest (i + 1) (kids_of bs))) _ tree_part

  -- the clip never acts: the subtree takes what its record says
  pub sound_size : (1 ≤ size_of bs) × (24 * size_of bs ≤ length bs) × (span_of bs ≡ 24 * size_of bs)
  sound_size =
      let w = node_size (x i) (node_of i bs) (forest (i + 1) (kids_of bs)) sound_first in
      omega (arith, whole_size (i + 1) (span_of bs) bs big refl, s.records)

  pub sound_kids : Sound x (i + 1) (kids_of bs)
  sound_kids = let z = sound_size in record {
    records = omega (arith, length_kids bs);
    nodes = and_right (sound_node (x i) (node_of i bs) (forest (i + 1) (kids_of bs))) _ tree_part;
  }

  pub sound_rest : Sound x (i + span_of bs / 24) (rest_of bs)
  sound_rest = let z = sound_size in record {
    records = omega (arith, length_rest bs, s.records);
    nodes = and_right (sound_node (x i) (node_of i bs) (forest (i + 1) (kids_of bs))
        && all_sound x (forest (i + 1) (kids_of bs))) _ parts;
  }

-- every node of a stretch is sound, and the stretch lies in the table
record SoundPart (x : ℕ → Context) (t : List ℕ) (i m : ℕ) : Type 0 where
  room : 24 * (i + m) ≤ length t
  nodes : all_sound x (forest i (stretch t i m)) ≡ true

-- the first node of such a stretch: its record, its children and what follows
module _ {x : ℕ → Context} {t : List ℕ} {i m : ℕ} (s : SoundPart x t i m) (some : 1 ≤ m) where
  big : 24 ≤ length (stretch t i m)
  big = omega (arith, length_stretch t i m s.room)

  as_sound : Sound x i (stretch t i m)
  as_sound = record { records = omega (arith, length_stretch t i m s.room); nodes = s.nodes }

  sound_part_first : First t i m
  sound_part_first = let z = sound_size x i (stretch t i m) as_sound big in
      record { room = s.room; some = some; size = z.2; least = z.0 }

  sound_part_here : sound_at (x i) i (drop (24 * i) t) ≡ true
  unfolding sound_at
  sound_part_here = rw (kids_same sound_part_first, node_take i (24 * m) (drop (24 * i) t) (omega arith))
      at (sound_first x i (stretch t i m) as_sound big)

  sound_part_kids : SoundPart x t (i + 1) (size_of (stretch t i m) - 1)
  sound_part_kids = let f = sound_part_first in record {
    room = omega (arith, f.room, f.least, most f);
    nodes = rw (kids_are f) at (sound_kids x i (stretch t i m) as_sound big).nodes;
  }

  sound_part_behind : SoundPart x t (i + size_of (stretch t i m)) (m - size_of (stretch t i m))
  sound_part_behind = let f = sound_part_first in record {
    room = omega (arith, f.room, most f);
    nodes = rw (rest_is f, after f) at (sound_rest x i (stretch t i m) as_sound big).nodes;
  }

-- LAW: where every node of a stretch of a table is sound, so is each of its records: it is the first, one under it, or
-- one behind
each_in : (x : ℕ → Context) (t : List ℕ) (k i m : ℕ) → m ≤ k → SoundPart x t i m
    → (j : ℕ) → i ≤ j → j < i + m → sound_at (x j) j (drop (24 * j) t) ≡ true
each_in x t zero i m hk s j h g = absurd (omega arith)
each_in x t (suc k) i m hk s j h g =
    let some : 1 ≤ m = omega arith in
    let n : ℕ = size_of (stretch t i m) in
    let least : 1 ≤ n = (sound_part_first s some).least in
    let upto : n ≤ m = most (sound_part_first s some) in
    by_place_lem i n j h (λ at. rw at (sound_part_here s some))
    (λ under near. each_in x t k (i + 1) (n - 1) (omega arith) (sound_part_kids s some) j under (omega arith))
    (λ far. each_in x t k (i + n) (m - n) (omega arith) (sound_part_behind s some) j far (omega arith))

record_in : (t names : List ℕ) → root_sound t ≡ true → (j : ℕ)
    → sound_at (context_of t names j) j (drop (24 * j) t) ≡ true → record_sound t names j ≡ true
unfolding record_sound
record_in t names root j e = rw (root, e) (go (eqb j 0))
  where
    go : (b : Bool) → (if' b (λ _. true) (λ _. true) && true) ≡ true
    go true = refl
    go false = refl

-- THEOREM: a table that its root covers, and whose nodes are all sound, has no unsound record
pub sound_clean : (t names : List ℕ) → root_sound t ≡ true → Sound (context_of t names) 0 t
    → first_unsound t names ≡ None
unfolding first_unsound
sound_clean t names root s =
    let n : ℕ = length t / 24 in
    let all : take (24 * n) t ≡ t = take_all (24 * n) t (omega (arith, s.records)) in
    let part : SoundPart (context_of t names) t 0 n = record {
      room = omega (arith, s.records);
      nodes = rw all s.nodes;
    } in
    all_found (record_sound t names) n (λ j h. record_in t names root j
    (each_in (context_of t names) t n 0 n (omega arith) part j (omega arith) (omega arith)))

-- LAW: a subtree that fills its stretch has no unsound record exactly where all its nodes are sound
module _ (x : ℕ → Context) (bs : List ℕ) (one : span_of bs ≡ length bs)
    (records : 24 * (length bs / 24) ≡ length bs) where
  abbrev n : ℕ
  n = length bs / 24

  abbrev found : Option ℕ
  found = first_false (sound_in x bs) 0 n

  all_bytes_lem : stretch bs 0 n ≡ bs
  all_bytes_lem = take_all (24 * n) bs (omega arith)

  nothing_sound : found ≡ None → all_sound x (forest 0 bs) ≡ true
  unfolding sound_in sound_at
  nothing_sound clean =
      record_or_none bs (all_none x 0 bs) λ big.
      let each : (j : ℕ) → j < n
      → sound_at (x j) j (drop (24 * j) bs) ≡ true = none_found_lem (sound_in x bs) n clean in
      let size = node_size (x 0) (node_of 0 bs) (forest 1 (kids_of bs)) (each 0 (omega arith)) in
      let long : length bs ≡ 24 * size_of bs = omega (arith, count_forest 1 (kids_of bs), length_kids bs) in
      let whole : Whole bs 0 n = record {
        room = omega arith;
        trees = rw all_bytes_lem (one_whole 0 bs (omega arith) long);
      } in
      rw all_bytes_lem at (all_in_lem x bs each n 0 n (omega arith) whole)

  sound_nothing : all_sound x (forest 0 bs) ≡ true → found ≡ None
  unfolding sound_in
  sound_nothing sound =
      let part : SoundPart x bs 0 n = record { room = omega arith; nodes = rw all_bytes_lem sound } in
      all_found (sound_in x bs) n (λ j h. each_in x bs n 0 n (omega arith) part j (omega arith) (omega arith))

  pub clear_sound : clear found ≡ all_sound x (forest 0 bs)
  clear_sound = both_ways _ _ (λ e. nothing_sound (clear_is found e)) (λ e. rw (sound_nothing e) refl)

-- LAW: where all records have the same context, the index of the first does not matter
here_anywhere : (x : Context) (bs : List ℕ) (i j : ℕ) → sound_node x (node_of i bs) (forest (i + 1) (kids_of bs))
    ≡ sound_node x (node_of j bs) (forest (j + 1) (kids_of bs))
unfolding sound_at
here_anywhere x bs i j = sound_index x bs i ∙ sym (sound_index x bs j)

pub sound_anywhere : (x : Context) (i : ℕ) (bs : List ℕ) (j : ℕ)
    → all_sound (λ k. x) (forest i bs) ≡ all_sound (λ k. x) (forest j bs)
unfolding all_sound
sound_anywhere x =
    forest_induction (λ i bs. (j : ℕ) → all_sound (λ k. x) (forest i bs) ≡ all_sound (λ k. x) (forest j bs))
    (λ i bs s j. rw (forest_none i bs s, forest_none j bs s) refl)
    (λ i bs big ks rs j. rw (
      forest_tree i bs big,
      forest_tree j bs big,
      ks (j + 1),
      rs (j + span_of bs / 24),
      here_anywhere x bs i j,
    ) refl)
