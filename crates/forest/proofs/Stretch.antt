-- A stretch of records is a forest, for any bytes. It is empty, or its first node with that node's children and what
-- follows it (`forest_none`, `forest_tree`): the definition counts down some fuel, and any fuel that is enough gives
-- the same forest (`forest_in_enough`, by induction on the fuel), so nobody else sees it. To show something of every
-- stretch, use `forest_induction`: children and rest are shorter. With it the nodes of the forest are the records of
-- the stretch in order (`nodes_records`), as many as there are (`count_forest`). Walks cite `each_cut` and `kids_cut`,
-- which are in the terms of code, and lists `roots_on`.
use mathlib.Core.Path.{◌≡◌, refl, sym, ap, ◌∙◌}
use mathlib.Core.Bool.{Bool, true, false}
use mathlib.Core.List.{List, [], ◌∷◌, ◌++◌}
use Prim.Native.Nat.{ℕ, zero, suc, ◌+◌, ◌-◌, ◌*◌, ◌/◌, ◌<◌, ◌≤◌}
use native.Mathlib.Omega.{arith}
use native.Mathlib.Numerals.{one-add}
use native.Mathlib.Nat.{zero-add, add-zero, suc-add, add_assoc}
use lib.ListN.{length, take, drop, length-take, length-drop}
use lib.Seq.{get_or-take, drop-drop}
use lib.Dec.{leb}
use borrow.Author.Tests.{le-leb, lt-leb, leb-true, leb-false}
use Rattle.fields.proofs.Basics.{drop_take}
use Rattle.fields.proofs.Fields.{tail_part, field_take}
use Rattle.forest.specs.Forest.{Node, size_of, node_of, span_of, kids_of, rest_of, Tree, node, Forest, none}
use Rattle.forest.specs.Forest.{◌then◌, forest_in, forest, tree_of, count, roots, nodes}

-- a node with its children and what follows
abbrev pub tree : Node → Forest → Forest → Forest
tree r ks rs = node r ks then rs

-- the lengths of the two parts of a stretch
module _ (bs : List ℕ) where
  pub length_kids : length (kids_of bs) ≡ span_of bs - 24
  unfolding kids_of
  length_kids = simp (length-take, length-drop) (omega arith)

  pub length_rest : length (rest_of bs) ≡ length bs - span_of bs
  unfolding rest_of
  length_rest = simp length-drop

-- the parts that code makes of a stretch whose first subtree takes e bytes
module _ (e : ℕ) (bs : List ℕ) (h : e ≡ span_of bs) where
  pub kids_part : take (e - 24) (drop 24 bs) ≡ kids_of bs
  unfolding kids_of
  kids_part = ap (λ (n : ℕ). take (n - 24) (drop 24 bs)) h

  pub rest_part : take (length bs - e) (drop e bs) ≡ rest_of bs
  unfolding rest_of
  rest_part = tail_part e bs ∙ ap (λ (n : ℕ). drop n bs) h

-- a stretch has a record, or none
pub record_or_none : {P : Type 0} (bs : List ℕ) → (length bs < 24 → P) → (24 ≤ length bs → P) → P
record_or_none {P} bs f g = go (leb 24 (length bs)) refl
  where
    go : (b : Bool) → leb 24 (length bs) ≡ b → P
    go true e = g (leb-true 24 (length bs) e)
    go false e = f (leb-false 24 (length bs) e)

-- a forest's first node, and the empty forest, at some fuel
forest_in_short : (k i : ℕ) (bs : List ℕ) → length bs < 24 → forest_in k i bs ≡ none
unfolding forest_in
forest_in_short zero i bs h = refl
forest_in_short (suc k) i bs h = rw (lt-leb 24 (length bs) h, forest_in) refl

forest_in_tree : (k i : ℕ) (bs : List ℕ) → 24 ≤ length bs
    → forest_in (suc k) i bs ≡ tree (node_of i bs) (forest_in k (i + 1) (kids_of bs))
    (forest_in k (i + span_of bs / 24) (rest_of bs))
unfolding forest_in
forest_in_tree k i bs h = rw (le-leb 24 (length bs) h, forest_in) refl

-- any fuel that is enough gives the same
forest_in_enough : (k j i : ℕ) (bs : List ℕ) → length bs ≤ k → length bs ≤ j → forest_in k i bs ≡ forest_in j i bs
forest_in_enough zero j i bs h g = forest_in_short zero i bs (omega arith) ∙ sym (forest_in_short j i bs (omega arith))
forest_in_enough (suc k) zero i bs h g = forest_in_short (suc k) i bs (omega arith)
    ∙ sym (forest_in_short zero i bs (omega arith))
forest_in_enough (suc k) (suc j) i bs h g =
    let ks = forest_in_enough k j (i + 1) (kids_of bs) (omega (arith, length_kids bs))
    (omega (arith, length_kids bs)) in
    let rs = forest_in_enough k j (i + span_of bs / 24) (rest_of bs) (omega (arith, length_rest bs))
    (omega (arith, length_rest bs)) in
    record_or_none bs (λ s. forest_in_short (suc k) i bs s ∙ sym (forest_in_short (suc j) i bs s))
    (λ s. forest_in_tree k i bs s ∙ rw (ks, rs) (sym (forest_in_tree j i bs s)))

-- LAW: a stretch is empty, or its first node, that node's children and what follows
pub forest_none : (i : ℕ) (bs : List ℕ) → length bs < 24 → forest i bs ≡ none
unfolding forest
forest_none i bs h = forest_in_short (length bs) i bs h

pub forest_tree : (i : ℕ) (bs : List ℕ) → 24 ≤ length bs
    → forest i bs ≡ tree (node_of i bs) (forest (i + 1) (kids_of bs)) (forest (i + span_of bs / 24) (rest_of bs))
unfolding forest
forest_tree i bs h =
    let all = forest_in_enough (length bs) (suc (length bs)) i bs (omega arith) (omega arith) in
    let ks = forest_in_enough (length bs) (length (kids_of bs)) (i + 1) (kids_of bs) (omega (arith, length_kids bs))
    (omega arith) in
    let rs = forest_in_enough (length bs) (length (rest_of bs)) (i + span_of bs / 24) (rest_of bs)
    (omega (arith, length_rest bs)) (omega arith) in
    all ∙ forest_in_tree (length bs) i bs h ∙ rw (ks, rs) refl

-- LAW: to show something of every forest of a stretch, show it of the empty one and of a first node from its children
-- and what follows
pub forest_induction : (P : ℕ → List ℕ → Type 0)
    → ((i : ℕ) (bs : List ℕ) → length bs < 24 → P i bs)
    → ((i : ℕ) (bs : List ℕ) → 24 ≤ length bs → P (i + 1) (kids_of bs) → P (i + span_of bs / 24) (rest_of bs) → P i bs)
    → (i : ℕ) (bs : List ℕ) → P i bs
forest_induction P short more i bs = go (length bs) i bs (omega arith)
  where
    go : (k i : ℕ) (bs : List ℕ) → length bs ≤ k → P i bs
    go zero i bs h = short i bs (omega arith)
    go (suc k) i bs h =
        record_or_none bs (short i bs) λ big.
        more i bs big (go k (i + 1) (kids_of bs) (omega (arith, length_kids bs)))
        (go k (i + span_of bs / 24) (rest_of bs) (omega (arith, length_rest bs)))

-- LAW: a forest has as many nodes as its stretch has records
pub count_forest : (i : ℕ) (bs : List ℕ) → count (forest i bs) ≡ length bs / 24
unfolding count
count_forest =
    forest_induction (λ i bs. count (forest i bs) ≡ length bs / 24)
    (λ i bs s. rw (forest_none i bs s) (omega arith))
    (λ i bs big ks rs. rw (forest_tree i bs big) (omega (arith, length_kids bs, length_rest bs)))

-- LAWS for a rule over trees side by side, in the terms of code: `all` is `one` at each tree, joined from the
-- left
module _ {A : Type 0} (all : Forest → A) (i e : ℕ) (bs : List ℕ) where
  pub kids_cut : e ≡ span_of bs → all (forest (i + 1) (take (e - 24) (drop 24 bs)))
      ≡ all (forest (i + 1) (kids_of bs))
  kids_cut h = ap (λ (l : List ℕ). all (forest (i + 1) l)) (kids_part e bs h)

  pub each_cut : (one : Tree → A) (join : A → A → A)
      → ((t : Tree) (ts : Forest) → all (t then ts) ≡ join (one t) (all ts)) → 24 ≤ length bs → e ≡ span_of bs
      → all (forest i bs) ≡ join (one (tree_of i bs)) (all (forest (i + e / 24) (take (length bs - e) (drop e bs))))
  each_cut one join then_is big h = rw (rest_part e bs h, h)
      (ap all (forest_tree i bs big) ∙ then_is (tree_of i bs) (forest (i + span_of bs / 24) (rest_of bs)))

-- LAW: the same as a walk goes on
pub each_next : {A : Type 0} (all : Forest → A) (one : Tree → A) (join : A → A → A)
    → ((t : Tree) (ts : Forest) → all (t then ts) ≡ join (one t) (all ts)) → (i : ℕ) (bs : List ℕ) → 24 ≤ length bs
    → {next : ℕ} {after : List ℕ} → next ≡ i + span_of bs / 24 → after ≡ rest_of bs
    → all (forest i bs) ≡ join (one (tree_of i bs)) (all (forest next after))
each_next all one join then_is i bs big next-is after-is = rw (next-is, after-is)
    (ap all (forest_tree i bs big) ∙ then_is (tree_of i bs) (forest (i + span_of bs / 24) (rest_of bs)))

-- LAW: the nodes side by side in a stretch are none, or its first node and those after it
pub roots_none : (i : ℕ) (bs : List ℕ) → length bs < 24 → roots (forest i bs) ≡ []
unfolding roots
roots_none i bs h = rw (forest_none i bs h) refl

pub roots_on : (i : ℕ) (bs : List ℕ) {e : ℕ} → 24 ≤ length bs → e ≡ span_of bs
    → roots (forest i bs) ≡ node_of i bs ∷ roots (forest (i + e / 24) (take (length bs - e) (drop e bs)))
unfolding roots
roots_on i bs {e} big e-is = rw (forest_tree i bs big, rest_part e bs e-is, e-is) refl

-- n records of a stretch in order, the first with the index i
abbrev pub records : ℕ → ℕ → List ℕ → List Node
records zero i bs = []
records (suc n) i bs = node_of i bs ∷ records n (i + 1) (drop 24 bs)

records_split : (n m i : ℕ) (bs : List ℕ)
    → records (n + m) i bs ≡ records n i bs ++ records m (i + n) (drop (24 * n) bs)
records_split zero m i bs = simp (zero-add, add-zero)
records_split (suc n) m i bs =
    let on : 24 + 24 * n ≡ 24 * suc n = omega arith in
    simp (suc-add, records_split n m (i + 1) (drop 24 bs), drop-drop, on, add_assoc, one-add)

-- a record is the same in a part that holds it
pub node_take : (i n : ℕ) (bs : List ℕ) → 24 ≤ n → node_of i (take n bs) ≡ node_of i bs
unfolding size_of
node_take i n bs h =
    rw (
      get_or-take n bs 0 0 (omega arith),
      get_or-take n bs 1 0 (omega arith),
      field_take 2 bs n 2 (omega arith),
      field_take 4 bs n 4 (omega arith),
      field_take 4 bs n 8 (omega arith),
      field_take 4 bs n 12 (omega arith),
      field_take 2 bs n 16 (omega arith),
      field_take 2 bs n 18 (omega arith),
      field_take 4 bs n 20 (omega arith),
    )

pub size_take : (n : ℕ) (bs : List ℕ) → 24 ≤ n → size_of (take n bs) ≡ size_of bs
unfolding size_of
size_take n bs h = field_take 2 bs n 16 (omega arith)

pub records_take : (n i k : ℕ) (bs : List ℕ) → 24 * n ≤ k → records n i (take k bs) ≡ records n i bs
records_take zero i k bs h = refl
records_take (suc n) i k bs h = rw (
  node_take i k bs (omega arith),
  drop_take 24 k bs,
  records_take n (i + 1) (k - 24) (drop 24 bs) (omega arith),
)

pub kids_records : (k i : ℕ) (bs : List ℕ) → 24 * k ≤ length (kids_of bs)
    → records k i (kids_of bs) ≡ records k i (drop 24 bs)
unfolding kids_of
kids_records k i bs h = records_take k i (span_of bs - 24) (drop 24 bs) (omega (arith, length_kids bs))

-- what follows a subtree that the end cuts has no record
rest_records : (r i : ℕ) (bs : List ℕ) (k : ℕ) → 24 ≤ length bs → k ≡ (span_of bs - 24) / 24
    → r ≡ (length bs - span_of bs) / 24 → records r i (rest_of bs) ≡ records r i (drop (24 * k) (drop 24 bs))
unfolding rest_of
rest_records zero i bs k big k_is r-is = refl
rest_records (suc r) i bs k big k_is r-is =
    let whole : span_of bs ≡ 24 + 24 * k = omega arith in
    rw (drop-drop (24 * k) 24 bs, whole) refl

-- LAW: whatever the bytes, the nodes of the forest are the records of the stretch, in order: node i is record i
pub nodes_records : (i : ℕ) (bs : List ℕ) → nodes (forest i bs) ≡ records (length bs / 24) i bs
unfolding nodes
nodes_records =
    forest_induction (λ i bs. nodes (forest i bs) ≡ records (length bs / 24) i bs)
    (λ i bs s. let z : length bs / 24 ≡ 0 = omega arith in rw (forest_none i bs s, z) refl)
    (λ i bs big ks rs.
    let k : ℕ = length (kids_of bs) / 24 in
    let r : ℕ = length (rest_of bs) / 24 in
    let n : length bs / 24 ≡ suc (k + r) = omega (arith, length_kids bs, length_rest bs) in
    let inside : records k (i + 1) (kids_of bs)
    ≡ records k (i + 1) (drop 24 bs) = kids_records k (i + 1) bs (omega (arith, length_kids bs)) in
    let after : i + span_of bs / 24 ≡ i + 1 + k = omega (arith, length_kids bs) in
    let behind : records r (i + 1 + k) (rest_of bs)
    ≡ records r (i + 1 + k) (drop (24 * k) (drop 24 bs)) = rest_records r (i + 1 + k) bs k big
    (omega (arith, length_kids bs)) (omega (arith, length_rest bs)) in
    rw (forest_tree i bs big, ks, rs, n, after, inside, behind)
    (ap (λ (l : List Node). node_of i bs ∷ l) (sym (records_split k r (i + 1) (drop 24 bs)))))
