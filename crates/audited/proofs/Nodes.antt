-- In a sound table every tree that the audit visits is the tree of a node: the tree that a job on that node reads
-- (`all_here`). The audit cuts the table into parts, and a job cuts out the node's own part; both read the same
-- records, because in a sound table a node's size lies within its part (`kids_at`, `rest_at`, `tree_at`). The induction
-- is on the number of records of a part (`all_in_lem`): the first node, the records below it, and the records after it.
-- Cite `all_here`. Assumes nothing.
use mathlib.Core.Path.{◌≡◌, refl, sym, ◌∙◌}
use mathlib.Core.List.{List}
use Prim.Native.Nat.{ℕ, zero, suc, ◌+◌, ◌-◌, ◌*◌, ◌/◌, ◌<◌, ◌≤◌}
use native.Mathlib.Omega.{arith}
use lib.ListN.{length, take, drop, length-drop}
use lib.Seq.{take_all, take-take, drop-drop, length-take-le}
use Rattle.fields.proofs.Basics.{drop_take}
use Rattle.forest.specs.Forest.{size_of, node_of, span_of, kids_of, rest_of, tree_of, forest}
use Rattle.forest.proofs.Stretch.{forest_none, forest_tree, node_take, size_take, record_or_none}
use Rattle.soundness.specs.Sound.{context_of}
use Rattle.soundness.proofs.SoundTables.{Sound, sound_size, sound_kids, sound_rest, sound_table}
use Rattle.table.specs.Check.{stretch_of}
use Rattle.table.proofs.Checking.{Clean, stretch_is}
use Rattle.audit.specs.declared.Role.{Role}
use Rattle.audit.specs.declared.Roles.{Roles}
use Rattle.audit.specs.Roles.{roles_of, role_of, roles_after, Placed, placed_as, placed_tree, placed}
use Rattle.deflist.specs.Written.{root_in}
use Rattle.audited.specs.Said.{All}
use Rattle.audited.proofs.Everywhere.{all_both}

-- a tree that the audit visits is the tree of a node of the table
pub record Here (t : List ℕ) (p : Placed) : Type 0 where
  pub inside : (root_in p.tree).at < length t / 24
  pub same : p.tree ≡ tree_of (root_in p.tree).at (stretch_of t (root_in p.tree).at)

-- m records of a table from record i on
abbrev part : List ℕ → ℕ → ℕ → List ℕ
part t i m = take (24 * m) (drop (24 * i) t)

module _ {t names : List ℕ} (c : Clean t names) where
  part_long : (i m : ℕ) → i + m ≤ length t / 24 → length (part t i m) ≡ 24 * m
  part_long i m room = length-take-le (24 * m) (drop (24 * i) t) (simp length-drop (omega (arith, c.whole)))

  -- the first node of a part has the size s: its children, and the records after it
  module _ (i m : ℕ) {s : ℕ} (room : i + m ≤ length t / 24) (s-is : s ≡ size_of (drop (24 * i) t)) (least : 1 ≤ s)
      (most : s ≤ m) where
    part_size : size_of (part t i m) ≡ s
    part_size = size_take (24 * m) (drop (24 * i) t) (omega arith) ∙ sym s-is

    part_span : span_of (part t i m) ≡ 24 * s
    part_span = omega (arith, part_size, part_long i m room)

    kids_at : kids_of (part t i m) ≡ part t (i + 1) (s - 1)
    unfolding kids_of
    kids_at =
        let n : 24 * s - 24 ≡ 24 * (s - 1) = omega arith in
        let a : 24 * i + 24 ≡ 24 * (i + 1) = omega arith in
        rw (
          part_span,
          drop_take 24 (24 * m) (drop (24 * i) t),
          take-take (24 * s - 24) (24 * m - 24) (drop 24 (drop (24 * i) t)) (omega arith),
          drop-drop 24 (24 * i) t,
          n,
          a,
        ) refl

    rest_at : rest_of (part t i m) ≡ part t (i + s) (m - s)
    unfolding rest_of
    rest_at =
        let n : 24 * m - 24 * s ≡ 24 * (m - s) = omega arith in
        let a : 24 * i + 24 * s ≡ 24 * (i + s) = omega arith in
        rw (
          part_span,
          drop_take (24 * s) (24 * m) (drop (24 * i) t),
          drop-drop (24 * s) (24 * i) t,
          n,
          a,
        ) refl

  -- the tree of a node is the same in a part and in the node's own part
  tree_at : (i m : ℕ) {s : ℕ} → i + m ≤ length t / 24 → s ≡ size_of (drop (24 * i) t) → 1 ≤ s → s ≤ m
      → tree_of i (part t i m) ≡ tree_of i (stretch_of t i)
  tree_at i m {s} room s-is least most =
      let own : stretch_of t i ≡ part t i s = stretch_is c i (omega arith) ∙ rw s-is refl in
      rw (
        own,
        kids_at i m room s-is least most,
        kids_at i s (omega arith) s-is least (omega arith),
        node_take i (24 * m) (drop (24 * i) t) (omega arith),
        node_take i (24 * s) (drop (24 * i) t) (omega arith),
      ) refl

  -- the induction on the number of records of a part
  all_none : (roles : Roles) (i : ℕ) (bs : List ℕ) → length bs < 24 → All (Here t) (placed roles (forest i bs))
  unfolding placed
  all_none roles i bs h = rw (forest_none i bs h) tt

  all_cut : (roles : Roles) (i : ℕ) (bs : List ℕ) → 24 ≤ length bs
      → Here t (placed_as (role_of roles (node_of i bs).kind) (tree_of i bs))
      → All (Here t) (placed (roles_of (node_of i bs).kind (node_of i bs).detail) (forest (i + 1) (kids_of bs)))
      → All (Here t) (placed (roles_after roles) (forest (i + span_of bs / 24) (rest_of bs)))
      → All (Here t) (placed roles (forest i bs))
  unfolding placed
  all_cut roles i bs big here kids rest =
      let role : Role = role_of roles (node_of i bs).kind in
      let first : All (Here t) (placed_tree role (tree_of i bs)) = (here, kids) in
      rw (forest_tree i bs big) (all_both (Here t) (placed_tree role (tree_of i bs))
      (placed (roles_after roles) (forest (i + span_of bs / 24) (rest_of bs))) first rest)

  -- a sound part that begins with a record: the node at i has size_at i records, and the records below it and after it
  -- are sound parts again
  abbrev size_at : ℕ → ℕ
  size_at i = size_of (drop (24 * i) t)

  module _ (i m : ℕ) (room : i + m ≤ length t / 24) (sound : Sound (context_of t names) i (part t i m))
      (big : 24 ≤ length (part t i m)) where
    size_fits : (1 ≤ size_at i) × (size_at i ≤ m)
    size_fits =
        let long = part_long i m room in
        let same : size_of (part t i m) ≡ size_at i = size_take (24 * m) (drop (24 * i) t) (omega arith) in
        let fits = sound_size (context_of t names) i (part t i m) sound big in
        (omega (arith, fits, same), omega (arith, fits, same))

    kids_are : kids_of (part t i m) ≡ part t (i + 1) (size_at i - 1)
    kids_are = kids_at i m room refl size_fits.0 size_fits.1

    rest_is : rest_of (part t i m) ≡ part t (i + size_at i) (m - size_at i)
    rest_is = rest_at i m room refl size_fits.0 size_fits.1

    next_is : i + span_of (part t i m) / 24 ≡ i + size_at i
    next_is = omega (arith, part_span i m room refl size_fits.0 size_fits.1)

    kids_sound_lem : Sound (context_of t names) (i + 1) (part t (i + 1) (size_at i - 1))
    kids_sound_lem = rw kids_are at (sound_kids (context_of t names) i (part t i m) sound big)

    rest_sound : Sound (context_of t names) (i + size_at i) (part t (i + size_at i) (m - size_at i))
    rest_sound = rw (rest_is, next_is) at (sound_rest (context_of t names) i (part t i m) sound big)

    first_here : (role : Role) → Here t (placed_as role (tree_of i (part t i m)))
    first_here role = record {
      inside = omega (arith, size_fits);
      same = tree_at i m room refl size_fits.0 size_fits.1;
    }

  all_in_lem : (k : ℕ) (roles : Roles) (i m : ℕ) → m ≤ k → i + m ≤ length t / 24
      → Sound (context_of t names) i (part t i m) → All (Here t) (placed roles (forest i (part t i m)))
  all_in_lem zero roles i m hk room sound = all_none roles i (part t i m) (omega (arith, part_long i m room))
  all_in_lem (suc k) roles i m hk room sound =
      record_or_none (part t i m) (all_none roles i (part t i m)) λ big.
      let fits = size_fits i m room sound big in
      let below : Roles = roles_of (node_of i (part t i m)).kind (node_of i (part t i m)).detail in
      let kids = all_in_lem k below (i + 1) (size_at i - 1) (omega (arith, fits)) (omega (arith, fits))
      (kids_sound_lem i m room sound big) in
      let rest = all_in_lem k (roles_after roles) (i + size_at i) (m - size_at i) (omega (arith, fits))
      (omega (arith, fits))
      (rest_sound i m room sound big) in
      all_cut roles i (part t i m) big (first_here i m room sound big _) (rw (kids_are i m room sound big) kids)
      (rw (rest_is i m room sound big, next_is i m room sound big) rest)

  -- LAW: every tree of a sound table that the audit visits is the tree of a node
  pub all_here : (roles : Roles) → All (Here t) (placed roles (forest 0 t))
  all_here roles =
      let n : ℕ = length t / 24 in
      let all : part t 0 n ≡ t = take_all (24 * n) t (omega (arith, c.whole)) in
      rw all at (all_in_lem n roles 0 n (omega arith) (omega arith) (rw all (sound_table t names c.unsound c.least)))
