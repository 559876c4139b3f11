-- object_path and unpack_path read a path as `object_path` and `unpack_path` of specs/Paths do, one law for each
-- `return`. The code reads the kind of the first record, and the same test decides the definition (`object_none` ..
-- `object_dot`, `path_identifier` .. `path_dot`). Through a Dot both go to the children of the Dot (forest's
-- `kids_part`); object_path calls itself there, so its laws have no induction. The ban is decided once, at the
-- outermost Dot, from the record's name and not its index (`banned_there`). The proofs of the functions cite these
-- laws. Assumes nothing.
use mathlib.Core.Path.{◌≡◌, refl, ◌∙◌}
use mathlib.Core.Bool.{Bool, true, false}
use mathlib.Core.List.{List, []}
use Prim.Native.Nat.{ℕ, ◌+◌, ◌-◌, ◌<◌, ◌≤◌}
use lib.ListN.{length, take, drop}
use borrow.Author.Tests.{eq-eqb, ne_eqb}
use Rattle.dialect.specs.declared.Edition.{Edition}
use Rattle.dialect.specs.declared.Edition.TheVariants.{One, Two}
use Rattle.forest.specs.Forest.{node_of, span_of, forest, tree_of}
use Rattle.forest.specs.Names.{name_of}
use Rattle.forest.proofs.Stretch.{forest_none, forest_tree, kids_part}
use Rattle.soundness.specs.KindNumbers.{kind_dot, kind_identifier}
use Rattle.table.specs.Numbers.{dot_in_type, expecting_path, dot_type_ban}
use Rattle.table.specs.Answer.{Answer, accepted, refused_at}
use Rattle.types.specs.Paths.{banned, object_path, unpack_path}

-- the object of a Dot
module _ (ban : Bool) (i : ℕ) (t : List ℕ) where
  pub object_none : length t < 24 → accepted [] ≡ object_path ban (forest i t)
  unfolding object_path
  object_none h = rw (forest_none i t h) refl

  module _ (big : 24 ≤ length t) {k : ℕ} (k_is : k ≡ (node_of 0 t).kind) where
    pub object_banned : k ≡ kind_identifier → ban ≡ true → {r : Answer} → r ≡ refused_at dot_type_ban (node_of i t)
        → r ≡ object_path ban (forest i t)
    unfolding object_path
    object_banned h b r-is = r-is ∙ rw (forest_tree i t big, ← k_is, eq-eqb k kind_identifier h, b) refl

    pub object_free : k ≡ kind_identifier → ban ≡ false → accepted [] ≡ object_path ban (forest i t)
    unfolding object_path
    object_free h b = rw (forest_tree i t big, ← k_is, eq-eqb k kind_identifier h, b) refl

    module _ (no : k ≡ kind_identifier → ⊥) where
      pub object_other : (k ≡ kind_dot → ⊥) → {r : Answer} → r ≡ refused_at dot_in_type (node_of i t)
          → r ≡ object_path ban (forest i t)
      unfolding object_path
      object_other h r-is = r-is
          ∙ rw (forest_tree i t big, ← k_is, ne_eqb k kind_identifier no, ne_eqb k kind_dot h) refl

      pub object_dot : k ≡ kind_dot → {e : ℕ} {r : Answer} → e ≡ span_of t
          → r ≡ object_path ban (forest (i + 1) (take (e - 24) (drop 24 t))) → r ≡ object_path ban (forest i t)
      unfolding object_path
      object_dot h {e} e-is r-is = r-is ∙ rw
          (kids_part e t e-is, forest_tree i t big, ← k_is, ne_eqb k kind_identifier no, eq-eqb k kind_dot h) refl

-- the ban depends on the name of a record, and not on its index
banned_there : (edition : Edition) (names : List ℕ) (i : ℕ) (t : List ℕ)
    → banned edition names (node_of i t) ≡ banned edition names (node_of 0 t)
unfolding name_of
banned_there One names i t = refl
banned_there Two names i t = refl

-- a path
module _ (edition : Edition) (names : List ℕ) (i : ℕ) (t : List ℕ) {k : ℕ} (k_is : k ≡ (node_of 0 t).kind) where
  pub path_identifier : k ≡ kind_identifier → accepted [] ≡ unpack_path edition names (tree_of i t)
  unfolding unpack_path
  path_identifier h = rw (← k_is, eq-eqb k kind_identifier h) refl

  module _ (no : k ≡ kind_identifier → ⊥) where
    pub path_other : (k ≡ kind_dot → ⊥) → {r : Answer} → r ≡ refused_at expecting_path (node_of i t)
        → r ≡ unpack_path edition names (tree_of i t)
    unfolding unpack_path
    path_other h r-is = r-is ∙ rw (← k_is, ne_eqb k kind_identifier no, ne_eqb k kind_dot h) refl

    pub path_dot : k ≡ kind_dot → {e : ℕ} {b : Bool} {r : Answer} → e ≡ span_of t
        → b ≡ banned edition names (node_of 0 t)
        → r ≡ object_path b (forest (i + 1) (take (e - 24) (drop 24 t))) → r ≡ unpack_path edition names (tree_of i t)
    unfolding unpack_path
    path_dot h {e} e-is b_is r-is = r-is ∙ rw (
      kids_part e t e-is,
      b_is,
      ← banned_there edition names i t,
      ← k_is,
      ne_eqb k kind_identifier no,
      eq-eqb k kind_dot h,
    ) refl
