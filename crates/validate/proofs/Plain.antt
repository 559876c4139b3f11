-- A plain statement has no errors of its own, so its errors are those of the statements below it in its place
-- (`f_plain`). Where none of its children is a statement there are none (`plain_quiet`): a node that is no statement
-- has no errors in the statement walk, and that walk goes below statements alone (`no_statements`, by induction on the
-- nodes side by side). Code looks at the children one after the other; the loop keeps that what is left decides
-- (`Seeking`), for every index that the first record may have. Assumes nothing.
use mathlib.Core.Path.{◌≡◌, refl, sym, ◌∙◌}
use mathlib.Core.Bool.{Bool, true, false, ◌||◌}
use mathlib.Core.List.{List, []}
use Prim.Native.Nat.{ℕ, ◌+◌, ◌/◌, ◌<◌, ◌≤◌}
use native.Mathlib.Omega.{arith}
use lib.Dec.{eqb, leb}
use lib.ListN.{length}
use borrow.Author.Tests.{eqb-true, leb-true}
use Rattle.dialect.specs.declared.Dialect.{Dialect}
use Rattle.forest.specs.Forest.{node_of, span_of, rest_of, Tree, node, Forest, none, ◌then◌, forest, tree_of}
use Rattle.forest.proofs.Stretch.{forest_none, each_next}
use Rattle.soundness.specs.KindNumbers.{kind_statements, kind_def, kind_for, kind_if, kind_if_else, kind_break, kind_continue}
use Rattle.soundness.specs.KindNumbers.{kind_return, kind_load, kind_other_simple}
use Rattle.soundness.specs.Kinds.{statement, class_of}
use Rattle.errors.specs.declared.Listing.{Listing}
use Rattle.errors.specs.Errors.{Stores}
use Rattle.errors.proofs.Storing.{stores_none}
use Rattle.validate.specs.Inner.{is_plain, has_statement, SaysStatement}
use Rattle.validate.specs.Module.{arm_of, f, visit_stmt}
use Rattle.validate.specs.declared.Standing.{Standing}
use Rattle.validate.specs.declared.Arm.TheVariants.{Below}
use Rattle.validate.proofs.Walks.{arm_other, made, f_below}
use Rattle.validate.proofs.Sites.{or_left, or_right}

-- the first of the nodes side by side is a statement
abbrev is_one : Tree → Bool
is_one (node r ks) = eqb (class_of r.kind) statement

first_of : (t : Tree) (ts : Forest) → has_statement (t then ts) ≡ (is_one t || has_statement ts)
unfolding has_statement
first_of (node r ks) ts = refl

-- the loop: what is left decides
pub record Seeking (t left : List ℕ) : Type 0 where
  pub decides : (b : Bool) → SaysStatement left b → SaysStatement t b

module _ {t : List ℕ} where
  pub seek_start : Seeking t t
  seek_start = record { decides = λ b says. says }

  module _ {left : List ℕ} (s : Seeking t left) where
    pub seek_end : length left < 24 → SaysStatement t false
    unfolding has_statement
    seek_end short = s.decides false (λ i. rw (forest_none i left short) refl)

    module _ (big : 24 ≤ length left) {k : ℕ} (k_is : k ≡ (node_of 0 left).kind) {b : Bool}
        (b_is : b ≡ eqb (class_of k) statement) where
      cut : (i : ℕ) {after : List ℕ} → after ≡ rest_of left
          → has_statement (forest i left) ≡ (b || has_statement (forest (i + span_of left / 24) after))
      cut i after-is = rw (b_is, k_is) (each_next has_statement is_one ◌||◌ first_of i left big refl after-is)

      pub seek_found : b ≡ true → SaysStatement t true
      seek_found found = s.decides true (λ i. sym (rw found at (cut i refl)))

      pub seek_on : b ≡ false → {after : List ℕ} → after ≡ rest_of left → Seeking t after
      seek_on not-here after-is = record {
        decides = λ c says. s.decides c (λ i. says (i + span_of left / 24) ∙ sym (rw not-here at (cut i after-is)));
      }

-- LAW: nodes side by side of which none is a statement have no errors in the statement walk
no_statements : (d : Dialect) (names : List ℕ) (s : Standing) (ts : Forest) → has_statement ts ≡ false
    → visit_stmt d names s ts ≡ []
unfolding has_statement f
no_statements d names s none e = refl
no_statements d names s (node r ks then ts) e =
    let here = or_left (eqb (class_of r.kind) statement) (has_statement ts) e in
    let rest = no_statements d names s ts (or_right (eqb (class_of r.kind) statement) (has_statement ts) e) in
    rw (here, rest) refl

-- LAW: a plain kind has no arm of its own
plain_arm : (d : Dialect) (s : Standing) (k : ℕ) → is_plain k ≡ true → Below s ≡ arm_of d s k
unfolding arm_of
plain_arm d s k = go (eqb k kind_statements) refl
  where
    other : kind_other_simple ≤ k → (n : ℕ) → n < kind_other_simple → k ≡ n → ⊥
    other from n small is = omega arith

    late : kind_other_simple ≤ k → Below s ≡ arm_of d s k
    late from = arm_other d s
        (other from kind_def (omega arith)) (other from kind_for (omega arith)) (other from kind_if (omega arith))
        (other from kind_if_else (omega arith)) (other from kind_break (omega arith))
        (other from kind_continue (omega arith))
        (other from kind_return (omega arith)) (other from kind_load (omega arith))

    go : (b : Bool) → eqb k kind_statements ≡ b → (b || leb kind_other_simple k) ≡ true → Below s ≡ arm_of d s k
    go true e h = rw (eqb-true k kind_statements e) refl
    go false e h = late (leb-true kind_other_simple k h)

-- a plain statement that a stretch begins with
module _ (d : Dialect) (names : List ℕ) (s : Standing) (i : ℕ) (t : List ℕ) {k : ℕ} (k_is : k ≡ (node_of 0 t).kind)
    {b : Bool} (b_is : b ≡ eqb (class_of k) statement) (is_one_lem : b ≡ true) {p : Bool} (p-is : p ≡ is_plain k)
    (plain : p ≡ true) {e : ℕ} (e-is : e ≡ span_of t) {l : Listing} where
  pub f_plain : {m : ℕ} {xs ys : List ℕ} → Stores l (visit_stmt d names s (forest (i + 1) (made e t))) xs m ys
      → Stores l (f d names s (tree_of i t)) xs m ys
  f_plain q = f_below d names s i t k_is b_is is_one_lem (plain_arm d s k (sym p-is ∙ plain)) e-is refl q

  pub plain_quiet : {c : Bool} → SaysStatement (made e t) c → c ≡ false → (xs : List ℕ)
      → Stores l (f d names s (tree_of i t)) xs 0 xs
  plain_quiet says not-one xs =
      let none_below = no_statements d names s (forest (i + 1) (made e t)) (sym (says (i + 1)) ∙ not-one) in
      f_plain (rw none_below (stores_none xs))
