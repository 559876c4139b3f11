-- The code walks the trees of a stretch in a loop and what is below each by recursion; the definitions walk a forest.
-- Both come to the same errors in the same order. In the loop the errors of what is left come next (`Visiting`), and
-- `each_on` goes from one tree to the next, because a stretch is its first tree and what follows (forest's
-- `each_cut`). For a tree there is one law for each return: a statement by its arm (`f_none` to `f_def`), an
-- expression by its own record and by what is below it (`expr_leaf`, `expr_on`). A kind is a statement's where it is 1
-- to 12, computed for every byte (`statement_range`). Assumes nothing.
use mathlib.Core.Path.{◌≡◌, refl, sym, ap, ◌∙◌}
use mathlib.Core.Bool.{Bool, true, false, ◌&&◌, not}
use mathlib.Core.List.{List, [], ◌∷◌, ◌++◌, append-nil}
use Prim.Native.Nat.{ℕ, zero, suc, ◌+◌, ◌-◌, ◌*◌, ◌/◌, ◌<◌, ◌≤◌}
use native.Mathlib.Omega.{arith}
use lib.Dec.{eqb, leb}
use lib.ListN.{length, take, drop}
use borrow.Author.Tests.{eq-eqb, ne_eqb, eqb-true, eqb-false}
use Rattle.fields.proofs.Basics.{never, and_left, and_right}
use Rattle.dialect.specs.declared.Dialect.{Dialect}
use Rattle.dialect.specs.Rows.{permits_types}
use Rattle.forest.specs.Forest.{node_of, span_of, kids_of, rest_of, Tree, Forest, none, ◌then◌, forest, tree_of}
use Rattle.forest.proofs.Stretch.{forest_none, kids_part, length_kids, length_rest, each_next}
use Rattle.soundness.specs.KindNumbers.{kind_def, kind_for, kind_if, kind_if_else, kind_break, kind_continue, kind_return}
use Rattle.soundness.specs.KindNumbers.{kind_load, kind_ellipsis, kind_lambda}
use Rattle.soundness.specs.Kinds.{statement, kind_in, kind_of, class_of}
use Rattle.table.specs.Numbers.{def_not_permitted, ellipsis_not_permitted, lambda_not_permitted}
use Rattle.errors.specs.declared.Finding.{Finding}
use Rattle.errors.specs.declared.Listing.{Listing}
use Rattle.errors.specs.Errors.{err_at, unless, Stores}
use Rattle.errors.proofs.Storing.{free_at, after, back, stores_none, stores_both, stores_few, unless_one}
use Rattle.errors.proofs.Storing.{Turns, turns_start, turns_on, turns_end, turns_few, turns_long}
use Rattle.validate.specs.Inner.{StoresFew}
use Rattle.validate.specs.Params.{with_params}
use Rattle.validate.specs.Module.{in_def, arm_of, load_errors, on_arm, f, visit_stmt, expr_errors, expr}
use Rattle.validate.specs.Module.{visit_expr}
use Rattle.validate.specs.declared.Standing.{Standing}
use Rattle.validate.specs.declared.Arm.{Arm}
use Rattle.validate.specs.declared.Arm.TheVariants.{Def, Load, Told, Below}
use Rattle.validate.proofs.Bounds.{stmts_few, exprs_few, first_few}

-- two tests come out alike; a test holds of every number below another
abbrev alike : Bool → Bool → Bool
alike true b = b
alike false b = not b

alike_same : (a b : Bool) → alike a b ≡ true → a ≡ b
alike_same true true e = refl
alike_same true false e = never (cc)
alike_same false true e = never (cc)
alike_same false false e = refl

abbrev below : ℕ → (ℕ → Bool) → Bool
below zero p = true
below (suc n) p = p n && below n p

below_at : (n : ℕ) (p : ℕ → Bool) (k : ℕ) → below n p ≡ true → k < n → p k ≡ true
below_at zero p k e h = absurd (omega arith)
below_at (suc n) p k e h = go (eqb k n) refl (below_at n p k (and_right (p n) _ e))
  where
    go : (b : Bool) → eqb k n ≡ b → (k < n → p k ≡ true) → p k ≡ true
    go true t rest = rw (eqb-true k n t) (and_left (p n) _ e)
    go false t rest = rest (omega (arith, eqb-false k n t))

-- LAW: the kinds 1 to 12 are the statements'; computed for every byte
pub statement_range : (k : ℕ) → k < 256 → (leb 1 k && leb k 12) ≡ eqb (class_of k) statement
unfolding kind_of kind_in
statement_range k h = alike_same _ _
    (below_at 256 (λ k. alike (leb 1 k && leb k 12) (eqb (class_of k) statement)) k refl h)

-- LAW: a kind with no arm of its own
pub arm_other : (d : Dialect) (s : Standing) {k : ℕ} → (k ≡ kind_def → ⊥) → (k ≡ kind_for → ⊥) → (k ≡ kind_if → ⊥)
    → (k ≡ kind_if_else → ⊥) → (k ≡ kind_break → ⊥) → (k ≡ kind_continue → ⊥) → (k ≡ kind_return → ⊥)
    → (k ≡ kind_load → ⊥)
    → Below s ≡ arm_of d s k
unfolding arm_of
arm_other d s {k} no-def no-for no-if no-else no-break no-continue no_return no-load = rw (
  ne_eqb k kind_def no-def,
  ne_eqb k kind_for no-for,
  ne_eqb k kind_if no-if,
  ne_eqb k kind_if_else no-else,
  ne_eqb k kind_break no-break,
  ne_eqb k kind_continue no-continue,
  ne_eqb k kind_return no_return,
  ne_eqb k kind_load no-load,
) refl

-- a rule over nodes side by side: the errors of each tree, in turn, and these are few
pub record Walk (all : Forest → List Finding) (one : Tree → List Finding) : Type 0 where
  pub empty : all none ≡ []
  pub first : (t : Tree) (ts : Forest) → all (t then ts) ≡ one t ++ all ts
  pub short : (i : ℕ) (t : List ℕ) → 12 * length (all (forest i t)) ≤ length t

pub statements : (d : Dialect) (names : List ℕ) (s : Standing) → Walk (visit_stmt d names s) (f d names s)
unfolding f
statements d names s =
    record { empty = refl; first = λ t ts. refl; short = λ i t. stmts_few d names i t s }

pub expressions : (d : Dialect) (names : List ℕ) → Walk (visit_expr d names) (expr d names)
unfolding expr
expressions d names = record { empty = refl; first = λ t ts. refl; short = λ i t. exprs_few d names i t }

-- a tree has few errors
module _ {l : Listing} (d : Dialect) (names : List ℕ) (i : ℕ) (t : List ℕ) {xs ys : List ℕ} {n : ℕ} where
  pub f_short : (s : Standing) → Stores l (f d names s (tree_of i t)) xs n ys → 12 * n ≤ 24 + length t
  f_short s q = omega (arith, stores_few _ q, first_few d names i t s)

  pub expr_short : Stores l (expr d names (tree_of i t)) xs n ys → 12 * n ≤ 24 + length t
  expr_short q = omega (arith, stores_few _ q, first_few d names i t in_def)

-- nodes side by side in a loop: of the whole, those of what is left of t come next
pub record Visiting (l : Listing) (all : Forest → List Finding) (one : Tree → List Finding) (whole : List Finding)
    (t xs₀ left : List ℕ) (place total : ℕ) (xs : List ℕ) : Type 0 where
  pub walk : Walk all one
  pub within : 24 * place + length left ≤ 50400
  pub part : length left ≤ length t
  pub most : length whole ≤ 4200
  pub few : total ≤ 4200
  pub turns : Turns l whole xs₀ (all (forest place left)) total xs

module _ {l : Listing} {all : Forest → List Finding} {one : Tree → List Finding} where
  pub each_start : Walk all one → {at : ℕ} {t xs : List ℕ} → 24 * at + length t ≤ 50400
      → Visiting l all one (all (forest at t)) t xs t at 0 xs
  each_start w {at} {t} {xs} h = record {
    walk = w;
    within = h;
    part = omega arith;
    most = omega (arith, w.short at t);
    few = omega arith;
    turns = turns_start _ xs;
  }

  module _ {whole : List Finding} {t xs₀ left : List ℕ} {place total : ℕ} {xs : List ℕ}
      (v : Visiting l all one whole t xs₀ left place total xs) where
    pub each_long : length xs ≡ length xs₀
    each_long = turns_long v.turns

    pub each_end : length left < 24 → StoresFew l 4200 whole xs₀ total xs
    each_end h = record {
      few = v.few;
      stores = turns_end v.turns (rw (forest_none place left h) v.walk.empty);
    }

    pub each_on : 24 ≤ length left → {n free : ℕ} {zs : List ℕ} → free ≡ free_at l total xs
        → Stores l (one (tree_of place left)) (after free xs) n zs → {j : ℕ} {rest : List ℕ}
        → j ≡ place + span_of left / 24 → rest ≡ rest_of left
        → Visiting l all one whole t xs₀ rest j (total + n) (back free xs zs)
    each_on big free-is s j-is rest-is =
        let next = turns_on v.turns (each_next all one ◌++◌ v.walk.first place left big j-is rest-is) free-is s in
        let less = length_rest left in
        record {
          walk = v.walk;
          within = omega (arith, less, v.within, j-is, ap length rest-is);
          part = omega (arith, less, v.part, ap length rest-is);
          most = v.most;
          few = omega (arith, turns_few next, v.most);
          turns = next;
        }

-- the invariant of the three loops over expressions: t is the stretch from the index at on
abbrev pub Expressions : Listing → Dialect → List ℕ → List ℕ → ℕ → List ℕ → List ℕ → ℕ → ℕ → List ℕ → Type 0
Expressions l d names t at xs₀ left place total xs =
    Visiting l (visit_expr d names) (expr d names) (visit_expr d names (forest at t)) t xs₀ left place total xs

-- the children of the first node, and the stretch of them that code makes
abbrev pub children : ℕ → List ℕ → Forest
children i t = forest (i + 1) (kids_of t)

abbrev pub made : ℕ → List ℕ → List ℕ
made e t = take (e - 24) (drop 24 t)

-- the first node of a stretch, if it is a statement: by its arm
module _ (d : Dialect) (names : List ℕ) (s : Standing) (i : ℕ) (t : List ℕ) {k : ℕ} (k_is : k ≡ (node_of 0 t).kind)
    {b : Bool} (b_is : b ≡ eqb (class_of k) statement) where
  pub f_none : b ≡ false → {l : Listing} {xs : List ℕ} → Stores l (f d names s (tree_of i t)) xs 0 xs
  unfolding f
  f_none h {l} {xs} = rw (← k_is, ← b_is, h) (stores_none xs)

  module _ (is_one_lem : b ≡ true) {a : Arm} (a-is : a ≡ arm_of d s k) where
    opened : f d names s (tree_of i t)
        ≡ on_arm d names s (node_of i t) (children i t) (λ p. visit_stmt d names p (children i t)) a
    unfolding f
    opened = rw (← k_is, ← b_is, is_one_lem, a-is) refl

    module _ {l : Listing} {m : ℕ} {xs ys : List ℕ} where
      pub f_load : a ≡ Load → Stores l (load_errors d s (node_of i t)) xs m ys
          → Stores l (f d names s (tree_of i t)) xs m ys
      f_load h q = rw (opened, h) q

      pub f_told : {n : ℕ} → a ≡ Told n → Stores l (err_at n (node_of i t) ∷ []) xs m ys
          → Stores l (f d names s (tree_of i t)) xs m ys
      f_told h q = rw (opened, h) q

      module _ {e : ℕ} (e-is : e ≡ span_of t) where
        pub f_below : {p : Standing} → a ≡ Below p
            → Stores l (visit_stmt d names p (forest (i + 1) (made e t))) xs m ys
            → Stores l (f d names s (tree_of i t)) xs m ys
        f_below h q = rw (opened, h, ← kids_part e t e-is) q

        pub f_def : a ≡ Def → {n at : ℕ} {zs : List ℕ}
            → Stores l (with_params d names d.enable_def def_not_permitted (node_of i t) (children i t)) xs m ys
            → at ≡ free_at l m ys
            → Stores l (visit_stmt d names in_def (forest (i + 1) (made e t)))
            (after at ys) n zs
            → Stores l (f d names s (tree_of i t)) xs (m + n) (back at ys zs)
        f_def h q at-is z =
            rw (opened, h) (stores_both _ _ q at-is (rw (kids_part e t e-is) at z))

-- the first record of a stretch by itself, as an expression
module _ {l : Listing} (d : Dialect) (names : List ℕ) (i : ℕ) (t : List ℕ) {k : ℕ} (k_is : k ≡ (node_of 0 t).kind)
  where
    pub own_ellipsis : k ≡ kind_ellipsis → {b : Bool} → b ≡ permits_types d.enable_types → {m : ℕ} {xs ys : List ℕ}
        → Stores l (unless b ellipsis_not_permitted (node_of i t)) xs m ys
        → StoresFew l (2 + length t / 24) (expr_errors d names (node_of i t) (children i t)) xs m ys
    unfolding expr_errors
    own_ellipsis h {b} b_is s =
        rw (← k_is, eq-eqb k kind_ellipsis h, ← b_is)
        record { few = omega (arith, unless_one b (err_at ellipsis_not_permitted (node_of i t)) s); stores = s }

    pub own_lambda : k ≡ kind_lambda → {most m : ℕ} {xs ys : List ℕ}
        → StoresFew l most (with_params d names d.enable_lambda lambda_not_permitted (node_of i t) (children i t)) xs
        m ys
        → StoresFew l most (expr_errors d names (node_of i t) (children i t)) xs m ys
    unfolding expr_errors
    own_lambda h s =
        let is : (node_of 0 t).kind ≡ kind_lambda = sym k_is ∙ h in
        let other : eqb (node_of 0 t).kind kind_ellipsis ≡ false = rw is refl in
        rw (other, eq-eqb (node_of 0 t).kind kind_lambda is) s

    pub own_other : (k ≡ kind_ellipsis → ⊥) → (k ≡ kind_lambda → ⊥) → {xs : List ℕ}
        → StoresFew l (2 + length t / 24) (expr_errors d names (node_of i t) (children i t)) xs 0 xs
    unfolding expr_errors
    own_other no-ellipsis no-lambda {xs} =
        rw (← k_is, ne_eqb k kind_ellipsis no-ellipsis, ne_eqb k kind_lambda no-lambda)
        record { few = omega arith; stores = stores_none xs }

-- and then all below it, if there is any
module _ {l : Listing} (d : Dialect) (names : List ℕ) (i : ℕ) (t : List ℕ) {e : ℕ} (e-is : e ≡ span_of t) {m : ℕ}
    {xs ys : List ℕ} (own : Stores l (expr_errors d names (node_of i t) (children i t)) xs m ys) where
  pub expr_leaf : e ≤ 24 → Stores l (expr d names (tree_of i t)) xs m ys
  unfolding expr
  expr_leaf h =
      let no : length (kids_of t) < 24 = omega (arith, length_kids t) in
      let nothing : visit_expr d names (children i t) ≡ [] = rw (forest_none (i + 1) (kids_of t) no) refl in
      rw (nothing, append-nil) own

  pub expr_on : {n at : ℕ} {zs : List ℕ} → at ≡ free_at l m ys
      → Stores l (visit_expr d names (forest (i + 1) (made e t))) (after at ys) n zs
      → Stores l (expr d names (tree_of i t)) xs (m + n) (back at ys zs)
  unfolding expr
  expr_on at-is z = stores_both _ _ own at-is (rw (kids_part e t e-is) at z)
