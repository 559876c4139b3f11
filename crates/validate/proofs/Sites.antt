-- The expression walk finds errors at two kinds of record alone, `...` and a lambda (`is_site`), so a forest that has
-- neither has no errors of expressions (`no_sites`): by induction on the forest, since an expression's errors are its
-- own and then those below it, in table order. Code looks at the records of a stretch one after the other, not at its
-- trees. That is the same (`sites_records`), because the nodes of a stretch's forest are its records in order (forest's
-- `nodes_records`); the loop keeps that what is left decides (`Scanning`). Cite `top_quiet` where the look
-- finds nothing, and `top_walked` where it finds something. Assumes nothing.
use mathlib.Core.Path.{◌≡◌, refl, sym, ap, ◌∙◌}
use mathlib.Core.Bool.{Bool, true, false, ◌||◌}
use mathlib.Core.List.{List, [], ◌∷◌, ◌++◌, append-nil}
use Prim.Native.Nat.{ℕ, zero, suc, ◌+◌, ◌-◌, ◌/◌, ◌<◌, ◌≤◌}
use native.Mathlib.Omega.{arith}
use lib.Dec.{eqb}
use lib.ListN.{length, take, drop, length-drop, get_or, length-append}
use lib.Seq.{drop-append_seam}
use Rattle.fields.specs.Choice.{if'}
use Rattle.fields.proofs.Basics.{never}
use Rattle.dialect.specs.declared.Dialect.{Dialect}
use Rattle.dialect.specs.Rows.{permits_types}
use Rattle.forest.specs.Forest.{Node, node_of, span_of, rest_of, Tree, node, Forest, none, ◌then◌, forest, tree_of}
use Rattle.forest.specs.Forest.{nodes, nodes_of}
use Rattle.forest.proofs.Stretch.{forest_none, kids_part, records, nodes_records}
use Rattle.forest.proofs.Prefix.{forest_part}
use Rattle.soundness.specs.KindNumbers.{kind_ellipsis, kind_lambda}
use Rattle.table.specs.Numbers.{ellipsis_not_permitted, lambda_not_permitted}
use Rattle.errors.specs.declared.Listing.{Listing}
use Rattle.errors.specs.Errors.{unless, Stores}
use Rattle.errors.proofs.Storing.{stores_none}
use Rattle.validate.specs.Inner.{is_site, has_site}
use Rattle.validate.specs.Params.{with_params}
use Rattle.validate.specs.Module.{expr_errors, expr, visit_expr}
use Rattle.validate.proofs.Walks.{children, made}

-- a test of two that fails
pub or_left : (a b : Bool) → (a || b) ≡ false → a ≡ false
or_left true b e = e
or_left false b e = refl

pub or_right : (a b : Bool) → (a || b) ≡ false → b ≡ false
or_right true b e = never (cc)
or_right false b e = e

-- nodes side by side have a site where one or the other part has
sites_both : (xs ys : List Node) → has_site (xs ++ ys) ≡ (has_site xs || has_site ys)
unfolding has_site
sites_both [] ys = refl
sites_both (x ∷ xs) ys = go (is_site x.kind) (sites_both xs ys)
  where
    go : (b : Bool) → has_site (xs ++ ys) ≡ (has_site xs || has_site ys)
        → (b || has_site (xs ++ ys)) ≡ ((b || has_site xs) || has_site ys)
    go true e = refl
    go false e = e

module _ (d : Dialect) (names : List ℕ) where
  -- a record that is no site has no errors of its own
  own_quiet : (r : Node) (ks : Forest) → is_site r.kind ≡ false → expr_errors d names r ks ≡ []
  unfolding expr_errors
  own_quiet r ks = go (eqb r.kind kind_ellipsis) (eqb r.kind kind_lambda)
    where
      go : (a b : Bool) → (a || b) ≡ false
          → if' a (λ _. unless (permits_types d.enable_types) ellipsis_not_permitted r) (λ _.
          if' b (λ _. with_params d names d.enable_lambda lambda_not_permitted r ks) (λ _. [])) ≡ []
      go true b e = never (cc)
      go false true e = never (cc)
      go false false e = refl

  -- LAW: a forest without sites has no errors of expressions
  mutual
    unfolding expr nodes has_site

    tree_quiet : (t : Tree) → has_site (nodes_of t) ≡ false → expr d names t ≡ []
    tree_quiet (node r ks) e =
        let own = own_quiet r ks (or_left (is_site r.kind) (has_site (nodes ks)) e) in
        let below = no_sites ks (or_right (is_site r.kind) (has_site (nodes ks)) e) in
        rw (own, below) refl

    pub no_sites : (ts : Forest) → has_site (nodes ts) ≡ false → visit_expr d names ts ≡ []
    no_sites none e = refl
    no_sites (t then ts) e =
        let both : (has_site (nodes_of t) || has_site (nodes ts)) ≡ false = sym (sites_both (nodes_of t) (nodes ts))
        ∙ e in
        let one = tree_quiet t (or_left (has_site (nodes_of t)) (has_site (nodes ts)) both) in
        let rest = no_sites ts (or_right (has_site (nodes_of t)) (has_site (nodes ts)) both) in
        rw (one, rest) refl

-- whether n records have a site does not depend on the index of the first
sites_at : (n i j : ℕ) (bs : List ℕ) → has_site (records n i bs) ≡ has_site (records n j bs)
unfolding has_site
sites_at zero i j bs = refl
sites_at (suc n) i j bs = rw (sites_at n (i + 1) (j + 1) (drop 24 bs)) refl

-- what the look answers of a stretch
abbrev pub sites : List ℕ → Bool
sites t = has_site (nodes (forest 0 t))

sites_records : (i : ℕ) (t : List ℕ) → has_site (nodes (forest i t)) ≡ sites t
sites_records i t = rw (nodes_records i t, nodes_records 0 t) (sites_at (length t / 24) i 0 t)

-- the loop: what is left decides
pub record Scanning (t left : List ℕ) : Type 0 where
  pub same : sites left ≡ sites t

module _ {t : List ℕ} where
  pub scan_start : Scanning t t
  scan_start = record { same = refl }

  module _ {left : List ℕ} (s : Scanning t left) where
    first_site : 24 ≤ length left → sites left ≡ (is_site (node_of 0 left).kind || sites (drop 24 left))
    unfolding has_site
    first_site big =
        let n : length left / 24 ≡ suc (length (drop 24 left) / 24) = simp length-drop (omega arith) in
        rw (
          nodes_records 0 left,
          n,
          nodes_records 0 (drop 24 left),
          sites_at (length (drop 24 left) / 24) 1 0 (drop 24 left),
        ) refl

    -- the first record and what follows it, as `chunks_exact` cuts them
    module _ (piece after : List ℕ) (cut : left ≡ piece ++ after) (whole : length piece ≡ 24) {k : ℕ}
        (k_is : k ≡ (node_of 0 piece).kind) {b : Bool} (b_is : b ≡ is_site k) where
      behind : drop 24 left ≡ after
      behind = rw (cut, ← whole) (drop-append_seam piece after)

      kind_of_first : (node_of 0 left).kind ≡ k
      kind_of_first = rw (cut, k_is) (go piece whole)
        where
          go : (r : List ℕ) → length r ≡ 24 → get_or (r ++ after) 0 0 ≡ get_or r 0 0
          go [] e = absurd (omega arith)
          go (x ∷ r) e = refl

      decided : sites left ≡ (b || sites after)
      decided = first_site (omega (arith, ap length cut, whole, length-append piece after))
          ∙ rw (kind_of_first, behind, b_is) refl

      pub scan_found : b ≡ true → true ≡ sites t
      scan_found found = rw (← s.same, decided, found) refl

      pub scan_on : b ≡ false → Scanning t after
      scan_on not-here = record { same = rw (decided, not-here) at s.same }

    pub scan_end : length left < 24 → false ≡ sites t
    unfolding has_site
    scan_end short =
        let n : length left / 24 ≡ 0 = omega arith in rw (← s.same, nodes_records 0 left, n) refl

-- the stretch that code makes of the first tree of a stretch is that tree alone
abbrev pub alone : ℕ → List ℕ → List ℕ
alone e t = take (e - 0) t

module _ (i : ℕ) (t : List ℕ) {e : ℕ} (big : 24 ≤ length t) (e-is : e ≡ span_of t) where
  tree_alone : forest i (alone e t) ≡ tree_of i t then none
  tree_alone =
      let size : e - 0 ≡ span_of t = omega (arith, e-is) in
      let zero_left : span_of t - span_of t ≡ 0 = omega arith in
      let nothing : take (span_of t - span_of t) (rest_of t) ≡ [] = rw zero_left refl in
      rw size (forest_part (span_of t) t big (omega arith) (omega arith) i
      ∙ rw (nothing, forest_none (i + span_of t / 24) [] (omega arith)) refl)

  module _ {l : Listing} (d : Dialect) (names : List ℕ) where
    -- the walk over the tree alone
    pub top_walked : {m : ℕ} {xs ys : List ℕ} → Stores l (visit_expr d names (forest i (alone e t))) xs m ys
        → Stores l (expr d names (tree_of i t)) xs m ys
    unfolding expr
    top_walked s = rw append-nil at (rw tree_alone at s)

    -- where that has no site, there is no error
    pub top_quiet : {b : Bool} → b ≡ sites (alone e t) → b ≡ false → (xs : List ℕ)
        → Stores l (expr d names (tree_of i t)) xs 0 xs
    top_quiet b_is not_there xs =
        let no : has_site (nodes (forest i (alone e t))) ≡ false =
        sites_records i (alone e t) ∙ sym b_is ∙ not_there in
        top_walked (rw (no_sites d names (forest i (alone e t)) no) (stores_none xs))

    -- a record that is no site, and the walk over what is below it
    pub root_on : {k : ℕ} → k ≡ (node_of 0 t).kind → {b : Bool} → b ≡ is_site k → b ≡ false → {m : ℕ} {xs ys : List ℕ}
        → Stores l (visit_expr d names (forest (i + 1) (made e t))) xs m ys
        → Stores l (expr d names (tree_of i t)) xs m ys
    unfolding expr
    root_on k_is b_is not-here s =
        let no : is_site (node_of i t).kind ≡ false = ap is_site (sym k_is) ∙ sym b_is ∙ not-here in
        rw (own_quiet d names (node_of i t) (children i t) no, ← kids_part e t e-is) s
