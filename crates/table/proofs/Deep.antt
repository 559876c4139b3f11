-- The search for a node that is too deep, in the terms of code. A record adds 0 or 1 to its parent's depth, by its
-- class (`weighed`, `weight_little`). So n nodes at depth d reach at most d + n, and code skips a stretch with too few
-- records (`few_not_deep`; the induction is on the forest). The loop over siblings keeps that the search in what is
-- left gives the whole answer (`Searching`): the first node is too deep itself (`deep_here`), one below it is
-- (`deep_below`), or the rest decides (`deep_on`; `deep_few` where too few records are below it). A node that is
-- found is one of the stretch (`deep_inside`, by `forest_induction`). Assumes nothing.
use Rattle.std.specs.Prelude.{None, Option, Some, ℕ}
use mathlib.Core.Path.{◌≡◌, refl, sym, ap, ◌∙◌}
use mathlib.Core.Bool.{Bool, true, false}
use mathlib.Core.List.{List}
use mathlib.Core.Logic.{◌⊎◌, inl, inr}
use Prim.Native.Nat.{ℕ, ◌+◌, ◌-◌, ◌*◌, ◌/◌, ◌<◌, ◌≤◌, ◌^◌}
use native.Mathlib.Omega.{arith}
use lib.ListN.{length, take, drop, length-take}
use lib.Dec.{ltb, eqb}
use borrow.Author.Tests.{lt-ltb, le-ltb, ne_eqb, eqb-true}
use Rattle.fields.proofs.Basics.{never}
use Rattle.fields.specs.Choice.{if'}
use Rattle.forest.specs.Forest.{node_of, span_of, kids_of, rest_of, forest, count, count_tree, Tree, node, Forest, none}
use Rattle.forest.specs.Forest.{◌then◌}
use Rattle.forest.proofs.Stretch.{count_forest, each_next, kids_cut, length_rest, forest_none, forest_tree, forest_induction}
use Rattle.forest.proofs.Stretch.{length_kids, length_rest}
use Rattle.soundness.specs.Kinds.{statement, expression, parameter, argument, class_of}
use Rattle.table.specs.Depth.{most_depth, class_weight, weight, or_else, first_deep, deep_in}

-- the weight of each class
module _ {class : ℕ} where
  pub statement_weight : class ≡ statement → (1 ≡ class_weight class) × (1 ≤ 1)
  unfolding class_weight
  statement_weight h = (rw h refl, omega arith)

  pub expression_weight : class ≡ expression → (1 ≡ class_weight class) × (1 ≤ 1)
  unfolding class_weight
  expression_weight h = (rw h refl, omega arith)

  pub no_weight : (class ≡ statement → ⊥) → (class ≡ expression → ⊥) → (0 ≡ class_weight class) × (0 ≤ 1)
  unfolding class_weight
  no_weight d e = (rw (ne_eqb class statement d, ne_eqb class expression e) refl, omega arith)

  pub parameter_weight : class ≡ parameter → (0 ≡ class_weight class) × (0 ≤ 1)
  parameter_weight h = no_weight (λ e. omega (arith, h, e)) (λ e. omega (arith, h, e))

  pub argument_weight : class ≡ argument → (0 ≡ class_weight class) × (0 ≤ 1)
  argument_weight h = no_weight (λ e. omega (arith, h, e)) (λ e. omega (arith, h, e))

-- the weight of a kind is that of its class
pub weighed : (kind : ℕ) {class w : ℕ} → class ≡ class_of kind → (w ≡ class_weight class) × (w ≤ 1)
    → (w ≡ weight kind) × (w ≤ 1)
unfolding weight
weighed kind c w = (rw c at w.0, w.1)

-- a record with a weight is a statement or an expression
pub counted_class : (kind : ℕ) → weight kind ≡ 1 → (class_of kind ≡ statement) ⊎ (class_of kind ≡ expression)
unfolding weight class_weight
counted_class kind = go (class_of kind) (eqb (class_of kind) statement) (eqb (class_of kind) expression) refl refl
  where
    go : (class : ℕ) (s e : Bool) → eqb class statement ≡ s → eqb class expression ≡ e
        → if' {A = ℕ} s (λ _. 1) (λ _. if' e (λ _. 1) (λ _. 0)) ≡ 1 → (class ≡ statement) ⊎ (class ≡ expression)
    go class true e s-is e-is w = inl (eqb-true class statement s-is)
    go class false true s-is e-is w = inr (eqb-true class expression e-is)
    go class false false s-is e-is w = absurd (omega arith)

-- a record adds at most one to the depth
class_little : (class : ℕ) → class_weight class ≤ 1
unfolding class_weight
class_little class = go (eqb class 1) (eqb class 2)
  where
    go : (s e : Bool) → if' s (λ _. 1) (λ _. if' e (λ _. 1) (λ _. 0)) ≤ 1
    go true e = omega arith
    go false true = omega arith
    go false false = omega arith

pub weight_little : (kind : ℕ) → weight kind ≤ 1
unfolding weight
weight_little kind = class_little (class_of kind)

-- LAW: so few nodes that they cannot reach past the largest depth are not too deep
mutual
  unfolding first_deep count

  few_not_deep : (d : ℕ) (f : Forest) → d + count f ≤ 64 → first_deep d f ≡ None
  few_not_deep d none h = refl
  few_not_deep d (t then ts) h = rw (few_in d t (omega arith), few_not_deep d ts (omega arith)) refl

  few_in : (d : ℕ) (t : Tree) → d + count_tree t ≤ 64 → deep_in d t ≡ None
  few_in d (node r ks) h =
      let light = weight_little r.kind in
      rw (le-ltb 64 (d + weight r.kind) (omega arith)) (few_not_deep (d + weight r.kind) ks (omega arith))

-- nodes side by side: at each turn what is left gives the whole answer
pub record Searching (t : List ℕ) (at d : ℕ) (left : List ℕ) (i : ℕ) : Type 0 where
  pub within : 24 * i + length left < 2 ^ 63
  pub part : length left ≤ length t
  pub shallow : d ≤ 64
  pub same : first_deep d (forest i left) ≡ first_deep d (forest at t)

module _ {t : List ℕ} {at d : ℕ} where
  pub deep_start : 24 * at + length t < 2 ^ 63 → d ≤ 64 → Searching t at d t at
  deep_start h low = record { within = h; part = omega arith; shallow = low; same = refl }

  module _ {left : List ℕ} {i : ℕ} (s : Searching t at d left i) where
    pub deep_end : length left < 24 → None ≡ first_deep d (forest at t)
    unfolding first_deep
    deep_end short = rw (forest_none i left short) at s.same

    pub deep_none : d + length left / 24 ≤ 64 → None ≡ first_deep d (forest at t)
    deep_none h = sym (few_not_deep d (forest i left) (rw (count_forest i left) h)) ∙ s.same

    module _ (many : 64 < d + length left / 24) {w : ℕ} (w-is : w ≡ weight (node_of 0 left).kind) where
      big : 24 ≤ length left
      big = omega (arith, s.shallow)

      pub deep_here : 64 < d + w → Some i ≡ first_deep d (forest at t)
      unfolding first_deep
      deep_here h = rw (forest_tree i left big, ← w-is, lt-ltb 64 (d + w) h) at s.same

      module _ (h : d + w ≤ 64) {e : ℕ} (e-is : e ≡ span_of left) (b : Option ℕ)
          (b_is : b ≡ first_deep (d + w) (forest (i + 1) (take (e - 24) (drop 24 left)))) where
        cut : {next : ℕ} {after : List ℕ} → next ≡ i + span_of left / 24 → after ≡ rest_of left
            → first_deep d (forest at t) ≡ or_else b (λ _. first_deep d (forest next after))
        unfolding first_deep
        cut next-is after-is =
            sym s.same
            ∙ each_next (first_deep d) (deep_in d) (λ (x y : Option ℕ). or_else x (λ _. y)) (λ x y. refl) i left big
            next-is after-is
            ∙ rw (← w-is, le-ltb 64 (d + w) h, b_is, kids_cut (first_deep (d + w)) i e left e-is) refl

        pub deep_below : {j : ℕ} → b ≡ Some j → Some j ≡ first_deep d (forest at t)
        deep_below f = sym (cut refl refl ∙ rw f refl)

        pub deep_on : b ≡ None → {next : ℕ} {after : List ℕ} → next ≡ i + span_of left / 24 → after ≡ rest_of left
            → Searching t at d after next
        deep_on f next-is after-is = record {
          within = omega (arith, s.within, next-is, ap length after-is, length_rest left);
          part = omega (arith, s.part, ap length after-is, length_rest left);
          shallow = s.shallow;
          same = sym (cut next-is after-is ∙ rw f refl);
        }

      -- below a node that has too few records under it nothing is too deep
      pub deep_few : d + w ≤ 64 → {e : ℕ} → e ≡ span_of left → d + w + e / 24 ≤ 64 → {next : ℕ} {after : List ℕ}
          → next ≡ i + span_of left / 24 → after ≡ rest_of left → Searching t at d after next
      deep_few h {e} e-is few next-is after-is =
          let kids : length (take (e - 24) (drop 24 left)) / 24 ≤ e / 24 = simp length-take (omega arith) in
          let below = few_not_deep (d + w) (forest (i + 1) (take (e - 24) (drop 24 left)))
          (rw (count_forest (i + 1) (take (e - 24) (drop 24 left))) (omega arith)) in
          deep_on h e-is None (sym below) refl next-is after-is

-- LAW: a node that is too deep is one of the stretch
pub deep_inside : (i : ℕ) (bs : List ℕ) (d k : ℕ) → first_deep d (forest i bs) ≡ Some k → k < i + length bs / 24
unfolding first_deep
deep_inside =
    forest_induction (λ i bs. (d k : ℕ) → first_deep d (forest i bs) ≡ Some k → k < i + length bs / 24)
    (λ i bs s d k f. never (cc (ap (first_deep d) (forest_none i bs s))))
    (λ i bs big ks rs d k f. go i bs big d k (ks (d + weight (node_of i bs).kind)) (rs d)
    (ltb most_depth (d + weight (node_of i bs).kind))
    (first_deep (d + weight (node_of i bs).kind) (forest (i + 1) (kids_of bs))) refl
    (sym (ap (first_deep d) (forest_tree i bs big)) ∙ f))
  where
    go : (i : ℕ) (bs : List ℕ) → 24 ≤ length bs → (d k : ℕ)
        → ((k : ℕ) → first_deep (d + weight (node_of i bs).kind) (forest (i + 1) (kids_of bs)) ≡ Some k
        → k < i + 1 + length (kids_of bs) / 24)
        → ((k : ℕ) → first_deep d (forest (i + span_of bs / 24) (rest_of bs)) ≡ Some k
        → k < i + span_of bs / 24 + length (rest_of bs) / 24)
        → (b : Bool) (x : Option ℕ) → first_deep (d + weight (node_of i bs).kind) (forest (i + 1) (kids_of bs)) ≡ x
        → or_else (if' b (λ _. Some i) (λ _. x)) (λ _. first_deep d (forest (i + span_of bs / 24) (rest_of bs)))
        ≡ Some k
        → k < i + length bs / 24
    go i bs big d k ks rs true x x-is f = let here : i ≡ k = cc in omega arith
    go i bs big d k ks rs false (Some j) x-is f = let same : j ≡ k = cc in omega (arith, ks j x-is, length_kids bs)
    go i bs big d k ks rs false None x-is f = omega (arith, rs k f, length_rest bs)
