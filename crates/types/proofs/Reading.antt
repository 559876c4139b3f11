-- The code walks the children of a type, or of a List of arguments, from left to right, as `unpack` and
-- `unpack_argument` of specs/Types do. The invariant of both loops is `Judging`: judging what is left gives the whole
-- answer. It holds at the start (`unpack_start`, `argument_start`); a child keeps it, is skipped or ends the loop with
-- its refusal (`each_on`, `each_skip`, `each_stop`); at the end nothing is left (`each_end`). The code chooses the rule
-- by the child's kind, where the definition calls the argument rule for every argument and reads as a type what is no
-- List; both give the same (`by_rule`). What is left is smaller than the node's subtree (`part`), so each call is on a
-- smaller tree (`falls`). shapes uses `first_and_rest`, `by_rule` and `falls` for its own walk. Assumes nothing.
use Rattle.std.specs.Prelude.{Err, Ok, Result}
use mathlib.Core.Path.{◌≡◌, refl, sym, ap, ◌∙◌}
use mathlib.Core.Bool.{Bool, true, false}
use mathlib.Core.List.{List, []}
use Prim.Native.Nat.{ℕ, ◌+◌, ◌-◌, ◌*◌, ◌/◌, ◌<◌, ◌≤◌}
use native.Mathlib.Omega.{arith}
use lib.ListN.{length, take, drop}
use lib.Dec.{eqb}
use borrow.Author.Tests.{eq-eqb, ne_eqb, eqb-true}
use Rattle.fields.proofs.Basics.{never}
use Rattle.fields.specs.Choice.{if'}
use Rattle.dialect.specs.declared.Edition.{Edition}
use Rattle.forest.specs.Forest.{node_of, span_of, kids_of, rest_of, Tree, Forest, ◌then◌, forest, tree_of}
use Rattle.forest.proofs.Stretch.{forest_none, forest_tree, kids_part, length_kids, length_rest}
use Rattle.soundness.specs.KindNumbers.{kind_list}
use Rattle.table.specs.Answer.{Answer, accepted, and_then, refusal}
use Rattle.table.specs.declared.Refusal.{Refusal}
use Rattle.types.specs.Forms.{form_of, reads_as, reads_of, rule_of, of_child}
use Rattle.types.specs.Types.{at_node, «unpack», unpack_argument, unpack_each}
use Rattle.types.specs.Jobs.{shaped}
use Rattle.types.specs.declared.Form.{Form}
use Rattle.types.specs.declared.How.{How}
use Rattle.types.specs.declared.How.TheVariants.{Unread, AsType, AsArgument}
use Rattle.types.specs.declared.Reads.{Reads}

-- LAW: reading siblings is reading the first and then the others; stated once for the walk that judges and the walk
-- that writes
pub first_and_rest : {A : Type 0} (each : Reads → Forest → A) (child : How → Tree → A) (join : A → A → A)
    → ((reads : Reads) (t : Tree) (ts : Forest)
    → each reads (t then ts) ≡ join (child reads.first t) (each (reads_as reads.others reads.others) ts))
    → (reads : Reads) (i : ℕ) (bs : List ℕ) → 24 ≤ length bs → {next : ℕ} {after : List ℕ}
    → next ≡ i + span_of bs / 24 → after ≡ rest_of bs
    → each reads (forest i bs) ≡ join (child reads.first (tree_of i bs))
    (each (reads_as reads.others reads.others) (forest next after))
first_and_rest each child join then_is reads i bs big next-is after-is =
    rw (after-is, next-is) (ap (each reads) (forest_tree i bs big)
    ∙ then_is reads (tree_of i bs) (forest (i + span_of bs / 24) (rest_of bs)))

-- the siblings after the first end where all of them end
rest_within : (i : ℕ) (bs : List ℕ) → 24 * i + length bs ≤ 50400
    → 24 * (i + span_of bs / 24) + length (rest_of bs) ≤ 50400
rest_within i bs h = omega (arith, length_rest bs)

-- LAW: the rule that the caller chooses by the child's kind gives the same as the definition; stated once for both
-- walks
module _ {A : Type 0} (k : ℕ) (nothing type list : A) where
  pub by_rule : (how : How)
      → of_child (rule_of how k) nothing (λ _. type) (λ _. if' (eqb k kind_list) (λ _. list) (λ _. type))
      ≡ of_child how nothing (λ _. type) (λ _. if' (eqb k kind_list) (λ _. list) (λ _. type))
  unfolding rule_of
  by_rule Unread = refl
  by_rule AsType = refl
  by_rule AsArgument = go (eqb k kind_list)
    where
      go : (b : Bool) → of_child (if' b (λ _. AsArgument) (λ _. AsType)) nothing (λ _. type)
          (λ _. if' b (λ _. list) (λ _. type)) ≡ if' b (λ _. list) (λ _. type)
      go true = refl
      go false = refl

-- LAW: the argument rule is chosen only for a List
pub argument_list : (how : How) (k : ℕ) → rule_of how k ≡ AsArgument → k ≡ kind_list
unfolding rule_of
argument_list Unread k e = never (cc)
argument_list AsType k e = never (cc)
argument_list AsArgument k e = go (eqb k kind_list) refl e
  where
    go : (b : Bool) → eqb k kind_list ≡ b → if' b (λ _. AsArgument) (λ _. AsType) ≡ AsArgument → k ≡ kind_list
    go true is e = eqb-true k kind_list is
    go false is e = never (cc)

-- LAW: so a child for which the argument rule is chosen is a List
pub child_is_list : (t : List ℕ) (how : How) {rule : How} {k : ℕ} → k ≡ (node_of 0 t).kind → rule ≡ rule_of how k
    → rule ≡ AsArgument → (node_of 0 t).kind ≡ kind_list
child_is_list t how {rule} {k} k_is rule-is h = sym k_is ∙ argument_list how k (sym rule-is ∙ h)

-- LAW: the first subtree among the children of a node is smaller than the node's subtree
pub falls : (t left : List ℕ) → length left + 24 ≤ span_of t → span_of left < span_of t
falls t left h = omega arith

-- the answer for a child, by how it is read
abbrev pub unpack_child : How → Edition → List ℕ → Tree → Answer
unpack_child how edition names t =
    of_child how (accepted []) (λ _. «unpack» edition names t) (λ _. unpack_argument edition names t)

-- the answer for a child, by the rule that its caller chooses
module _ (edition : Edition) (names : List ℕ) (i : ℕ) (t : List ℕ) (how : How) {rule : How} {k : ℕ}
    (k_is : k ≡ (node_of 0 t).kind)
    (rule-is : rule ≡ rule_of how k) where
  chosen : unpack_child rule edition names (tree_of i t) ≡ unpack_child how edition names (tree_of i t)
  unfolding «unpack»
  chosen = rw (rule-is, k_is) (by_rule (node_of 0 t).kind (accepted []) _ _ how)

  as_chosen : {h : How} → rule ≡ h
      → unpack_child h edition names (tree_of i t) ≡ unpack_child how edition names (tree_of i t)
  as_chosen e = ap (λ (x : How). unpack_child x edition names (tree_of i t)) (sym e) ∙ chosen

  pub child_unread : rule ≡ Unread → accepted [] ≡ unpack_child how edition names (tree_of i t)
  child_unread h = as_chosen h

  module _ {r : Answer} where
    pub child_type : rule ≡ AsType → r ≡ «unpack» edition names (tree_of i t)
        → r ≡ unpack_child how edition names (tree_of i t)
    child_type h r-is = r-is ∙ as_chosen h

    pub child_list : rule ≡ AsArgument → r ≡ unpack_argument edition names (tree_of i t)
        → r ≡ unpack_child how edition names (tree_of i t)
    child_list h r-is = r-is ∙ as_chosen h

-- the invariant of both loops: what is left is smaller than the node's subtree, and judging it gives the whole answer
pub record Judging (edition : Edition) (names : List ℕ) (others : How) (t : List ℕ) (whole : Answer) (left : List ℕ)
    (at : ℕ) (how : How)
    : Type 0 where
  pub within : 24 * at + length left ≤ 50400
  pub part : length left + 24 ≤ span_of t
  pub same : unpack_each (reads_as how others) edition names (forest at left) ≡ whole

-- the type at the start of t: the test at its node, then its children
module _ (edition : Edition) (names : List ℕ) (i : ℕ) (t : List ℕ) (here : Result (Unit {0}) Refusal)
    (here-is : shaped here ≡ at_node edition names (form_of (node_of 0 t).kind (node_of 0 t).detail) (node_of i t)
    (forest (i + 1) (kids_of t))) where
  pub unpack_stop : {why : Refusal} → here ≡ Err why → refusal why ≡ «unpack» edition names (tree_of i t)
  unfolding «unpack»
  unpack_stop h = rw (← here-is, h) refl

  pub unpack_start : 24 ≤ length t → 24 * i + length t ≤ 50400 → here ≡ Ok tt
      → {f : Form} → f ≡ form_of (node_of 0 t).kind (node_of 0 t).detail → {reads : Reads} → reads ≡ reads_of f
      → {e : ℕ} → e ≡ span_of t
      → Judging edition names reads.others t («unpack» edition names (tree_of i t)) (take (e - 24) (drop 24 t))
      (i + 1) reads.first
  unfolding «unpack»
  unpack_start long fits h f-is reads-is {e} e-is = record {
    within = rw (kids_part e t e-is) (omega (arith, length_kids t));
    part = rw (kids_part e t e-is) (omega (arith, length_kids t));
    same = rw (kids_part e t e-is, reads-is, f-is, ← here-is, h) refl;
  }

-- the List of arguments at the start of t
module _ (edition : Edition) (names : List ℕ) (i : ℕ) (t : List ℕ) where
  pub argument_start : 24 ≤ length t → 24 * i + length t ≤ 50400 → (node_of 0 t).kind ≡ kind_list → {e : ℕ}
      → e ≡ span_of t
      → Judging edition names AsArgument t (unpack_argument edition names (tree_of i t)) (take (e - 24) (drop 24 t))
      (i + 1) AsArgument
  unfolding «unpack»
  argument_start long fits list {e} e-is = record {
    within = rw (kids_part e t e-is) (omega (arith, length_kids t));
    part = rw (kids_part e t e-is) (omega (arith, length_kids t));
    same = rw (kids_part e t e-is, eq-eqb (node_of 0 t).kind kind_list list) refl;
  }

  pub item_type : {k : ℕ} → k ≡ (node_of 0 t).kind → (k ≡ kind_list → ⊥) → {r : Answer}
      → r ≡ «unpack» edition names (tree_of i t)
      → r ≡ unpack_child AsArgument edition names (tree_of i t)
  unfolding «unpack»
  item_type {k} k_is other r-is = r-is ∙ rw (← k_is, ne_eqb k kind_list other) refl

module _ {edition : Edition} {names : List ℕ} {others : How} {t : List ℕ} {whole : Answer} {left : List ℕ} {at : ℕ}
    {how : How}
    (j : Judging edition names others t whole left at how) where
  pub each_end : length left < 24 → accepted [] ≡ whole
  unfolding «unpack»
  each_end short = rw (← j.same, forest_none at left short) refl

  pub each_falls : span_of left < span_of t
  each_falls = falls t left j.part

  module _ (big : 24 ≤ length left) (child : Result (Unit {0}) Refusal)
      (child_is : shaped child ≡ unpack_child how edition names (tree_of at left)) where
    step : {next : ℕ} {after : List ℕ} → next ≡ at + span_of left / 24 → after ≡ rest_of left
        → unpack_each (reads_as how others) edition names (forest at left)
        ≡ and_then (shaped child) (λ _. unpack_each (reads_as others others) edition names (forest next after))
    unfolding «unpack»
    step next-is after-is = first_and_rest (λ z ts. unpack_each z edition names ts)
        (λ h x. unpack_child h edition names x) (λ x y. and_then x (λ _. y)) (λ z x ts. refl)
        (reads_as how others) at left big next-is after-is
        ∙ rw child_is refl

    pub each_stop : {why : Refusal} → child ≡ Err why → refusal why ≡ whole
    each_stop h = sym (sym j.same ∙ step refl refl ∙ rw h refl)

    pub each_on : child ≡ Ok tt → {next : ℕ} {after : List ℕ} → next ≡ at + span_of left / 24
        → after ≡ rest_of left → Judging edition names others t whole after next others
    each_on h next-is after-is = record {
      within = rw (next-is, after-is) (rest_within at left j.within);
      part = rw after-is (omega (arith, length_rest left, j.part));
      same = sym (sym j.same ∙ step next-is after-is ∙ rw h refl);
    }

  -- a child that is not read
  pub each_skip : 24 ≤ length left → {k : ℕ} → k ≡ (node_of 0 left).kind → {rule : How} → rule ≡ rule_of how k
      → rule ≡ Unread → {next : ℕ} {after : List ℕ} → next ≡ at + span_of left / 24 → after ≡ rest_of left
      → Judging edition names others t whole after next others
  each_skip big k_is rule-is h next-is after-is =
      each_on big (Ok tt) (child_unread edition names at left how k_is rule-is h) refl next-is after-is
