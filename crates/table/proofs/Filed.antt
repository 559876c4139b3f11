-- Every refusal from 10 on carries the source file number of the node that it names. A rule refuses at a node of the
-- tree that it reads (`Told`, which each job shows by going along its rule), and in a table that the check accepts
-- every node of the tree of node i is a record of the table with the number of node i (`tree_filed`): the nodes of a
-- stretch are its records in order (forest's `nodes_records`), and all of a subtree have one number (soundness's
-- `subtree_file`). Node i is no root Statements, since no job wants one (`no_row`). Cite `node_files` for a job on a
-- node. Assumes nothing.
use mathlib.Core.Path.{◌≡◌, refl, sym, ap, ◌∙◌}
use mathlib.Core.Bool.{Bool, true, false}
use mathlib.Core.List.{List, [], ◌∷◌, ◌++◌}
use Prim.Native.Nat.{ℕ, zero, suc, ◌+◌, ◌*◌, ◌/◌, ◌<◌, ◌≤◌}
use native.Mathlib.Omega.{arith}
use lib.ListN.{length, take, drop, get_or, length-drop}
use lib.Seq.{drop-drop, length-take-le}
use lib.Dec.{eqb, ltb}
use borrow.Author.Tests.{eqb-true, ltb-true}
use Rattle.fields.specs.Choice.{if'}
use Rattle.fields.proofs.Basics.{clash, and_left, and_right}
use Rattle.forest.specs.Forest.{Node, node_of, size_of, span_of, rest_of, Tree, node, Forest, ◌then◌, forest, tree_of}
use Rattle.forest.specs.Forest.{nodes, nodes_of}
use Rattle.forest.proofs.Stretch.{records, nodes_records, records_take, forest_tree}
use Rattle.soundness.specs.KindNumbers.{kind_statements}
use Rattle.soundness.specs.Kinds.{kind_in, kind_of}
use Rattle.soundness.specs.Files.{record_at, root_statements}
use Rattle.soundness.proofs.Files.{subtree_file}
use Rattle.table.specs.Answer.{Answer, accepted, refused, and_then, refused_at, refused_after}
use Rattle.table.specs.Check.{wants, node_fits, stretch_of, entry_check, on_node}
use Rattle.table.specs.Carrying.{file_at, CarriesFile}
use Rattle.table.specs.declared.Wanted.{Wanted}
use Rattle.table.specs.declared.Wanted.TheVariants.{Parameters, Call, Assignment, Expression}
use Rattle.table.proofs.Carried.{Before, entry_before}
use Rattle.table.proofs.Checking.{Clean, accepted_clean, stretch_is, stretch_size}
use Rattle.table.proofs.Entering.{entry_sound}

-- every node of a list has a property
abbrev pub All : (Node → Type 0) → List Node → Type 0
All P [] = Unit {0}
All P (r ∷ rs) = P r × All P rs

-- a refusal from 10 on names a node with the property, and carries its number
pub record Names (P : Node → Type 0) (vs : List ℕ) : Type 0 where
  pub node : Node
  pub holds : P node
  pub there : 4 ≤ length vs
  pub named : get_or vs 0 0 ≡ node.at
  pub file : get_or vs 3 0 ≡ node.file

abbrev pub Told : (Node → Type 0) → Answer → Type 0
Told P (accepted vs) = Unit {0}
Told P (refused n vs) = 10 ≤ n → Names P vs

module _ (P : Node → Type 0) where
  all_first : (rs ss : List Node) → All P (rs ++ ss) → All P rs
  all_first [] ss h = tt
  all_first (r ∷ rs) ss h = (h.0, all_first rs ss h.1)

  all_second : (rs ss : List Node) → All P (rs ++ ss) → All P ss
  all_second [] ss h = h
  all_second (r ∷ rs) ss h = all_second rs ss h.1

  -- LAWS: a tree's first node and those below it; the first of trees side by side and the others
  pub all_tree : (r : Node) (ks : Forest) → All P (nodes_of (node r ks)) → P r × All P (nodes ks)
  unfolding nodes
  all_tree r ks h = h

  pub all_row : (t : Tree) (ts : Forest) → All P (nodes (t then ts)) → All P (nodes_of t) × All P (nodes ts)
  unfolding nodes
  all_row t ts h = (all_first (nodes_of t) (nodes ts) h, all_second (nodes_of t) (nodes ts) h)

  -- LAWS: a refusal at a node; steps in order, of which those before 10 carry no number
  pub told_at : (n : ℕ) (r : Node) → P r → Told P (refused_at n r)
  told_at n r p late = record { node = r; holds = p; there = omega arith; named = refl; file = refl }

  pub told_after : (n : ℕ) (r : Node) (i : ℕ) → P r → Told P (refused_after n r i)
  told_after n r i p late = record { node = r; holds = p; there = omega arith; named = refl; file = refl }

  pub told_then : (x : Answer) (next : Unit {0} → Answer) → Told P x → Told P (next tt) → Told P (and_then x next)
  told_then (accepted vs) next a b = b
  told_then (refused n vs) next a b = a

  pub told_if_lem : (b : Bool) (x y : Unit {0} → Answer) → Told P (x tt) → Told P (y tt) → Told P (if' b x y)
  told_if_lem true x y a b = a
  told_if_lem false x y a b = b

  pub told_before : (x : Answer) → Before 10 x → Told P x
  told_before (accepted vs) b = tt
  told_before (refused n vs) b = λ late. absurd (omega (arith, b.0))

  -- records of a table that have the property, one after the other
  from_table : (t : List ℕ) (n i : ℕ) → ((j : ℕ) → i ≤ j → j < i + n → P (record_at t j))
      → All P (records n i (drop (24 * i) t))
  from_table t zero i h = tt
  from_table t (suc n) i h =
      let next : 24 * i + 24 ≡ 24 * (i + 1) = omega arith in
      let on : drop 24 (drop (24 * i) t) ≡ drop (24 * (i + 1)) t =
      drop-drop 24 (24 * i) t ∙ ap (λ (k : ℕ). drop k t) next in
      (h i (omega arith) (omega arith), rw on (from_table t n (i + 1) (λ j a b. h j (omega arith) (omega arith))))

-- a node of the tree of node i: it has its record's number, and node i's
abbrev pub Filed : List ℕ → ℕ → Node → Type 0
Filed t i r = (r.file ≡ file_at t r.at) × (r.file ≡ file_at t i)

-- LAW: in a table that the check accepts every node under one that is no root Statements is such a one
module _ {t names : List ℕ} (c : Clean t names) (i : ℕ) (h : i < length t / 24)
    (no_row : i ≡ 0 → root_statements t ≡ false) where
  filed_at : (j : ℕ) → i ≤ j → j < i + size_of (drop (24 * i) t) → Filed t i (record_at t j)
  filed_at j from before = (refl, subtree_file t names c.unsound i h no_row j from before)

  pub tree_filed : All (Filed t i) (nodes_of (tree_of i (stretch_of t i)))
  unfolding nodes
  tree_filed =
      let s : ℕ = size_of (drop (24 * i) t) in
      let bs : List ℕ = take (24 * s) (drop (24 * i) t) in
      let size = stretch_size c i h in
      let long : length bs ≡ 24 * s = length-take-le (24 * s) (drop (24 * i) t) (simp length-drop (omega arith)) in
      let many : length bs / 24 ≡ s = omega arith in
      let same : nodes (forest i bs) ≡ records s i (drop (24 * i) t) =
      nodes_records i bs ∙ rw many (records_take s i (24 * s) (drop (24 * i) t) (omega arith)) in
      let all : All (Filed t i) (nodes (forest i bs)) = rw same (from_table (Filed t i) t s i filed_at) in
      rw (stretch_is c i h) (all_row (Filed t i) (tree_of i bs) (forest (i + span_of bs / 24) (rest_of bs))
      (rw (forest_tree i bs (omega arith)) at all)).0

-- no job wants a Statements
wants_other : (w : Wanted) (k : ℕ) → wants w k ≡ true → eqb k kind_statements ≡ false
unfolding wants kind_of kind_in
wants_other w k e = go (eqb k kind_statements) refl
  where
    none_wants : (w : Wanted) → wants w kind_statements ≡ false
    none_wants Parameters = refl
    none_wants Call = refl
    none_wants Assignment = refl
    none_wants Expression = refl

    go : (b : Bool) → eqb k kind_statements ≡ b → eqb k kind_statements ≡ false
    go false f = f
    go true f = let same : k ≡ kind_statements = eqb-true k kind_statements f in
        clash (rw same at e) (none_wants w)

-- what such a refusal says of the table
pub files_told : (t : List ℕ) (i : ℕ) (a : Answer) → Told (Filed t i) a → CarriesFile t i a
files_told t i (accepted vs) b = tt
files_told t i (refused n vs) b = λ late.
    let it = b late in
    record {
      there = it.there;
      named = it.file ∙ it.holds.0 ∙ ap (file_at t) (sym it.named);
      same = it.file ∙ it.holds.1;
    }

-- a node that is no Statements is no root Statements
pub not_root : (t : List ℕ) (i : ℕ) → eqb (node_of i (drop (24 * i) t)).kind kind_statements ≡ false
    → i ≡ 0 → root_statements t ≡ false
not_root t i other at = rw at at other

-- LAW: the nodes of the tree of a node that fits a job
pub fits_filed : {t names : List ℕ} → Clean t names → (w : Wanted) (i : ℕ) → node_fits t i w ≡ true
    → All (Filed t i) (nodes_of (tree_of i (stretch_of t i)))
unfolding node_fits
fits_filed {t} c w i fits =
    let inside : i < length t / 24 = ltb-true i (length t / 24) (and_left _ _ fits) in
    let wanted = and_right (ltb i (length t / 24)) _ fits in
    tree_filed c i inside (not_root t i (wants_other w (node_of i (drop (24 * i) t)).kind wanted))

-- LAW: every refusal from 10 on of a job on a node carries the number of the node that it names, which is node i's
pub node_files : (w : Wanted) (rule : Tree → Answer) (t names : List ℕ) (i : ℕ)
    → ((tree : Tree) → All (Filed t i) (nodes_of tree) → Told (Filed t i) (rule tree))
    → CarriesFile t i (on_node w rule t names i)
unfolding on_node
node_files w rule t names i rules =
    files_told t i (and_then (entry_check w t names i) (λ _. rule (tree_of i (stretch_of t i))))
    (go (entry_check w t names i) refl (entry_before 10 w t names i (omega arith)))
  where
    go : (x : Answer) → entry_check w t names i ≡ x → Before 10 x
        → Told (Filed t i) (and_then x (λ _. rule (tree_of i (stretch_of t i))))
    go (accepted us) e b =
        let known = entry_sound w t names i e in
        rules (tree_of i (stretch_of t i)) (fits_filed (accepted_clean t names known.0) w i known.1)
    go (refused n us) e b = told_before (Filed t i) (refused n us) b
