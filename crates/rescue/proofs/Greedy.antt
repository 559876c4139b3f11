-- Which cuts pass. Whether a child is `keepable` depends on the child and its table: it is a statement whose nodes
-- are sound, have the number of one source file, and are not too deep. The cut to k children passes exactly if the
-- root's fields are sound, its source file number is 0, and each of its first k children is keepable (`cut_accepted`,
-- `cut_keepable`). For the check of the cut is a check of its forest (soundness's `any_clean` and `clean_any`), which
-- is the root and these children. The inductions are on the forest. Assumes nothing.
use Rattle.std.specs.Prelude.{None, Option, Some, ℕ}
use mathlib.Core.Path.{◌≡◌, refl, sym, ap, ◌∙◌}
use mathlib.Core.Bool.{Bool, true, false, ◌&&◌}
use mathlib.Core.List.{List, [], append-nil}
use Prim.Native.Nat.{ℕ, zero, suc, ◌+◌, ◌*◌, ◌≤◌}
use native.Mathlib.Nat.{sub-zero}
use native.Mathlib.Omega.{arith}
use lib.ListN.{length, replicate}
use lib.Dec.{eqb}
use borrow.Author.Tests.{eq-eqb}
use Rattle.fields.specs.Choice.{if'}
use Rattle.fields.proofs.Basics.{never, and_left, and_right, and_both}
use Rattle.forest.specs.Forest.{Node, size_of, node_of, Tree, node, Forest, none, ◌then◌, forest, firsts, count, roots}
use Rattle.forest.specs.Names.{same}
use Rattle.soundness.specs.KindNumbers.{kind_statements}
use Rattle.soundness.specs.Kinds.{statement, any, kind_of, kind_in, class_of}
use Rattle.soundness.specs.Files.{file_numbers, any_file, file_sound, files_in, files_top, files_sound}
use Rattle.soundness.specs.Sound.{Context, context, fields_sound, whole_trees, classes, permitted}
use Rattle.soundness.specs.Sound.{wanted, permits, kids_sound, sound_node, root_sound, clear}
use Rattle.soundness.proofs.Search.{clear_is}
use Rattle.soundness.proofs.SoundTables.{all_sound, tree_sound, Sound, node_size}
use Rattle.soundness.proofs.Files.{clean_files}
use Rattle.soundness.proofs.OneStatement.{clean_any, any_clean}
use Rattle.table.specs.Answer.{accepted}
use Rattle.table.specs.Check.{check_of}
use Rattle.table.specs.Depth.{weight, class_weight, or_else, first_deep, deep_in}
use Rattle.table.proofs.Checking.{accepted_clean}
use Rattle.table.proofs.Theorems.{clean_accepted}
use Rattle.rescue.specs.Cut.{children, cut_to}
use Rattle.rescue.specs.Steps.{keepable, leading}
use Rattle.rescue.proofs.Cuts.{Rooted, cut_length, cut_short, cut_size, cut_kind, cut_file, cut_fields}
use Rattle.rescue.proofs.Cuts.{cut_forest}

-- a test of each tree
unfoldable pub each : (Tree → Bool) → Forest → Bool
each p none = true
each p (t then ts) = p t && each p ts

-- LAW: trees that can be kept pass what the check of a table tests of a root's children
pub record Keepable (m : ℕ) (f : Forest) : Type 0 where
  pub sound : all_sound (λ i. context m any_file) f ≡ true
  pub files : files_top f ≡ true
  pub whole : whole_trees f ≡ true
  pub statements : same (classes f) (replicate (length (classes f)) statement) ≡ true
  pub flat : first_deep 1 f ≡ None

-- the parts of one of them
pub record Child (m : ℕ) (r : Node) (ks : Forest) : Type 0 where
  pub class : eqb (class_of r.kind) statement ≡ true
  pub sound : tree_sound (λ i. context m any_file) (node r ks) ≡ true
  pub files : (file_sound file_numbers r.file && files_in r.file ks) ≡ true
  pub flat : clear (deep_in 1 (node r ks)) ≡ true

pub keepable_is : (m : ℕ) (r : Node) (ks : Forest) → keepable m (node r ks) ≡ true → Child m r ks
unfolding keepable files_top
keepable_is m r ks e =
    let class : Bool = eqb (class_of r.kind) statement in
    let sound : Bool = tree_sound (λ i. context m any_file) (node r ks) in
    let both = and_right class _ e in
    let judged = and_left (sound && files_top (node r ks then none)) _ both in
    record {
      class = and_left class _ e;
      sound = and_left sound _ judged;
      files = and_left _ true (and_right sound _ judged);
      flat = and_right (sound && files_top (node r ks then none)) _ both;
    }

is_keepable : (m : ℕ) (r : Node) (ks : Forest) → Child m r ks → keepable m (node r ks) ≡ true
unfolding keepable files_top
is_keepable m r ks c = and_both _ _ c.class
    (and_both _ _ (and_both _ _ c.sound (and_both _ true c.files refl)) c.flat)

each_says : (m : ℕ) (f : Forest) → each (keepable m) f ≡ true → Keepable m f
unfolding each all_sound files_top whole_trees classes same first_deep
each_says m none e = record { sound = refl; files = refl; whole = refl; statements = refl; flat = refl }
each_says m (node r ks then ts) e =
    let here = keepable_is m r ks (and_left (keepable m (node r ks)) _ e) in
    let rest = each_says m ts (and_right (keepable m (node r ks)) _ e) in
    let size = node_size (context m any_file) r ks (and_left _ _ here.sound) in
    record {
      sound = and_both _ _ here.sound rest.sound;
      files = and_both _ _ here.files rest.files;
      whole = and_both _ _ (eq-eqb r.size (1 + count ks) size) rest.whole;
      statements = and_both _ _ here.class rest.statements;
      flat = rw (clear_is (deep_in 1 (node r ks)) here.flat) rest.flat;
    }

or_else_lem : (x y : Option ℕ) → or_else x (λ _. y) ≡ None → (clear x ≡ true) × (y ≡ None)
or_else_lem (Some i) y e = never (cc)
or_else_lem None y e = (refl, e)

says_each : (m : ℕ) (f : Forest) → all_sound (λ i. context m any_file) f ≡ true → files_top f ≡ true
    → same (classes f) (replicate (length (classes f)) statement) ≡ true → first_deep 1 f ≡ None
    → each (keepable m) f ≡ true
unfolding each all_sound files_top classes same first_deep
says_each m none s n c d = refl
says_each m (node r ks then ts) s n c d =
    let deep = or_else_lem (deep_in 1 (node r ks)) (first_deep 1 ts) d in
    let class : Bool = eqb (class_of r.kind) statement in
    let sound : Bool = tree_sound (λ i. context m any_file) (node r ks) in
    let files : Bool = file_sound file_numbers r.file && files_in r.file ks in
    and_both _ _
    (is_keepable m r ks record {
      class = and_left class _ c;
      sound = and_left sound _ s;
      files = and_left files _ n;
      flat = deep.0;
    })
    (says_each m ts (and_right sound _ s) (and_right files _ n) (and_right class _ c) deep.1)

-- fewer trees, and the leading ones
pub each_fewer : (p : Tree → Bool) (j k : ℕ) (f : Forest) → j ≤ k → each p (firsts k f) ≡ true
    → each p (firsts j f) ≡ true
unfolding each firsts
each_fewer p zero k f h e = refl
each_fewer p (suc j) zero f h e = absurd (omega arith)
each_fewer p (suc j) (suc k) none h e = refl
each_fewer p (suc j) (suc k) (t then ts) h e =
    and_both _ _ (and_left (p t) _ e) (each_fewer p j k ts (omega arith) (and_right (p t) _ e))

pub leading_each : (p : Tree → Bool) (f : Forest) → each p (firsts (leading p f) f) ≡ true
unfolding each firsts leading
leading_each p none = refl
leading_each p (t then ts) = go (p t) refl (leading_each p ts)
  where
    go : (b : Bool) → p t ≡ b → each p (firsts (leading p ts) ts) ≡ true
        → each p (firsts (if' b (λ _. suc (leading p ts)) (λ _. 0)) (t then ts)) ≡ true
    go true e rest = and_both _ _ e rest
    go false e rest = refl

pub each_leading : (p : Tree → Bool) (k : ℕ) (f : Forest) → k ≤ length (roots f) → each p (firsts k f) ≡ true
    → k ≤ leading p f
unfolding each firsts leading roots
each_leading p zero f h e = omega arith
each_leading p (suc k) none h e = absurd (omega arith)
each_leading p (suc k) (node r ks then ts) h e =
    rw (and_left (p (node r ks)) _ e)
    (omega (arith, each_leading p k ts (omega arith) (and_right (p (node r ks)) _ e)))

pub leading_few : (p : Tree → Bool) (f : Forest) → leading p f ≤ length (roots f)
unfolding leading roots
leading_few p none = omega arith
leading_few p (node r ks then ts) = go (p (node r ks)) (leading_few p ts)
  where
    go : (b : Bool) → leading p ts ≤ length (roots ts)
        → if' b (λ _. suc (leading p ts)) (λ _. 0) ≤ suc (length (roots ts))
    go true h = omega arith
    go false h = omega arith

-- the rule for the children of a Statements
class_statements : class_of kind_statements ≡ statement
unfolding kind_of kind_in
class_statements = refl

weight_statements : weight kind_statements ≡ 1
unfolding weight class_weight kind_of kind_in
weight_statements = refl

rule_statements : (d : ℕ) → (kind_of kind_statements).kids d ≡ any statement
unfolding kind_of kind_in
rule_statements d = refl

kids_are : (d : ℕ) (f : Forest) → kids_sound ((kind_of kind_statements).kids d) f
    ≡ (whole_trees f && same (classes f) (replicate (length (classes f)) statement))
unfolding kids_sound permits permitted wanted
kids_are d f = rw (rule_statements d, sub-zero, append-nil) refl

-- the cut of a table that begins with a Statements
module _ {t : List ℕ} (names : List ℕ) (r : Rooted t) (k : ℕ) where
  abbrev x : Context
  x = context (length names) any_file

  abbrev kids : Forest
  kids = firsts k (children t)

  kind_cut : (node_of 0 (cut_to k t)).kind ≡ kind_statements
  kind_cut = cut_kind k r ∙ r.kind

  root_is : sound_node x (node_of 0 (cut_to k t)) kids
      ≡ (fields_sound x (node_of 0 t)
      && (whole_trees kids && same (classes kids) (replicate (length (classes kids)) statement)))
  unfolding sound_node
  root_is = rw (
    cut_fields k r x,
    eq-eqb (size_of (cut_to k t)) (1 + count kids) (cut_size k r),
    kind_cut,
    kids_are (node_of 0 (cut_to k t)).detail kids,
  ) refl

  all_is : all_sound (λ i. x) (forest 0 (cut_to k t))
      ≡ ((sound_node x (node_of 0 (cut_to k t)) kids && all_sound (λ i. x) kids) && true)
  unfolding all_sound
  all_is = ap (all_sound (λ i. x)) (cut_forest k r)

  deep_is : first_deep 0 (forest 0 (cut_to k t)) ≡ first_deep 1 kids
  unfolding first_deep
  deep_is = ap (first_deep 0) (cut_forest k r) ∙ rw (kind_cut, weight_statements) (go (first_deep 1 kids))
    where
      go : (y : Option ℕ) → or_else y (λ _. None) ≡ y
      go (Some i) = refl
      go None = refl

  root_covers : root_sound (cut_to k t) ≡ true
  unfolding root_sound
  root_covers = and_both _ _
      (eq-eqb (class_of (node_of 0 (cut_to k t)).kind) statement (ap class_of kind_cut ∙ class_statements))
      (eq-eqb (24 * size_of (cut_to k t)) (length (cut_to k t))
      (omega (arith, cut_size k r, cut_length k r)))

  files_is : files_sound (forest 0 (cut_to k t)) ≡ (eqb (node_of 0 t).file 0 && files_top kids)
  unfolding files_sound
  files_is = ap files_sound (cut_forest k r) ∙ rw (kind_cut, cut_file k r) refl

  -- LAW: the cut passes if the root's fields are sound, its file number is 0, and each of the children can be kept
  pub record Passed : Type 0 where
    pub named : length names ≤ 8064
    pub fields : fields_sound x (node_of 0 t) ≡ true
    pub file : eqb (node_of 0 t).file 0 ≡ true
    pub good : each (keepable (length names)) kids ≡ true

  pub cut_accepted : length t ≤ 50400 → Passed → check_of (cut_to k t) names ≡ accepted []
  cut_accepted few p =
      let says : Keepable (length names) kids = each_says (length names) kids p.good in
      let long = cut_length k r in
      let sound : Sound (λ i. x) 0 (cut_to k t) = record {
        records = omega arith;
        nodes = all_is ∙ rw (root_is, p.fields, says.whole, says.statements, says.sound) refl;
      } in
      let files : files_sound (forest 0 (cut_to k t)) ≡ true = files_is ∙ and_both _ _ p.file says.files in
      clean_accepted (cut_to k t) names record {
        least = omega arith;
        most = omega (arith, cut_short k r);
        whole = omega arith;
        few = p.named;
        unsound = any_clean (cut_to k t) names root_covers sound files;
        deep = deep_is ∙ says.flat;
      }

  -- LAW: it passes only then
  pub cut_keepable : {vs : List ℕ} → check_of (cut_to k t) names ≡ accepted vs → Passed
  cut_keepable e =
      let clean = accepted_clean (cut_to k t) names e in
      let all = sym all_is ∙ (clean_any (cut_to k t) names clean.unsound clean.least).nodes in
      let root = sound_node x (node_of 0 (cut_to k t)) kids in
      let both = and_left (root && all_sound (λ i. x) kids) true all in
      let parts = sym root_is ∙ and_left root (all_sound (λ i. x) kids) both in
      let fields = fields_sound x (node_of 0 t) in
      let files = sym files_is ∙ clean_files (cut_to k t) names clean.unsound in
      record {
        named = clean.few;
        fields = and_left fields _ parts;
        file = and_left _ _ files;
        good = says_each (length names) kids (and_right root (all_sound (λ i. x) kids) both)
            (and_right (eqb (node_of 0 t).file 0) _ files)
            (and_right (whole_trees kids) _ (and_right fields _ parts)) (sym deep_is ∙ clean.deep);
      }
