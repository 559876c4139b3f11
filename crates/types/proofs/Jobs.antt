-- The steps of the type job in the code are those of `type_shape_of` of specs/Jobs: 1 to 5 from the table, the dialect
-- and the edition (`job_refused`, `job_type`), 6 and 7 at the node (`at_no_node`, `at_short`, `at_type`), 45 and then
-- the type (`check_disabled`, `check_type`), and the same for bytes that may be no part of a table (`judge_none`,
-- `judge_here`). There is one law for each `return`, and no induction: each test of the code is the test of the
-- definition. A job that passes 1 to 5 has a sound table (`given_sound`), so the node's subtree has a record and lies
-- within 50,400 bytes (`at_long`, `at_within`). The proofs of the functions cite these laws. Assumes nothing.
use Rattle.std.specs.Prelude.{Err, None, Ok, Option, Result, Some}
use mathlib.Core.Path.{◌≡◌, refl, sym, ap, ◌∙◌}
use mathlib.Core.Bool.{Bool, true, false}
use mathlib.Core.List.{List, []}
use Prim.Native.Nat.{ℕ, ◌+◌, ◌*◌, ◌/◌, ◌<◌, ◌≤◌}
use lib.ListN.{length}
use borrow.Author.Tests.{le-leb, lt-leb}
use Rattle.fields.proofs.Basics.{never}
use Rattle.forest.specs.Forest.{Node, node_of, node, none, tree_of}
use Rattle.dialect.specs.Rows.{permits_types}
use Rattle.dialect.specs.Bytes.{from_bytes}
use Rattle.dialect.specs.declared.Dialect.{Dialect}
use Rattle.dialect.specs.declared.DialectTypes.{DialectTypes}
use Rattle.dialect.specs.declared.Edition.{Edition}
use Rattle.dialect.specs.Editions.{edition_of}
use Rattle.table.specs.Numbers.{wrong_node, short_buffer, invalid_type, types_disabled}
use Rattle.table.specs.Answer.{Answer, accepted, refused, and_then, refused_at, refusal}
use Rattle.table.specs.Check.{check_of, in_dialect, handing, given_of, ruled, rules_of, node_fits, stretch_of}
use Rattle.table.specs.Check.{is_headed, headed_of}
use Rattle.table.proofs.Heads.{headed_leaf, headed_is}
use Rattle.table.specs.declared.Refusal.{Refusal}
use Rattle.table.specs.declared.Wanted.TheVariants.{Expression}
use Rattle.table.proofs.Checking.{check_values}
use Rattle.table.proofs.Handed.{passed, stretch_within}
use Rattle.table.proofs.Ruling.{rules_known}
use Rattle.types.specs.Forms.{form_of}
use Rattle.types.specs.Types.{at_node, «unpack», types_check, dialect_check_type}
use Rattle.types.specs.Jobs.{type_at, type_shape_of}

-- the refusal where no type can be read: 45, else 40
abbrev pub no_type : DialectTypes → Node → Answer
no_type types r = and_then (types_check types r) (λ _. refused_at invalid_type r)

-- a type in a dialect
module _ (edition : Edition) (names : List ℕ) (types : DialectTypes) (i : ℕ) (t : List ℕ) {p : Bool}
    (p-is : p ≡ permits_types types)
    {r : Answer} where
  pub check_disabled : p ≡ false → r ≡ refused_at types_disabled (node_of i t)
      → r ≡ dialect_check_type edition names types (tree_of i t)
  unfolding dialect_check_type
  check_disabled h r-is = r-is ∙ rw (← p-is, h) refl

  pub check_type : p ≡ true → r ≡ «unpack» edition names (tree_of i t)
      → r ≡ dialect_check_type edition names types (tree_of i t)
  unfolding dialect_check_type
  check_type h r-is = r-is ∙ rw (← p-is, h) refl

-- the job on a node of a sound table
module _ (edition : Edition) (t names : List ℕ) (types : DialectTypes) (i room : ℕ) {b : Bool}
    (b_is : b ≡ node_fits t i Expression)
  where
    pub at_no_node : b ≡ false → refused wrong_node [] ≡ type_at edition t names types i room
    unfolding type_at
    at_no_node h = rw (← b_is, h) refl

    module _ (fits : b ≡ true) {u : List ℕ} (u-is : u ≡ stretch_of t i) where
      pub at_short : room < length u / 24 → refused short_buffer [] ≡ type_at edition t names types i room
      unfolding type_at
      at_short h = rw (← b_is, fits, ← u-is, lt-leb (length u / 24) room h) refl

      pub at_type : length u / 24 ≤ room → {r : Answer} → r ≡ dialect_check_type edition names types (tree_of i u)
          → r ≡ type_at edition t names types i room
      unfolding type_at
      at_type h r-is = r-is ∙ rw (← b_is, fits, ← u-is, le-leb (length u / 24) room h) refl

      -- the node's subtree has at least one record, and lies within the table
      module _ (sound : accepted [] ≡ check_of t names) where
        at_fits : (24 ≤ length u) × (24 * i + length u ≤ 50400)
        at_fits = rw u-is (stretch_within t names i Expression (passed t names sound) (sym b_is ∙ fits))

        pub at_long : 24 ≤ length u
        at_long = at_fits.0

        pub at_within : 24 * i + length u ≤ 50400
        at_within = at_fits.1

-- LAW: a job that got as far as its dialect has a table that passes the check
pub given_sound : (t names bytes : List ℕ) {d : Dialect} → in_dialect d ≡ given_of t names bytes
    → accepted [] ≡ check_of t names
unfolding given_of
given_sound t names bytes {d} e = go (check_of t names) (from_bytes bytes) refl e
  where
    go : (a : Answer) (x : Option Dialect) → check_of t names ≡ a → in_dialect d ≡ handing a x
        → accepted [] ≡ check_of t names
    go (accepted vs) (Some v) a-is e = sym (a-is ∙ ap accepted (check_values t names a-is))
    go (accepted vs) None a-is e = never (cc)
    go (refused n vs) x a-is e = never (cc)

-- the whole job, by the answer g to the table, dialect and edition
module _ (t names bytes : List ℕ) (n : ℕ) {x : Option Edition} (x-is : x ≡ edition_of n)
    {g : Result (Dialect × Edition) Refusal}
    (g-is : ruled g ≡ rules_of t names bytes x) where
  pub job_refused : (i room : ℕ) {why : Refusal} → g ≡ Err why → refusal why ≡ type_shape_of t names bytes n i room
  unfolding type_shape_of
  job_refused i room h = rw (← x-is, ← g-is, h) refl

  module _ {p : Dialect × Edition} (h : g ≡ Ok p) where
    pub job_type : (i room : ℕ) {r : Answer} → r ≡ type_at p.1 t names p.0.enable_types i room
        → r ≡ type_shape_of t names bytes n i room
    unfolding type_shape_of
    job_type i room r-is = r-is ∙ rw (← x-is, ← g-is, h) refl

    pub job_sound : accepted [] ≡ check_of t names
    job_sound = given_sound t names bytes (sym (rules_known t names bytes (sym g-is ∙ ap ruled h)).0)

-- no type: 45, else 40
module _ (types : DialectTypes) (r : Node) {p : Bool} (p-is : p ≡ permits_types types) {a : Answer} where
  pub none_disabled : p ≡ false → a ≡ refused_at types_disabled r → a ≡ no_type types r
  none_disabled h a-is = a-is ∙ rw (← p-is, h) refl

  pub none_invalid : p ≡ true → a ≡ refused_at invalid_type r → a ≡ no_type types r
  none_invalid h a-is = a-is ∙ rw (← p-is, h) refl

leaf_none : (edition : Edition) (names : List ℕ) (types : DialectTypes) (i : ℕ)
    → dialect_check_type edition names types (node (node_of i []) none) ≡ no_type types (node_of i [])
unfolding dialect_check_type «unpack» at_node form_of
leaf_none edition names types i = refl

-- the type at the start of any bytes; b is the answer of `is_headed`
module _ (edition : Edition) (names : List ℕ) (types : DialectTypes) (i : ℕ) (t : List ℕ) {b : Bool}
    (b_is : b ≡ is_headed i t)
    {r : Answer} where
  pub judge_none : b ≡ false → r ≡ no_type types (node_of i [])
      → r ≡ dialect_check_type edition names types (tree_of i (headed_of i t))
  judge_none h r-is =
      r-is
      ∙ sym (ap (dialect_check_type edition names types) (headed_leaf i t b_is h) ∙ leaf_none edition names types i)

  pub judge_here : b ≡ true → r ≡ dialect_check_type edition names types (tree_of i t)
      → r ≡ dialect_check_type edition names types (tree_of i (headed_of i t))
  judge_here h r-is =
      r-is ∙ ap (λ (l : List ℕ). dialect_check_type edition names types (tree_of i l)) (sym (headed_is i t b_is h))
