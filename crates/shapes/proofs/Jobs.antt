-- type_shape judges the type first, and writes the shapes only if the answer is no refusal. A refusal leaves the
-- buffer, which is the definition (`job_refused`). An answer that is no refusal has passed every test of the job
-- (`passing_says`): the node's subtree has a record, the buffer has a byte for each of its nodes, and the type rule
-- accepts. So the walk may write without a test (`job_long`, `job_room`), and what it writes is the buffer at exit
-- (`job_written`). There is no induction: `both_pass` takes the answer apart step by step. Cite `accepted_says` for
-- what acceptance means. Assumes nothing.
use mathlib.Core.Path.{◌≡◌, refl, sym, ◌∙◌}
use mathlib.Core.Bool.{Bool, true, false, false≢true}
use mathlib.Core.List.{List, []}
use Prim.Native.Nat.{ℕ, ◌+◌, ◌/◌, ◌≤◌}
use native.Mathlib.Omega.{arith}
use lib.ListN.{length}
use borrow.Author.Tests.{leb-true}
use Rattle.fields.specs.Choice.{if'}
use Rattle.dialect.specs.declared.Edition.{Edition}
use Rattle.dialect.specs.Editions.{edition_of}
use Rattle.forest.specs.Forest.{node_of, tree_of}
use Rattle.table.specs.Answer.{Answer, accepted, refused, and_then, is_refused}
use Rattle.table.specs.Check.{Ruling, by_rules, unruled, rules_of, in_rules, node_fits, node_check, stretch_of}
use Rattle.table.specs.declared.Wanted.TheVariants.{Expression}
use Rattle.table.proofs.Handed.{passed, stretch_within}
use Rattle.table.proofs.Ruling.{rules_known}
use Rattle.types.specs.Types.{types_check, «unpack», dialect_check_type}
use Rattle.types.specs.Jobs.{room_check, type_at, type_shape_of}
use Rattle.types.proofs.Jobs.{given_sound}
use Rattle.shapes.specs.Shapes.{shapes_of, written}
use Rattle.shapes.specs.Jobs.{shapes_after}

-- an answer that is no refusal
abbrev pub Passes : Answer → Type 0
Passes (accepted vs) = Unit {0}
Passes (refused n vs) = ⊥

not_refused : (x : Answer) → is_refused x ≡ false → Passes x
not_refused (accepted vs) e = tt
not_refused (refused n vs) e = absurd (false≢true (sym e))

-- LAW: if two steps in order pass, each of them passes
pub both_pass : (x : Answer) (next : Unit {0} → Answer) → Passes (and_then x next) → Passes x × Passes (next tt)
both_pass (accepted vs) next p = (tt, p)
both_pass (refused n vs) next p = absurd p

test_passes : (b : Bool) (n : ℕ) → Passes (if' b (λ _. accepted []) (λ _. refused n [])) → b ≡ true
test_passes true n p = refl
test_passes false n p = absurd p

-- what acceptance says: the node's subtree has a record, the buffer has room for it, and its tree passes the type rule
-- of the edition
pub record Says (t names : List ℕ) (i room : ℕ) : Type 0 where
  pub long : 24 ≤ length (stretch_of t i)
  pub fits : length (stretch_of t i) / 24 ≤ room
  pub edition : Edition
  pub passes : Passes («unpack» edition names (tree_of i (stretch_of t i)))

module _ (t names bytes : List ℕ) (n i room : ℕ) where
  passing_says : Passes (type_shape_of t names bytes n i room) → Says t names i room
  unfolding type_shape_of type_at dialect_check_type
  passing_says p = go (rules_of t names bytes (edition_of n)) refl p
    where
      go : (r : Ruling) → rules_of t names bytes (edition_of n) ≡ r
          → Passes (in_rules r (λ d edition. type_at edition t names d.enable_types i room)) → Says t names i room
      go (unruled m vs) r-is p = absurd p
      go (by_rules d edition) r-is p =
          let node = both_pass (node_check t i Expression) _ p in
          let buffer = both_pass (room_check room (stretch_of t i)) _ node.1 in
          let types = both_pass (types_check d.enable_types (node_of i (stretch_of t i))) _ buffer.1 in
          let clean = passed t names (given_sound t names bytes (sym (rules_known t names bytes r-is).0)) in
          record {
            long = (stretch_within t names i Expression clean (test_passes (node_fits t i Expression) _ node.0)).0;
            fits = leb-true (length (stretch_of t i) / 24) room (test_passes _ _ buffer.0);
            edition = edition;
            passes = types.1;
          }

  pub accepted_says : {vs : List ℕ} → accepted vs ≡ type_shape_of t names bytes n i room → Says t names i room
  accepted_says e = passing_says (rw (← e) tt)

-- the job, by the judged answer a and the bool q, whether a is a refusal
module _ (t names bytes : List ℕ) (n i : ℕ) (s : List ℕ) {a : Answer}
    (a-is : a ≡ type_shape_of t names bytes n i (length s)) {q : Bool} (q-is : q ≡ is_refused a) where
  pub job_refused : q ≡ true → s ≡ shapes_after t names bytes n i s
  job_refused h = rw (← a-is, ← q-is, h) refl

  module _ (no : q ≡ false) {u : List ℕ} (u-is : u ≡ stretch_of t i) where
    says : Says t names i (length s)
    says = passing_says t names bytes n i (length s) (rw (← a-is) (not_refused a (sym q-is ∙ no)))

    pub job_long : 24 ≤ length u
    job_long = rw u-is says.long

    pub job_room : 0 + length u / 24 ≤ length s
    job_room = rw u-is (omega (arith, says.fits))

    pub job_written : {v : List ℕ} → v ≡ written (shapes_of (tree_of 0 u)) s → v ≡ shapes_after t names bytes n i s
    job_written v-is = rw (← a-is, ← q-is, no, ← u-is) v-is
