-- The call job refuses at arguments of the call (`unpack_at`), which are nodes of the tree that it reads
-- (`written_all`), so that its refusals carry the number of the node that they name (table's `node_files`); 22 has the
-- span of the name and the number of the argument. The induction is on the list. Assumes nothing.
use mathlib.Core.Path.{refl}
use mathlib.Core.Bool.{Bool, true, false}
use mathlib.Core.List.{List, [], ◌∷◌, ◌++◌}
use Prim.Native.Nat.{ℕ}
use native.Mathlib.Omega.{arith}
use lib.ListN.{length}
use lib.Dec.{eqb}
use Rattle.fields.specs.Choice.{if'}
use Rattle.forest.specs.Forest.{Node, Tree, node, Forest, none, ◌then◌, nodes, nodes_of}
use Rattle.table.specs.Carrying.{CarriesFile}
use Rattle.table.specs.declared.Wanted.TheVariants.{Call}
use Rattle.table.proofs.Filed.{All, Told, Filed, all_tree, all_row, told_at, node_files}
use Rattle.arguments.specs.Written.{Name, Argument, node_in, kind_in, kind_at, argument, argument_of, arguments_in}
use Rattle.arguments.specs.Written.{arguments_of}
use Rattle.arguments.specs.Call.{Outcome, unpacked, refused_with, repeated_name, internal_error, unless_broken, total}
use Rattle.arguments.specs.Call.{taken, check, advance, start, run, unpack}
use Rattle.arguments.specs.Job.{outcome_answer, call_answer, call_of}
use Rattle.arguments.specs.declared.Check.{Check}
use Rattle.arguments.specs.declared.Check.TheVariants.{Fine, Broken, Repeated}
use Rattle.arguments.specs.declared.Kind.{Kind}
use Rattle.arguments.specs.declared.Kind.TheVariants.{Positional, Named, Args, KwArgs}
use Rattle.arguments.specs.declared.Walk.{Walk}

module _ (P : Node → Type 0) where
  -- every argument of a list is at a node with the property
  abbrev pub AllOf : List Argument → Type 0
  AllOf [] = Unit {0}
  AllOf (p ∷ ps) = P (node_in p) × AllOf ps

  -- an outcome is at such a node
  abbrev OutcomeAt : Outcome → Type 0
  OutcomeAt (unpacked a) = Unit {0}
  OutcomeAt (refused_with n r) = P r
  OutcomeAt (repeated_name i r) = P r
  OutcomeAt internal_error = Unit {0}

  -- the arguments in turn
  check_at : (c : Check) (r : Node) (next : Unit {0} → Outcome) → P r → OutcomeAt (next tt)
      → OutcomeAt (unless_broken c r next)
  check_at Fine r next here rest = rest
  check_at (Broken n) r next here rest = here
  check_at (Repeated i) r next here rest = here

  fine_at : (b : Bool) (x : Outcome) → OutcomeAt x → OutcomeAt (if' b (λ _. internal_error) (λ _. x))
  fine_at true x h = tt
  fine_at false x h = h

  run_at : (before : List Argument) (w : Walk) (l : List Argument) → AllOf l → OutcomeAt (run before w l)
  unfolding run
  run_at before w [] h = end (eqb (total w.counts) (length before))
    where
      end : (b : Bool) → OutcomeAt (if' b (λ _. unpacked w.counts) (λ _. internal_error))
      end true = tt
      end false = tt
  run_at before w (p ∷ ps) h =
      let next : Outcome = run (before ++ p ∷ []) (advance w (length before) (kind_in p)) ps in
      check_at (check before w.stage p) (node_in p) (λ _.
      if' (taken w.counts (kind_in p)) (λ _. internal_error) (λ _. next)) h.0
      (fine_at (taken w.counts (kind_in p)) next
      (run_at (before ++ p ∷ []) (advance w (length before) (kind_in p)) ps h.1))

  -- LAW: unpack refuses at an argument of its list
  pub told_call : (l : List Argument) → AllOf l → Told P (outcome_answer (unpack l))
  unfolding unpack
  told_call l h = go (run [] start l) (run_at [] start l h)
    where
      go : (o : Outcome) → OutcomeAt o → Told P (outcome_answer o)
      go (unpacked a) h = tt
      go (refused_with n r) h = told_at P n r h
      go (repeated_name i r) h = λ late.
          record { node = r; holds = h; there = omega arith; named = refl; file = refl }
      go internal_error h = λ late. absurd (omega arith)

  -- LAW: the arguments of a call are nodes of its tree
  argument_at : (k : Kind) (r : Node) (n : Name) → P r → P (node_in (argument k r n))
  argument_at Positional r n h = h
  argument_at Named r n h = h
  argument_at Args r n h = h
  argument_at KwArgs r n h = h

  arguments_all : (names : List ℕ) (ks : Forest) → All P (nodes ks) → AllOf (arguments_in names ks)
  unfolding arguments_in argument_of
  arguments_all names none h = tt
  arguments_all names (node r ks then ts) h =
      let both = all_row P (node r ks) ts h in
      (argument_at (kind_at r.kind) r _ (all_tree P r ks both.0).0, arguments_all names ts both.1)

  pub written_all : (names : List ℕ) (t : Tree) → All P (nodes_of t) → AllOf (arguments_of names t)
  written_all names (node r none) h = tt
  written_all names (node r (c then ks)) h =
      arguments_all names ks (all_row P c ks (all_tree P r (c then ks) h).1).1

-- THEOREM: every refusal from 10 on of the call job carries the number of the node that it names
pub call_files : (t names : List ℕ) (i : ℕ) → CarriesFile t i (call_of t names i)
unfolding call_answer
call_files t names i = node_files Call (call_answer names) t names i (λ tree h. told tree h)
  where
    told : (tree : Tree) → All (Filed t i) (nodes_of tree) → Told (Filed t i) (call_answer names tree)
    told tree h = told_call (Filed t i) (arguments_of names tree) (written_all (Filed t i) names tree h)
