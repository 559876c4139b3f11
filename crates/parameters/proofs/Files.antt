-- The parameter job refuses at the def or lambda itself (19), or at parameters of its written list (`unpack_at`). All
-- are nodes of the tree that it reads (`written_all`), so that its refusals carry the number of the node that they name
-- (table's `node_files`). The induction is on the written list: each parameter in its turn refuses at itself, and after
-- the last one 17 and 18 are at one that is already read. Assumes nothing.
use Rattle.std.specs.Prelude.{None, Option, Some}
use Rattle.deflist.specs.declared.Written.{Written}
use mathlib.Core.Bool.{Bool, true, false}
use mathlib.Core.List.{List, [], ◌∷◌, ◌++◌}
use Prim.Native.Nat.{ℕ, zero, suc}
use native.Mathlib.Omega.{arith}
use lib.ListN.{length, drop}
use lib.Dec.{eqb, leb, ltb}
use Rattle.fields.specs.Choice.{if'}
use Rattle.forest.specs.Forest.{Node, Tree, node, Forest, none, ◌then◌, nodes, nodes_of}
use Rattle.soundness.specs.Kinds.{parameter, class_of}
use Rattle.table.specs.Numbers.{short_buffer, slash_first, duplicated_parameter, too_many_parameters}
use Rattle.table.specs.Carrying.{CarriesFile}
use Rattle.table.specs.declared.Wanted.TheVariants.{Parameters}
use Rattle.table.proofs.Carried.{before_test}
use Rattle.table.proofs.Filed.{All, Told, Filed, all_tree, all_row, told_at, told_after, told_then, told_before}
use Rattle.table.proofs.Filed.{node_files}
use Rattle.deflist.specs.Written.{Name, Param, normal, no_args, slash, args, kwargs, node_in, kind_in, kind_at, param}
use Rattle.deflist.specs.Written.{param_of}
use Rattle.deflist.specs.Written.{params_in, root_in, written_in}
use Rattle.deflist.specs.Unpack as def
use Rattle.deflist.specs.Unpack.{Step, on, stop, again, broken, is_slash, finish, run, unpack}
use Rattle.deflist.specs.Limited.{most_parameters, limited}
use Rattle.deflist.specs.declared.Kind.{Kind}
use Rattle.deflist.specs.declared.Kind.TheVariants.{Normal, NoArgs, Slash, Args, KwArgs}
use Rattle.deflist.specs.declared.Counts.{Counts}
use Rattle.deflist.specs.declared.Unpacking.{Unpacking}
use Rattle.deflist.specs.Told.{internal_error}
use Rattle.parameters.specs.Params.{answer_of, room_check, list_answer, params_of}

module _ (P : Node → Type 0) where
  -- every parameter of a list is at a node with the property
  abbrev pub AllOf : List Param → Type 0
  AllOf [] = Unit {0}
  AllOf (p ∷ ps) = P (node_in p) × AllOf ps

  all_more : (l : List Param) (p : Param) → AllOf l → P (node_in p) → AllOf (l ++ p ∷ [])
  all_more [] p h here = (here, tt)
  all_more (q ∷ l) p h here = (h.0, all_more l p h.1 here)

  all_drop : (n : ℕ) (l : List Param) → AllOf l → AllOf (drop n l)
  all_drop zero l h = h
  all_drop (suc n) [] h = tt
  all_drop (suc n) (p ∷ l) h = all_drop n l h.1

  -- an outcome is at such a node
  abbrev pub OutcomeAt : def.Outcome → Type 0
  OutcomeAt (def.accepted c) = Unit {0}
  OutcomeAt (def.refused n r) = P r
  OutcomeAt (def.repeated i r) = P r
  OutcomeAt (def.internal e r) = P r

  -- 17 and 18, at the `*` or at what follows it
  next_at : (q : Param) (c : Counts) → P (node_in q) → OutcomeAt (def.normal_next q (def.accepted c))
  next_at (normal r n d) c h = tt
  next_at (no_args r) c h = h
  next_at (slash r) c h = h
  next_at (args r n) c h = h
  next_at (kwargs r n) c h = h

  star_at : (l : List Param) (c : Counts) → AllOf l → OutcomeAt (def.from_star l (def.accepted c))
  star_at [] c h = tt
  star_at (p ∷ []) c h = h.0
  star_at (p ∷ q ∷ ps) c h = next_at q c h.1.0

  finish_at : (l : List Param) (star : Option Written) (c : Counts) → AllOf l → OutcomeAt (finish l star c)
  unfolding finish
  finish_at l None c h = tt
  finish_at l (Some i) c h = star_at (drop i.0 l) c (all_drop i.0 l h)

  -- the parameters in turn
  after_at : (s : Step) (r : Node) (next : Unpacking → def.Outcome) → P r → ((v : Unpacking) → OutcomeAt (next v))
      → OutcomeAt (def.after s r next)
  after_at (on u) r next here rest = rest u
  after_at (stop n) r next here rest = here
  after_at (again i) r next here rest = here
  after_at (broken e) r next here rest = here

  run_at : (before : List Param) (u : Unpacking) (l : List Param) → AllOf before → AllOf l
      → OutcomeAt (run before u l)
  unfolding run
  run_at before u [] b h = finish_at before u.index_of_star u.counts b
  run_at before u (p ∷ ps) b h =
      after_at (def.step before u p) (node_in p) (λ v. run (before ++ p ∷ []) v ps) h.0
      (λ v. run_at (before ++ p ∷ []) v ps (all_more before p b h.0) h.1)

  -- LAW: unpack refuses at a parameter of its list
  pub unpack_at : (l : List Param) → AllOf l → OutcomeAt (unpack l)
  unfolding unpack
  unpack_at [] h = run_at [] (def.start (def.flat_at 0)) [] tt tt
  unpack_at (p ∷ ps) h = go (is_slash (kind_in p))
    where
      go : (b : Bool) → OutcomeAt (if' b (λ _. def.refused slash_first (node_in p)) (λ _.
          run [] (def.start (def.positional_only (def.first_slash (p ∷ ps)))) (p ∷ ps)))
      go true = h.0
      go false = run_at [] (def.start (def.positional_only (def.first_slash (p ∷ ps)))) (p ∷ ps) tt h

  -- LAW: and a list that is too long is refused at the record that owns it
  pub limited_at : (owner : Node) (l : List Param) → P owner → AllOf l → OutcomeAt (limited owner l)
  unfolding limited
  limited_at owner l here h = go (ltb most_parameters (length l))
    where
      go : (b : Bool) → OutcomeAt (if' b (λ _. def.refused too_many_parameters owner) (λ _. unpack l))
      go true = here
      go false = unpack_at l h

  pub told_outcome : (o : def.Outcome) → OutcomeAt o → Told P (answer_of o)
  told_outcome (def.accepted c) h = tt
  told_outcome (def.refused n r) h = told_at P n r h
  told_outcome (def.repeated i r) h = told_after P duplicated_parameter r i h
  told_outcome (def.internal e r) h = told_at P internal_error r h

  -- LAW: the parameters of a node are nodes of its tree
  param_at : (k : Kind) (r : Node) (n : Name) → P r → P (node_in (param k r n))
  param_at (Normal d) r n h = h
  param_at NoArgs r n h = h
  param_at Slash r n h = h
  param_at Args r n h = h
  param_at KwArgs r n h = h

  params_all : (names : List ℕ) (ks : Forest) → All P (nodes ks) → AllOf (params_in names ks)
  unfolding params_in param_of
  params_all names none h = tt
  params_all names (node r ks then ts) h =
      let both = all_row P (node r ks) ts h in
      go (eqb (class_of r.kind) parameter)
      (param_at (kind_at r.kind r.detail) r _ (all_tree P r ks both.0).0) (params_all names ts both.1)
    where
      go : (b : Bool) → P (node_in (param_of names r)) → AllOf (params_in names ts)
          → AllOf (if' b (λ _. param_of names r ∷ params_in names ts) (λ _. []))
      go true here rest = (here, rest)
      go false here rest = tt

  pub written_all : (names : List ℕ) (t : Tree) → All P (nodes_of t) → P (root_in t) × AllOf (written_in names t)
  written_all names (node r ks) h =
      let both = all_tree P r ks h in
      (both.0, params_all names ks both.1)

  told_list : (owner : Node) (l : List Param) (room : ℕ) → P owner × AllOf l → Told P (list_answer owner l room)
  unfolding list_answer
  told_list owner l room h =
      told_then P (room_check room l) (λ _. answer_of (limited owner l))
      (told_before P (room_check room l) (before_test 10 (leb (length l) room) short_buffer (omega arith)))
      (told_outcome (limited owner l) (limited_at owner l h.0 h.1))

-- THEOREM: every refusal from 10 on of the parameter job carries the number of the node that it names
pub params_files : (t names : List ℕ) (i room : ℕ) → CarriesFile t i (params_of t names i room)
unfolding params_of
params_files t names i room =
    node_files Parameters (λ tree. list_answer (root_in tree) (written_in names tree) room) t names i
    (λ tree h. told_list (Filed t i) (root_in tree) (written_in names tree) room (written_all (Filed t i) names tree h))
