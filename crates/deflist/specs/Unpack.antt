-- DefParams::unpack of src/syntax/def.rs, with all its outcomes. Positions in the written list count the marks, flat
-- indices do not. These are definitions.
-- Copyright 2018 The Starlark in Rust Authors. Copyright (c) Facebook, Inc. and its affiliates.
-- Licensed under Apache-2.0; changed.
use Rattle.std.specs.Prelude.{Bool, true, false, ◌||◌, List, [], ◌∷◌, ◌++◌, ℕ, ◌+◌, length, drop, eqb, None, Option, Some}
use Rattle.fields.specs.Choice.{if'}
use Rattle.forest.specs.Forest.{Node}
use Rattle.forest.specs.Names.{same}
use Rattle.table.specs.Numbers.{slash_first, normal_after_kwargs, no_default_after_default}
use Rattle.table.specs.Numbers.{star_after_star, multiple_slash, multiple_kwargs, star_last, no_normal_after_star}
use Rattle.deflist.specs.Written.{Name, Param, normal, no_args, slash, args, kwargs, node_in, kind_in}
use Rattle.deflist.specs.declared.Kind.{Kind}
use Rattle.deflist.specs.declared.Kind.TheVariants.{Normal, NoArgs, Slash, Args, KwArgs}
use Rattle.deflist.specs.declared.State.{State}
use Rattle.deflist.specs.declared.State.TheVariants.{Normal as BeforeSlash, SeenSlash, SeenStar, SeenStarStar}
use Rattle.deflist.specs.declared.Check.{Check}
use Rattle.deflist.specs.declared.Check.TheVariants.{Fine, Broken, Repeated}
use Rattle.deflist.specs.declared.Written.{Written}
use Rattle.deflist.specs.declared.Flat.{Flat}
use Rattle.deflist.specs.declared.Counts.{Counts}
use Rattle.deflist.specs.declared.Unpacking.{Unpacking}

-- a position in the written list, and an index in the flat list
abbrev pub written_at : ℕ → Written
written_at n = record { 0 = n }

abbrev pub flat_at : ℕ → Flat
flat_at n = record { 0 = n }

-- state >= SeenSlash, state >= SeenStar, state >= SeenStarStar
abbrev pub seen_slash : State → Bool
seen_slash BeforeSlash = false
seen_slash SeenSlash = true
seen_slash SeenStar = true
seen_slash SeenStarStar = true

abbrev pub seen_star : State → Bool
seen_star BeforeSlash = false
seen_star SeenSlash = false
seen_star SeenStar = true
seen_star SeenStarStar = true

abbrev pub seen_star_star : State → Bool
seen_star_star BeforeSlash = false
seen_star_star SeenSlash = false
seen_star_star SeenStar = false
seen_star_star SeenStarStar = true

-- 11: the first of the earlier parameters that has this name
unfoldable pub has_name : Name → Param → Bool
has_name x (normal r n d) = same n x
has_name x (no_args r) = false
has_name x (slash r) = false
has_name x (args r n) = same n x
has_name x (kwargs r n) = same n x

unfoldable pub first_same : Name → List Param → Option ℕ
first_same x [] = None
first_same x (p ∷ ps) = if' (has_name x p) (λ _. Some (node_in p).at) (λ _. first_same x ps)

-- check_param_name: the first earlier parameter whose name this one repeats; marks have none
unfoldable pub repeats : List Param → Param → Option ℕ
repeats before (normal r n d) = first_same n before
repeats before (no_args r) = None
repeats before (slash r) = None
repeats before (args r n) = first_same n before
repeats before (kwargs r n) = first_same n before

-- 13: no default after a default; from seen_optional, and whether this one has a default
abbrev pub default_rule : Bool → Bool → Check
default_rule true true = Fine
default_rule true false = Broken no_default_after_default
default_rule false default = Fine

-- the rules of the kinds
abbrev pub normal_rule : State → Bool → Bool → Check
normal_rule s had_optional default =
    if' (seen_star_star s) (λ _. Broken normal_after_kwargs) (λ _.
    if' (seen_star s) (λ _. Fine) (λ _. default_rule had_optional default))

abbrev pub star_rule : State → Check
star_rule s = if' (seen_star s) (λ _. Broken star_after_star) (λ _. Fine)

abbrev pub slash_rule : State → Check
slash_rule s = if' (seen_slash s) (λ _. Broken multiple_slash) (λ _. Fine)

abbrev pub kwargs_rule : State → Check
kwargs_rule s = if' (seen_star_star s) (λ _. Broken multiple_kwargs) (λ _. Fine)

abbrev pub rule : State → Bool → Kind → Check
rule s had_optional (Normal default) = normal_rule s had_optional default
rule s had_optional NoArgs = star_rule s
rule s had_optional Slash = slash_rule s
rule s had_optional Args = star_rule s
rule s had_optional KwArgs = kwargs_rule s

-- 11, with the earlier parameter's node, before the rule of the kind
abbrev pub firstly : Option ℕ → Check → Check
firstly (Some i) c = Repeated i
firstly None c = c

abbrev pub check : List Param → State → Bool → Param → Check
check before s had_optional p = firstly (repeats before p) (rule s had_optional (kind_in p))

-- what a parameter of a kind changes: the state, seen_optional, index_of_star, where i is its written position
abbrev pub next_state : State → Kind → State
next_state s (Normal default) = s
next_state s NoArgs = SeenStar
next_state s Slash = SeenSlash
next_state s Args = SeenStar
next_state s KwArgs = SeenStarStar

abbrev pub next_optional : Bool → Kind → Bool
next_optional had_optional (Normal default) = had_optional || default
next_optional had_optional NoArgs = had_optional
next_optional had_optional Slash = had_optional
next_optional had_optional Args = had_optional
next_optional had_optional KwArgs = had_optional

abbrev pub next_star : Option Written → Written → Kind → Option Written
next_star star_index i (Normal default) = star_index
next_star star_index i NoArgs = Some i
next_star star_index i Slash = star_index
next_star star_index i Args = star_index
next_star star_index i KwArgs = star_index

-- num_positional, num_positional_only, args, kwargs, and the length of the flat list
abbrev pub counts : Flat → Flat → Option Flat → Option Flat → Flat → Counts
counts positional_count positional_only_count a k flat =
    record {
      num_positional = positional_count;
      num_positional_only = positional_only_count;
      args = a;
      kwargs = k;
      flat = flat;
    }

abbrev pub one_more : Flat → Flat
one_more n = flat_at (n.0 + 1)

-- one more that can be filled positionally, before any star
abbrev pub more_positional : State → Flat → Flat
more_positional s n = if' (seen_star s) (λ _. n) (λ _. one_more n)

-- what is counted at a parameter of a kind
abbrev pub count : State → Counts → Kind → Counts
count s c (Normal default) =
    counts (more_positional s c.num_positional) c.num_positional_only c.args c.kwargs (one_more c.flat)
count s c NoArgs = c
count s c Slash = c
count s c Args =
    counts c.num_positional c.num_positional_only (Some c.flat) c.kwargs (one_more c.flat)
count s c KwArgs =
    counts c.num_positional c.num_positional_only c.args (Some c.flat) (one_more c.flat)

unfoldable pub advance : Unpacking → Written → Kind → Unpacking
advance u i k =
    record {
      state = next_state u.state k;
      seen_optional = next_optional u.seen_optional k;
      index_of_star = next_star u.index_of_star i k;
      counts = count u.state u.counts k;
    }

-- the internal errors of def.rs, lines 246, 274 and 299
pub data Internal : Type 0 where
  multiple_stars : Internal
  multiple_args : Internal
  multiple_kw_args : Internal

-- one step: the next state, a refusal by its number, 11 with the earlier parameter's node, or an internal error
pub data Step : Type 0 where
  on : Unpacking → Step
  stop : ℕ → Step
  again : ℕ → Step
  broken : Internal → Step

abbrev pub unless_written : Option Written → Internal → Unpacking → Step
unless_written None e u = on u
unless_written (Some i) e u = broken e

abbrev pub unless_flat : Option Flat → Internal → Unpacking → Step
unless_flat None e u = on u
unless_flat (Some i) e u = broken e

-- a parameter that keeps its rule: `*`, `*args` and `**kwargs` are an internal error if there was one
abbrev pub keep : Unpacking → Written → Kind → Step
keep u i (Normal default) = on (advance u i (Normal default))
keep u i NoArgs = unless_written u.index_of_star multiple_stars (advance u i NoArgs)
keep u i Slash = on (advance u i Slash)
keep u i Args = unless_flat u.counts.args multiple_args (advance u i Args)
keep u i KwArgs = unless_flat u.counts.kwargs multiple_kw_args (advance u i KwArgs)

abbrev pub unless_broken : Check → (Unit {0} → Step) → Step
unless_broken Fine next = next tt
unless_broken (Broken n) next = stop n
unless_broken (Repeated i) next = again i

-- a parameter in its turn, after those before it
unfoldable pub step : List Param → Unpacking → Param → Step
step before u p =
    unless_broken (check before u.state u.seen_optional p) (λ _. keep u (written_at (length before)) (kind_in p))

-- the outcomes of unpack: what is counted, a refusal at a parameter's record, 11 at one with the earlier one's node, an
-- internal error at a parameter's record
pub data Outcome : Type 0 where
  accepted : Counts → Outcome
  refused : ℕ → Node → Outcome
  repeated : ℕ → Node → Outcome
  internal : Internal → Node → Outcome

-- what follows the `*`: 17 if nothing does, at the `*`; 18 if it is no Normal, at that parameter
abbrev pub normal_next : Param → Outcome → Outcome
normal_next (normal r n d) fine = fine
normal_next (no_args r) fine = refused no_normal_after_star r
normal_next (slash r) fine = refused no_normal_after_star r
normal_next (args r n) fine = refused no_normal_after_star r
normal_next (kwargs r n) fine = refused no_normal_after_star r

abbrev pub from_star : List Param → Outcome → Outcome
from_star [] fine = fine
from_star (p ∷ []) fine = refused star_last (node_in p)
from_star (p ∷ q ∷ ps) fine = normal_next q fine

-- after the last parameter: w is the whole written list
unfoldable pub finish : List Param → Option Written → Counts → Outcome
finish w None c = accepted c
finish w (Some i) c = from_star (drop i.0 w) (accepted c)

abbrev pub after : Step → Node → (Unpacking → Outcome) → Outcome
after (on u) r next = next u
after (stop n) r next = refused n r
after (again i) r next = repeated i r
after (broken e) r next = internal e r

-- the parameters in turn
unfoldable pub run : List Param → Unpacking → List Param → Outcome
run before u [] = finish before u.index_of_star u.counts
run before u (p ∷ ps) = after (step before u p) (node_in p) (λ v. run (before ++ p ∷ []) v ps)

-- the written position of the first `/`
abbrev pub is_slash : Kind → Bool
is_slash (Normal default) = false
is_slash NoArgs = false
is_slash Slash = true
is_slash Args = false
is_slash KwArgs = false

unfoldable pub slash_from : ℕ → List Param → Option Written
slash_from i [] = None
slash_from i (p ∷ ps) = if' (is_slash (kind_in p)) (λ _. Some (written_at i)) (λ _. slash_from (i + 1) ps)

abbrev pub first_slash : List Param → Option Written
first_slash l = slash_from 0 l

-- num_positional_only: the written position of the first `/` is a flat index, since no mark can come before it
abbrev pub positional_only : Option Written → Flat
positional_only None = flat_at 0
positional_only (Some i) = flat_at i.0

-- the state in which a list begins, and all that is known then
abbrev pub first_state : Flat → State
first_state positional_only_count = if' (eqb (positional_only_count).0 0) (λ _. SeenSlash) (λ _. BeforeSlash)

unfoldable pub start : Flat → Unpacking
start positional_only_count =
    record {
      state = first_state positional_only_count;
      seen_optional = false;
      index_of_star = None;
      counts = counts (flat_at 0) positional_only_count None None (flat_at 0);
    }

-- DefParams::unpack: 10 first, then the parameters in turn
unfoldable pub unpack : List Param → Outcome
unpack [] = run [] (start (flat_at 0)) []
unpack (p ∷ ps) =
    if' (is_slash (kind_in p)) (λ _. refused slash_first (node_in p)) (λ _.
    run [] (start (positional_only (first_slash (p ∷ ps)))) (p ∷ ps))

-- the modes of parameters: 1 PosOnly, 2 PosOrName, 3 NameOnly, 4 Args, 5 Kwargs
abbrev pub mode_pos_only : ℕ
mode_pos_only = 1

abbrev pub mode_pos_or_name : ℕ
mode_pos_or_name = 2

abbrev pub mode_name_only : ℕ
mode_name_only = 3

abbrev pub mode_args : ℕ
mode_args = 4

abbrev pub mode_kwargs : ℕ
mode_kwargs = 5

-- the mode of each flat parameter; marks have none
abbrev pub mode_of : State → Kind → List ℕ
mode_of s (Normal default) =
    if' (seen_slash s) (λ _. if' (seen_star s) (λ _. mode_name_only) (λ _. mode_pos_or_name)) (λ _. mode_pos_only) ∷ []
mode_of s NoArgs = []
mode_of s Slash = []
mode_of s Args = mode_args ∷ []
mode_of s KwArgs = mode_kwargs ∷ []

unfoldable pub modes_from : State → List Param → List ℕ
modes_from s [] = []
modes_from s (p ∷ ps) = mode_of s (kind_in p) ++ modes_from (next_state s (kind_in p)) ps

-- the modes of an accepted list
unfoldable pub modes : List Param → List ℕ
modes l = modes_from (first_state (positional_only (first_slash l))) l
