-- CallArgsUnpack::unpack of src/syntax/call.rs, with all its outcomes. These are definitions.
-- Copyright 2018 The Starlark in Rust Authors. Copyright (c) Facebook, Inc. and its affiliates.
-- Licensed under Apache-2.0; changed.
use Rattle.std.specs.Prelude.{Bool, true, false, List, [], ◌∷◌, ◌++◌, ℕ, ◌+◌, length, eqb, None, Option, Some}
use Rattle.fields.specs.Choice.{if'}
use Rattle.forest.specs.Forest.{Node}
use Rattle.forest.specs.Names.{same}
use Rattle.table.specs.Numbers.{positional_after_non_positional, named_after_star, second_star, second_kwargs}
use Rattle.arguments.specs.Written.{Name, Argument, positional, named, args, kwargs, node_in, kind_in}
use Rattle.arguments.specs.declared.Kind.{Kind}
use Rattle.arguments.specs.declared.Kind.TheVariants.{Positional, Named, Args, KwArgs}
use Rattle.arguments.specs.declared.ArgsStage.{ArgsStage}
use Rattle.arguments.specs.declared.ArgsStage.TheVariants.{Positional as AtPositional, Named as AtNamed}
use Rattle.arguments.specs.declared.ArgsStage.TheVariants.{Args as AtArgs, Kwargs as AtKwargs}
use Rattle.arguments.specs.declared.Check.{Check}
use Rattle.arguments.specs.declared.Check.TheVariants.{Fine, Broken, Repeated}
use Rattle.arguments.specs.declared.CallArgs.{CallArgs}
use Rattle.arguments.specs.declared.Walk.{Walk}

-- stage != Positional, stage > Named, stage == Kwargs
abbrev pub past_positional : ArgsStage → Bool
past_positional AtPositional = false
past_positional AtNamed = true
past_positional AtArgs = true
past_positional AtKwargs = true

abbrev pub past_named : ArgsStage → Bool
past_named AtPositional = false
past_named AtNamed = false
past_named AtArgs = true
past_named AtKwargs = true

abbrev pub in_kwargs : ArgsStage → Bool
in_kwargs AtPositional = false
in_kwargs AtNamed = false
in_kwargs AtArgs = false
in_kwargs AtKwargs = true

-- named_args: the first of the earlier named arguments that has this name
unfoldable pub has_name : Name → Argument → Bool
has_name x (positional r) = false
has_name x (named r n) = same n x
has_name x (args r) = false
has_name x (kwargs r) = false

unfoldable pub first_same : Name → List Argument → Option ℕ
first_same x [] = None
first_same x (p ∷ ps) = if' (has_name x p) (λ _. Some (node_in p).at) (λ _. first_same x ps)

-- the first earlier named argument whose name this one repeats; those of other kinds have none
unfoldable pub repeats : List Argument → Argument → Option ℕ
repeats before (positional r) = None
repeats before (named r n) = first_same n before
repeats before (args r) = None
repeats before (kwargs r) = None

-- the rules of the kinds: 20; 21, then 22; 23; 24
abbrev pub positional_rule : ArgsStage → Check
positional_rule stage = if' (past_positional stage) (λ _. Broken positional_after_non_positional) (λ _. Fine)

abbrev pub new_name : Option ℕ → Check
new_name (Some i) = Repeated i
new_name None = Fine

abbrev pub named_rule : ArgsStage → Option ℕ → Check
named_rule stage found = if' (past_named stage) (λ _. Broken named_after_star) (λ _. new_name found)

abbrev pub args_rule : ArgsStage → Check
args_rule stage = if' (past_named stage) (λ _. Broken second_star) (λ _. Fine)

abbrev pub kwargs_rule : ArgsStage → Check
kwargs_rule stage = if' (in_kwargs stage) (λ _. Broken second_kwargs) (λ _. Fine)

abbrev pub rule : ArgsStage → Option ℕ → Kind → Check
rule stage found Positional = positional_rule stage
rule stage found Named = named_rule stage found
rule stage found Args = args_rule stage
rule stage found KwArgs = kwargs_rule stage

unfoldable pub check : List Argument → ArgsStage → Argument → Check
check before stage p = rule stage (repeats before p) (kind_in p)

-- what an argument of a kind changes: the stage, and what is counted, where i is its place among the arguments
abbrev pub next_stage : ArgsStage → Kind → ArgsStage
next_stage stage Positional = stage
next_stage stage Named = AtNamed
next_stage stage Args = AtArgs
next_stage stage KwArgs = AtKwargs

abbrev pub counts : ℕ → ℕ → Option ℕ → Option ℕ → CallArgs
counts p n a k = record { num_pos = p; num_named = n; star = a; star_star = k }

abbrev pub count : CallArgs → ℕ → Kind → CallArgs
count c i Positional = counts (c.num_pos + 1) c.num_named c.star c.star_star
count c i Named = counts c.num_pos (c.num_named + 1) c.star c.star_star
count c i Args = counts c.num_pos c.num_named (Some i) c.star_star
count c i KwArgs = counts c.num_pos c.num_named c.star (Some i)

unfoldable pub advance : Walk → ℕ → Kind → Walk
advance w i k = record { stage = next_stage w.stage k; counts = count w.counts i k }

-- is_some()
abbrev pub given : Option ℕ → Bool
given (Some i) = true
given None = false

-- star.is_some() at a star, star_star.is_some() at a `**`
abbrev pub taken : CallArgs → Kind → Bool
taken c Positional = false
taken c Named = false
taken c Args = given c.star
taken c KwArgs = given c.star_star

-- the outcomes of unpack: what is counted; a refusal at an argument; 22, at an argument's name, with the earlier one's
-- node; an internal error
pub data Outcome : Type 0 where
  unpacked : CallArgs → Outcome
  refused_with : ℕ → Node → Outcome
  repeated_name : ℕ → Node → Outcome
  internal_error : Outcome

abbrev pub unless_broken : Check → Node → (Unit {0} → Outcome) → Outcome
unless_broken Fine r next = next tt
unless_broken (Broken n) r next = refused_with n r
unless_broken (Repeated i) r next = repeated_name i r

abbrev pub bit : Bool → ℕ
bit true = 1
bit false = 0

-- the number of arguments that are counted
abbrev pub total : CallArgs → ℕ
total c = c.num_pos + c.num_named + bit (given c.star) + bit (given c.star_star)

-- the arguments in turn, after those before them; after the last, they are as many as are counted
unfoldable pub run : List Argument → Walk → List Argument → Outcome
run before w [] = if' (eqb (total w.counts) (length before)) (λ _. unpacked w.counts) (λ _. internal_error)
run before w (p ∷ ps) =
    unless_broken (check before w.stage p) (node_in p) (λ _.
    if' (taken w.counts (kind_in p)) (λ _. internal_error) (λ _.
    run (before ++ p ∷ []) (advance w (length before) (kind_in p)) ps))

-- CallArgsUnpack::unpack
abbrev pub start : Walk
start = record { stage = AtPositional; counts = counts 0 0 None None }

unfoldable pub unpack : List Argument → Outcome
unpack l = run [] start l
