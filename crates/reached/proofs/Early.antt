-- The checks before the binding give no number of 80 or more: the entry at most 7 (`early_entry`), a list of parameters
-- less than 20 (`early_limited`), a list of arguments 20 to 24 or the 0 of an internal error (`call_numbers`). Each is
-- shown rule by rule, then along the list. Assumes nothing.
use Rattle.std.specs.Prelude.{None, Option, Some, ℕ}
use Rattle.deflist.specs.declared.Flat.{Flat}
use mathlib.Core.Path.{◌≡◌, refl}
use mathlib.Core.Bool.{Bool, true, false}
use mathlib.Core.Logic.{◌⊎◌, inl, inr}
use mathlib.Core.List.{List, [], ◌∷◌, ◌++◌}
use Prim.Native.Nat.{ℕ, ◌+◌, ◌<◌}
use native.Mathlib.Omega.{arith}
use lib.ListN.{length, drop}
use lib.Dec.{eqb, leb, ltb}
use Rattle.fields.specs.Choice.{if'}
use Rattle.forest.specs.Forest.{Node, forest}
use Rattle.soundness.specs.Sound.{first_unsound}
use Rattle.table.specs.Numbers.{wrong_node, short_buffer, unsound_record, too_deep, too_many_parameters}
use Rattle.table.specs.Answer.{Answer, accepted, refused, and_then}
use Rattle.table.specs.Check.{length_sound, length_check, names_check, none_found, check_of, node_fits, entry_check}
use Rattle.table.specs.Depth.{first_deep}
use Rattle.table.specs.declared.Wanted.TheVariants.{Call}
use Rattle.deflist.specs.Written.{Param, normal, no_args, slash, args, kwargs, node_in, kind_in}
use Rattle.deflist.specs.Unpack as list
use Rattle.deflist.specs.Unpack.{step, finish, run, unpack}
use Rattle.deflist.specs.Limited.{most_parameters, limited}
use Rattle.deflist.specs.declared.Check as checks
use Rattle.deflist.specs.declared.Check.TheVariants.{Fine, Broken, Repeated as Twice}
use Rattle.deflist.specs.declared.Kind.{Kind}
use Rattle.deflist.specs.declared.Kind.TheVariants.{Normal, NoArgs, Slash, Args, KwArgs}
use Rattle.deflist.specs.declared.State.{State}
use Rattle.deflist.specs.declared.State.TheVariants.{Normal as BeforeSlash, SeenSlash, SeenStar, SeenStarStar}
use Rattle.deflist.specs.declared.Written.{Written}
use Rattle.deflist.specs.declared.Counts.{Counts}
use Rattle.deflist.specs.declared.Unpacking.{Unpacking}
use Rattle.arguments.specs.Written as written
use Rattle.arguments.specs.Call as call
use Rattle.arguments.specs.Call.{run as call_run, check as call_check, unpack as call_unpack}
use Rattle.arguments.specs.Job.{outcome_answer}
use Rattle.arguments.specs.declared.Check as call_checks
use Rattle.arguments.specs.declared.Check.TheVariants.{Fine as Kept, Broken as Stopped, Repeated}
use Rattle.arguments.specs.declared.Kind as forms
use Rattle.arguments.specs.declared.Kind.TheVariants.{Positional, Named, Args as Star, KwArgs as StarStar}
use Rattle.arguments.specs.declared.ArgsStage.{ArgsStage}
use Rattle.arguments.specs.declared.ArgsStage.TheVariants.{Positional as AtPositional, Named as AtNamed}
use Rattle.arguments.specs.declared.ArgsStage.TheVariants.{Args as AtArgs, Kwargs as AtKwargs}
use Rattle.arguments.specs.declared.Walk.{Walk}
use Rattle.parameters.specs.Params.{list_of}
use Rattle.bind.specs.Job.{is_def, arguments_at, entry_of}

abbrev pub Early : Answer → Type 0
Early (accepted vs) = Unit {0}
Early (refused n vs) = n < 80

early_and : (a : Answer) (next : Unit {0} → Answer) → Early a → Early (next tt) → Early (and_then a next)
early_and (accepted vs) next e f = f
early_and (refused n vs) next e f = e

early_if : (b : Bool) (n : ℕ) → n < 80 → Early (if' b (λ _. accepted []) (λ _. refused n []))
early_if true n h = tt
early_if false n h = h

early_found : (n : ℕ) (f : Option ℕ) → n < 80 → Early (none_found n f)
early_found n (Some i) h = h
early_found n None h = tt

-- 1 to 4, 6, 7
early_check : (t ns : List ℕ) → Early (check_of t ns)
unfolding check_of
early_check t ns =
    early_and (length_check (length t)) _ (early_if (length_sound (length t)) 1 (omega arith))
    (early_and (names_check (length ns)) _ (early_if (leb (length ns) 8064) 2 (omega arith))
    (early_and (none_found unsound_record (first_unsound t ns)) _
    (early_found unsound_record (first_unsound t ns) (omega arith))
    (early_found too_deep (first_deep 0 (forest 0 t)) (omega arith))))

pub early_entry : (t ns : List ℕ) (call def n : ℕ) → Early (entry_of t ns call def n)
unfolding entry_of entry_check
early_entry t ns call def n =
    early_and (entry_check Call t ns call) _
    (early_and (check_of t ns) _ (early_check t ns) (early_if (node_fits t call Call) wrong_node (omega arith)))
    (early_and (if' (is_def t def) (λ _. accepted []) (λ _. refused wrong_node [])) _
    (early_if (is_def t def) wrong_node (omega arith))
    (early_if (leb (length (list_of t ns def) + length (arguments_at t ns call)) n) short_buffer (omega arith)))

-- 10 to 19
abbrev EarlyCheck : checks.Check → Type 0
EarlyCheck Fine = Unit {0}
EarlyCheck (Broken n) = n < 20
EarlyCheck (Twice i) = Unit {0}

abbrev pub EarlyOutcome : list.Outcome → Type 0
EarlyOutcome (list.accepted c) = Unit {0}
EarlyOutcome (list.refused n r) = n < 20
EarlyOutcome (list.repeated i r) = Unit {0}
EarlyOutcome (list.internal e r) = Unit {0}

early_default : (a b : Bool) → EarlyCheck (list.default_rule a b)
early_default true true = tt
early_default true false = omega arith
early_default false b = tt

early_rule : (s : State) (o : Bool) (k : Kind) → EarlyCheck (list.rule s o k)
early_rule BeforeSlash o (Normal b) = early_default o b
early_rule SeenSlash o (Normal b) = early_default o b
early_rule SeenStar o (Normal b) = tt
early_rule SeenStarStar o (Normal b) = omega arith
early_rule BeforeSlash o NoArgs = tt
early_rule SeenSlash o NoArgs = tt
early_rule SeenStar o NoArgs = omega arith
early_rule SeenStarStar o NoArgs = omega arith
early_rule BeforeSlash o Slash = tt
early_rule SeenSlash o Slash = omega arith
early_rule SeenStar o Slash = omega arith
early_rule SeenStarStar o Slash = omega arith
early_rule BeforeSlash o Args = tt
early_rule SeenSlash o Args = tt
early_rule SeenStar o Args = omega arith
early_rule SeenStarStar o Args = omega arith
early_rule BeforeSlash o KwArgs = tt
early_rule SeenSlash o KwArgs = tt
early_rule SeenStar o KwArgs = tt
early_rule SeenStarStar o KwArgs = omega arith

early_first : (f : Option ℕ) (x : checks.Check) → EarlyCheck x → EarlyCheck (list.firstly f x)
early_first (Some i) x e = tt
early_first None x e = e

abbrev EarlyStep : list.Step → Type 0
EarlyStep (list.on u) = Unit {0}
EarlyStep (list.stop n) = n < 20
EarlyStep (list.again i) = Unit {0}
EarlyStep (list.broken e) = Unit {0}

early_keep : (u : Unpacking) (i : Written) (k : Kind) → EarlyStep (list.keep u i k)
early_keep u i (Normal b) = tt
early_keep u i NoArgs = go u.index_of_star
  where
    go : (p : Option Written) → EarlyStep (list.unless_written p list.multiple_stars (list.advance u i NoArgs))
    go None = tt
    go (Some j) = tt
early_keep u i Slash = tt
early_keep u i Args = go u.counts.args
  where
    go : (p : Option Flat) → EarlyStep (list.unless_flat p list.multiple_args (list.advance u i Args))
    go None = tt
    go (Some j) = tt
early_keep u i KwArgs = go u.counts.kwargs
  where
    go : (p : Option Flat) → EarlyStep (list.unless_flat p list.multiple_kw_args (list.advance u i KwArgs))
    go None = tt
    go (Some j) = tt

early_step : (before : List Param) (u : Unpacking) (p : Param) → EarlyStep (list.step before u p)
unfolding step
early_step before u p = go (list.check before u.state u.seen_optional p)
    (early_first (list.repeats before p) _ (early_rule u.state u.seen_optional (kind_in p)))
  where
    go : (x : checks.Check) → EarlyCheck x
        → EarlyStep (list.unless_broken x (λ _. list.keep u (list.written_at (length before)) (kind_in p)))
    go Fine e = early_keep u (list.written_at (length before)) (kind_in p)
    go (Broken n) e = e
    go (Twice i) e = tt

early_star : (l : List Param) (c : Counts) → EarlyOutcome (list.from_star l (list.accepted c))
early_star [] c = tt
early_star (p ∷ []) c = omega arith
early_star (p ∷ normal r n d ∷ l) c = tt
early_star (p ∷ no_args r ∷ l) c = omega arith
early_star (p ∷ slash r ∷ l) c = omega arith
early_star (p ∷ args r n ∷ l) c = omega arith
early_star (p ∷ kwargs r n ∷ l) c = omega arith

early_finish : (w : List Param) (p : Option Written) (c : Counts) → EarlyOutcome (list.finish w p c)
unfolding finish
early_finish w None c = tt
early_finish w (Some i) c = early_star (drop i.0 w) c

early_run : (before : List Param) (u : Unpacking) (l : List Param) → EarlyOutcome (list.run before u l)
unfolding run
early_run before u [] = early_finish before u.index_of_star u.counts
early_run before u (p ∷ ps) = go (list.step before u p) (early_step before u p)
    (λ v. early_run (before ++ p ∷ []) v ps)
  where
    go : (x : list.Step) → EarlyStep x → ((v : Unpacking) → EarlyOutcome (list.run (before ++ p ∷ []) v ps))
        → EarlyOutcome (list.after x (node_in p) (λ v. list.run (before ++ p ∷ []) v ps))
    go (list.on v) e rest = rest v
    go (list.stop n) e rest = e
    go (list.again i) e rest = tt
    go (list.broken x) e rest = tt

early_list : (l : List Param) → EarlyOutcome (list.unpack l)
unfolding unpack
early_list [] = early_run [] (list.start (list.flat_at 0)) []
early_list (p ∷ ps) = go (list.is_slash (kind_in p))
    (early_run [] (list.start (list.positional_only (list.first_slash (p ∷ ps)))) (p ∷ ps))
  where
    go : (b : Bool) → EarlyOutcome
        (list.run [] (list.start (list.positional_only (list.first_slash (p ∷ ps)))) (p ∷ ps))
        → EarlyOutcome (if' b (λ _. list.refused 10 (node_in p)) (λ _.
        list.run [] (list.start (list.positional_only (list.first_slash (p ∷ ps)))) (p ∷ ps)))
    go true e = omega arith
    go false e = e

pub early_limited : (owner : Node) (l : List Param) → EarlyOutcome (limited owner l)
unfolding limited
early_limited owner l = go (ltb most_parameters (length l))
  where
    go : (b : Bool) → EarlyOutcome (if' b (λ _. list.refused too_many_parameters owner) (λ _. list.unpack l))
    go true = omega arith
    go false = early_list l

-- 20 to 24
abbrev InCall : ℕ → Type 0
InCall n = (n ≡ 0) ⊎ ((19 < n) × (n < 25))

abbrev pub CallNumber : Answer → Type 0
CallNumber (accepted vs) = Unit {0}
CallNumber (refused n vs) = InCall n

abbrev EarlyKept : call_checks.Check → Type 0
EarlyKept Kept = Unit {0}
EarlyKept (Stopped n) = (19 < n) × (n < 25)
EarlyKept (Repeated i) = Unit {0}

early_form : (s : ArgsStage) (f : Option ℕ) (k : forms.Kind) → EarlyKept (call.rule s f k)
early_form AtPositional f Positional = tt
early_form AtNamed f Positional = (omega arith, omega arith)
early_form AtArgs f Positional = (omega arith, omega arith)
early_form AtKwargs f Positional = (omega arith, omega arith)
early_form AtPositional (Some i) Named = tt
early_form AtPositional None Named = tt
early_form AtNamed (Some i) Named = tt
early_form AtNamed None Named = tt
early_form AtArgs f Named = (omega arith, omega arith)
early_form AtKwargs f Named = (omega arith, omega arith)
early_form AtPositional f Star = tt
early_form AtNamed f Star = tt
early_form AtArgs f Star = (omega arith, omega arith)
early_form AtKwargs f Star = (omega arith, omega arith)
early_form AtPositional f StarStar = tt
early_form AtNamed f StarStar = tt
early_form AtArgs f StarStar = tt
early_form AtKwargs f StarStar = (omega arith, omega arith)

number_walk : (before : List written.Argument) (w : Walk) (l : List written.Argument)
    → CallNumber (outcome_answer (call.run before w l))
unfolding call_run call_check
number_walk before w [] = go (eqb (call.total w.counts) (length before))
  where
    go : (b : Bool) → CallNumber (outcome_answer (if' b (λ _. call.unpacked w.counts) (λ _. call.internal_error)))
    go true = tt
    go false = inl refl
number_walk before w (p ∷ ps) = go (call.check before w.stage p) (call.taken w.counts (written.kind_in p))
    (early_form w.stage (call.repeats before p) (written.kind_in p))
    (number_walk (before ++ p ∷ []) (call.advance w (length before) (written.kind_in p)) ps)
  where
    go : (x : call_checks.Check) (b : Bool) → EarlyKept x
        → CallNumber (outcome_answer
        (call.run (before ++ p ∷ []) (call.advance w (length before) (written.kind_in p)) ps))
        → CallNumber (outcome_answer
        (call.unless_broken x (written.node_in p) (λ _. if' b (λ _. call.internal_error) (λ _.
        call.run (before ++ p ∷ []) (call.advance w (length before) (written.kind_in p)) ps))))
    go Kept true e rest = inl refl
    go Kept false e rest = rest
    go (Stopped n) b e rest = inr e
    go (Repeated i) b e rest = inr (omega arith, omega arith)

pub call_numbers : (l : List written.Argument) → CallNumber (outcome_answer (call.unpack l))
unfolding call_unpack
call_numbers l = number_walk [] call.start l

pub early_call : (l : List written.Argument) → Early (outcome_answer (call.unpack l))
early_call l = go (outcome_answer (call.unpack l)) (call_numbers l)
  where
    go : (a : Answer) → CallNumber a → Early a
    go (accepted vs) c = tt
    go (refused n vs) (inl e) = omega arith
    go (refused n vs) (inr h) = omega arith
