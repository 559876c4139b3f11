-- Every refusal of a parameter list is one of 10 to 19 (`list_in`). So a form of the list of errors that leaves these
-- out keeps nothing of a parameter list (`list_left`), and code need not judge it (`own_judges_none`). It is shown
-- rule by rule: a check, a step and the end of `unpack` refuse by such a number or not at all. The induction is on the
-- parameters that are left (`run_in`). Assumes nothing.
use Rattle.std.specs.Prelude.{None, Option, Some, ℕ}
use Rattle.deflist.specs.declared.Flat.{Flat}
use mathlib.Core.Path.{◌≡◌, refl}
use mathlib.Core.Bool.{Bool, true, false}
use mathlib.Core.List.{List, [], ◌∷◌, ◌++◌}
use Prim.Native.Nat.{ℕ}
use native.Mathlib.Omega.{arith}
use lib.ListN.{length, drop}
use lib.Dec.{ltb}
use Rattle.fields.specs.Choice.{if'}
use Rattle.forest.specs.Forest.{Node}
use Rattle.table.specs.Numbers.{slash_first, too_many_parameters}
use Rattle.deflist.specs.Written.{Param, normal, no_args, slash, args, kwargs, node_in, kind_in}
use Rattle.deflist.specs.Unpack.{default_rule, rule, firstly, check, repeats, unless_written, unless_flat, keep, step}
use Rattle.deflist.specs.Unpack.{unless_broken, Step, on, stop, again, broken, Internal, Outcome, accepted, refused}
use Rattle.deflist.specs.Unpack.{repeated, internal, from_star, finish, after, run, is_slash, first_slash, positional_only}
use Rattle.deflist.specs.Unpack.{flat_at, written_at, start, unpack}
use Rattle.deflist.specs.Limited.{most_parameters, limited}
use Rattle.deflist.specs.Told.{told}
use Rattle.deflist.specs.declared.Check.{Check}
use Rattle.deflist.specs.declared.Check.TheVariants.{Fine, Broken, Repeated}
use Rattle.deflist.specs.declared.Kind.{Kind}
use Rattle.deflist.specs.declared.Kind.TheVariants.{Normal, NoArgs, Slash, Args, KwArgs}
use Rattle.deflist.specs.declared.State.{State}
use Rattle.deflist.specs.declared.State.TheVariants.{Normal as BeforeSlash, SeenSlash, SeenStar, SeenStarStar}
use Rattle.deflist.specs.declared.Written.{Written}
use Rattle.deflist.specs.declared.Counts.{Counts}
use Rattle.deflist.specs.declared.Unpacking.{Unpacking}
use Rattle.deflist.proofs.Limited.{limited_internal}
use Rattle.errors.specs.Errors.{is_list_error, without_lists, kept}
use Rattle.errors.specs.declared.Listing.{Listing}
use Rattle.errors.specs.declared.Listing.TheVariants.{Own}
use Rattle.errors.proofs.Storing.{stores_nothing}
use Rattle.validate.specs.Inner.{StoresFew}
use Rattle.validate.specs.Params.{unpack_error}

-- a check, a step and an outcome that refuse nothing, or by a number of parameter lists
abbrev check_in : Check → Bool
check_in Fine = true
check_in (Broken n) = is_list_error n
check_in (Repeated i) = true

abbrev step_in : Step → Bool
step_in (on u) = true
step_in (stop n) = is_list_error n
step_in (again i) = true
step_in (broken e) = true

abbrev outcome_in : Outcome → Bool
outcome_in (accepted c) = true
outcome_in (refused n r) = is_list_error n
outcome_in (repeated i r) = true
outcome_in (internal e r) = true

-- the rule of each kind, in each state
default_in_lem : (optional default : Bool) → check_in (default_rule optional default) ≡ true
default_in_lem true true = refl
default_in_lem true false = refl
default_in_lem false default = refl

rule_in : (s : State) (optional : Bool) (k : Kind) → check_in (rule s optional k) ≡ true
rule_in BeforeSlash optional (Normal default) = default_in_lem optional default
rule_in SeenSlash optional (Normal default) = default_in_lem optional default
rule_in SeenStar optional (Normal default) = refl
rule_in SeenStarStar optional (Normal default) = refl
rule_in BeforeSlash optional NoArgs = refl
rule_in SeenSlash optional NoArgs = refl
rule_in SeenStar optional NoArgs = refl
rule_in SeenStarStar optional NoArgs = refl
rule_in BeforeSlash optional Slash = refl
rule_in SeenSlash optional Slash = refl
rule_in SeenStar optional Slash = refl
rule_in SeenStarStar optional Slash = refl
rule_in BeforeSlash optional Args = refl
rule_in SeenSlash optional Args = refl
rule_in SeenStar optional Args = refl
rule_in SeenStarStar optional Args = refl
rule_in BeforeSlash optional KwArgs = refl
rule_in SeenSlash optional KwArgs = refl
rule_in SeenStar optional KwArgs = refl
rule_in SeenStarStar optional KwArgs = refl

check_in_lem : (before : List Param) (s : State) (optional : Bool) (p : Param)
    → check_in (check before s optional p) ≡ true
check_in_lem before s optional p = go (repeats before p)
  where
    go : (f : Option ℕ) → check_in (firstly f (rule s optional (kind_in p))) ≡ true
    go (Some i) = refl
    go None = rule_in s optional (kind_in p)

-- a parameter that keeps its rule
written_in_lem : (w : Option Written) (e : Internal) (u : Unpacking) → step_in (unless_written w e u) ≡ true
written_in_lem None e u = refl
written_in_lem (Some i) e u = refl

flat_in_lem : (f : Option Flat) (e : Internal) (u : Unpacking) → step_in (unless_flat f e u) ≡ true
flat_in_lem None e u = refl
flat_in_lem (Some i) e u = refl

keep_in : (u : Unpacking) (i : Written) (k : Kind) → step_in (keep u i k) ≡ true
keep_in u i (Normal default) = refl
keep_in u i NoArgs = written_in_lem u.index_of_star _ _
keep_in u i Slash = refl
keep_in u i Args = flat_in_lem u.counts.args _ _
keep_in u i KwArgs = flat_in_lem u.counts.kwargs _ _

step_in_lem : (before : List Param) (u : Unpacking) (p : Param) → step_in (step before u p) ≡ true
unfolding step
step_in_lem before u p = go (check before u.state u.seen_optional p) (check_in_lem before _ _ p)
  where
    go : (c : Check) → check_in c ≡ true
        → step_in (unless_broken c (λ _. keep u (written_at (length before)) (kind_in p))) ≡ true
    go Fine h = keep_in u (written_at (length before)) (kind_in p)
    go (Broken n) h = h
    go (Repeated i) h = refl

-- the end of a list
star_in : (ps : List Param) (c : Counts) → outcome_in (from_star ps (accepted c)) ≡ true
star_in [] c = refl
star_in (p ∷ []) c = refl
star_in (p ∷ normal r n d ∷ ps) c = refl
star_in (p ∷ no_args r ∷ ps) c = refl
star_in (p ∷ slash r ∷ ps) c = refl
star_in (p ∷ args r n ∷ ps) c = refl
star_in (p ∷ kwargs r n ∷ ps) c = refl

finish_in : (w : List Param) (star : Option Written) (c : Counts) → outcome_in (finish w star c) ≡ true
unfolding finish
finish_in w None c = refl
finish_in w (Some i) c = star_in (drop i.0 w) c

run_in : (before : List Param) (u : Unpacking) (ps : List Param) → outcome_in (run before u ps) ≡ true
unfolding run
run_in before u [] = finish_in before u.index_of_star u.counts
run_in before u (p ∷ ps) =
    go (λ v. run (before ++ p ∷ []) v ps) (step before u p) (step_in_lem before u p)
    (λ v. run_in (before ++ p ∷ []) v ps)
  where
    go : (next : Unpacking → Outcome) (s : Step) → step_in s ≡ true → ((v : Unpacking) → outcome_in (next v) ≡ true)
        → outcome_in (after s (node_in p) next) ≡ true
    go next (on v) h rest = rest v
    go next (stop n) h rest = h
    go next (again i) h rest = refl
    go next (broken e) h rest = refl

-- every refusal of unpack is one of these
pub unpack_in : (ps : List Param) → outcome_in (unpack ps) ≡ true
unfolding unpack
unpack_in [] = run_in [] (start (flat_at 0)) []
unpack_in (p ∷ ps) = go (is_slash (kind_in p)) _
    (run_in [] (start (positional_only (first_slash (p ∷ ps)))) (p ∷ ps))
  where
    go : (b : Bool) (o : Outcome) → outcome_in o ≡ true
        → outcome_in (if' b (λ _. refused slash_first (node_in p)) (λ _. o)) ≡ true
    go true o h = refl
    go false o h = h

-- THEOREM: every refusal of a parameter list is one of 10 to 19
pub list_in : (owner : Node) (ps : List Param) → outcome_in (limited owner ps) ≡ true
unfolding limited
list_in owner ps = go (ltb most_parameters (length ps))
  where
    go : (b : Bool) → outcome_in (if' b (λ _. refused too_many_parameters owner) (λ _. unpack ps)) ≡ true
    go true = refl
    go false = unpack_in ps

-- LAW: the module pass's own errors have none of a list
pub list_left : (owner : Node) (ps : List Param) → kept Own (unpack_error (told (limited owner ps))) ≡ []
unfolding without_lists
list_left owner ps = go (limited owner ps) refl (list_in owner ps)
  where
    go : (o : Outcome) → limited owner ps ≡ o → outcome_in o ≡ true → kept Own (unpack_error (told o)) ≡ []
    go (accepted c) e h = refl
    go (refused n r) e h = rw h refl
    go (repeated i r) e h = refl
    go (internal i r) e h = absurd (limited_internal owner ps e)

pub own_judges_none : {l : Listing} (owner : Node) (ps : List Param) (xs : List ℕ) → l ≡ Own
    → StoresFew l 1 (unpack_error (told (limited owner ps))) xs 0 xs
own_judges_none owner ps xs h =
    rw h record { few = omega arith; stores = stores_nothing _ xs (list_left owner ps) }
