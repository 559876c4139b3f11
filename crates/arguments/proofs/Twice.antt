-- What 22 means: the only earlier argument of an equal name, which has a smaller node; and 22 alone carries an earlier
-- node. `unpack` reads the arguments from the left and stops at the first name that it has seen (`run_told`). So among
-- those that are read no name comes twice (`Fresh`), and the first that has the name is the only one (forest's
-- `only_one`). Assumes nothing.
use Rattle.std.specs.Prelude.{None, Option, Some, ℕ}
use mathlib.Core.Path.{◌≡◌, refl, sym, ap, ◌∙◌}
use mathlib.Core.Bool.{Bool, true, false}
use mathlib.Core.List.{List, [], ◌∷◌, ◌++◌, append_assoc, append-nil}
use Prim.Native.Nat.{ℕ, ◌+◌, ◌/◌}
use native.Mathlib.Omega.{arith}
use lib.ListN.{length}
use Rattle.fields.specs.Choice.{if'}
use Rattle.fields.proofs.Basics.{never}
use Rattle.forest.specs.Forest.{Node, node_of, span_of, kids_of, rest_of, forest, tree_of}
use Rattle.forest.proofs.Named.{same_bytes_refl, same_bytes_equal}
use Rattle.forest.proofs.Stretch.{forest_induction, forest_none, forest_tree, record_or_none}
use Rattle.forest.proofs.Firsts.{found_first, Fresh, only_one, Rising, rising_first, rising_lower, rising_before}
use Rattle.table.specs.Numbers.{named_after_star, repeated_named}
use Rattle.table.specs.Answer.{refused, OnlyCarries, span_values}
use Rattle.table.specs.Check.{stretch_of, entry_check, on_node}
use Rattle.table.specs.declared.Wanted.TheVariants.{Call}
use Rattle.table.proofs.Carried.{carries_then, from_next, entry_before}
use Rattle.arguments.specs.Written.{Name, Argument, positional, named, args, kwargs, node_in, kind_in, argument_of}
use Rattle.arguments.specs.Written.{arguments_in, arguments_of}
use Rattle.arguments.specs.Call.{past_positional, past_named, in_kwargs, has_name, first_same, repeats, new_name, rule}
use Rattle.arguments.specs.Call.{check, advance, Outcome, unpacked, refused_with, repeated_name, internal_error}
use Rattle.arguments.specs.Call.{run, start, unpack}
use Rattle.arguments.specs.Job.{name_span, outcome_answer, call_answer, call_of}
use Rattle.arguments.specs.Twice.{index_of, NamedTwice}
use Rattle.arguments.specs.declared.Kind.{Kind}
use Rattle.arguments.specs.declared.Kind.TheVariants.{Positional, Named, Args, KwArgs}
use Rattle.arguments.specs.declared.ArgsStage.{ArgsStage}
use Rattle.arguments.specs.declared.Check.{Check}
use Rattle.arguments.specs.declared.Check.TheVariants.{Fine, Broken, Repeated}
use Rattle.arguments.specs.declared.Walk.{Walk}
use Rattle.arguments.proofs.Order.{Walked, walked_start, order_total, kinds_long, walked_more, run_more}
use Rattle.arguments.proofs.Order.{run_last}
use Rattle.arguments.proofs.Walking.{node_in_lem, list_end, list_on, searches}

-- a name that is repeated was found
found_repeated : (s : ArgsStage) (f : Option ℕ) (k : Kind) {i : ℕ} → rule s f k ≡ Repeated i → f ≡ Some i
found_repeated s f Positional {i} e = other (past_positional s) _ e
  where
    other : (b : Bool) (n : ℕ) → if' b (λ _. Broken n) (λ _. Fine) ≡ Repeated i → f ≡ Some i
    other true n e = never (cc)
    other false n e = never (cc)
found_repeated s f Named {i} e = go (past_named s) f e
  where
    go : (b : Bool) (f : Option ℕ) → if' b (λ _. Broken named_after_star) (λ _. new_name f) ≡ Repeated i → f ≡ Some i
    go true f e = never (cc)
    go false (Some j) e = let same : j ≡ i = cc in ap Some same
    go false None e = never (cc)
found_repeated s f Args {i} e = other (past_named s) _ e
  where
    other : (b : Bool) (n : ℕ) → if' b (λ _. Broken n) (λ _. Fine) ≡ Repeated i → f ≡ Some i
    other true n e = never (cc)
    other false n e = never (cc)
found_repeated s f KwArgs {i} e = other (in_kwargs s) _ e
  where
    other : (b : Bool) (n : ℕ) → if' b (λ _. Broken n) (λ _. Fine) ≡ Repeated i → f ≡ Some i
    other true n e = never (cc)
    other false n e = never (cc)

-- no other rule gives 22
abbrev Other : Check → Type 0
Other Fine = Unit {0}
Other (Broken n) = n ≡ repeated_named → ⊥
Other (Repeated i) = Unit {0}

other_test : (b : Bool) (n : ℕ) → (n ≡ repeated_named → ⊥) → Other (if' b (λ _. Broken n) (λ _. Fine))
other_test true n d = d
other_test false n d = tt

other_rule : (s : ArgsStage) (f : Option ℕ) (k : Kind) → Other (rule s f k)
other_rule s f Positional = other_test (past_positional s) _ (λ e. omega (arith, e))
other_rule s f Named = go (past_named s) f
  where
    go : (b : Bool) (f : Option ℕ) → Other (if' b (λ _. Broken named_after_star) (λ _. new_name f))
    go true f = λ e. omega (arith, e)
    go false (Some i) = tt
    go false None = tt
other_rule s f Args = other_test (past_named s) _ (λ e. omega (arith, e))
other_rule s f KwArgs = other_test (in_kwargs s) _ (λ e. omega (arith, e))

-- the argument at which unpack finds a name again, after those that are read
record Again (before l : List Argument) (i : ℕ) (r : Node) : Type 0 where
  read : List Argument
  again : Argument
  rest : List Argument
  cut : l ≡ read ++ again ∷ rest
  here : node_in again ≡ r
  found : repeats (before ++ read) again ≡ Some i
  fresh : Fresh repeats before read

-- what a refusal of the list is: another number, or 22 with such an argument
abbrev Told : List Argument → List Argument → Outcome → Type 0
Told before l (unpacked a) = Unit {0}
Told before l (refused_with n r) = n ≡ repeated_named → ⊥
Told before l (repeated_name i r) = Again before l i r
Told before l internal_error = Unit {0}

told_later : (before : List Argument) (p : Argument) (ps : List Argument) (o : Outcome) → repeats before p ≡ None
    → Told (before ++ p ∷ []) ps o → Told before (p ∷ ps) o
told_later before p ps (unpacked a) new t = tt
told_later before p ps (refused_with n r) new t = t
told_later before p ps (repeated_name i r) new t = record {
  read = p ∷ t.read;
  again = t.again;
  rest = t.rest;
  cut = ap (λ (l : List Argument). p ∷ l) t.cut;
  here = t.here;
  found = rw (append_assoc before (p ∷ []) t.read) at t.found;
  fresh = (new, t.fresh);
}
told_later before p ps internal_error new t = tt

-- an argument that passes its check repeats no name
fine_new : (before : List Argument) (s : ArgsStage) (p : Argument) → check before s p ≡ Fine
    → repeats before p ≡ None
unfolding check repeats
fine_new before s (positional r) e = refl
fine_new before s (named r n) e = go (past_named s) (first_same n before) e
  where
    go : (b : Bool) (f : Option ℕ) → if' b (λ _. Broken named_after_star) (λ _. new_name f) ≡ Fine → f ≡ None
    go true f e = never (cc)
    go false (Some i) e = never (cc)
    go false None e = refl
fine_new before s (args r) e = refl
fine_new before s (kwargs r) e = refl

run_told : (before l : List Argument) (w : Walk) → Walked before w → Told before l (run before w l)
unfolding run check
run_told before [] w o = rw (run_last before w (sym (order_total o) ∙ kinds_long before)) tt
run_told before (p ∷ ps) w o = go (check before w.stage p) refl (other_rule w.stage (repeats before p) (kind_in p))
    (λ (fine : check before w.stage p ≡ Fine).
    run_told (before ++ p ∷ []) ps (advance w (length before) (kind_in p)) (walked_more before w p ps fine o))
  where
    go : (c : Check) → check before w.stage p ≡ c → Other c
        → (check before w.stage p ≡ Fine
        → Told (before ++ p ∷ []) ps (run (before ++ p ∷ []) (advance w (length before) (kind_in p)) ps))
        → Told before (p ∷ ps) (run before w (p ∷ ps))
    go Fine e d rest = rw (run_more before w p ps e o)
        (told_later before p ps (run (before ++ p ∷ []) (advance w (length before) (kind_in p)) ps)
        (fine_new before w.stage p e) (rest e))
    go (Broken n) e d rest = rw e d
    go (Repeated i) e d rest = rw e (record {
      read = [];
      again = p;
      rest = ps;
      cut = refl;
      here = refl;
      found = rw (append-nil before) (found_repeated w.stage (repeats before p) (kind_in p) e);
      fresh = tt;
    })

list_told : (l : List Argument) → Told [] l (unpack l)
unfolding unpack
list_told l = run_told [] l start walked_start

-- a name that is found again is one that the argument has
repeats_has : (before : List Argument) (p : Argument) {i : ℕ} → repeats before p ≡ Some i
    → (x : Name) × ((has_name x p ≡ true) × (first_same x before ≡ Some i))
unfolding repeats has_name
repeats_has before (positional r) e = never (cc)
repeats_has before (named r n) e = (n, (same_bytes_refl n, e))
repeats_has before (args r) e = never (cc)
repeats_has before (kwargs r) e = never (cc)

-- and the search for a name that it has is the search for its own
looks_for : (x : Name) (l : List Argument) (p : Argument) → has_name x p ≡ true → repeats l p ≡ first_same x l
unfolding repeats has_name
looks_for x l (positional r) h = never (cc)
looks_for x l (named r n) h = ap (λ (y : Name). first_same y l) (same_bytes_equal n x h)
looks_for x l (args r) h = never (cc)
looks_for x l (kwargs r) h = never (cc)

-- the nodes of the arguments rise
rising_list : (ns : List ℕ) (k : ℕ) (t : List ℕ) → Rising index_of k (arguments_in ns (forest k t))
rising_list ns =
    forest_induction (λ k t. Rising index_of k (arguments_in ns (forest k t)))
    (λ k t s. rw (list_end ns k t s) tt)
    (λ k t big ks rs. rw (list_on ns k t big refl refl)
    (rising_first index_of (argument_of ns (node_of k t)) (arguments_in ns (forest (k + span_of t / 24) (rest_of t)))
    (ap (λ (r : Node). r.at) (node_in_lem ns (node_of k t)))
    (rising_lower index_of (k + 1) (k + span_of t / 24) (arguments_in ns (forest (k + span_of t / 24) (rest_of t)))
    (omega arith) rs)))

rising_call : (ns : List ℕ) (i : ℕ) (t : List ℕ) → (k : ℕ) × Rising index_of k (arguments_of ns (tree_of i t))
rising_call ns i t =
    record_or_none (kids_of t) (λ short. (0, rw (forest_none (i + 1) (kids_of t) short) tt))
    (λ more. (
      i + 1 + span_of (kids_of t) / 24,
      rw (forest_tree (i + 1) (kids_of t) more)
          (rising_list ns (i + 1 + span_of (kids_of t) / 24) (rest_of (kids_of t))),
    ))

again_twice : (l : List Argument) (k : ℕ) → Rising index_of k l → {i : ℕ} {r : Node} → Again [] l i r
    → NamedTwice l i r
unfolding searches
again_twice l k rises a =
    let x = repeats_has a.read a.again a.found in
    let f = found_first searches x.0 a.read x.1.1 in
    let whole : (f.before ++ f.there ∷ f.after) ++ a.again ∷ a.rest ≡ l =
    sym (a.cut ∙ ap (λ (m : List Argument). m ++ a.again ∷ a.rest) f.cut) in
    let less = rising_before index_of k f.before f.there f.after a.again a.rest (rw whole rises) in
    record {
      read = a.read;
      again = a.again;
      rest = a.rest;
      cut = a.cut;
      here = a.here;
      name = x.0;
      has = x.1.0;
      earlier = f;
      only = only_one searches repeats looks_for x.0 a.read f a.fresh;
      smaller = omega (arith, less, f.at, ap (λ (q : Node). q.at) a.here);
    }

-- LAW: of all refusals of a list 22 alone carries an earlier node, and it always does
pub list_carries : (l : List Argument) → OnlyCarries repeated_named (outcome_answer (unpack l))
list_carries l = go (unpack l) (list_told l)
  where
    go : (o : Outcome) → Told [] l o → OnlyCarries repeated_named (outcome_answer o)
    go (unpacked a) d = tt
    go (refused_with n r) d = (λ e. absurd (d e), λ x. omega arith)
    go (repeated_name j r) d = (λ e. refl, λ x. absurd (x refl))
    go internal_error d = (λ e. absurd (omega (arith, e)), λ x. omega arith)

-- THEOREM: so it is of all refusals of the job
pub call_carries : (t ns : List ℕ) (i : ℕ) → OnlyCarries repeated_named (call_of t ns i)
unfolding on_node call_answer
call_carries t ns i =
    carries_then repeated_named (entry_check Call t ns i) _ (entry_before repeated_named Call t ns i (omega arith))
    (list_carries (arguments_of ns (tree_of i (stretch_of t i))))

-- THEOREM: and the argument that it refuses has the name of one earlier one of the call, whose node it carries; that is
-- the only one, and has a smaller node
pub call_twice : (t ns : List ℕ) (i : ℕ) {vs : List ℕ} → call_of t ns i ≡ refused repeated_named vs
    → (j : ℕ) × ((r : Node) × ((vs ≡ r.at ∷ span_values (name_span r) ++ j ∷ [])
    × NamedTwice (arguments_of ns (tree_of i (stretch_of t i))) j r))
unfolding on_node call_answer
call_twice t ns i {vs} e =
    go (unpack l) (list_told l)
    (from_next repeated_named (entry_check Call t ns i) _ (entry_before repeated_named Call t ns i (omega arith)) e)
  where
    l : List Argument
    l = arguments_of ns (tree_of i (stretch_of t i))

    go : (o : Outcome) → Told [] l o → outcome_answer o ≡ refused repeated_named vs
        → (j : ℕ) × ((r : Node) × ((vs ≡ r.at ∷ span_values (name_span r) ++ j ∷ []) × NamedTwice l j r))
    go (unpacked a) d e = never (cc)
    go (refused_with n r) d e = let same : n ≡ repeated_named = cc in absurd (d same)
    go (repeated_name j r) d e =
        let rises = rising_call ns i (stretch_of t i) in (j, (r, (cc, again_twice l rises.0 rises.1 d)))
    go internal_error d e = let same : 0 ≡ repeated_named = cc in absurd (omega (arith, same))
