-- What 11 means: the only earlier parameter of an equal name, which has a smaller node. `unpack` reads the list from
-- the left and stops at the first name that it has seen (`run_repeated`). So among those that are read no name comes
-- twice (`Fresh`), and the first that has the name is the only one (forest's `only_one`). Cite `written_twice`. Assumes
-- nothing.
use Rattle.std.specs.Prelude.{None, Option, Some, ℕ}
use Rattle.deflist.specs.declared.Written.{Written}
use mathlib.Core.Path.{◌≡◌, refl, sym, ap, ◌∙◌}
use mathlib.Core.Bool.{Bool, true, false}
use mathlib.Core.List.{List, [], ◌∷◌, ◌++◌, append_assoc, append-nil}
use Prim.Native.Nat.{ℕ, ◌+◌, ◌/◌, ◌<◌, ◌≤◌}
use native.Mathlib.Omega.{arith}
use lib.ListN.{drop}
use Rattle.fields.proofs.Basics.{never}
use Rattle.forest.specs.Forest.{Node, node_of, span_of, kids_of, rest_of, forest}
use Rattle.fields.specs.Choice.{if'}
use Rattle.table.specs.Numbers.{slash_first, duplicated_parameter, normal_after_kwargs, no_default_after_default}
use Rattle.table.specs.Numbers.{star_after_star, multiple_slash, multiple_kwargs, star_last, no_normal_after_star}
use Rattle.forest.proofs.Named.{same_bytes_refl, same_bytes_equal}
use Rattle.forest.proofs.Stretch.{forest_induction, rest_part}
use Rattle.forest.proofs.Firsts.{found_first, Fresh, only_one, Rising, rising_first, rising_lower, rising_before}
use Rattle.deflist.specs.Written.{Name, Param, normal, no_args, slash, args, kwargs, node_in, kind_in, param_of}
use Rattle.deflist.specs.Written.{params_in, written}
use Rattle.deflist.specs.Unpack.{has_name, first_same, repeats, firstly, default_rule, rule, check, start, flat_at}
use Rattle.deflist.specs.Unpack.{seen_slash, seen_star, seen_star_star, first_slash, positional_only, is_slash}
use Rattle.deflist.specs.Unpack.{accepted, refused, repeated, from_star, finish, run, unpack}
use Rattle.deflist.specs.Reading.{is_listed}
use Rattle.deflist.specs.Twice.{index_of, NamedTwice}
use Rattle.deflist.specs.declared.State.{State}
use Rattle.deflist.specs.declared.Kind.{Kind}
use Rattle.deflist.specs.declared.Kind.TheVariants.{Normal, NoArgs, Slash, Args, KwArgs}
use Rattle.deflist.specs.declared.Check.{Check}
use Rattle.deflist.specs.declared.Check.TheVariants.{Fine, Broken, Repeated}
use Rattle.deflist.specs.declared.Counts.{Counts}
use Rattle.deflist.specs.declared.Unpacking.{Unpacking}
use Rattle.deflist.proofs.Reading.{node_in_lem, list_end, list_on, listed_long}
use Rattle.deflist.proofs.Steps.{Cleared, run_stop, run_again, run_on_lem, clear_on, clear_start}
use Rattle.deflist.proofs.Theorems.{at_end, short_end}
use Rattle.deflist.proofs.Walking.{searches, found_repeated}

-- the parameter at which unpack finds a name again, after those that are read
record Again (before l : List Param) (i : ℕ) (r : Node) : Type 0 where
  read : List Param
  again : Param
  rest : List Param
  cut : l ≡ read ++ again ∷ rest
  here : node_in again ≡ r
  found : repeats (before ++ read) again ≡ Some i
  fresh : Fresh repeats before read

-- a parameter that passes its check repeats no name
fine_new : (f : Option ℕ) (c : Check) → firstly f c ≡ Fine → f ≡ None
fine_new (Some i) c e = never (cc)
fine_new None c e = refl

-- a parameter that repeats a name: the first of the list, or one behind it
again_here : (before : List Param) (p : Param) (ps : List Param) {i : ℕ} → repeats before p ≡ Some i
    → Again before (p ∷ ps) i (node_in p)
again_here before p ps e = record {
  read = [];
  again = p;
  rest = ps;
  cut = refl;
  here = refl;
  found = rw (append-nil before) e;
  fresh = tt;
}

again_later : (before : List Param) (p : Param) (ps : List Param) {i : ℕ} {r : Node} → repeats before p ≡ None
    → Again (before ++ p ∷ []) ps i r → Again before (p ∷ ps) i r
again_later before p ps new x = record {
  read = p ∷ x.read;
  again = x.again;
  rest = x.rest;
  cut = ap (λ (l : List Param). p ∷ l) x.cut;
  here = x.here;
  found = rw (append_assoc before (p ∷ []) x.read) at x.found;
  fresh = (new, x.fresh);
}

run_repeated : (before : List Param) (u : Unpacking) (l : List Param) {i : ℕ} {r : Node} → Cleared u
    → run before u l ≡ repeated i r → Again before l i r
unfolding run
run_repeated before u [] clear h =
    at_end before u.index_of_star u.counts h (λ e. never (cc)) (λ n r e. never (cc))
run_repeated before u (p ∷ ps) {i} {r} clear h = go (check before u.state u.seen_optional p) refl
    (λ v x. run_repeated (before ++ p ∷ []) v ps x)
  where
    go : (k : Check) → check before u.state u.seen_optional p ≡ k
        → ((v : Unpacking) → Cleared v → run (before ++ p ∷ []) v ps ≡ repeated i r → Again (before ++ p ∷ []) ps i r)
        → Again before (p ∷ ps) i r
    go Fine f rest = again_later before p ps (fine_new (repeats before p) _ f)
        (rest _ (clear_on before u p ps clear f) (sym (run_on_lem before u p ps clear f) ∙ h))
    go (Broken n) f rest = let both = sym (run_stop before u p ps f) ∙ h in never (cc)
    go (Repeated j) f rest =
        let both : repeated j (node_in p) ≡ repeated i r = sym (run_again before u p ps f) ∙ h in
        let same : j ≡ i = cc in
        let node : node_in p ≡ r = cc in
        rw node at (again_here before p ps (found_repeated (repeats before p) _ _ (kind_in p) f ∙ ap Some same))

-- a name that is found again is one that the parameter has
repeats_has : (before : List Param) (p : Param) {i : ℕ} → repeats before p ≡ Some i
    → (x : Name) × ((has_name x p ≡ true) × (first_same x before ≡ Some i))
unfolding repeats has_name
repeats_has before (normal r n d) e = (n, (same_bytes_refl n, e))
repeats_has before (no_args r) e = never (cc)
repeats_has before (slash r) e = never (cc)
repeats_has before (args r n) e = (n, (same_bytes_refl n, e))
repeats_has before (kwargs r n) e = (n, (same_bytes_refl n, e))

-- and the search for a name that it has is the search for its own
looks_for : (x : Name) (l : List Param) (p : Param) → has_name x p ≡ true → repeats l p ≡ first_same x l
unfolding repeats has_name
looks_for x l (normal r n d) h = ap (λ (y : Name). first_same y l) (same_bytes_equal n x h)
looks_for x l (no_args r) h = never (cc)
looks_for x l (slash r) h = never (cc)
looks_for x l (args r n) h = ap (λ (y : Name). first_same y l) (same_bytes_equal n x h)
looks_for x l (kwargs r n) h = ap (λ (y : Name). first_same y l) (same_bytes_equal n x h)

-- the nodes of a written list rise
rising_list : (ns : List ℕ) (k : ℕ) (t : List ℕ) → Rising index_of k (params_in ns (forest k t))
rising_list ns =
    forest_induction (λ k t. Rising index_of k (params_in ns (forest k t)))
    (λ k t s. rw (list_end ns k t (short_end t s)) tt)
    (λ k t big ks rs. go k t (is_listed t) refl rs)
  where
    go : (k : ℕ) (t : List ℕ) (b : Bool) → is_listed t ≡ b
        → Rising index_of (k + span_of t / 24) (params_in ns (forest (k + span_of t / 24) (rest_of t)))
        → Rising index_of k (params_in ns (forest k t))
    go k t true e h = rw (list_on ns k t e refl, rest_part (span_of t) t refl)
        (rising_first index_of (param_of ns (node_of k t)) (params_in ns (forest (k + span_of t / 24) (rest_of t)))
        (ap (λ (r : Node). r.at) (node_in_lem ns (node_of k t)))
        (rising_lower index_of (k + 1) (k + span_of t / 24) (params_in ns (forest (k + span_of t / 24) (rest_of t)))
        (omega (arith, listed_long t e)) h))
    go k t false e h = rw (list_end ns k t e) tt

-- the first of those that are read has a smaller node
module _ (ns : List ℕ) (k : ℕ) (t : List ℕ) {i : ℕ} {r : Node} where
  again_twice : Again [] (params_in ns (forest k t)) i r → NamedTwice (params_in ns (forest k t)) i r
  unfolding searches
  again_twice a =
      let x = repeats_has a.read a.again a.found in
      let f = found_first searches x.0 a.read x.1.1 in
      let whole : (f.before ++ f.there ∷ f.after) ++ a.again ∷ a.rest ≡ params_in ns (forest k t) =
      sym (a.cut ∙ ap (λ (l : List Param). l ++ a.again ∷ a.rest) f.cut) in
      let less = rising_before index_of k f.before f.there f.after a.again a.rest
      (rw whole (rising_list ns k t)) in
      record {
        read = a.read;
        again = a.again;
        rest = a.rest;
        cut = a.cut;
        here = a.here;
        name = x.0;
        has = x.1.0;
        earlier = f;
        only = only_one searches repeats looks_for x.0 a.read f a.fresh;
        smaller = omega (arith, less, f.at, ap (λ (q : Node). q.at) a.here);
      }

unpack_again : (l : List Param) {i : ℕ} {r : Node} → unpack l ≡ repeated i r → Again [] l i r
unfolding unpack
unpack_again [] h = run_repeated [] (start (flat_at 0)) [] (clear_start (flat_at 0)) h
unpack_again (p ∷ ps) {i} {r} h = go (is_slash (kind_in p)) refl
  where
    go : (b : Bool) → is_slash (kind_in p) ≡ b → Again [] (p ∷ ps) i r
    go true e = let refusing = rw e at h in never (cc)
    go false e = run_repeated [] (start (positional_only (first_slash (p ∷ ps)))) (p ∷ ps)
        (clear_start (positional_only (first_slash (p ∷ ps)))) (rw e at h)

-- THEOREM: 11 is reported at a parameter whose name an earlier one has; it carries the node of that one
pub written_twice : (ns : List ℕ) (node : ℕ) (t : List ℕ) {i : ℕ} {r : Node} → unpack (written ns node t) ≡ repeated i r
    → NamedTwice (written ns node t) i r
unfolding written
written_twice ns node t h = again_twice ns (node + 1) (kids_of t) (unpack_again _ h)

-- and no other rule gives 11, or a number past 18
record ListNumber (n : ℕ) : Type 0 where
  other : n ≡ duplicated_parameter → ⊥
  low : n ≤ no_normal_after_star

after_eleven : (n : ℕ) → duplicated_parameter < n → n ≤ no_normal_after_star → ListNumber n
after_eleven n h g = record { other = λ e. omega (arith, h, e); low = g }

abbrev Other : Check → Type 0
Other Fine = Unit {0}
Other (Broken n) = ListNumber n
Other (Repeated i) = Unit {0}

other_test : (b : Bool) (n : ℕ) → duplicated_parameter < n → n ≤ no_normal_after_star
    → Other (if' b (λ _. Broken n) (λ _. Fine))
other_test true n h g = after_eleven n h g
other_test false n h g = tt

other_normal : (a b o d : Bool)
    → Other (if' a (λ _. Broken normal_after_kwargs) (λ _. if' b (λ _. Fine) (λ _. default_rule o d)))
other_normal true b o d = after_eleven normal_after_kwargs (omega arith) (omega arith)
other_normal false true o d = tt
other_normal false false true true = tt
other_normal false false true false = after_eleven no_default_after_default (omega arith) (omega arith)
other_normal false false false d = tt

other_rule : (s : State) (o : Bool) (k : Kind) → Other (rule s o k)
other_rule s o (Normal d) = other_normal (seen_star_star s) (seen_star s) o d
other_rule s o NoArgs = other_test (seen_star s) star_after_star (omega arith) (omega arith)
other_rule s o Slash = other_test (seen_slash s) multiple_slash (omega arith) (omega arith)
other_rule s o Args = other_test (seen_star s) star_after_star (omega arith) (omega arith)
other_rule s o KwArgs = other_test (seen_star_star s) multiple_kwargs (omega arith) (omega arith)

other_check : (before : List Param) (s : State) (o : Bool) (p : Param) → Other (check before s o p)
other_check before s o p = go (repeats before p)
  where
    go : (f : Option ℕ) → Other (firstly f (rule s o (kind_in p)))
    go (Some i) = tt
    go None = other_rule s o (kind_in p)

other_end : (w : List Param) (star : Option Written) (c : Counts) {n : ℕ} {r : Node} → finish w star c ≡ refused n r
    → ListNumber n
unfolding finish
other_end w None c h = never (cc)
other_end w (Some i) c {n} {r} h = go (drop i.0 w) h
  where
    seventeen : {m : Node} → refused star_last m ≡ refused n r → ListNumber n
    seventeen h = let same : n ≡ star_last = cc in after_eleven n (omega (arith, same)) (omega (arith, same))

    eighteen : {m : Node} → refused no_normal_after_star m ≡ refused n r → ListNumber n
    eighteen h = let same : n ≡ no_normal_after_star = cc in after_eleven n (omega (arith, same)) (omega (arith, same))

    go : (l : List Param) → from_star l (accepted c) ≡ refused n r → ListNumber n
    go [] h = never (cc)
    go (p ∷ []) h = seventeen h
    go (p ∷ normal s m d ∷ l) h = never (cc)
    go (p ∷ no_args s ∷ l) h = eighteen h
    go (p ∷ slash s ∷ l) h = eighteen h
    go (p ∷ args s m ∷ l) h = eighteen h
    go (p ∷ kwargs s m ∷ l) h = eighteen h

run_other : (before : List Param) (u : Unpacking) (l : List Param) {n : ℕ} {r : Node} → Cleared u
    → run before u l ≡ refused n r → ListNumber n
unfolding run
run_other before u [] clear h = other_end before u.index_of_star u.counts h
run_other before u (p ∷ ps) {n} {r} clear h = go (check before u.state u.seen_optional p) refl
    (other_check before u.state u.seen_optional p) (λ v x. run_other (before ++ p ∷ []) v ps x)
  where
    go : (k : Check) → check before u.state u.seen_optional p ≡ k → Other k
        → ((v : Unpacking) → Cleared v → run (before ++ p ∷ []) v ps ≡ refused n r → ListNumber n) → ListNumber n
    go Fine f d rest = rest _ (clear_on before u p ps clear f) (sym (run_on_lem before u p ps clear f) ∙ h)
    go (Broken m) f d rest =
        let both : refused m (node_in p) ≡ refused n r = sym (run_stop before u p ps f) ∙ h in
        let same : n ≡ m = cc in
        rw same d
    go (Repeated j) f d rest = let both = sym (run_again before u p ps f) ∙ h in never (cc)

list_number : (l : List Param) {n : ℕ} {r : Node} → unpack l ≡ refused n r → ListNumber n
unfolding unpack
list_number [] h = run_other [] (start (flat_at 0)) [] (clear_start (flat_at 0)) h
list_number (p ∷ ps) {n} {r} h = go (is_slash (kind_in p)) refl
  where
    go : (b : Bool) → is_slash (kind_in p) ≡ b → ListNumber n
    go true e =
        let ten : refused slash_first (node_in p) ≡ refused n r = rw e at h in
        let same : n ≡ slash_first = cc in
        record { other = λ d. omega (arith, same, d); low = omega (arith, same) }
    go false e = run_other [] (start (positional_only (first_slash (p ∷ ps)))) (p ∷ ps)
        (clear_start (positional_only (first_slash (p ∷ ps)))) (rw e at h)

pub refused_other : (l : List Param) {n : ℕ} {r : Node} → unpack l ≡ refused n r → n ≡ duplicated_parameter → ⊥
refused_other l h = (list_number l h).other

pub refused_low : (l : List Param) {n : ℕ} {r : Node} → unpack l ≡ refused n r → n ≤ no_normal_after_star
refused_low l h = (list_number l h).low
