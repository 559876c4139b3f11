-- What def.rs leaves to the reader. Its internal errors never arise, whatever the list (`no_internal_error`): the walk
-- stays clear (Steps' `clear_on`), and the last rule accepts or refuses (`at_end`). And what is counted is no more than
-- the list is long (`accepted_bounded`), so that "Too many parameters" (def.rs:171) and the unwraps (280, 305, 346)
-- cannot fire in a table of 2,100 nodes. Both are by induction on the list, for any state before it. Assumes nothing.
use Rattle.std.specs.Prelude.{None, Ok, Option, Some}
use Rattle.deflist.specs.declared.Written.{Written}
use mathlib.Core.Path.{◌≡◌, refl, sym, ap, ◌∙◌}
use mathlib.Core.Bool.{Bool, true, false}
use mathlib.Core.List.{List, [], ◌∷◌, ◌++◌}
use Prim.Native.Nat.{ℕ, suc, ◌+◌, ◌-◌, ◌*◌, ◌/◌, ◌<◌, ◌≤◌}
use native.Mathlib.Omega.{arith}
use lib.ListN.{length, drop, length-append}
use borrow.Author.Tests.{lt-leb, le-ltb}
use Rattle.fields.proofs.Basics.{never}
use Rattle.fields.specs.Choice.{if'}
use Rattle.forest.specs.Forest.{Node, span_of, kids_of, rest_of, forest}
use Rattle.forest.proofs.Stretch.{forest_induction, length_kids, length_rest, rest_part}
use Rattle.deflist.specs.Written.{Param, normal, no_args, slash, args, kwargs, kind_in, params_in}
use Rattle.deflist.specs.Written.{written}
use Rattle.deflist.specs.Unpack.{written_at, flat_at, check, next_state, count, advance, mode_of, modes_from, modes}
use Rattle.deflist.specs.Unpack.{start, is_slash, slash_from, first_slash, positional_only, from_star}
use Rattle.deflist.specs.Unpack.{finish, Internal, Outcome, accepted, refused, repeated, internal, run, unpack}
use Rattle.deflist.specs.Told.{told}
use Rattle.deflist.specs.Reading.{is_listed, Bounded, Exceeds}
use Rattle.deflist.specs.declared.Kind.{Kind}
use Rattle.deflist.specs.declared.Kind.TheVariants.{Normal, NoArgs, Slash, Args, KwArgs}
use Rattle.deflist.specs.declared.State.{State}
use Rattle.deflist.specs.declared.Check.{Check}
use Rattle.deflist.specs.declared.Check.TheVariants.{Fine, Broken, Repeated}
use Rattle.deflist.specs.declared.Flat.{Flat}
use Rattle.deflist.specs.declared.Counts.{Counts}
use Rattle.deflist.specs.declared.Unpacking.{Unpacking}
use Rattle.deflist.proofs.Reading.{list_end, list_on, listed_long}
use Rattle.deflist.proofs.Steps.{Cleared, run_stop, run_again, run_on_lem, clear_on, clear_start, bounded_on}

accepted≢internal : {P : Type 0} {c : Counts} {e : Internal} {r : Node} → accepted c ≡ internal e r → P
accepted≢internal h = never (cc)

refused≢internal : {P : Type 0} {n : ℕ} {s : Node} {e : Internal} {r : Node} → refused n s ≡ internal e r → P
refused≢internal h = never (cc)

repeated≢internal : {P : Type 0} {i : ℕ} {s : Node} {e : Internal} {r : Node} → repeated i s ≡ internal e r → P
repeated≢internal h = never (cc)

pub refused≢accepted : {P : Type 0} {n : ℕ} {r : Node} {c : Counts} → refused n r ≡ accepted c → P
refused≢accepted h = never (cc)

pub repeated≢accepted : {P : Type 0} {i : ℕ} {r : Node} {c : Counts} → repeated i r ≡ accepted c → P
repeated≢accepted h = never (cc)

-- what the last rule can give: the outcome before it, or a refusal
after_star_lem : {P : Type 0} (l : List Param) (o : Outcome) {x : Outcome} → from_star l o ≡ x → (o ≡ x → P)
    → ((n : ℕ) (r : Node) → refused n r ≡ x → P) → P
after_star_lem [] o h f g = f h
after_star_lem (p ∷ []) o h f g = g _ _ h
after_star_lem (p ∷ normal r n d ∷ l) o h f g = f h
after_star_lem (p ∷ no_args r ∷ l) o h f g = g _ _ h
after_star_lem (p ∷ slash r ∷ l) o h f g = g _ _ h
after_star_lem (p ∷ args r n ∷ l) o h f g = g _ _ h
after_star_lem (p ∷ kwargs r n ∷ l) o h f g = g _ _ h

pub at_end : {P : Type 0} (w : List Param) (star : Option Written) (c : Counts) {x : Outcome} → finish w star c ≡ x
    → (accepted c ≡ x → P) → ((n : ℕ) (r : Node) → refused n r ≡ x → P) → P
unfolding finish
at_end w None c h f g = f h
at_end w (Some i) c h f g = after_star_lem (drop i.0 w) (accepted c) h f g

run_internal : (before : List Param) (u : Unpacking) (l : List Param) {e : Internal} {r : Node} → Cleared u
    → run before u l ≡ internal e r → ⊥
unfolding run
run_internal before u [] clear h = at_end before u.index_of_star u.counts h accepted≢internal
    (λ n r x. refused≢internal x)
run_internal before u (p ∷ ps) {e} {r} clear h = go (check before u.state u.seen_optional p) refl
    (λ v w c q. run_internal w v ps c q)
  where
    go : (k : Check) → check before u.state u.seen_optional p ≡ k
        → ((v : Unpacking) (w : List Param) → Cleared v → run w v ps ≡ internal e r → ⊥) → ⊥
    go Fine f rest = rest _ _ (clear_on before u p ps clear f) (sym (run_on_lem before u p ps clear f) ∙ h)
    go (Broken n) f rest = refused≢internal (sym (run_stop before u p ps f) ∙ h)
    go (Repeated i) f rest = repeated≢internal (sym (run_again before u p ps f) ∙ h)

-- THEOREM: no list gives an internal error of def.rs (246, 274, 299)
pub no_internal_error : (l : List Param) {e : Internal} {r : Node} → unpack l ≡ internal e r → ⊥
unfolding unpack
no_internal_error [] h = run_internal [] (start (flat_at 0)) [] (clear_start (flat_at 0)) h
no_internal_error (p ∷ ps) {e} {r} h = go (is_slash (kind_in p)) refl
  where
    go : (b : Bool) → is_slash (kind_in p) ≡ b → ⊥
    go true f = refused≢internal (rw f at h)
    go false f = run_internal [] (start (positional_only (first_slash (p ∷ ps)))) (p ∷ ps)
        (clear_start (positional_only (first_slash (p ∷ ps)))) (rw f at h)

run_bounded : (before : List Param) (u : Unpacking) (l : List Param) (k : ℕ) {c : Counts} → Cleared u
    → Bounded (length before) k u.counts → run before u l ≡ accepted c → Bounded (length before + length l) k c
unfolding run advance
run_bounded before u [] k {c} clear b h =
    at_end before u.index_of_star u.counts h
    (λ e. let same : u.counts ≡ c = cc in let zero_more : length before + 0 ≡ length before = omega arith in
    rw (zero_more, ← same) b)
    (λ n r e. refused≢accepted e)
run_bounded before u (p ∷ ps) k {c} clear b h = go (check before u.state u.seen_optional p) refl
    (λ v w x y z. run_bounded w v ps k x y z)
  where
    long : length (before ++ p ∷ []) ≡ length before + 1
    long = length-append before (p ∷ [])

    more : Bounded (length (before ++ p ∷ [])) k (advance u (written_at (length before)) (kind_in p)).counts
    more = rw long (bounded_on u.state u.counts (kind_in p) b)

    go : (x : Check) → check before u.state u.seen_optional p ≡ x
        → ((v : Unpacking) (w : List Param) → Cleared v → Bounded (length w) k v.counts → run w v ps ≡ accepted c
        → Bounded (length w + length ps) k c) → Bounded (length before + suc (length ps)) k c
    go Fine f rest =
        let same : length (before ++ p ∷ []) + length ps ≡ length before + suc (length ps) = omega (arith, long) in
        rw same at (rest _ _ (clear_on before u p ps clear f) more (sym (run_on_lem before u p ps clear f) ∙ h))
    go (Broken n) f rest = refused≢accepted (sym (run_stop before u p ps f) ∙ h)
    go (Repeated i) f rest = repeated≢accepted (sym (run_again before u p ps f) ∙ h)

-- the position of the first `/` is within the list
pub slash_within : (i : ℕ) (l : List Param) → (positional_only (slash_from i l)).0 ≤ i + length l
unfolding slash_from
slash_within i [] = omega arith
slash_within i (p ∷ ps) = go (is_slash (kind_in p)) (slash_within (i + 1) ps)
  where
    go : (b : Bool) → (positional_only (slash_from (i + 1) ps)).0 ≤ i + 1 + length ps
        → (positional_only (if' b (λ _. Some (written_at i)) (λ _. slash_from (i + 1) ps))).0 ≤ i + suc (length ps)
    go true h = omega arith
    go false h = omega arith

pub bounded_start : (only : Flat) → Bounded 0 only.0 (start only).counts
unfolding start
bounded_start only = record {
  positional = omega arith;
  only = omega arith;
  args = tt;
  kwargs = tt;
  flat = omega arith;
}

bounded_wider : {m k : ℕ} {c : Counts} → Bounded m k c → k ≤ m → Bounded m m c
bounded_wider b h = record {
  positional = b.positional;
  only = omega (arith, b.only);
  args = b.args;
  kwargs = b.kwargs;
  flat = b.flat;
}

-- THEOREM: every number of an accepted answer is at most the length of the written list
pub accepted_bounded : (l : List Param) {c : Counts} → unpack l ≡ accepted c → Bounded (length l) (length l) c
unfolding unpack
accepted_bounded [] h = run_bounded [] (start (flat_at 0)) [] 0 (clear_start (flat_at 0)) (bounded_start (flat_at 0)) h
accepted_bounded (p ∷ ps) {c} h = go (is_slash (kind_in p)) refl
  where
    go : (b : Bool) → is_slash (kind_in p) ≡ b → Bounded (length (p ∷ ps)) (length (p ∷ ps)) c
    go true f = refused≢accepted (rw f at h)
    go false f =
        let only = positional_only (first_slash (p ∷ ps)) in
        let none_before : 0 + length (p ∷ ps) ≡ length (p ∷ ps) = omega arith in
        bounded_wider
        (rw none_before at (run_bounded
        [] (start only) (p ∷ ps) only.0 (clear_start only) (bounded_start only) (rw f at h)))
        (omega (arith, slash_within 0 (p ∷ ps)))

pub short_end : (t : List ℕ) → length t < 24 → is_listed t ≡ false
unfolding is_listed
short_end t s = rw (lt-leb 24 (length t) s) refl

-- LAW: a written list is shorter than its node's stretch has records
pub list_short : (ns : List ℕ) (i : ℕ) (t : List ℕ) → 24 * length (params_in ns (forest i t)) ≤ length t
list_short ns =
    forest_induction (λ i t. 24 * length (params_in ns (forest i t)) ≤ length t)
    (λ i t s. rw (list_end ns i t (short_end t s)) (omega arith))
    (λ i t big ks rs. go i t (is_listed t) refl rs)
  where
    go : (i : ℕ) (t : List ℕ) (b : Bool) → is_listed t ≡ b
        → 24 * length (params_in ns (forest (i + span_of t / 24) (rest_of t))) ≤ length (rest_of t)
        → 24 * length (params_in ns (forest i t)) ≤ length t
    go i t true e h = rw (list_on ns i t e refl, rest_part (span_of t) t refl)
        (omega (arith, h, length_rest t, listed_long t e))
    go i t false e h = rw (list_end ns i t e) (omega arith)

pub written_short : (ns : List ℕ) (i : ℕ) (t : List ℕ) → 24 * length (written ns i t) ≤ length t - 24
unfolding written
written_short ns i t = omega (arith, list_short ns (i + 1) (kids_of t), length_kids t)

-- a list of no more records than `most` has no more parameters
pub records_few : (most : ℕ) (kids : List ℕ) → length kids / 24 ≤ most → Exceeds most kids false
records_few most kids h = record {
  says = λ ns i. sym (le-ltb most (length (params_in ns (forest i kids))) (omega (arith, list_short ns i kids)));
}

-- what code returns as accepted is accepted
pub told_accepted : (o : Outcome) {c : Counts} → told o ≡ Ok c → o ≡ accepted c
told_accepted (accepted c) e = cc
told_accepted (refused n r) e = never (cc)
told_accepted (repeated i r) e = never (cc)
told_accepted (internal i r) e = never (cc)

-- num_positional_only does not change on the way
only_kept : (s : State) (c : Counts) (k : Kind) → (count s c k).num_positional_only ≡ c.num_positional_only
only_kept s c (Normal d) = refl
only_kept s c NoArgs = refl
only_kept s c Slash = refl
only_kept s c Args = refl
only_kept s c KwArgs = refl

run_only : (before : List Param) (u : Unpacking) (l : List Param) {c : Counts} → Cleared u
    → run before u l ≡ accepted c → c.num_positional_only ≡ u.counts.num_positional_only
unfolding run advance
run_only before u [] {c} clear h =
    at_end before u.index_of_star u.counts h
    (λ e. let same : u.counts ≡ c = cc in ap (λ (x : Counts). x.num_positional_only) (sym same))
    (λ n r e. refused≢accepted e)
run_only before u (p ∷ ps) {c} clear h = go (check before u.state u.seen_optional p) refl
    (λ v w x z. run_only w v ps x z)
  where
    go : (x : Check) → check before u.state u.seen_optional p ≡ x
        → ((v : Unpacking) (w : List Param) → Cleared v → run w v ps ≡ accepted c
        → c.num_positional_only ≡ v.counts.num_positional_only)
        → c.num_positional_only ≡ u.counts.num_positional_only
    go Fine f rest = rest _ _ (clear_on before u p ps clear f) (sym (run_on_lem before u p ps clear f) ∙ h)
        ∙ only_kept u.state u.counts (kind_in p)
    go (Broken n) f rest = refused≢accepted (sym (run_stop before u p ps f) ∙ h)
    go (Repeated i) f rest = repeated≢accepted (sym (run_again before u p ps f) ∙ h)

only_start : (only : Flat) → (start only).counts.num_positional_only ≡ only
unfolding start
only_start only = refl

slash_none : first_slash [] ≡ None
unfolding slash_from
slash_none = refl

-- LAW: an accepted list's num_positional_only is the position of its first `/`
pub accepted_only : (l : List Param) {c : Counts} → unpack l ≡ accepted c
    → c.num_positional_only ≡ positional_only (first_slash l)
unfolding unpack
accepted_only [] {c} h = run_only [] (start (flat_at 0)) [] {c = c} (clear_start (flat_at 0)) h
    ∙ only_start (flat_at 0) ∙ ap positional_only (sym slash_none)
accepted_only (p ∷ ps) {c} h = go (is_slash (kind_in p)) refl
  where
    go : (b : Bool) → is_slash (kind_in p) ≡ b → c.num_positional_only ≡ positional_only (first_slash (p ∷ ps))
    go true f = refused≢accepted (rw f at h)
    go false f =
        let only = positional_only (first_slash (p ∷ ps)) in
        run_only [] (start only) (p ∷ ps) {c = c} (clear_start only) (rw f at h) ∙ only_start only

-- LAW: there are no more modes than written parameters
modes_few : (s : State) (l : List Param) → length (modes_from s l) ≤ length l
unfolding modes_from
modes_few s [] = omega arith
modes_few s (p ∷ ps) = omega (
  arith,
  modes_few (next_state s (kind_in p)) ps,
  length-append (mode_of s (kind_in p)) (modes_from (next_state s (kind_in p)) ps),
  one s (kind_in p),
)
  where
    one : (s : State) (k : Kind) → length (mode_of s k) ≤ 1
    one s (Normal d) = omega arith
    one s NoArgs = omega arith
    one s Slash = omega arith
    one s Args = omega arith
    one s KwArgs = omega arith

pub modes_short : (l : List Param) → length (modes l) ≤ length l
unfolding modes
modes_short l = modes_few _ l
