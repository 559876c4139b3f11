-- One step of `unpack`, and the walk from one step to the next. A parameter that keeps the rule of its kind finds its
-- place free: in each state, what comes later (`*`, `*args`, `**kwargs`) is not there yet (`Clear`; `free` goes through
-- state and kind). So a fine check always gives the next state (`step_on`, `run_on_lem`), which is clear again
-- (`clear_on`), and the internal errors have no way to arise. A refusal stops the walk (`run_stop`, `run_again`). Each
-- parameter adds at most one to what is counted (`bounded_on`). Assumes nothing.
use Rattle.std.specs.Prelude.{None, Option, Some, ℕ}
use mathlib.Core.Path.{◌≡◌, refl}
use mathlib.Core.Bool.{Bool, true, false}
use mathlib.Core.List.{List, [], ◌∷◌, ◌++◌}
use Prim.Native.Nat.{ℕ, ◌+◌, ◌≤◌}
use native.Mathlib.Omega.{arith}
use lib.ListN.{length}
use lib.Dec.{eqb}
use Rattle.fields.proofs.Basics.{never}
use Rattle.fields.specs.Choice.{if'}
use Rattle.deflist.specs.Written.{Param, node_in, kind_in}
use Rattle.deflist.specs.Unpack.{written_at, flat_at, counts, rule, firstly, repeats, check, start}
use Rattle.deflist.specs.Unpack.{next_state, next_star, more_positional, count, advance, on, stop}
use Rattle.deflist.specs.Unpack.{again, keep, step, refused, repeated, run}
use Rattle.deflist.specs.Reading.{PlaceBelow, Bounded}
use Rattle.deflist.specs.declared.Kind.{Kind}
use Rattle.deflist.specs.declared.Kind.TheVariants.{Normal, NoArgs, Slash, Args, KwArgs}
use Rattle.deflist.specs.declared.State.{State}
use Rattle.deflist.specs.declared.State.TheVariants.{Normal as BeforeSlash, SeenSlash, SeenStar, SeenStarStar}
use Rattle.deflist.specs.declared.Check.{Check}
use Rattle.deflist.specs.declared.Check.TheVariants.{Fine, Broken, Repeated}
use Rattle.deflist.specs.declared.Written.{Written}
use Rattle.deflist.specs.declared.Flat.{Flat}
use Rattle.deflist.specs.declared.Counts.{Counts}
use Rattle.deflist.specs.declared.Unpacking.{Unpacking}

pub broken≢fine : {P : Type 0} {n : ℕ} → Broken n ≡ Fine → P
broken≢fine e = never (cc)

pub repeated≢fine : {P : Type 0} {i : ℕ} → Repeated i ≡ Fine → P
repeated≢fine e = never (cc)

-- what cannot be there yet in a state
abbrev pub Clear : State → Option Written → Counts → Type 0
Clear BeforeSlash star c = (star ≡ None) × (c.args ≡ None) × (c.kwargs ≡ None)
Clear SeenSlash star c = (star ≡ None) × (c.args ≡ None) × (c.kwargs ≡ None)
Clear SeenStar star c = c.kwargs ≡ None
Clear SeenStarStar star c = Unit {0}

-- a parameter that keeps its rule finds its place free
free : (s : State) (o : Bool) (star : Option Written) (c : Counts) (i : Written) (k : Kind) → Clear s star c
    → rule s o k ≡ Fine
    → ((v : Unpacking) → v.index_of_star ≡ star → v.counts ≡ c → keep v i k ≡ on (advance v i k))
    × Clear (next_state s k) (next_star star i k) (count s c k)
free BeforeSlash o star c i (Normal d) x e = (λ v a b. refl, x)
free BeforeSlash o star c i NoArgs x e = (λ v a b. rw (a, x.0) refl, x.2)
free BeforeSlash o star c i Slash x e = (λ v a b. refl, x)
free BeforeSlash o star c i Args x e = (λ v a b. rw (b, x.1) refl, x.2)
free BeforeSlash o star c i KwArgs x e = (λ v a b. rw (b, x.2) refl, tt)
free SeenSlash o star c i (Normal d) x e = (λ v a b. refl, x)
free SeenSlash o star c i NoArgs x e = (λ v a b. rw (a, x.0) refl, x.2)
free SeenSlash o star c i Slash x e = broken≢fine e
free SeenSlash o star c i Args x e = (λ v a b. rw (b, x.1) refl, x.2)
free SeenSlash o star c i KwArgs x e = (λ v a b. rw (b, x.2) refl, tt)
free SeenStar o star c i (Normal d) x e = (λ v a b. refl, x)
free SeenStar o star c i NoArgs x e = broken≢fine e
free SeenStar o star c i Slash x e = broken≢fine e
free SeenStar o star c i Args x e = broken≢fine e
free SeenStar o star c i KwArgs x e = (λ v a b. rw (b, x) refl, tt)
free SeenStarStar o star c i (Normal d) x e = broken≢fine e
free SeenStarStar o star c i NoArgs x e = broken≢fine e
free SeenStarStar o star c i Slash x e = broken≢fine e
free SeenStarStar o star c i Args x e = broken≢fine e
free SeenStarStar o star c i KwArgs x e = broken≢fine e

-- nothing that cannot be there yet is there
abbrev pub Cleared : Unpacking → Type 0
Cleared u = Clear u.state u.index_of_star u.counts

-- a fine check passes 11 and the rule of the kind
check_rule : (f : Option ℕ) (c : Check) → firstly f c ≡ Fine → c ≡ Fine
check_rule (Some i) c e = repeated≢fine e
check_rule None c e = e

module _ (before : List Param) (u : Unpacking) (p : Param) (ps : List Param) where
  pub step_stop : {n : ℕ} → check before u.state u.seen_optional p ≡ Broken n → step before u p ≡ stop n
  unfolding step
  step_stop e = rw e refl

  pub run_stop : {n : ℕ} → check before u.state u.seen_optional p ≡ Broken n
      → run before u (p ∷ ps) ≡ refused n (node_in p)
  unfolding run
  run_stop e = rw (step_stop e) refl

  pub step_again : {i : ℕ} → check before u.state u.seen_optional p ≡ Repeated i → step before u p ≡ again i
  unfolding step
  step_again e = rw e refl

  pub run_again : {i : ℕ} → check before u.state u.seen_optional p ≡ Repeated i
      → run before u (p ∷ ps) ≡ repeated i (node_in p)
  unfolding run
  run_again e = rw (step_again e) refl

  module _ (clear : Cleared u) (fine : check before u.state u.seen_optional p ≡ Fine) where
    kept : rule u.state u.seen_optional (kind_in p) ≡ Fine
    kept = check_rule (repeats before p) _ fine

    pub step_on : step before u p ≡ on (advance u (written_at (length before)) (kind_in p))
    unfolding step
    step_on = rw (
      fine,
      (free u.state u.seen_optional u.index_of_star u.counts
          (written_at (length before)) (kind_in p) clear kept).0 u refl refl,
    ) refl

    pub run_on_lem : run before u (p ∷ ps) ≡ run (before ++ p ∷ []) (advance u (written_at (length before)) (kind_in p))
        ps
    unfolding run
    run_on_lem = rw step_on refl

    pub clear_on : Cleared (advance u (written_at (length before)) (kind_in p))
    unfolding advance
    clear_on = (free u.state u.seen_optional u.index_of_star u.counts (written_at (length before))
        (kind_in p) clear kept).1

pub clear_start : (only : Flat) → Cleared (start only)
unfolding start
clear_start only = go (eqb only.0 0)
  where
    go : (b : Bool) → Clear (if' b (λ _. SeenSlash) (λ _. BeforeSlash)) None
        (counts (flat_at 0) only None None (flat_at 0))
    go true = (refl, refl, refl)
    go false = (refl, refl, refl)

place_more : (m : ℕ) (p : Option Flat) → PlaceBelow m p → PlaceBelow (m + 1) p
place_more m None h = tt
place_more m (Some i) h = omega arith

positional_more : (s : State) (m : ℕ) (n : Flat) → n.0 ≤ m → (more_positional s n).0 ≤ m + 1
positional_more BeforeSlash m n h = omega arith
positional_more SeenSlash m n h = omega arith
positional_more SeenStar m n h = omega arith
positional_more SeenStarStar m n h = omega arith

-- a mark counts nothing, and any other parameter one
bounded_more : {m k : ℕ} (c : Counts) → Bounded m k c → Bounded (m + 1) k c
bounded_more {m} c b = record {
  positional = omega (arith, b.positional);
  only = b.only;
  args = place_more m c.args b.args;
  kwargs = place_more m c.kwargs b.kwargs;
  flat = omega (arith, b.flat);
}

pub bounded_on : {m k : ℕ} (s : State) (c : Counts) (kd : Kind) → Bounded m k c → Bounded (m + 1) k (count s c kd)
bounded_on {m} s c (Normal d) b = record {
  positional = positional_more s m c.num_positional b.positional;
  only = b.only;
  args = place_more m c.args b.args;
  kwargs = place_more m c.kwargs b.kwargs;
  flat = omega (arith, b.flat);
}
bounded_on s c NoArgs b = bounded_more c b
bounded_on s c Slash b = bounded_more c b
bounded_on {m} s c Args b = record {
  positional = omega (arith, b.positional);
  only = b.only;
  args = omega (arith, b.flat);
  kwargs = place_more m c.kwargs b.kwargs;
  flat = omega (arith, b.flat);
}
bounded_on {m} s c KwArgs b = record {
  positional = omega (arith, b.positional);
  only = b.only;
  args = place_more m c.args b.args;
  kwargs = omega (arith, b.flat);
  flat = omega (arith, b.flat);
}

-- what is known is known part by part
pub unpacking_is : (u v : Unpacking) → u.state ≡ v.state → u.seen_optional ≡ v.seen_optional
    → u.index_of_star ≡ v.index_of_star → u.counts ≡ v.counts → u ≡ v
unpacking_is u v state optional star counts =
    λ i. record { state = state i; seen_optional = optional i; index_of_star = star i; counts = counts i }
