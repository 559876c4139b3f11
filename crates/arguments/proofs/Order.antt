-- What the walk over the arguments keeps (`Order`): the kinds so far are positional, then named, then a star,
-- then a `**`, as the counts say, and what belongs to a later stage is not there yet (`Free`). A fine argument keeps
-- it, kind by kind and stage by stage (`walked_more`). So the places that `unpack` would find taken are free, and its
-- internal errors never arise (`no_internal_error`); and an accepted list is in order with distinct names
-- (`unpacked_ordered`). Both are by induction on the arguments that are left. Assumes nothing.
use Rattle.std.specs.Prelude.{None, Option, Some, ℕ}
use mathlib.Core.Path.{◌≡◌, refl, sym, ap, ◌∙◌}
use mathlib.Core.Bool.{false}
use mathlib.Core.List.{List, [], ◌∷◌, ◌++◌, append_assoc, append-nil}
use Prim.Native.Nat.{ℕ, zero, suc, ◌+◌}
use native.Mathlib.Numerals.{add-one}
use native.Mathlib.Omega.{arith}
use lib.ListN.{length, replicate, length-append, length-replicate}
use lib.Seq.{append_snoc}
use borrow.Author.Tests.{eq-eqb}
use Rattle.forest.specs.Names.{Distinct}
use Rattle.fields.proofs.Basics.{never}
use Rattle.arguments.specs.Written.{Argument, kind_in}
use Rattle.arguments.specs.Call.{rule, check, next_stage, count, advance, given, taken, Outcome, unpacked}
use Rattle.arguments.specs.Call.{refused_with, repeated_name, internal_error, bit, total, run}
use Rattle.arguments.specs.Call.{start, unpack}
use Rattle.arguments.specs.Accepted.{kinds_of, one, in_order, Placed, names_of, Ordered, Expected}
use Rattle.arguments.specs.declared.Kind.{Kind}
use Rattle.arguments.specs.declared.Kind.TheVariants.{Positional, Named, Args, KwArgs}
use Rattle.arguments.specs.declared.ArgsStage.{ArgsStage}
use Rattle.arguments.specs.declared.ArgsStage.TheVariants.{Positional as AtPositional, Named as AtNamed}
use Rattle.arguments.specs.declared.ArgsStage.TheVariants.{Args as AtArgs, Kwargs as AtKwargs}
use Rattle.arguments.specs.declared.Check.{Check}
use Rattle.arguments.specs.declared.Check.TheVariants.{Fine, Broken, Repeated}
use Rattle.arguments.specs.declared.CallArgs.{CallArgs}
use Rattle.arguments.specs.declared.Walk.{Walk}
use Rattle.arguments.proofs.Names.{names_more, fine_new}

replicate_more : (n : ℕ) (k : Kind) → replicate n k ++ (k ∷ []) ≡ replicate (n + 1) k
replicate_more n k = simp add-one (go n)
  where
    go : (n : ℕ) → replicate n k ++ (k ∷ []) ≡ k ∷ replicate n k
    go zero = refl
    go (suc n) = ap (λ (l : List Kind). k ∷ l) (go n)

-- what no argument was yet, at a stage
abbrev Free : ArgsStage → CallArgs → Type 0
Free AtPositional c = (c.num_named ≡ 0) × (c.star ≡ None) × (c.star_star ≡ None)
Free AtNamed c = (c.star ≡ None) × (c.star_star ≡ None)
Free AtArgs c = c.star_star ≡ None
Free AtKwargs c = Unit {0}

-- the walk over arguments of these kinds has come to a stage, and has counted them
pub record Order (ks : List Kind) (s : ArgsStage) (c : CallArgs) : Type 0 where
  pub free : Free s c
  pub kinds : ks ≡ in_order c
  pub star_at : Placed c.star (c.num_pos + c.num_named)
  pub kwargs_at : Placed c.star_star (c.num_pos + c.num_named + bit (given c.star))

one_long : (p : Option ℕ) (k : Kind) → length (one p k) ≡ bit (given p)
one_long (Some i) k = refl
one_long None k = refl

-- LAW: as many as there are
pub order_total : {ks : List Kind} {s : ArgsStage} {c : CallArgs} → Order ks s c → length ks ≡ total c
order_total {ks} {s} {c} o = ap length o.kinds
    ∙ simp (length-append, length-replicate, one_long) (omega arith)

-- one argument more
module _ (ks : List Kind) (c : CallArgs) where
  more_positional_lem : Order ks AtPositional c
      → Order (ks ++ Positional ∷ []) AtPositional (count c (length ks) Positional)
  more_positional_lem o = record {
    free = o.free;
    kinds = rw (o.kinds, o.free.0, o.free.1, o.free.2)
        (simp (append-nil, replicate_more c.num_pos Positional));
    star_at = rw o.free.1 tt;
    kwargs_at = rw o.free.2 tt;
  }

  module _ {s : ArgsStage} (o : Order ks s c) where
    more_named : c.star ≡ None → c.star_star ≡ None
        → Order (ks ++ Named ∷ []) AtNamed (count c (length ks) Named)
    more_named no_star_lem no_kwargs_lem = record {
      free = (no_star_lem, no_kwargs_lem);
      kinds = rw (o.kinds, no_star_lem, no_kwargs_lem)
          (simp (append-nil, append_assoc, replicate_more c.num_named Named));
      star_at = rw no_star_lem tt;
      kwargs_at = rw no_kwargs_lem tt;
    }

    more_args : c.star ≡ None → c.star_star ≡ None
        → Order (ks ++ Args ∷ []) AtArgs (count c (length ks) Args)
    more_args no_star_lem no_kwargs_lem = record {
      free = no_kwargs_lem;
      kinds = rw (o.kinds, no_star_lem, no_kwargs_lem) (simp (append-nil, append_assoc));
      star_at = omega (arith, rw (no_star_lem, no_kwargs_lem) at (order_total o));
      kwargs_at = rw no_kwargs_lem tt;
    }

    more_kwargs : c.star_star ≡ None → Order (ks ++ KwArgs ∷ []) AtKwargs (count c (length ks) KwArgs)
    more_kwargs no_kwargs_lem = record {
      free = tt;
      kinds = rw (o.kinds, no_kwargs_lem) (simp (append-nil, append_assoc));
      star_at = o.star_at;
      kwargs_at = omega (arith, rw no_kwargs_lem at (order_total o));
    }

-- LAW: an argument that keeps its rule was not given before, and is in order
pub more : (ks : List Kind) (s : ArgsStage) (c : CallArgs) (k : Kind) (f : Option ℕ) → rule s f k ≡ Fine → Order ks s c
    → (taken c k ≡ false) × Order (ks ++ k ∷ []) (next_stage s k) (count c (length ks) k)
more ks AtPositional c Positional f e o = (refl, more_positional_lem ks c o)
more ks AtNamed c Positional f e o = never (cc)
more ks AtArgs c Positional f e o = never (cc)
more ks AtKwargs c Positional f e o = never (cc)
more ks AtPositional c Named f e o = (refl, more_named ks c o o.free.1 o.free.2)
more ks AtNamed c Named f e o = (refl, more_named ks c o o.free.0 o.free.1)
more ks AtArgs c Named f e o = never (cc)
more ks AtKwargs c Named f e o = never (cc)
more ks AtPositional c Args f e o = (rw o.free.1 refl, more_args ks c o o.free.1 o.free.2)
more ks AtNamed c Args f e o = (rw o.free.0 refl, more_args ks c o o.free.0 o.free.1)
more ks AtArgs c Args f e o = never (cc)
more ks AtKwargs c Args f e o = never (cc)
more ks AtPositional c KwArgs f e o = (rw o.free.2 refl, more_kwargs ks c o o.free.2)
more ks AtNamed c KwArgs f e o = (rw o.free.1 refl, more_kwargs ks c o o.free.1)
more ks AtArgs c KwArgs f e o = (rw o.free refl, more_kwargs ks c o o.free)
more ks AtKwargs c KwArgs f e o = never (cc)

-- the walk after some arguments
abbrev pub Walked : List Argument → Walk → Type 0
Walked before w = Order (kinds_of before) w.stage w.counts

pub walked_start : Walked [] start
walked_start = record { free = (refl, refl, refl); kinds = refl; star_at = tt; kwargs_at = tt }

kinds_more : (before : List Argument) (p : Argument) → kinds_of (before ++ p ∷ []) ≡ kinds_of before ++ kind_in p ∷ []
kinds_more [] p = refl
kinds_more (q ∷ before) p = ap (λ (l : List Kind). kind_in q ∷ l) (kinds_more before p)

pub kinds_long : (l : List Argument) → length (kinds_of l) ≡ length l
kinds_long [] = refl
kinds_long (p ∷ l) = ap suc (kinds_long l)

-- LAW: an argument that passes the check is taken
module _ (before : List Argument) (w : Walk) (p : Argument) (ps : List Argument)
    (fine : check before w.stage p ≡ Fine) where
  pub run_passes : taken w.counts (kind_in p) ≡ false
      → run before w (p ∷ ps) ≡ run (before ++ p ∷ []) (advance w (length before) (kind_in p)) ps
  unfolding run
  run_passes free = rw (fine, free) refl

  module _ (o : Walked before w) where
    pub walked_more : Walked (before ++ p ∷ []) (advance w (length before) (kind_in p))
    unfolding advance check
    walked_more = rw (kinds_more, ← (kinds_long before))
        (more (kinds_of before) w.stage w.counts (kind_in p) _ fine o).1

    pub run_more : run before w (p ∷ ps) ≡ run (before ++ p ∷ []) (advance w (length before) (kind_in p)) ps
    unfolding check
    run_more = run_passes (more (kinds_of before) w.stage w.counts (kind_in p) _ fine o).0

-- LAW: after the last argument, all are counted
pub run_last : (before : List Argument) (w : Walk) → total w.counts ≡ length before
    → run before w [] ≡ unpacked w.counts
unfolding run
run_last before w e = rw (eq-eqb (total w.counts) (length before) e) refl

-- how the walk ends: with a list in order, or refused
abbrev Ended : List Argument → Outcome → Type 0
Ended l (unpacked a) = Ordered l a
Ended l (refused_with n r) = Unit {0}
Ended l (repeated_name i r) = Unit {0}
Ended l internal_error = ⊥

run_ended : (before l : List Argument) (w : Walk) → Walked before w → Distinct (names_of before)
    → Ended (before ++ l) (run before w l)
unfolding run
run_ended before [] w o d =
    rw (run_last before w (sym (order_total o) ∙ kinds_long before), append-nil)
    (record { kinds = o.kinds; star_at = o.star_at; kwargs_at = o.kwargs_at; distinct = d })
run_ended before (p ∷ ps) w o d = go (check before w.stage p) refl
    (λ (fine : check before w.stage p ≡ Fine). rw append_snoc at
    (run_ended (before ++ p ∷ []) ps (advance w (length before) (kind_in p)) (walked_more before w p ps fine o)
    (names_more before p d (fine_new before w.stage p fine))))
  where
    go : (c : Check) → check before w.stage p ≡ c
        → (check before w.stage p ≡ Fine
        → Ended (before ++ p ∷ ps) (run (before ++ p ∷ []) (advance w (length before) (kind_in p)) ps))
        → Ended (before ++ p ∷ ps) (run before w (p ∷ ps))
    go Fine e rest = rw (run_more before w p ps e o) (rest e)
    go (Broken n) e rest = rw e tt
    go (Repeated i) e rest = rw e tt

ended : (l : List Argument) → Ended l (unpack l)
unfolding unpack
ended l = run_ended [] l start walked_start (λ i j h g e. absurd (omega arith))

-- THEOREM: no list of arguments gives an internal error
pub no_internal_error : (l : List Argument) → Expected (unpack l)
no_internal_error l = go (unpack l) (ended l)
  where
    go : (o : Outcome) → Ended l o → Expected o
    go (unpacked a) e = tt
    go (refused_with n r) e = tt
    go (repeated_name i r) e = tt
    go internal_error e = e

-- THEOREM: an accepted list is positional, then named, then at most one star, then at most one `**`, names distinct,
-- as many as the answer says, with its places
pub unpacked_ordered : (l : List Argument) (c : CallArgs) → unpack l ≡ unpacked c → Ordered l c
unpacked_ordered l c e = rw e at (ended l)
