-- A list of arguments in order with distinct names is accepted, with its counts and places (`ordered_unpacked`). Each
-- argument passes the rule of its kind at the stage that the walk has reached (`all_follow`), and repeats no name
-- (Names' `names_new`), so the walk goes to the end and counts every argument (`run_counted`; the induction is on the
-- arguments that are left). Counting p positional, n named, a star and a `**` in this order gives these numbers and
-- places (`positional_counted`, `named_counted`, `stars_counted`). Assumes nothing.
use Rattle.std.specs.Prelude.{None, Option, Some, ℕ}
use mathlib.Core.Path.{◌≡◌, refl, sym, ap, ◌∙◌}
use mathlib.Core.Bool.{false}
use mathlib.Core.List.{List, [], ◌∷◌, ◌++◌}
use Prim.Native.Nat.{ℕ, zero, suc, ◌+◌}
use native.Mathlib.Omega.{arith}
use lib.ListN.{length, replicate, length-append}
use lib.Seq.{append_snoc}
use Rattle.forest.specs.Names.{Distinct}
use Rattle.fields.proofs.Basics.{never}
use Rattle.arguments.specs.Written.{Argument, kind_in}
use Rattle.arguments.specs.Call.{past_named, in_kwargs, rule, check, next_stage, counts, count, advance, given}
use Rattle.arguments.specs.Call.{unpacked, bit, run, start, unpack}
use Rattle.arguments.specs.Accepted.{kinds_of, one, Placed, names_of, Ordered}
use Rattle.arguments.specs.declared.Kind.{Kind}
use Rattle.arguments.specs.declared.Kind.TheVariants.{Positional, Named, Args, KwArgs}
use Rattle.arguments.specs.declared.ArgsStage.{ArgsStage}
use Rattle.arguments.specs.declared.ArgsStage.TheVariants.{Positional as AtPositional, Named as AtNamed}
use Rattle.arguments.specs.declared.ArgsStage.TheVariants.{Args as AtArgs, Kwargs as AtKwargs}
use Rattle.arguments.specs.declared.Check.TheVariants.{Fine}
use Rattle.arguments.specs.declared.CallArgs.{CallArgs}
use Rattle.arguments.specs.declared.Walk.{Walk}
use Rattle.arguments.proofs.Names.{names_new}
use Rattle.arguments.proofs.Order.{Walked, walked_start, walked_more, run_more, run_last, order_total}
use Rattle.arguments.proofs.Order.{kinds_long}

add_none : (n : ℕ) → n + 0 ≡ n
add_none n = omega arith

one_on : (n m : ℕ) → n + 1 + m ≡ n + suc m
one_on n m = omega arith

-- arguments of these kinds may follow at a stage, names aside
abbrev Follows : ArgsStage → List Kind → Type 0
Follows s [] = Unit {0}
Follows s (k ∷ ks) = (rule s None k ≡ Fine) × Follows (next_stage s k) ks

not_last : (s : ArgsStage) → past_named s ≡ false → in_kwargs s ≡ false
not_last AtPositional e = refl
not_last AtNamed e = refl
not_last AtArgs e = never (cc)
not_last AtKwargs e = never (cc)

module _ (k : Option ℕ) where
  kwargs_follow : (s : ArgsStage) → in_kwargs s ≡ false → Follows s (one k KwArgs)
  kwargs_follow s h = go k
    where
      go : (k : Option ℕ) → Follows s (one k KwArgs)
      go (Some i) = (rw h refl, tt)
      go None = tt

  args_follow : (a : Option ℕ) (s : ArgsStage) → past_named s ≡ false → Follows s (one a Args ++ one k KwArgs)
  args_follow (Some i) s h = (rw h refl, kwargs_follow AtArgs refl)
  args_follow None s h = kwargs_follow s (not_last s h)

  named_follow : (n : ℕ) (a : Option ℕ) (s : ArgsStage) → past_named s ≡ false
      → Follows s (replicate n Named ++ (one a Args ++ one k KwArgs))
  named_follow zero a s h = args_follow a s h
  named_follow (suc n) a s h = (rw h refl, named_follow n a AtNamed refl)

  all_follow : (p n : ℕ) (a : Option ℕ)
      → Follows AtPositional (replicate p Positional ++ (replicate n Named ++ (one a Args ++ one k KwArgs)))
  all_follow zero n a = named_follow n a AtPositional refl
  all_follow (suc p) n a = (refl, all_follow p n a)

-- arguments of these kinds counted, the first of them at place i
abbrev counted : CallArgs → ℕ → List Kind → CallArgs
counted c i [] = c
counted c i (k ∷ ks) = counted (count c i k) (i + 1) ks

-- LAW: what may follow with names that stay distinct is accepted, and counted
run_counted : (before l : List Argument) (w : Walk) → Walked before w → Follows w.stage (kinds_of l)
    → Distinct (names_of (before ++ l)) → run before w l ≡ unpacked (counted w.counts (length before) (kinds_of l))
unfolding check advance
run_counted before [] w o f d = run_last before w (sym (order_total o) ∙ kinds_long before)
run_counted before (p ∷ ps) w o f d =
    let fine : check before w.stage p ≡ Fine = rw (names_new before p ps d) f.0 in
    let long : length (before ++ p ∷ []) ≡ length before + 1 = simp length-append in
    run_more before w p ps fine o
    ∙ run_counted (before ++ p ∷ []) ps (advance w (length before) (kind_in p)) (walked_more before w p ps fine o)
    f.1 (rw append_snoc d)
    ∙ rw long refl

-- m positional ones counted, m named ones, then a star and a `**`
positional_counted : (m p n i : ℕ) (ks : List Kind)
    → counted (counts p n None None) i (replicate m Positional ++ ks)
    ≡ counted (counts (p + m) n None None) (i + m) ks
positional_counted zero p n i ks = rw (add_none p, add_none i) refl
positional_counted (suc m) p n i ks = positional_counted m (p + 1) n (i + 1) ks ∙ rw (one_on p m, one_on i m) refl

named_counted : (m p n i : ℕ) (ks : List Kind) → counted (counts p n None None) i (replicate m Named ++ ks)
    ≡ counted (counts p (n + m) None None) (i + m) ks
named_counted zero p n i ks = rw (add_none n, add_none i) refl
named_counted (suc m) p n i ks = named_counted m p (n + 1) (i + 1) ks ∙ rw (one_on n m, one_on i m) refl

stars_counted : (a k : Option ℕ) (p n i : ℕ) → Placed a i → Placed k (i + bit (given a))
    → counted (counts p n None None) i (one a Args ++ one k KwArgs) ≡ counts p n a k
stars_counted (Some x) (Some y) p n i e h = rw (e, h) refl
stars_counted (Some x) None p n i e h = rw e refl
stars_counted None (Some y) p n i e h = let here : y ≡ i = omega arith in rw here refl
stars_counted None None p n i e h = refl

-- THEOREM: a list in order with distinct names is accepted, with its counts and places
pub ordered_unpacked : (l : List Argument) (c : CallArgs) → Ordered l c → unpack l ≡ unpacked c
unfolding unpack
ordered_unpacked l c o =
    let p = c.num_pos in
    let n = c.num_named in
    let only-p : 0 + p ≡ p = omega arith in
    let only-n : 0 + n ≡ n = omega arith in
    run_counted [] l start walked_start (rw o.kinds (all_follow c.star_star p n c.star)) o.distinct
    ∙ ap unpacked (rw (o.kinds, positional_counted p 0 0 0, only-p, named_counted n p 0 p, only-n)
    (stars_counted c.star c.star_star p n (p + n) o.star_at o.kwargs_at))
