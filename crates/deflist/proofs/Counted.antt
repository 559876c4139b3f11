-- "Too many parameters" (def.rs:171) and the unwraps (280, 305, 346) turn numbers into u32: the written position of
-- `/`, the flat count and num_positional on the way. In no list, accepted or refused, is any of them larger than the
-- list is long (`counted_at_most`). The induction is on the list: each parameter adds at most one to each number
-- (Steps' `bounded_on`), and the walk has read one parameter more. Assumes nothing.
use Rattle.std.specs.Prelude.{None, Option, Some}
use mathlib.Core.Path.{◌≡◌, refl}
use mathlib.Core.Bool.{Bool, true, false}
use mathlib.Core.List.{List, [], ◌∷◌, ◌++◌}
use Prim.Native.Nat.{ℕ, suc, ◌+◌, ◌≤◌}
use native.Mathlib.Omega.{arith}
use lib.ListN.{length, length-append}
use Rattle.fields.specs.Choice.{if'}
use Rattle.deflist.specs.Written.{Param, kind_in}
use Rattle.deflist.specs.Unpack.{step, written_at, flat_at, advance, start, is_slash}
use Rattle.deflist.specs.Unpack.{first_slash, positional_only, check}
use Rattle.deflist.specs.Reading.{PlaceBelow, Bounded}
use Rattle.deflist.specs.Reached.{onward, through, reached, AllAtMost}
use Rattle.deflist.specs.declared.Check.{Check}
use Rattle.deflist.specs.declared.Check.TheVariants.{Fine, Broken, Repeated}
use Rattle.deflist.specs.declared.Flat.{Flat}
use Rattle.deflist.specs.declared.Counts.{Counts}
use Rattle.deflist.specs.declared.Unpacking.{Unpacking}
use Rattle.deflist.proofs.Steps.{Cleared, step_on, step_stop, step_again, clear_on, clear_start, bounded_on}
use Rattle.deflist.proofs.Theorems.{slash_within, bounded_start}

place_wider : {m n : ℕ} (p : Option Flat) → m ≤ n → PlaceBelow m p → PlaceBelow n p
place_wider None h b = tt
place_wider (Some i) h b = omega arith

bounded_most : {m k n : ℕ} {c : Counts} → Bounded m k c → m ≤ n → k ≤ n → Bounded n n c
bounded_most {c = c} b h g = record {
  positional = omega (arith, b.positional);
  only = omega (arith, b.only);
  args = place_wider c.args h b.args;
  kwargs = place_wider c.kwargs h b.kwargs;
  flat = omega (arith, b.flat);
}

-- from a state on, whose numbers are at most the parameters before it
through_bounded : (n k : ℕ) → k ≤ n → (before : List Param) (u : Unpacking) (l : List Param) → Cleared u
    → Bounded (length before) k u.counts → length before + length l ≤ n → AllAtMost n (through before u l)
unfolding through AllAtMost advance
through_bounded n k g before u [] clear b h = (bounded_most b (omega arith) g, tt)
through_bounded n k g before u (p ∷ ps) clear b h = (
  bounded_most b (omega arith) g,
  go (check before u.state u.seen_optional p) refl (λ v w x y z. through_bounded n k g w v ps x y z),
)
  where
    long : length (before ++ p ∷ []) ≡ length before + 1
    long = length-append before (p ∷ [])

    more : Bounded (length (before ++ p ∷ [])) k (advance u (written_at (length before)) (kind_in p)).counts
    more = rw long (bounded_on u.state u.counts (kind_in p) b)

    go : (x : Check) → check before u.state u.seen_optional p ≡ x
        → ((v : Unpacking) (w : List Param) → Cleared v → Bounded (length w) k v.counts → length w + length ps ≤ n
        → AllAtMost n (through w v ps))
        → AllAtMost n (onward (step before u p) (λ v. through (before ++ p ∷ []) v ps))
    go Fine f rest = rw (step_on before u p ps clear f)
        (rest _ _ (clear_on before u p ps clear f) more (omega (arith, long)))
    go (Broken m) f rest = rw (step_stop before u p ps f) tt
    go (Repeated i) f rest = rw (step_again before u p ps f) tt

-- THEOREM: in every list, accepted or refused, each number that unpack counts is at most the length of the list, in
-- every state
pub counted_at_most : (l : List Param) → AllAtMost (length l) (reached l)
unfolding reached AllAtMost
counted_at_most [] = through_bounded 0 0 (omega arith) [] (start (flat_at 0)) [] (clear_start (flat_at 0))
    (bounded_start (flat_at 0)) (omega arith)
counted_at_most (p ∷ ps) = go (is_slash (kind_in p))
  where
    only : Flat
    only = positional_only (first_slash (p ∷ ps))

    go : (b : Bool) → AllAtMost (suc (length ps)) (if' b (λ _. []) (λ _. through [] (start only) (p ∷ ps)))
    go true = tt
    go false = through_bounded (suc (length ps)) only.0 (omega (arith, slash_within 0 (p ∷ ps))) [] (start only)
        (p ∷ ps) (clear_start only) (bounded_start only) (omega arith)

-- THEOREM: and so is the written position of its first `/`
pub slash_at_most : (l : List Param) → (positional_only (first_slash l)).0 ≤ length l
slash_at_most l = omega (arith, slash_within 0 l)

pub at_most_wider : (m n : ℕ) → m ≤ n → (us : List Unpacking) → AllAtMost m us → AllAtMost n us
unfolding AllAtMost
at_most_wider m n h [] a = tt
at_most_wider m n h (u ∷ us) a = (bounded_most a.0 h h, at_most_wider m n h us a.1)
