-- How a job begins, in the terms of code: on a node it gives 1 to 4 and 6, in a dialect 1 to 5. Each return of `enter`
-- and `enter_dialect` is one law (`entry_refused` to `entry_passed`, `given_refused` and `given_read`): the check is
-- known, so the definition computes. What a job then knows is `entry_sound` (the check passed and the node fits) and
-- `given_known` (the table is clean and the bytes are the dialect's), by cases on both steps. Jobs cite `job_refused`
-- and `job_rule` at their returns, and `job_long`, `job_within`, `job_small` for the bounds of their stretch. Assumes
-- nothing.
use Rattle.std.specs.Prelude.{Err, None, Ok, Option, Result, Some}
use mathlib.Core.Path.{◌≡◌, refl, sym, ap, ◌∙◌}
use mathlib.Core.Bool.{Bool, true, false}
use mathlib.Core.List.{List, []}
use Prim.Native.Nat.{ℕ, ◌+◌, ◌*◌, ◌<◌, ◌≤◌}
use native.Mathlib.Omega.{arith}
use lib.ListN.{length}
use Rattle.fields.proofs.Basics.{never}
use Rattle.fields.specs.Choice.{if'}
use Rattle.dialect.specs.Bytes.{from_bytes}
use Rattle.dialect.specs.declared.Dialect.{Dialect}
use Rattle.forest.specs.Forest.{Tree, tree_of}
use Rattle.table.specs.Numbers.{bad_dialect, wrong_node}
use Rattle.table.specs.Answer.{Answer, accepted, refused, and_then, number_of, carried, refusal, checked}
use Rattle.table.specs.Check.{check_of, Handing, in_dialect, turned_away, given, handing, given_of, in_given, decoded}
use Rattle.table.specs.Check.{given_check, node_fits}
use Rattle.table.specs.Check.{stretch_of, entry_check, on_node}
use Rattle.table.specs.declared.Refusal.{Refusal}
use Rattle.table.specs.declared.Refusal.TheVariants.{Bare}
use Rattle.std.specs.Option.{ok_or}
use Rattle.table.specs.declared.Wanted.{Wanted}
use Rattle.table.proofs.Answers.{never_passed}
use Rattle.table.proofs.Checking.{Clean, accepted_clean, check_values}
use Rattle.table.proofs.Handed.{stretch_within}

-- each return of `enter` and `enter_dialect`
module _ (t names : List ℕ) {f : Result (Unit {0}) Refusal} (f-is : checked f ≡ check_of t names) where
  module _ {why : Refusal} (bad : f ≡ Err why) where
    told : check_of t names ≡ refusal why
    told = sym f-is ∙ ap checked bad

    pub entry_refused : (w : Wanted) (i : ℕ) → refusal why ≡ entry_check w t names i
    unfolding entry_check
    entry_refused w i = rw told refl

    pub given_refused : (bytes : List ℕ) → turned_away (number_of why) (carried why) ≡ given_of t names bytes
    unfolding given_of
    given_refused bytes = rw told refl

  module _ (good : f ≡ Ok tt) where
    passed : check_of t names ≡ accepted []
    passed = sym f-is ∙ ap checked good

    pub entry_node : (w : Wanted) (i : ℕ) {b : Bool} → b ≡ node_fits t i w → b ≡ false
        → refused wrong_node [] ≡ entry_check w t names i
    unfolding entry_check
    entry_node w i b_is h = rw (passed, ← b_is, h) refl

    pub entry_passed : (w : Wanted) (i : ℕ) {b : Bool} → b ≡ node_fits t i w → b ≡ true
        → accepted [] ≡ entry_check w t names i
    unfolding entry_check
    entry_passed w i b_is h = rw (passed, ← b_is, h) refl

    module _ (bytes : List ℕ) {x : Option Dialect} (x-is : x ≡ from_bytes bytes) where
      pub given_read : {r : Result Dialect Refusal} → r ≡ ok_or x (Bare bad_dialect) → given r ≡ given_of t names bytes
      unfolding given_of
      given_read {r} r-is = rw (r-is, passed, ← x-is) (go x)
        where
          go : (y : Option Dialect) → given (ok_or y (Bare bad_dialect)) ≡ decoded y
          go (Some d) = refl
          go None = refl

-- LAW: what a job on a node knows once 1 to 4 and 6 are passed: the table passes the check, and the node fits
pub entry_sound : (w : Wanted) (t names : List ℕ) (i : ℕ) {vs : List ℕ} → entry_check w t names i ≡ accepted vs
    → (check_of t names ≡ accepted []) × (node_fits t i w ≡ true)
unfolding entry_check
entry_sound w t names i {vs} e = go (check_of t names) (node_fits t i w) refl refl e
  where
    go : (a : Answer) (b : Bool) → check_of t names ≡ a → node_fits t i w ≡ b
        → and_then a (λ _. if' b (λ _. accepted []) (λ _. refused wrong_node [])) ≡ accepted vs
        → (check_of t names ≡ accepted []) × (node_fits t i w ≡ true)
    go (accepted us) true sound fits h = (sound ∙ ap accepted (check_values t names sound), fits)
    go (accepted us) false sound fits h = never (cc)
    go (refused n us) b sound fits h = never (cc)

-- and with these 1 to 4 and 6 are passed
pub sound_entry_lem : (w : Wanted) (t names : List ℕ) (i : ℕ) → check_of t names ≡ accepted [] → node_fits t i w ≡ true
    → entry_check w t names i ≡ accepted []
unfolding entry_check
sound_entry_lem w t names i sound fits = rw (sound, fits) refl

-- LAW: what a job in a dialect knows once 1 to 5 are passed: the table is clean, and the bytes are the dialect's
pub given_known : (t names bytes : List ℕ) {d : Dialect} → given_of t names bytes ≡ in_dialect d
    → Clean t names × (from_bytes bytes ≡ Some d)
unfolding given_of
given_known t names bytes {d} e = go (check_of t names) (from_bytes bytes) refl refl e
  where
    go : (a : Answer) (x : Option Dialect) → check_of t names ≡ a → from_bytes bytes ≡ x → handing a x ≡ in_dialect d
        → Clean t names × (from_bytes bytes ≡ Some d)
    go (accepted vs) (Some f) sound read h = let same : f ≡ d = cc in
        (accepted_clean t names sound, read ∙ ap Some same)
    go (accepted vs) None sound read h = never (cc)
    go (refused n vs) x sound read h = never (cc)

-- LAW: where 1 to 5 are passed there is a dialect
pub given_passed : (t names bytes : List ℕ) {vs : List ℕ} → given_check t names bytes ≡ accepted vs
    → (d : Dialect) × (given_of t names bytes ≡ in_dialect d)
given_passed t names bytes {vs} e = go (given_of t names bytes) refl e
  where
    go : (h : Handing) → given_of t names bytes ≡ h → in_given h (λ _. accepted []) ≡ accepted vs
        → (d : Dialect) × (given_of t names bytes ≡ in_dialect d)
    go (in_dialect d) k e = (d, k)
    go (turned_away n ws) k e = never_passed e

-- a job in a dialect, in the terms of code: g is what `enter_dialect` answered
module _ (t names bytes : List ℕ) {g : Result Dialect Refusal} (g-is : given g ≡ given_of t names bytes) where
  pub away_is : {why : Refusal} → g ≡ Err why → given_of t names bytes ≡ turned_away (number_of why) (carried why)
  away_is h = sym g-is ∙ ap given h

  pub in_is : {d : Dialect} → g ≡ Ok d → given_of t names bytes ≡ in_dialect d
  in_is h = sym g-is ∙ ap given h

-- a job on a node, in the terms of code: e is what `enter` answered
module _ (w : Wanted) (t names : List ℕ) (i : ℕ) {e : Result (Unit {0}) Refusal}
    (e-is : checked e ≡ entry_check w t names i) where
  pub job_refused : (rule : Tree → Answer) {why : Refusal} → e ≡ Err why → refusal why ≡ on_node w rule t names i
  unfolding on_node
  job_refused rule {why} h = let told : entry_check w t names i ≡ refusal why = sym e-is ∙ ap checked h in
      rw told refl

  module _ (good : e ≡ Ok tt) where
    let_in : entry_check w t names i ≡ accepted []
    let_in = sym e-is ∙ ap checked good

    pub job_is : (rule : Tree → Answer) → on_node w rule t names i ≡ rule (tree_of i (stretch_of t i))
    unfolding on_node
    job_is rule = rw let_in refl

    pub job_rule : (rule : Tree → Answer) {s : List ℕ} {r : Answer} → s ≡ stretch_of t i → r ≡ rule (tree_of i s)
        → r ≡ on_node w rule t names i
    job_rule rule s-is r-is = r-is ∙ rw (job_is rule, s-is) refl

    -- its stretch has a record or more, and lies within the table
    stretch_fits : (24 ≤ length (stretch_of t i)) × (24 * i + length (stretch_of t i) ≤ 50400)
    stretch_fits = let k = entry_sound w t names i let_in in
        stretch_within t names i w (accepted_clean t names k.0) k.1

    pub job_long : {s : List ℕ} → s ≡ stretch_of t i → 24 ≤ length s
    job_long s-is = rw s-is stretch_fits.0

    pub job_within : {s : List ℕ} → s ≡ stretch_of t i → 24 * i + length s ≤ 50400
    job_within s-is = rw s-is stretch_fits.1

    -- and its node fits 32 bits
    pub job_small : i < 4294967296
    job_small = omega (arith, stretch_fits)
