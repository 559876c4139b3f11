-- The walk of `unpack`, taken apart. It accepts exactly if three things hold that do not depend on each other: every
-- parameter keeps the rule of its kind (`Rules`), none repeats a name before it (`Fresh`), and the end of the walk
-- accepts what was counted (`finish`). `run_accepted` leads there and `run_finished` back; both are by induction on the
-- list, for any state before it, and cite deflist's Steps for one step. Assumes nothing.
use Rattle.std.specs.Prelude.{None, Option, Some, ℕ}
use Rattle.deflist.specs.declared.Written.{Written}
use mathlib.Core.Path.{◌≡◌, refl, sym, ◌∙◌}
use mathlib.Core.Bool.{Bool}
use mathlib.Core.List.{List, [], ◌∷◌, ◌++◌, append_assoc, append-nil}
use Prim.Native.Nat.{ℕ, ◌+◌}
use lib.ListN.{length, length-append}
use Rattle.deflist.specs.Written.{Param, kind_in}
use Rattle.deflist.specs.Unpack.{written_at, repeats, rule, firstly, check, next_state, next_optional, next_star, count}
use Rattle.deflist.specs.Unpack.{Outcome, advance, finish, accepted, run}
use Rattle.deflist.specs.declared.State.{State}
use Rattle.deflist.specs.declared.Check.{Check}
use Rattle.deflist.specs.declared.Check.TheVariants.{Fine, Broken, Repeated}
use Rattle.deflist.specs.declared.Counts.{Counts}
use Rattle.deflist.specs.declared.Unpacking.{Unpacking}
use Rattle.deflist.proofs.Steps.{repeated≢fine, Cleared, run_stop, run_again, run_on_lem, clear_on}
use Rattle.deflist.proofs.Theorems.{refused≢accepted, repeated≢accepted}

-- every parameter keeps the rule of its kind
abbrev pub Rules : State → Bool → List Param → Type 0
Rules s o [] = Unit {0}
Rules s o (p ∷ ps) = (rule s o (kind_in p) ≡ Fine) × Rules (next_state s (kind_in p)) (next_optional o (kind_in p)) ps

-- none repeats a name before it
abbrev pub Fresh : List Param → List Param → Type 0
Fresh before [] = Unit {0}
Fresh before (p ∷ ps) = (repeats before p ≡ None) × Fresh (before ++ p ∷ []) ps

-- what is counted, and the position of the `*`, at the end
abbrev pub counts_from : State → Counts → List Param → Counts
counts_from s c [] = c
counts_from s c (p ∷ ps) = counts_from (next_state s (kind_in p)) (count s c (kind_in p)) ps

abbrev pub star_from : Option Written → ℕ → List Param → Option Written
star_from star i [] = star
star_from star i (p ∷ ps) = star_from (next_star star (written_at i) (kind_in p)) (i + 1) ps

check_parts : (f : Option ℕ) (k : Check) → firstly f k ≡ Fine → (f ≡ None) × (k ≡ Fine)
check_parts (Some i) k e = repeated≢fine e
check_parts None k e = (refl, e)

run_fine : (before : List Param) (u : Unpacking) (p : Param) (ps : List Param) {c : Counts}
    → run before u (p ∷ ps) ≡ accepted c → check before u.state u.seen_optional p ≡ Fine
run_fine before u p ps {c} h = go (check before u.state u.seen_optional p) refl
  where
    go : (k : Check) → check before u.state u.seen_optional p ≡ k → k ≡ Fine
    go Fine e = refl
    go (Broken n) e = refused≢accepted (sym (run_stop before u p ps e) ∙ h)
    go (Repeated i) e = repeated≢accepted (sym (run_again before u p ps e) ∙ h)

-- the end of a walk over one more
end_step : (before : List Param) (p : Param) (ps : List Param) (star : Option Written) (c : Counts)
    → finish ((before ++ p ∷ []) ++ ps) (star_from star (length (before ++ p ∷ [])) ps) c
    ≡ finish (before ++ p ∷ ps) (star_from star (length before + 1) ps) c
end_step before p ps star c =
    let whole : (before ++ p ∷ []) ++ ps ≡ before ++ p ∷ ps = append_assoc before (p ∷ []) ps in
    let long : length (before ++ p ∷ []) ≡ length before + 1 = length-append before (p ∷ []) in
    rw (whole, long) refl

-- the outcome at the end of a walk
abbrev pub ending : List Param → Unpacking → List Param → Outcome
ending before u l = finish (before ++ l) (star_from u.index_of_star (length before) l)
    (counts_from u.state u.counts l)

-- what is accepted keeps every rule, repeats no name, and ends with what is counted
pub record Through (before : List Param) (u : Unpacking) (l : List Param) (c : Counts) : Type 0 where
  pub rules : Rules u.state u.seen_optional l
  pub fresh : Fresh before l
  pub ends : ending before u l ≡ accepted c

pub run_accepted : (before : List Param) (u : Unpacking) (l : List Param) {c : Counts} → Cleared u
    → run before u l ≡ accepted c → Through before u l c
unfolding run advance
run_accepted before u [] clear h = record { rules = tt; fresh = tt; ends = rw (append-nil before) h }
run_accepted before u (p ∷ ps) clear h =
    let fine = run_fine before u p ps h in
    let b = check_parts (repeats before p) (rule u.state u.seen_optional (kind_in p)) fine in
    let r = run_accepted (before ++ p ∷ []) (advance u (written_at (length before)) (kind_in p)) ps
    (clear_on before u p ps clear fine) (sym (run_on_lem before u p ps clear fine) ∙ h) in
    record { rules = (b.1, r.rules); fresh = (b.0, r.fresh); ends = sym (end_step before p ps _ _) ∙ r.ends }

-- and back
pub run_finished : (before : List Param) (u : Unpacking) (l : List Param) → Cleared u
    → Rules u.state u.seen_optional l → Fresh before l
    → run before u l ≡ ending before u l
unfolding run advance
run_finished before u [] clear r f = rw (append-nil before) refl
run_finished before u (p ∷ ps) clear r f =
    let fine : check before u.state u.seen_optional p ≡ Fine = rw f.0 r.0 in
    run_on_lem before u p ps clear fine ∙ run_finished (before ++ p ∷ [])
    (advance u (written_at (length before)) (kind_in p)) ps (clear_on before u p ps clear fine) r.1 f.1
    ∙ end_step before p ps _ _
