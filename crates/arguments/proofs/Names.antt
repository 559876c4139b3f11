-- The search among earlier arguments finds none exactly where the names stay distinct. It finds none exactly if the
-- name is none of the earlier named arguments' (`none_absent`, `absent_none`; the induction is on the list). So an
-- argument that repeats no name keeps the names distinct (`names_more`), and in a list of distinct names none repeats
-- an earlier one (`names_new`). An argument that passes its check repeats no name (`fine_new`), because 22 is part of
-- the rule for named arguments. Assumes nothing.
use Rattle.std.specs.Prelude.{None, Option, Some, ℕ}
use mathlib.Core.Path.{◌≡◌, refl, sym, ap, ◌∙◌}
use mathlib.Core.Bool.{Bool, true, false}
use mathlib.Core.Logic.{⊎_elim}
use mathlib.Core.List.{List, [], ◌∷◌, ◌++◌, append-nil}
use Prim.Native.Nat.{ℕ, zero, suc, ◌<◌}
use native.Mathlib.Nat.{eq-or-lt_of_le}
use native.Mathlib.Omega.{arith}
use lib.ListN.{length, get_or, length-append, get_or-append}
use lib.Seq.{get_or-append_seam}
use Rattle.forest.specs.Names.{Distinct}
use Rattle.fields.proofs.Basics.{never}
use Rattle.fields.specs.Choice.{if'}
use Rattle.forest.specs.Names.{same}
use Rattle.forest.proofs.Named.{same_bytes_refl, same_bytes_equal}
use Rattle.table.specs.Numbers.{named_after_star}
use Rattle.arguments.specs.Written.{Name, Argument, positional, named, args, kwargs}
use Rattle.arguments.specs.Call.{past_named, has_name, first_same, repeats, new_name, check}
use Rattle.arguments.specs.Accepted.{names_of}
use Rattle.arguments.specs.declared.ArgsStage.{ArgsStage}
use Rattle.arguments.specs.declared.Check.TheVariants.{Fine, Broken}

-- no name of a list is x
abbrev Absent : Name → List Name → Type 0
Absent x ns = (i : ℕ) → i < length ns → get_or ns i [] ≡ x → ⊥

-- the search finds none exactly when the name is none of theirs
none_absent : (x : Name) (l : List Argument) → first_same x l ≡ None → Absent x (names_of l)
unfolding first_same has_name
none_absent x [] e = λ i h q. absurd (omega arith)
none_absent x (positional r ∷ l) e = none_absent x l e
none_absent x (args r ∷ l) e = none_absent x l e
none_absent x (kwargs r ∷ l) e = none_absent x l e
none_absent x (named r n ∷ l) e = go (same n x) refl e (none_absent x l)
  where
    go : (b : Bool) → same n x ≡ b → if' b (λ _. Some r.at) (λ _. first_same x l) ≡ None
        → (first_same x l ≡ None → Absent x (names_of l)) → Absent x (n ∷ names_of l)
    go true s e rest i h q = never (cc)
    go false s e rest zero h q = let hit : true ≡ false = sym (same_bytes_refl x) ∙ rw q at s in never (cc)
    go false s e rest (suc i) h q = rest e i (omega arith) q

absent_none : (x : Name) (l : List Argument) → Absent x (names_of l) → first_same x l ≡ None
unfolding first_same has_name
absent_none x [] a = refl
absent_none x (positional r ∷ l) a = absent_none x l a
absent_none x (args r ∷ l) a = absent_none x l a
absent_none x (kwargs r ∷ l) a = absent_none x l a
absent_none x (named r n ∷ l) a = go (same n x) refl
    (absent_none x l (λ (i : ℕ) (h : i < length (names_of l)) (q : get_or (names_of l) i [] ≡ x).
    a (suc i) (omega arith) q))
  where
    go : (b : Bool) → same n x ≡ b → first_same x l ≡ None → if' b (λ _. Some r.at) (λ _. first_same x l) ≡ None
    go true s rest = absurd (a 0 (omega arith) (same_bytes_equal n x s))
    go false s rest = rest

-- a name more, and the names before one
distinct_more : (ns : List Name) (x : Name) → Distinct ns → Absent x ns → Distinct (ns ++ x ∷ [])
distinct_more ns x d a i j h g e =
    let long = length-append ns (x ∷ []) in
    let i-in : i < length ns = omega arith in
    let left : get_or (ns ++ x ∷ []) i [] ≡ get_or ns i [] = get_or-append ns (x ∷ []) [] i i-in in
    ⊎_elim
    (λ (q : j ≡ length ns). a i i-in (sym left ∙ e ∙ ap (λ (m : ℕ). get_or (ns ++ x ∷ []) m []) q
    ∙ get_or-append_seam ns x [] []))
    (λ (q : j < length ns). d i j h q (sym left ∙ e ∙ get_or-append ns (x ∷ []) [] j q))
    (eq-or-lt_of_le {n = j} {m = length ns} (omega arith))

absent_before : (ns : List Name) (x : Name) (ms : List Name) → Distinct (ns ++ x ∷ ms) → Absent x ns
absent_before ns x ms d i h q = d i (length ns) h (simp length-append (omega arith))
    (get_or-append ns (x ∷ ms) [] i h ∙ q ∙ sym (get_or-append_seam ns x ms []))

names_append : (a b : List Argument) → names_of (a ++ b) ≡ names_of a ++ names_of b
names_append [] b = refl
names_append (positional r ∷ a) b = names_append a b
names_append (named r n ∷ a) b = ap (λ (l : List Name). n ∷ l) (names_append a b)
names_append (args r ∷ a) b = names_append a b
names_append (kwargs r ∷ a) b = names_append a b

-- LAW: an argument that repeats no name keeps the names distinct
pub names_more : (before : List Argument) (p : Argument) → Distinct (names_of before) → repeats before p ≡ None
    → Distinct (names_of (before ++ p ∷ []))
unfolding repeats
names_more before (positional r) d e = rw (names_append, append-nil) d
names_more before (named r n) d e = rw names_append (distinct_more (names_of before) n d (none_absent n before e))
names_more before (args r) d e = rw (names_append, append-nil) d
names_more before (kwargs r) d e = rw (names_append, append-nil) d

-- LAW: where the names are distinct, none repeats one before it
pub names_new : (before : List Argument) (p : Argument) (ps : List Argument) → Distinct (names_of (before ++ p ∷ ps))
    → repeats before p ≡ None
unfolding repeats
names_new before (positional r) ps d = refl
names_new before (named r n) ps d = absent_none n before
    (absent_before (names_of before) n (names_of ps) (rw names_append at d))
names_new before (args r) ps d = refl
names_new before (kwargs r) ps d = refl

-- LAW: an argument that passes the check repeats no name
pub fine_new : (before : List Argument) (s : ArgsStage) (p : Argument) → check before s p ≡ Fine
    → repeats before p ≡ None
unfolding repeats check
fine_new before s (positional r) e = refl
fine_new before s (named r n) e = go (past_named s) (first_same n before) e
  where
    go : (b : Bool) (f : Option ℕ) → if' b (λ _. Broken named_after_star) (λ _. new_name f) ≡ Fine → f ≡ None
    go true f e = never (cc)
    go false (Some i) e = never (cc)
    go false None e = refl
fine_new before s (args r) e = refl
fine_new before s (kwargs r) e = refl
