-- The tests of the walk are the conditions of a good cut. No parameter repeats a name before it (`Fresh`) exactly if
-- all names are distinct (`fresh_iff`): the search among earlier names finds nothing exactly if the name is none of
-- theirs, by induction on the list; and names that are each new, read from the left, are distinct, by induction on the
-- names after those seen. The default rule holds along the ordinary parameters exactly if none without default comes
-- after one with (`defaults_iff`; induction on the parameters, with a flag for a default so far). Cite these two.
-- Assumes nothing.
use Rattle.std.specs.Prelude.{None, Option, Some, ℕ}
use mathlib.Core.Path.{◌≡◌, refl, sym, ap, ◌∙◌}
use mathlib.Core.Bool.{Bool, true, false, ◌||◌}
use mathlib.Core.Logic.{◌↔◌, ⊎_elim}
use mathlib.Core.List.{List, [], ◌∷◌, ◌++◌, append-nil}
use Prim.Native.Nat.{ℕ, zero, suc, ◌<◌, ◌≤◌}
use native.Mathlib.Nat.{eq-or-lt_of_le}
use native.Mathlib.Omega.{arith}
use lib.ListN.{length, get_or, length-append, get_or-append}
use lib.Seq.{append_snoc, get_or-append_seam}
use Rattle.forest.specs.Names.{Distinct}
use Rattle.fields.proofs.Basics.{clash, never}
use Rattle.fields.specs.Choice.{if'}
use Rattle.forest.specs.Names.{same}
use Rattle.forest.proofs.Named.{same_bytes_refl, same_bytes_equal}
use Rattle.deflist.specs.Written.{Name, Param, normal, no_args, slash, args, kwargs}
use Rattle.deflist.specs.Unpack.{default_rule, has_name, first_same, repeats}
use Rattle.deflist.specs.declared.Check.TheVariants.{Fine}
use Rattle.deflist.proofs.Steps.{broken≢fine}
use Rattle.demand3.specs.Cut.{Ordinary, names_of, default_at, Defaulted}
use Rattle.demand3.proofs.Walks.{Fresh}
use Rattle.demand3.proofs.Shapes.{Defaults}

found : {P : Type 0} {i : ℕ} → Some i ≡ None → P
found e = never (cc)

-- no name of a list is x
abbrev Absent : Name → List Name → Type 0
Absent x ns = (i : ℕ) → i < length ns → get_or ns i [] ≡ x → ⊥

absent_more : (x n : Name) (ns : List Name) → (n ≡ x → ⊥) → Absent x ns → Absent x (n ∷ ns)
absent_more x n ns h a zero g e = h e
absent_more x n ns h a (suc i) g e = a i (omega arith) e

absent_first : (x n : Name) (ns : List Name) → Absent x (n ∷ ns) → n ≡ x → ⊥
absent_first x n ns a e = a 0 (omega arith) e

absent_rest : (x n : Name) (ns : List Name) → Absent x (n ∷ ns) → Absent x ns
absent_rest x n ns a i g e = a (suc i) (omega arith) e

-- the search among earlier parameters finds none exactly when the name is none of theirs
step_none : (n x : Name) (at : ℕ) (rest : Option ℕ) → if' (same n x) (λ _. Some at) (λ _. rest) ≡ None
    → (n ≡ x → ⊥) × (rest ≡ None)
step_none n x at rest e = go (same n x) refl e
  where
    go : (b : Bool) → same n x ≡ b → if' b (λ _. Some at) (λ _. rest) ≡ None → (n ≡ x → ⊥) × (rest ≡ None)
    go true h e = found e
    go false h e = (λ q. clash refl (sym (same_bytes_refl x) ∙ rw q at h), e)

none_step : (n x : Name) (at : ℕ) (rest : Option ℕ) → (n ≡ x → ⊥) → rest ≡ None
    → if' (same n x) (λ _. Some at) (λ _. rest) ≡ None
none_step n x at rest h e = go (same n x) refl
  where
    go : (b : Bool) → same n x ≡ b → if' b (λ _. Some at) (λ _. rest) ≡ None
    go true s = absurd (h (same_bytes_equal n x s))
    go false s = e

none_absent : (x : Name) (l : List Param) → first_same x l ≡ None → Absent x (names_of l)
unfolding first_same has_name
none_absent x [] e = λ i h q. absurd (omega arith)
none_absent x (normal r n d ∷ ps) e = let w = step_none n x r.at (first_same x ps) e in
    absent_more x n (names_of ps) w.0 (none_absent x ps w.1)
none_absent x (no_args r ∷ ps) e = none_absent x ps e
none_absent x (slash r ∷ ps) e = none_absent x ps e
none_absent x (args r n ∷ ps) e = let w = step_none n x r.at (first_same x ps) e in
    absent_more x n (names_of ps) w.0 (none_absent x ps w.1)
none_absent x (kwargs r n ∷ ps) e = let w = step_none n x r.at (first_same x ps) e in
    absent_more x n (names_of ps) w.0 (none_absent x ps w.1)

absent_none : (x : Name) (l : List Param) → Absent x (names_of l) → first_same x l ≡ None
unfolding first_same has_name
absent_none x [] a = refl
absent_none x (normal r n d ∷ ps) a = none_step n x r.at (first_same x ps) (absent_first x n (names_of ps) a)
    (absent_none x ps (absent_rest x n (names_of ps) a))
absent_none x (no_args r ∷ ps) a = absent_none x ps a
absent_none x (slash r ∷ ps) a = absent_none x ps a
absent_none x (args r n ∷ ps) a = none_step n x r.at (first_same x ps) (absent_first x n (names_of ps) a)
    (absent_none x ps (absent_rest x n (names_of ps) a))
absent_none x (kwargs r n ∷ ps) a = none_step n x r.at (first_same x ps) (absent_first x n (names_of ps) a)
    (absent_none x ps (absent_rest x n (names_of ps) a))

-- names in turn, each none of those before it
abbrev FreshNames : List Name → List Name → Type 0
FreshNames seen [] = Unit {0}
FreshNames seen (n ∷ ns) = Absent n seen × FreshNames (seen ++ n ∷ []) ns

names_append : (l m : List Param) → names_of (l ++ m) ≡ names_of l ++ names_of m
names_append [] m = refl
names_append (normal r n d ∷ ps) m = ap (λ (x : List Name). n ∷ x) (names_append ps m)
names_append (no_args r ∷ ps) m = names_append ps m
names_append (slash r ∷ ps) m = names_append ps m
names_append (args r n ∷ ps) m = ap (λ (x : List Name). n ∷ x) (names_append ps m)
names_append (kwargs r n ∷ ps) m = ap (λ (x : List Name). n ∷ x) (names_append ps m)

names_mark : (before : List Param) (p : Param) → names_of (p ∷ []) ≡ [] → names_of (before ++ p ∷ []) ≡ names_of before
names_mark before p e = names_append before (p ∷ []) ∙ ap (λ (x : List Name). names_of before ++ x) e
    ∙ append-nil (names_of before)

fresh_names : (before l : List Param) → Fresh before l → FreshNames (names_of before) (names_of l)
unfolding repeats
fresh_names before [] f = tt
fresh_names before (normal r n d ∷ ps) f =
    (none_absent n before f.0, rw names_append at (fresh_names (before ++ normal r n d ∷ []) ps f.1))
fresh_names before (no_args r ∷ ps) f = rw (names_mark before (no_args r) refl) at
    (fresh_names (before ++ no_args r ∷ []) ps f.1)
fresh_names before (slash r ∷ ps) f = rw (names_mark before (slash r) refl) at
    (fresh_names (before ++ slash r ∷ []) ps f.1)
fresh_names before (args r n ∷ ps) f = (
  none_absent n before f.0,
  rw names_append at (fresh_names (before ++ args r n ∷ []) ps f.1),
)
fresh_names before (kwargs r n ∷ ps) f = (
  none_absent n before f.0,
  rw names_append at (fresh_names (before ++ kwargs r n ∷ []) ps f.1),
)

names_fresh : (before l : List Param) → FreshNames (names_of before) (names_of l) → Fresh before l
unfolding repeats
names_fresh before [] f = tt
names_fresh before (normal r n d ∷ ps) f =
    (absent_none n before f.0, names_fresh (before ++ normal r n d ∷ []) ps (rw names_append f.1))
names_fresh before (no_args r ∷ ps) f = (
  refl,
  names_fresh (before ++ no_args r ∷ []) ps (rw (names_mark before (no_args r) refl) f),
)
names_fresh before (slash r ∷ ps) f = (
  refl,
  names_fresh (before ++ slash r ∷ []) ps (rw (names_mark before (slash r) refl) f),
)
names_fresh before (args r n ∷ ps) f = (
  absent_none n before f.0,
  names_fresh (before ++ args r n ∷ []) ps (rw names_append f.1),
)
names_fresh before (kwargs r n ∷ ps) f = (
  absent_none n before f.0,
  names_fresh (before ++ kwargs r n ∷ []) ps (rw names_append f.1),
)

-- distinct from k on: no name from k on comes before
abbrev DistinctFrom : ℕ → List Name → Type 0
DistinctFrom k ns = (i j : ℕ) → i < j → j < length ns → k ≤ j → get_or ns i [] ≡ get_or ns j [] → ⊥

snoc_length : (seen : List Name) (n : Name) → length (seen ++ n ∷ []) ≡ suc (length seen)
snoc_length seen n = simp length-append (omega arith)

fresh_distinct : (seen ns : List Name) → FreshNames seen ns → DistinctFrom (length seen) (seen ++ ns)
fresh_distinct seen [] f i j h g k e = omega (arith, length-append seen [])
fresh_distinct seen (n ∷ ns) f i j h g k e = ⊎_elim here (there (fresh_distinct (seen ++ n ∷ []) ns f.1))
    (eq-or-lt_of_le k)
  where
    here : length seen ≡ j → ⊥
    here q =
        let i< : i < length seen = omega arith in
        f.0 i i< (sym (get_or-append seen (n ∷ ns) [] i i<) ∙ e
        ∙ ap (λ (x : ℕ). get_or (seen ++ n ∷ ns) x []) (sym q) ∙ get_or-append_seam seen n ns [])

    there : DistinctFrom (length (seen ++ n ∷ [])) ((seen ++ n ∷ []) ++ ns) → length seen < j → ⊥
    there below q = (rw append_snoc at below) i j h g (omega (arith, snoc_length seen n)) e

distinct_fresh : (seen ns : List Name) → DistinctFrom (length seen) (seen ++ ns) → FreshNames seen ns
distinct_fresh seen [] d = tt
distinct_fresh seen (n ∷ ns) d = (
  λ i h q. d i (length seen) h (simp length-append (omega arith)) (omega arith)
      (get_or-append seen (n ∷ ns) [] i h ∙ q ∙ sym (get_or-append_seam seen n ns [])),
  distinct_fresh (seen ++ n ∷ []) ns (rw append_snoc
      (λ i j h g k e. d i j h g (omega (arith, snoc_length seen n)) e)),
)

pub fresh_iff : (l : List Param) → Fresh [] l ↔ Distinct (names_of l)
fresh_iff l = (
  λ f i j h g e. fresh_distinct [] (names_of l) (fresh_names [] l f) i j h g (omega arith) e,
  λ d. names_fresh [] l (distinct_fresh [] (names_of l) (λ i j h g k e. d i j h g e)),
)

-- Defaults

fine_default : (o d : Bool) → default_rule o d ≡ Fine → o ≡ true → d ≡ true
fine_default true true e q = refl
fine_default true false e q = broken≢fine e
fine_default false d e q = clash refl (sym q)

default_fine : (o d : Bool) → (o ≡ true → d ≡ true) → default_rule o d ≡ Fine
default_fine true true h = refl
default_fine true false h = clash refl (sym (h refl))
default_fine false d h = refl

or_left : (o d : Bool) → o ≡ true → (o || d) ≡ true
or_left true d e = refl
or_left false d e = clash refl (sym e)

or_right : (o d : Bool) → d ≡ true → (o || d) ≡ true
or_right true d e = refl
or_right false d e = e

-- after a default, every later one has one
defaults_all : (o : Bool) (qs : List Ordinary) → Defaults o qs → o ≡ true → (j : ℕ) → j < length qs
    → default_at qs j ≡ true
defaults_all o [] d e j h = absurd (omega arith)
defaults_all o (q ∷ qs) d e zero h = fine_default o q.default d.0 e
defaults_all o (q ∷ qs) d e (suc j) h = defaults_all (o || q.default) qs d.1 (or_left o q.default e) j
    (omega arith)

defaults_defaulted : (o : Bool) (qs : List Ordinary) → Defaults o qs → Defaulted qs
defaults_defaulted o [] d i j h g e = absurd (omega arith)
defaults_defaulted o (q ∷ qs) d i zero h g e = absurd (omega arith)
defaults_defaulted o (q ∷ qs) d zero (suc j) h g e = defaults_all (o || q.default) qs d.1
    (or_right o q.default e) j (omega arith)
defaults_defaulted o (q ∷ qs) d (suc i) (suc j) h g e = defaults_defaulted (o || q.default) qs d.1 i j
    (omega arith) (omega arith) e

defaulted_defaults : (o : Bool) (qs : List Ordinary) → (o ≡ true → (j : ℕ) → j < length qs → default_at qs j ≡ true)
    → Defaulted qs → Defaults o qs
defaulted_defaults o [] a d = tt
defaulted_defaults o (q ∷ qs) a d = (
  default_fine o q.default (λ e. a e 0 (omega arith)),
  defaulted_defaults (o || q.default) qs (rest o q.default refl (λ e j h. a e (suc j) (omega arith)))
      (λ i j h g e. d (suc i) (suc j) (omega arith) (omega arith) e),
)
  where
    rest : (o' b : Bool) → b ≡ q.default → (o' ≡ true → (j : ℕ) → j < length qs → default_at qs j ≡ true)
        → (o' || b) ≡ true → (j : ℕ) → j < length qs → default_at qs j ≡ true
    rest true b x a' e j h = a' refl j h
    rest false b x a' e j h = d 0 (suc j) (omega arith) (omega arith) (sym x ∙ e)

pub defaults_iff : (qs : List Ordinary) → Defaults false qs ↔ Defaulted qs
defaults_iff qs = (defaults_defaulted false qs, defaulted_defaults false qs (λ e. clash refl (sym e)))
