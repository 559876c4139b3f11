-- What a search for a name finds, for any list that is searched entry by entry (`Searches`). It finds the first entry
-- that has the name (`found_first`). The induction is on the list: the first entry has it (`first_here`), or the first
-- of the rest that has it is the first of all (`first_behind`). In a list in which no entry repeats an earlier name
-- (`Fresh`), the first is also the only one (`only_one`): a later entry of that name would find the first among those
-- before it, which stays found with more behind it (`found_more`). Where the indices of a list rise, an earlier entry
-- has the smaller index (`rising_before`). Assumes nothing.
use Rattle.std.specs.Prelude.{None, Option, Some, ℕ}
use mathlib.Core.Path.{◌≡◌, refl, sym, ap, ◌∙◌}
use mathlib.Core.Bool.{Bool, true, false}
use mathlib.Core.List.{List, [], ◌∷◌, ◌++◌, append_assoc, append-nil}
use Prim.Native.Nat.{ℕ, ◌+◌, ◌<◌, ◌≤◌}
use native.Mathlib.Omega.{arith}
use Rattle.fields.specs.Choice.{if'}
use Rattle.fields.proofs.Basics.{never}
use Rattle.forest.specs.Names.{NonePasses, FirstPassing}
use Rattle.forest.proofs.Marked.{Searches}

-- the first that passes a test is the first entry, or the first of the rest
module _ {A : Type 0} {test : A → Bool} {index : A → ℕ} {p : A} {l : List A} {i : ℕ} where
  first_here : test p ≡ true → index p ≡ i → FirstPassing test index (p ∷ l) i
  first_here h at = record { before = []; there = p; after = l; cut = refl; none = tt; passes = h; at = at }

  first_behind : test p ≡ false → FirstPassing test index l i → FirstPassing test index (p ∷ l) i
  first_behind h f = record {
    before = p ∷ f.before;
    there = f.there;
    after = f.after;
    cut = ap (λ (m : List A). p ∷ m) f.cut;
    none = (h, f.none);
    passes = f.passes;
    at = f.at;
  }

module _ {A : Type 0} {find : List ℕ → List A → Option ℕ} {has : List ℕ → A → Bool} (s : Searches find has) (x : List ℕ)
  where
    -- LAW: what a search finds is the first that has the name
    pub found_first : (l : List A) {i : ℕ} → find x l ≡ Some i → FirstPassing (has x) s.node l i
    found_first [] e = let nothing = sym (s.none x) ∙ e in never (cc)
    found_first (p ∷ l) {i} e = go (has x p) refl (sym (s.first x p l) ∙ e) (λ rest. found_first l rest)
      where
        go : (b : Bool) → has x p ≡ b → if' b (λ _. Some (s.node p)) (λ _. find x l) ≡ Some i
            → (find x l ≡ Some i → FirstPassing (has x) s.node l i) → FirstPassing (has x) s.node (p ∷ l) i
        go true h e rest = first_here h (cc)
        go false h e rest = first_behind h (rest e)

    -- LAWS: what was found is found with more behind it, and what has the name is found
    found_more : (l m : List A) {i : ℕ} → find x l ≡ Some i → find x (l ++ m) ≡ Some i
    found_more [] m e = let nothing = sym (s.none x) ∙ e in never (cc)
    found_more (p ∷ l) m {i} e = s.first x p (l ++ m) ∙ go (has x p) (sym (s.first x p l) ∙ e)
        (λ rest. found_more l m rest)
      where
        go : (b : Bool) → if' b (λ _. Some (s.node p)) (λ _. find x l) ≡ Some i
            → (find x l ≡ Some i → find x (l ++ m) ≡ Some i)
            → if' b (λ _. Some (s.node p)) (λ _. find x (l ++ m)) ≡ Some i
        go true e rest = e
        go false e rest = rest e

    some_found : (l : List A) (q : A) → has x q ≡ true → (i : ℕ) × (find x (l ++ q ∷ []) ≡ Some i)
    some_found [] q h = (s.node q, s.first x q [] ∙ rw h refl)
    some_found (p ∷ l) q h = go (has x p) refl (some_found l q h)
      where
        go : (b : Bool) → has x p ≡ b → (i : ℕ) × (find x (l ++ q ∷ []) ≡ Some i)
            → (i : ℕ) × (find x (p ∷ (l ++ q ∷ [])) ≡ Some i)
        go true e rest = (s.node p, s.first x p (l ++ q ∷ []) ∙ rw e refl)
        go false e rest = (rest.0, s.first x p (l ++ q ∷ []) ∙ rw e rest.1)

-- a list, after some that are read, in which no entry repeats a name of those before it
abbrev pub Fresh : {A : Type 0} → (List A → A → Option ℕ) → List A → List A → Type 0
Fresh repeats before [] = Unit {0}
Fresh repeats before (p ∷ l) = (repeats before p ≡ None) × Fresh repeats (before ++ p ∷ []) l

-- LAW: in such a list the first that has a name is the only one
module _ {A : Type 0} {find : List ℕ → List A → Option ℕ} {has : List ℕ → A → Bool} (s : Searches find has)
    (repeats : List A → A → Option ℕ)
    (looks : (x : List ℕ) (l : List A) (p : A) → has x p ≡ true → repeats l p ≡ find x l) where
  none_after : (x : List ℕ) (seen l : List A) {i : ℕ} → find x seen ≡ Some i → Fresh repeats seen l
      → NonePasses (has x) l
  none_after x seen [] e f = tt
  none_after x seen (p ∷ l) {i} e f = go (has x p) refl
      (none_after x (seen ++ p ∷ []) l (found_more s x seen (p ∷ []) e) f.1)
    where
      go : (b : Bool) → has x p ≡ b → NonePasses (has x) l → NonePasses (has x) (p ∷ l)
      go true h rest = let hit : Some i ≡ None = sym e ∙ sym (looks x seen p h) ∙ f.0 in never (cc)
      go false h rest = (h, rest)

  fresh_behind : (before b m : List A) → Fresh repeats before (b ++ m) → Fresh repeats (before ++ b) m
  fresh_behind before [] m f = rw (append-nil before) f
  fresh_behind before (p ∷ b) m f =
      rw (append_assoc before (p ∷ []) b) at (fresh_behind (before ++ p ∷ []) b m f.1)

  pub only_one : (x : List ℕ) (l : List A) {i : ℕ} (f : FirstPassing (has x) s.node l i) → Fresh repeats [] l
      → NonePasses (has x) f.after
  only_one x l f fresh =
      let parts : l ≡ (f.before ++ f.there ∷ []) ++ f.after =
      f.cut ∙ sym (append_assoc f.before (f.there ∷ []) f.after) in
      let whole : Fresh repeats [] ((f.before ++ f.there ∷ []) ++ f.after) = rw parts at fresh in
      none_after x (f.before ++ f.there ∷ []) f.after (some_found s x f.before f.there f.passes).1
      (fresh_behind [] (f.before ++ f.there ∷ []) f.after whole)

-- the indices of a list rise, from m on
abbrev pub Rising : {A : Type 0} → (A → ℕ) → ℕ → List A → Type 0
Rising index m [] = Unit {0}
Rising index m (p ∷ ps) = (m ≤ index p) × Rising index (index p + 1) ps

module _ {A : Type 0} (index : A → ℕ) where
  pub rising_lower : (m n : ℕ) (l : List A) → m ≤ n → Rising index n l → Rising index m l
  rising_lower m n [] h r = tt
  rising_lower m n (p ∷ l) h r = (omega (arith, r.0), r.1)

  pub rising_first : {m : ℕ} (p : A) (l : List A) → index p ≡ m → Rising index (m + 1) l → Rising index m (p ∷ l)
  rising_first p l e r = rw e (omega arith, r)

  rising_to : (m : ℕ) (l : List A) (q : A) (ps : List A) → Rising index m (l ++ q ∷ ps) → m ≤ index q
  rising_to m [] q ps r = r.0
  rising_to m (p ∷ l) q ps r = omega (arith, r.0, rising_to (index p + 1) l q ps r.1)

  -- LAW: what comes before another has the smaller index
  pub rising_before : (m : ℕ) (l : List A) (p : A) (k : List A) (q : A) (ps : List A)
      → Rising index m ((l ++ p ∷ k) ++ q ∷ ps) → index p < index q
  rising_before m [] p k q ps r = omega (arith, rising_to (index p + 1) k q ps r.1)
  rising_before m (x ∷ l) p k q ps r = rising_before (index x + 1) l p k q ps r.1
