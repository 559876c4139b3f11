-- Names of records: their bytes, when two are equal, and when all are distinct. These are definitions.
use Rattle.std.specs.Prelude.{◌≡◌, Bool, true, false, ◌&&◌, List, [], ◌∷◌, ◌++◌, ℕ, ◌<◌, length, get_or, take, drop, eqb}
use Rattle.forest.specs.Forest.{Node}

-- the bytes of a name, as far as they lie within the name bytes
unfoldable pub name_of : List ℕ → Node → List ℕ
name_of names r = take r.name_len (drop r.name_start names)

-- two lists are the same, number by number
unfoldable pub same : List ℕ → List ℕ → Bool
same [] [] = true
same [] (y ∷ ys) = false
same (x ∷ xs) [] = false
same (x ∷ xs) (y ∷ ys) = eqb x y && same xs ys

-- all names are distinct
abbrev pub Distinct : List (List ℕ) → Type 0
Distinct ns = (i j : ℕ) → i < j → j < length ns → get_or ns i [] ≡ get_or ns j [] → ⊥

-- none of a list passes a test
abbrev pub NonePasses : {A : Type 0} → (A → Bool) → List A → Type 0
NonePasses test [] = Unit {0}
NonePasses test (x ∷ xs) = (test x ≡ false) × NonePasses test xs

-- the first of a list that passes a test has this index
pub record FirstPassing {A : Type 0} (test : A → Bool) (index : A → ℕ) (l : List A) (i : ℕ) : Type 0 where
  pub before : List A
  pub there : A
  pub after : List A
  pub cut : l ≡ before ++ there ∷ after
  pub none : NonePasses test before
  pub passes : test there ≡ true
  pub at : index there ≡ i
