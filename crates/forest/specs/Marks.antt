-- Marks of names: each name has a place in an array and leaves its mark there. A name whose place does not show its
-- mark is new. The place of a name decides how much is searched, and no answer. These are definitions.
use Rattle.std.specs.Prelude.{◌≡◌, Bool, false, ◌||◌, List, ℕ, zero, suc, ◌+◌, ◌*◌, ◌/◌, ◌%◌, length, get_or, drop, set, eqb, None, Option}
use Rattle.fields.specs.Choice.{if'}
use Rattle.fields.specs.Field.{field}

-- a hash of 32 bits, from the hash so far and the next eight bytes
abbrev pub mixed : ℕ → ℕ → ℕ
mixed h w = ((h + w % 4294967296) * 625341585 + w / 4294967296 * 1013904223) / 268435456 % 4294967296

-- k groups of eight bytes, then the rest
unfoldable pub hash_from : ℕ → ℕ → List ℕ → ℕ
hash_from zero h x = mixed h (field 8 x 0)
hash_from (suc k) h x = hash_from k (mixed h (field 8 x 0)) (drop 8 x)

unfoldable pub hash_of : List ℕ → ℕ
hash_of x = hash_from (length x / 8) 0 x

-- the place of a name among n places, and its mark: 1 to 254
unfoldable pub place_of : ℕ → List ℕ → ℕ
place_of n x = hash_of x % n

unfoldable pub mark_of : List ℕ → ℕ
mark_of x = hash_of x % 254 + 1

-- the mark of a place that is shared by names with different marks
abbrev pub several : ℕ
several = 255

-- a place after one more mark is written to it
unfoldable pub joined : ℕ → ℕ → ℕ
joined old mark = if' (eqb old 0 || eqb old mark) (λ _. mark) (λ _. several)

-- whether a place shows a mark
unfoldable pub tells : ℕ → ℕ → Bool
tells old mark = eqb old mark || eqb old several

-- the marks after one more name
unfoldable pub noted : List ℕ → List ℕ → List ℕ
noted marks x =
    set marks (place_of (length marks) x) (joined (get_or marks (place_of (length marks) x) 0) (mark_of x))

-- whether a name of these bytes may have been noted; always true where there is no place
unfoldable pub may_stand : List ℕ → List ℕ → Bool
may_stand marks x = eqb (length marks) 0 || tells (get_or marks (place_of (length marks) x) 0) (mark_of x)

-- the marks know every name of a list: a search for a name that cannot have been noted finds nothing
pub record Known {A : Type 0} (find : List ℕ → List A → Option ℕ) (marks : List ℕ) (l : List A) : Type 0 where
  pub none : (x : List ℕ) → may_stand marks x ≡ false → find x l ≡ None
