-- The contract of each public function leaves one answer: two answers that meet it are equal, and so are the two lists
-- of words at exit. `Stores` is two equations, one for the number returned and one for the list, and each equates it
-- with a definition; so two answers, or two lists, are equal to the same thing. Assumes nothing.
use mathlib.Core.Path.{◌≡◌}
use mathlib.Core.Bool.{Bool}
use mathlib.Core.List.{List}
use Prim.Native.Nat.{ℕ, ◌*◌, min}
use Rattle.fields.proofs.Coincide.{coincide}
use Rattle.forest.specs.Forest.{node_of}
use Rattle.errors.specs.declared.Finding.{Finding}
use Rattle.errors.specs.declared.Listing.{Listing}
use Rattle.errors.specs.Errors.{err_at, only, unless, width, Stores}

-- what stores the same errors in the same words counts and leaves the same
one : {l : Listing} {es : List Finding} {xs : List ℕ} {m n : ℕ} {ys zs : List ℕ} → Stores l es xs m ys
    → Stores l es xs n zs
    → (m ≡ n) × (ys ≡ zs)
one p q = (coincide p.count q.count, coincide p.words q.words)

-- of `push`
pub push_one : (listing : Listing) (e : Finding) (errors : List ℕ) {r s : ℕ} {errors-r errors-s : List ℕ}
    → Stores listing (only e) errors r errors-r → Stores listing (only e) errors s errors-s
    → (r ≡ s) × (errors-r ≡ errors-s)
push_one listing e errors = one

-- of `push_at`
pub push_at_one : (listing : Listing) (number : ℕ) (t : List ℕ) (at : ℕ) (errors : List ℕ) {r s : ℕ}
    {errors-r errors-s : List ℕ} → Stores listing (only (err_at number (node_of at t))) errors r errors-r
    → Stores listing (only (err_at number (node_of at t))) errors s errors-s → (r ≡ s) × (errors-r ≡ errors-s)
push_at_one listing number t at errors = one

-- of `push_unless`
pub push_unless_one : (listing : Listing) (permitted : Bool) (number : ℕ) (t : List ℕ) (at : ℕ) (errors : List ℕ)
    {r s : ℕ} {errors-r errors-s : List ℕ}
    → Stores listing (unless permitted number (node_of at t)) errors r errors-r
    → Stores listing (unless permitted number (node_of at t)) errors s errors-s → (r ≡ s) × (errors-r ≡ errors-s)
push_unless_one listing permitted number t at errors = one

-- of `free`
pub free_one : (listing : Listing) (len count : ℕ) {r s : ℕ} → r ≡ min (width listing * count) len
    → s ≡ min (width listing * count) len → r ≡ s
free_one listing len count = coincide
