-- What code tests in a stretch while it reads a list, and bounds of its results. These are definitions.
use Rattle.std.specs.Prelude.{◌≡◌, Bool, true, false, ◌&&◌, List, [], ◌∷◌, ◌++◌, ℕ, ◌+◌, ◌/◌, ◌<◌, ◌≤◌, length, drop, eqb, leb, ltb, Err, None, Ok, Option, Result, Some}
use Rattle.deflist.specs.declared.Written.{Written}
use Rattle.deflist.specs.declared.Flat.{Flat}
use Rattle.deflist.specs.declared.Fault.{Fault}
use Rattle.forest.specs.Forest.{record_bytes, node_of, forest}
use Rattle.forest.specs.Marks.{Known}
use Rattle.soundness.specs.Kinds.{parameter, class_of}
use Rattle.deflist.specs.Written.{Name, Param, kind_at, param_of, params_in}
use Rattle.deflist.specs.Unpack.{is_slash, first_same, repeats, first_slash, finish, Outcome}
use Rattle.deflist.specs.Told.{told}
use Rattle.deflist.specs.declared.Kind.{Kind}
use Rattle.deflist.specs.declared.Kind.TheVariants.{Normal, NoArgs, Slash, Args, KwArgs}
use Rattle.deflist.specs.declared.Counts.{Counts}

-- a stretch begins with a parameter
unfoldable pub is_listed : List ℕ → Bool
is_listed t = leb record_bytes (length t) && eqb (class_of (node_of 0 t).kind) parameter

-- the kind of the first parameter of a stretch
unfoldable pub kind_here : List ℕ → Kind
kind_here t = kind_at (node_of 0 t).kind (node_of 0 t).detail

-- a list begins with `/`
unfoldable pub begins_with_slash : List ℕ → Bool
begins_with_slash t = is_listed t && is_slash (kind_here t)

-- a parameter of a kind has a name; is a Normal
abbrev pub is_named : Kind → Bool
is_named (Normal default) = true
is_named NoArgs = false
is_named Slash = false
is_named Args = true
is_named KwArgs = true

abbrev pub is_normal : Kind → Bool
is_normal (Normal default) = true
is_normal NoArgs = false
is_normal Slash = false
is_normal Args = false
is_normal KwArgs = false

-- the position of the `*`, if there is one, is within the list
abbrev pub StarIn : List Param → Option Written → Type 0
StarIn w None = Unit {0}
StarIn w (Some i) = i.0 < length w

-- a refusal's node comes no later than m, and so does the earlier one that it carries
abbrev pub NotPast : ℕ → Option ℕ → Type 0
NotPast m (Some i) = i ≤ m
NotPast m None = Unit {0}

abbrev pub Inside : ℕ → Result Counts Fault → Type 0
Inside m (Ok c) = Unit {0}
Inside m (Err f) = (f.node ≤ m) × NotPast m f.earlier

-- the result of code for an outcome, where a refusal's node comes no later than m
pub record Says (o : Outcome) (m : ℕ) (r : Result Counts Fault) : Type 0 where
  pub same : r ≡ told o
  pub inside : Inside m r

-- the first `/` of a stretch, whatever the names and the index
pub record SlashAt (kids : List ℕ) (s : Option Written) : Type 0 where
  pub first : (names : List ℕ) (i : ℕ) → s ≡ first_slash (params_in names (forest i kids))

-- whether the list at the front of a stretch has more than `most` parameters; the same for all names and indices
unfoldable pub is_over : ℕ → List ℕ → Bool
is_over most kids = ltb most (length (params_in [] (forest 0 kids)))

pub record Exceeds (most : ℕ) (kids : List ℕ) (b : Bool) : Type 0 where
  pub says : (names : List ℕ) (i : ℕ) → b ≡ ltb most (length (params_in names (forest i kids)))

-- the first n parameters of a stretch take r bytes, whatever the names and the index
pub record Skips (kids : List ℕ) (n r : ℕ) : Type 0 where
  pub within : r ≤ length kids
  pub rest : (names : List ℕ) (i : ℕ) → n ≤ length (params_in names (forest i kids))
      → drop n (params_in names (forest i kids)) ≡ params_in names (forest (i + r / record_bytes) (drop r kids))

-- the result after the last parameter of a stretch, whatever the names
pub record Finishes (kids : List ℕ) (first : ℕ) (star : Option Written) (c : Counts)
    (r : Result Counts Fault) : Type 0 where
  pub says : (names : List ℕ) → StarIn (params_in names (forest first kids)) star
      → r ≡ told (finish (params_in names (forest first kids)) star c)
  pub inside : Inside (first + length kids / record_bytes) r

-- the first of those before that has this name, no later than m
pub record Earlier (x : Name) (before : List Param) (m : ℕ) (f : Option ℕ) : Type 0 where
  pub says : f ≡ first_same x before
  pub inside : NotPast m f

-- the result for the name of the first parameter of `left`, whatever its index: the first of those before it that has
-- an equal name, no later than m; and the marks then know it too
pub record Meets (names : List ℕ) (before : List Param) (left marks : List ℕ) (m : ℕ) (f : Option ℕ) : Type 0 where
  pub says : (i : ℕ) → f ≡ repeats before (param_of names (node_of i left))
  pub inside : NotPast m f
  pub known : (i : ℕ) → Known first_same marks (before ++ param_of names (node_of i left) ∷ [])

-- bounds of what is counted in the first m parameters, where the position of `/` is at most k
abbrev pub PlaceBelow : ℕ → Option Flat → Type 0
PlaceBelow m None = Unit {0}
PlaceBelow m (Some i) = i.0 ≤ m

pub record Bounded (m k : ℕ) (c : Counts) : Type 0 where
  pub positional : c.num_positional.0 ≤ m
  pub only : c.num_positional_only.0 ≤ k
  pub args : PlaceBelow m c.args
  pub kwargs : PlaceBelow m c.kwargs
  pub flat : c.flat.0 ≤ m
