-- What an accepted list of arguments is, defined by itself: positional, then named, then at most one star, then at most
-- one `**`, names distinct.
-- These are definitions.
use Rattle.std.specs.Prelude.{◌≡◌, List, [], ◌∷◌, ◌++◌, ℕ, ◌+◌, replicate, None, Option, Some}
use Rattle.forest.specs.Names.{Distinct}
use Rattle.arguments.specs.Written.{Name, Argument, positional, named, args, kwargs, kind_in}
use Rattle.arguments.specs.Call.{Outcome, unpacked, refused_with, repeated_name, internal_error, given, bit}
use Rattle.arguments.specs.declared.Kind.{Kind}
use Rattle.arguments.specs.declared.Kind.TheVariants.{Positional, Named, Args, KwArgs}
use Rattle.arguments.specs.declared.CallArgs.{CallArgs}

-- the kinds of a list of arguments, in order
abbrev pub kinds_of : List Argument → List Kind
kinds_of [] = []
kinds_of (p ∷ ps) = kind_in p ∷ kinds_of ps

-- one of a kind where there is a place
abbrev pub one : Option ℕ → Kind → List Kind
one (Some i) k = k ∷ []
one None k = []

-- the positional ones, then the named ones, then the star, then the `**`, in the numbers that c has
abbrev pub in_order : CallArgs → List Kind
in_order a = replicate a.num_pos Positional
    ++ (replicate a.num_named Named ++ (one a.star Args ++ one a.star_star KwArgs))

-- a place, if there is one, is the n-th
abbrev pub Placed : Option ℕ → ℕ → Type 0
Placed (Some i) n = i ≡ n
Placed None n = Unit {0}

-- the names of a list's named arguments
abbrev pub names_of : List Argument → List Name
names_of [] = []
names_of (positional r ∷ ps) = names_of ps
names_of (named r n ∷ ps) = n ∷ names_of ps
names_of (args r ∷ ps) = names_of ps
names_of (kwargs r ∷ ps) = names_of ps

-- a list of arguments in order, in the numbers that c has, with the star and the `**` at the places that c has, and
-- with distinct names
pub record Ordered (l : List Argument) (c : CallArgs) : Type 0 where
  pub kinds : kinds_of l ≡ in_order c
  pub star_at : Placed c.star (c.num_pos + c.num_named)
  pub kwargs_at : Placed c.star_star (c.num_pos + c.num_named + bit (given c.star))
  pub distinct : Distinct (names_of l)

-- an outcome that is no internal error
abbrev pub Expected : Outcome → Type 0
Expected (unpacked a) = Unit {0}
Expected (refused_with n r) = Unit {0}
Expected (repeated_name i r) = Unit {0}
Expected internal_error = ⊥
