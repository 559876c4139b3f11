-- Results of code while it reads the arguments. These are definitions.
use Rattle.std.specs.Prelude.{◌≡◌, List, [], ◌∷◌, ◌++◌, ℕ, ◌<◌, None, Option, Some}
use Rattle.forest.specs.Forest.{node_of}
use Rattle.forest.specs.Marks.{Known}
use Rattle.arguments.specs.Written.{Name, Argument, argument_of}
use Rattle.arguments.specs.Call.{first_same, repeats}
use Rattle.arguments.specs.declared.Check.{Check}
use Rattle.arguments.specs.declared.Check.TheVariants.{Fine, Broken, Repeated}

-- the earlier argument's node fits 32 bits
abbrev pub SmallFound : Option ℕ → Type 0
SmallFound (Some i) = i < 4294967296
SmallFound None = Unit {0}

abbrev pub SmallCheck : Check → Type 0
SmallCheck Fine = Unit {0}
SmallCheck (Broken n) = Unit {0}
SmallCheck (Repeated i) = i < 4294967296

-- the first of those before that has this name
pub record Earlier (x : Name) (before : List Argument) (f : Option ℕ) : Type 0 where
  pub says : f ≡ first_same x before
  pub small : SmallFound f

-- the result for the name of the first argument of `left`, whatever its index: the first of those before it that has an
-- equal name; and the marks then know it too
pub record Meets (names : List ℕ) (before : List Argument) (left marks : List ℕ) (f : Option ℕ) : Type 0 where
  pub says : (i : ℕ) → f ≡ repeats before (argument_of names (node_of i left))
  pub small : SmallFound f
  pub known : (i : ℕ) → Known first_same marks (before ++ argument_of names (node_of i left) ∷ [])
