-- What inner functions of the module pass promise. These are definitions.
use Rattle.std.specs.Prelude.{Bool, false, ◌||◌, List, [], ◌∷◌, ◌≡◌, ℕ, ◌≤◌, eqb, leb}
use Rattle.forest.specs.Forest.{Node, node, Forest, none, ◌then◌, forest}
use Rattle.soundness.specs.KindNumbers.{kind_statements, kind_other_simple, kind_ellipsis, kind_lambda}
use Rattle.soundness.specs.Kinds.{statement, class_of}
use Rattle.errors.specs.declared.Finding.{Finding}
use Rattle.errors.specs.declared.Listing.{Listing}
use Rattle.errors.specs.Errors.{Stores}

-- a check that finds the errors es, and counts no more than most
pub record StoresFew (l : Listing) (most : ℕ) (es : List Finding) (xs : List ℕ) (total : ℕ) (ys : List ℕ) : Type 0 where
  pub few : total ≤ most
  pub stores : Stores l es xs total ys

-- the kinds of record at which the expression walk can find an error, and whether one of some nodes is of such a kind
abbrev pub is_site : ℕ → Bool
is_site k = eqb k kind_ellipsis || eqb k kind_lambda

unfoldable pub has_site : List Node → Bool
has_site [] = false
has_site (r ∷ rs) = is_site r.kind || has_site rs

-- the kinds of statement without an arm of their own, and whether one of the nodes side by side is a statement
abbrev pub is_plain : ℕ → Bool
is_plain k = eqb k kind_statements || leb kind_other_simple k

unfoldable pub has_statement : Forest → Bool
has_statement none = false
has_statement (node r ks then ts) = eqb (class_of r.kind) statement || has_statement ts

-- the answer for a stretch, whatever the index of its first record
abbrev pub SaysStatement : List ℕ → Bool → Type 0
SaysStatement t b = (i : ℕ) → b ≡ has_statement (forest i t)
