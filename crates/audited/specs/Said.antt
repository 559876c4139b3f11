-- The words of the sentence about the audit: every job accepts every node that it fits. These are definitions.
use Rattle.std.specs.Prelude.{◌≡◌, Bool, true, false, List, [], ◌∷◌, ℕ, ◌/◌, ◌≤◌, length}
use Rattle.forest.specs.Forest.{record_bytes, Node, forest}
use Rattle.table.specs.Answer.{Answer, accepted, refused}
use Rattle.table.specs.Check.{node_fits, stretch_of}
use Rattle.table.specs.declared.Wanted.TheVariants.{Parameters, Call, Assignment}
use Rattle.deflist.specs.Written.{root_in}
use Rattle.parameters.specs.Params.{list_of, params_of}
use Rattle.arguments.specs.Job.{call_of}
use Rattle.targets.specs.Jobs.{target_of, assignment_of}
use Rattle.types.specs.Jobs.{type_shape_of}
use Rattle.audit.specs.declared.Role.{Role}
use Rattle.audit.specs.declared.Role.TheVariants.{AsTarget, AsType}
use Rattle.audit.specs.declared.Roles.TheVariants.{Nowhere}
use Rattle.audit.specs.Roles.{Placed, placed}

-- whether an answer is accepted
abbrev pub is_accepted : Answer → Bool
is_accepted (accepted vs) = true
is_accepted (refused n vs) = false

-- something holds of every tree in a list
abbrev pub All : (Placed → Type 0) → List Placed → Type 0
All P [] = Unit {0}
All P (p ∷ ps) = P p × All P ps

-- the first records of trees in turn
unfoldable pub roots_in : List Placed → List Node
roots_in [] = []
roots_in (p ∷ ps) = root_in p.tree ∷ roots_in ps

-- every job that fits node i of a table accepts it, if a job with a buffer has room, where n is the number of the
-- edition and i has this role: its parameters if it is a Def or Lambda, its arguments if it is a Call, its target and
-- type if it is an Assign or AssignModify; the node itself as a target or as a type, if that is its role
pub record Accepts (t names bytes : List ℕ) (n i : ℕ) (role : Role) : Type 0 where
  pub params : node_fits t i Parameters ≡ true → (room : ℕ) → length (list_of t names i) ≤ room
      → is_accepted (params_of t names i room) ≡ true
  pub call : node_fits t i Call ≡ true → is_accepted (call_of t names i) ≡ true
  pub assignment : node_fits t i Assignment ≡ true → is_accepted (assignment_of t names i) ≡ true
  pub target : role ≡ AsTarget → is_accepted (target_of t names i) ≡ true
  pub type : role ≡ AsType → (room : ℕ) → length (stretch_of t i) / record_bytes ≤ room
      → is_accepted (type_shape_of t names bytes n i room) ≡ true

-- every node of a table is accepted in this sense, in its role
abbrev pub AllAccept : List ℕ → List ℕ → List ℕ → ℕ → Type 0
AllAccept t names bytes n =
    All (λ p. Accepts t names bytes n (root_in p.tree).at p.role) (placed Nowhere (forest 0 t))
