-- If the audit refuses nothing by kind at any tree, every parameter list of the table passes (`forest_passes`). The
-- audit leaves the errors of parameter lists (10 to 19) out of the module pass's part and reports them at their Def or
-- Lambda instead; this law says that nothing is lost by that. The job of a Def or Lambda is its parameter list
-- (`list_of`), so no error there means that the list passes (`quiet_passes`). The induction is on the trees, with the
-- roles of the audit. Assumes nothing.
use Rattle.std.specs.Prelude.{Err, Ok, Result}
use Rattle.deflist.specs.declared.Fault.{Fault}
use Rattle.deflist.specs.declared.Counts.{Counts}
use mathlib.Core.Path.{◌≡◌, refl}
use mathlib.Core.Bool.{Bool, true, false, not, ◌||◌}
use mathlib.Core.List.{List, []}
use Prim.Native.Nat.{ℕ}
use Rattle.fields.proofs.Basics.{never, and_both}
use Rattle.forest.specs.Forest.{Node, Tree, node, Forest, none, ◌then◌}
use Rattle.table.specs.Check.{wants}
use Rattle.deflist.specs.Written.{params_in}
use Rattle.deflist.specs.Limited.{limited}
use Rattle.deflist.specs.Told.{told}
use Rattle.validate.specs.Params.{unpack_error}
use Rattle.validate.proofs.Own.{passes, has_list, lists_pass, list_passes}
use Rattle.audit.specs.declared.Role.{Role}
use Rattle.audit.specs.declared.Roles.{Roles}
use Rattle.audit.specs.Roles.{roles_of, role_of, roles_after, Placed, kind_in, placed_tree, placed}
use Rattle.audit.specs.Refusals.{kind_errors}
use Rattle.audited.specs.Said.{All}
use Rattle.audited.proofs.Everywhere.{all_left, all_right}

quiet_passes : (j : Result Counts Fault) → unpack_error j ≡ [] → passes j ≡ true
quiet_passes (Ok c) e = refl
quiet_passes (Err f) e = never (cc)

-- a test b that is made only if a holds
unless_asked : (a b : Bool) → (a ≡ true → b ≡ true) → (not a || b) ≡ true
unless_asked true b h = h refl
unless_asked false b h = refl

list_of : (names : List ℕ) (r : Node) (ks : Forest) → kind_errors names (node r ks) ≡ [] → has_list r.kind ≡ true
    → unpack_error (told (limited r (params_in names ks))) ≡ []
unfolding kind_errors wants
list_of names r ks e h = rw h at e

module _ (names : List ℕ) where
  -- nothing is refused by kind
  abbrev Quiet : Placed → Type 0
  Quiet p = kind_errors names p.tree ≡ []

  mutual
    unfolding placed lists_pass

    tree_passes : (role : Role) (t : Tree) → All Quiet (placed_tree role t)
        → list_passes names t ≡ true
    tree_passes role (node r ks) a =
        let j : (Result Counts Fault) = told (limited r (params_in names ks)) in
        and_both (not (has_list r.kind) || passes j) (lists_pass names ks)
        (unless_asked (has_list r.kind) (passes j) (λ h. quiet_passes j (list_of names r ks a.0 h)))
        (forest_passes (roles_of r.kind r.detail) ks a.1)

    pub forest_passes : (roles : Roles) (ts : Forest) → All Quiet (placed roles ts)
        → lists_pass names ts ≡ true
    forest_passes roles none a = refl
    forest_passes roles (t then ts) a =
        and_both (list_passes names t) (lists_pass names ts)
        (tree_passes (role_of roles (kind_in t)) t
        (all_left Quiet (placed_tree (role_of roles (kind_in t)) t) (placed (roles_after roles) ts) a))
        (forest_passes (roles_after roles) ts
        (all_right Quiet (placed_tree (role_of roles (kind_in t)) t) (placed (roles_after roles) ts) a))
