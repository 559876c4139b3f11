-- General laws for the theorems of this crate: about what holds of every tree that the audit visits (`All`, over joined
-- lists: `all_both`, `all_left`, `all_right`; over consequences: `all_map`, `all_join`), and about lists of refusals
-- that are empty: there are none exactly if no tree has one (`none_refused`, `refused_none`). The inductions are on the
-- list of trees. The trees that the audit visits are those of all nodes, each once and in table order (`placed_roots`,
-- by induction on the trees). Assumes nothing.
use mathlib.Core.Path.{◌≡◌, refl, ap, ◌∙◌}
use mathlib.Core.Bool.{Bool, true, false, ◌||◌}
use mathlib.Core.List.{List, [], ◌∷◌, ◌++◌}
use Prim.Native.Nat.{ℕ}
use Rattle.fields.proofs.Basics.{never}
use Rattle.dialect.specs.declared.Dialect.{Dialect}
use Rattle.dialect.specs.declared.Edition.{Edition}
use Rattle.forest.specs.Forest.{Node, Tree, node, Forest, none, ◌then◌, nodes, nodes_of}
use Rattle.audit.specs.declared.Role.{Role}
use Rattle.audit.specs.declared.Roles.{Roles}
use Rattle.audit.specs.Roles.{roles_of, role_of, roles_after, Placed, kind_in, placed_tree, placed}
use Rattle.audit.specs.Refusals.{refused_there, refusals}
use Rattle.deflist.specs.Written.{root_in}
use Rattle.audited.specs.Said.{All, roots_in}

module _ (P : Placed → Type 0) where
  pub all_both : (ps qs : List Placed) → All P ps → All P qs → All P (ps ++ qs)
  all_both [] qs a b = b
  all_both (p ∷ ps) qs a b = (a.0, all_both ps qs a.1 b)

  pub all_left : (ps qs : List Placed) → All P (ps ++ qs) → All P ps
  all_left [] qs a = tt
  all_left (p ∷ ps) qs a = (a.0, all_left ps qs a.1)

  pub all_right : (ps qs : List Placed) → All P (ps ++ qs) → All P qs
  all_right [] qs a = a
  all_right (p ∷ ps) qs a = all_right ps qs a.1

-- if P implies Q at every tree, All P implies All Q; the same for two premises
pub all_map : {P Q : Placed → Type 0} → ((p : Placed) → P p → Q p) → (ps : List Placed) → All P ps → All Q ps
all_map f [] a = tt
all_map f (p ∷ ps) a = (f p a.0, all_map f ps a.1)

pub all_join : {P Q R : Placed → Type 0} → ((p : Placed) → P p → Q p → R p) → (ps : List Placed) → All P ps → All Q ps
    → All R ps
all_join f [] a b = tt
all_join f (p ∷ ps) a b = (f p a.0 b.0, all_join f ps a.1 b.1)

-- one of two tests holds
pub either : {P : Type 0} (a b : Bool) → (a || b) ≡ true → (a ≡ true → P) → (b ≡ true → P) → P
either true b e f g = f refl
either false b e f g = g e

-- two joined lists are empty exactly if both are
pub none_both : {A : Type 0} (xs ys : List A) → xs ++ ys ≡ [] → (xs ≡ []) × (ys ≡ [])
none_both [] ys e = (refl, e)
none_both (x ∷ xs) ys e = never (cc)

pub both_none : {A : Type 0} {xs ys : List A} → xs ≡ [] → ys ≡ [] → xs ++ ys ≡ []
both_none x-is y-is = rw (x-is, y-is) refl

-- LAW: there are no refusals exactly if there is none at any tree
module _ (d : Dialect) (edition : Edition) (names : List ℕ) where
  pub none_refused : (ps : List Placed) → refusals d edition names ps ≡ []
      → All (λ p. refused_there d edition names p ≡ []) ps
  unfolding refusals
  none_refused [] e = tt
  none_refused (p ∷ ps) e = let two = none_both (refused_there d edition names p) (refusals d edition names ps) e in
      (two.0, none_refused ps two.1)

  pub refused_none : (ps : List Placed) → All (λ p. refused_there d edition names p ≡ []) ps
      → refusals d edition names ps ≡ []
  unfolding refusals
  refused_none [] a = refl
  refused_none (p ∷ ps) a = both_none a.0 (refused_none ps a.1)

-- the first records of two lists of trees
roots_append : (ps qs : List Placed) → roots_in (ps ++ qs) ≡ roots_in ps ++ roots_in qs
unfolding roots_in
roots_append [] qs = refl
roots_append (p ∷ ps) qs = ap (λ (l : List Node). root_in p.tree ∷ l) (roots_append ps qs)

-- LAW: the trees that the audit visits are those of all nodes, each once, in table order
mutual
  unfolding placed roots_in nodes

  pub tree_roots : (role : Role) (t : Tree) → roots_in (placed_tree role t) ≡ nodes_of t
  tree_roots role (node r ks) = ap (λ (l : List Node). r ∷ l) (placed_roots (roles_of r.kind r.detail) ks)

  pub placed_roots : (roles : Roles) (ts : Forest) → roots_in (placed roles ts) ≡ nodes ts
  placed_roots roles none = refl
  placed_roots roles (t then ts) =
      roots_append (placed_tree (role_of roles (kind_in t)) t) (placed (roles_after roles) ts)
      ∙ rw (tree_roots (role_of roles (kind_in t)) t, placed_roots (roles_after roles) ts) refl
