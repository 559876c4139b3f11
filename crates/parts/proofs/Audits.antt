-- The refusals of the jobs, record by record, in two forests whose records say the same: the same words of the errors
-- are read. The job of a record follows from its kind, and its role from its parent and place; both are the same. The
-- induction is on both forests at once (`placed_tree_same`). The list without the errors of parameter lists depends
-- only on what is read of the list, because the number is among the words that are read (`own_same`). Cite
-- `refusals_same` and `own_same`. Assumes nothing.
use mathlib.Core.Path.{◌≡◌, refl, sym, ap, ◌∙◌}
use mathlib.Core.Bool.{Bool, true, false}
use mathlib.Core.List.{List, [], ◌∷◌, ◌++◌}
use Prim.Native.Nat.{ℕ}
use lib.ListN.{get_or}
use Rattle.fields.specs.Choice.{if'}
use Rattle.dialect.specs.declared.Dialect.{Dialect}
use Rattle.dialect.specs.declared.Edition.{Edition}
use Rattle.forest.specs.Forest.{Tree, node, Forest, none, ◌then◌}
use Rattle.table.specs.Check.{wants}
use Rattle.table.specs.declared.Wanted.TheVariants.{Parameters, Call, Assignment}
use Rattle.errors.specs.declared.Finding.{Finding}
use Rattle.errors.specs.Errors.{place_words, is_list_error, without_lists}
use Rattle.audit.specs.declared.Role.{Role}
use Rattle.audit.specs.declared.Role.TheVariants.{AsTarget, AsType, Plain}
use Rattle.audit.specs.declared.Roles.{Roles}
use Rattle.audit.specs.Roles.{role_of, roles_after, roles_of, Placed, placed_as, kind_in, placed_tree, placed}
use Rattle.audit.proofs.Bounds.{refusals_append}
use Rattle.audit.specs.Refusals.{kind_errors, role_errors, refused_there, refusals}
use Rattle.parts.specs.Parts.{SameTree, SameTrees, read}
use Rattle.parts.proofs.Read.{Reads, reads_both, reads_if}
use Rattle.parts.proofs.Lists.{params_paired, list_same}
use Rattle.parts.proofs.Calls.{call_same}
use Rattle.parts.proofs.Targets.{counted_same, assignment_same}
use Rattle.parts.proofs.Types.{check_same}

module _ (d : Dialect) (edition : Edition) (names others : List ℕ) where
  kind_same : (t u : Tree) → SameTree names others t u → Reads (kind_errors names t) (kind_errors others u)
  unfolding kind_errors SameTree
  kind_same (node r ks) (node s ls) (h, below) =
      reads_if _ _ (ap (wants Parameters) h.kind) _ _ _ _ (list_same h (params_paired names others ks ls below))
      (reads_if _ _ (ap (wants Call) h.kind) _ _ _ _ (call_same names others (node r ks) (node s ls) (h, below))
      (reads_if _ _ (ap (wants Assignment) h.kind) _ _ _ _
      (assignment_same names others (node r ks) (node s ls) (h, below)) refl))

  role_same : (role : Role) (t u : Tree) → SameTree names others t u
      → Reads (role_errors d edition names role t) (role_errors d edition others role u)
  unfolding role_errors
  role_same AsTarget t u h = counted_same names others 0 t u h
  role_same AsType t u h = check_same edition names others d.enable_types t u h
  role_same Plain t u h = refl

  as_role : (role like : Role) → role ≡ like → (t u : Tree) → SameTree names others t u
      → Reads (role_errors d edition names role t) (role_errors d edition others like u)
  as_role role like e t u h = rw e (role_same like t u h)

  there_same : (role like : Role) → role ≡ like → (t u : Tree) → SameTree names others t u
      → Reads (refused_there d edition names (placed_as role t)) (refused_there d edition others (placed_as like u))
  unfolding refused_there
  there_same role like e t u h = reads_both _ _ _ _ (kind_same t u h) (as_role role like e t u h)

  -- two joined lists of trees, and the kind of the first record of a tree
  joined_same : (ps qs xs ys : List Placed) → Reads (refusals d edition names ps) (refusals d edition others qs)
      → Reads (refusals d edition names xs) (refusals d edition others ys)
      → Reads (refusals d edition names (ps ++ xs)) (refusals d edition others (qs ++ ys))
  joined_same ps qs xs ys h k =
      rw (refusals_append d edition names ps xs, refusals_append d edition others qs ys) (reads_both _ _ _ _ h k)

  first_kind : (t u : Tree) → SameTree names others t u → kind_in t ≡ kind_in u
  unfolding SameTree
  first_kind (node r ks) (node s ls) (h, below) = h.kind

  role_there : (roles likes : Roles) → roles ≡ likes → (k m : ℕ) → k ≡ m → role_of roles k ≡ role_of likes m
  role_there roles likes e k m c = rw (e, c) refl

  roles_below : (k m : ℕ) → k ≡ m → (x y : ℕ) → x ≡ y → roles_of k x ≡ roles_of m y
  roles_below k m e x y c = rw (e, c) refl

  mutual
    unfolding placed_tree SameTree refusals

    placed_tree_same : (t u : Tree) (role like : Role) → role ≡ like → SameTree names others t u
        → Reads (refusals d edition names (placed_tree role t)) (refusals d edition others (placed_tree like u))
    placed_tree_same (node r ks) (node s ls) role like e (h, below) =
        reads_both _ _ _ _ (there_same role like e (node r ks) (node s ls) (h, below))
        (placed_same ks ls _ _ (roles_below r.kind s.kind h.kind r.detail s.detail h.detail) below)

    placed_same : (ts us : Forest) (roles likes : Roles) → roles ≡ likes → SameTrees names others ts us
        → Reads (refusals d edition names (placed roles ts)) (refusals d edition others (placed likes us))
    placed_same none none roles likes e h = refl
    placed_same none (u then us) roles likes e h = absurd h
    placed_same (t then ts) none roles likes e h = absurd h
    placed_same (t then ts) (u then us) roles likes e (here, rest) =
        joined_same (placed_tree (role_of roles (kind_in t)) t) (placed_tree (role_of likes (kind_in u)) u)
        (placed (roles_after roles) ts) (placed (roles_after likes) us)
        (placed_tree_same t u _ _ (role_there roles likes e _ _ (first_kind t u here)) here)
        (placed_same ts us _ _ (ap roles_after e) rest)

  -- LAW: the refusals of the jobs
  pub refusals_same : (roles : Roles) (ts us : Forest) → SameTrees names others ts us
      → Reads (refusals d edition names (placed roles ts)) (refusals d edition others (placed roles us))
  refusals_same roles ts us h = placed_same ts us roles roles refl h

-- LAW: the same for the lists without the errors of parameter lists
unfoldable rows_kept : List (List ℕ) → List (List ℕ)
rows_kept [] = []
rows_kept (x ∷ xs) = if' (is_list_error (get_or x 0 0)) (λ _. rows_kept xs) (λ _. x ∷ rows_kept xs)

own_read : (es : List Finding) → read (without_lists es) ≡ rows_kept (read es)
unfolding read without_lists rows_kept
own_read [] = refl
own_read (e ∷ es) = go (is_list_error e.number) (own_read es)
  where
    go : (b : Bool) → read (without_lists es) ≡ rows_kept (read es)
        → read (if' b (λ _. without_lists es) (λ _. e ∷ without_lists es))
        ≡ if' b (λ _. rows_kept (read es)) (λ _. place_words e ∷ rows_kept (read es))
    go true h = h
    go false h = ap (λ (xs : List (List ℕ)). place_words e ∷ xs) h

pub own_same : (es fs : List Finding) → Reads es fs → Reads (without_lists es) (without_lists fs)
own_same es fs h = own_read es ∙ ap rows_kept h ∙ sym (own_read fs)
