-- The figures of a table add up. A call is accepted or refused (`calls_all`). The modes of an accepted list are
-- counted from its ranges (figures' `modes_counted`), and the ranges follow one another up to the flat count
-- (`modes_flat`). Both hold for one node, so they hold for the sums over all nodes (`total_both`, `total_same`).
-- Every number of the module pass is 10 to 19 or 50 to 61, by induction over the trees in the order in which the pass
-- visits them (`module_known`), and each such number is counted once (`counted_once`). So the errors by number are
-- all errors (`errors_all`). Assumes nothing.
use Rattle.std.specs.Prelude.{Err, Ok, Result}
use Rattle.deflist.specs.declared.Fault.{Fault}
use mathlib.Core.Path.{◌≡◌, refl, sym, ap, ap₂, ◌∙◌}
use mathlib.Core.Bool.{Bool, true, false, ◌&&◌, not}
use mathlib.Core.Logic.{◌⊎◌, inl, inr}
use mathlib.Core.List.{List, [], ◌∷◌, ◌++◌}
use Prim.Native.Nat.{ℕ, zero, suc, ◌+◌, ◌<◌, ◌≤◌}
use native.Mathlib.Omega.{arith}
use lib.ListN.{length, get_or}
use lib.Dec.{eqb, leb}
use borrow.Author.Tests.{eq-eqb, ne_eqb, leb-true}
use Rattle.fields.specs.Choice.{if'}
use Rattle.fields.proofs.Basics.{never, and_left, and_right, le_or_lt}
use Rattle.dialect.specs.declared.Dialect.{Dialect}
use Rattle.dialect.specs.Rows.{permits_types}
use Rattle.forest.specs.Forest.{Node, Tree, node, Forest, none, ◌then◌, forest}
use Rattle.soundness.specs.KindNumbers.{kind_def, kind_for, kind_break, kind_continue, kind_return, kind_load, kind_ellipsis}
use Rattle.soundness.specs.KindNumbers.{kind_lambda}
use Rattle.soundness.specs.Kinds.{statement, class_of}
use Rattle.table.specs.Numbers.{def_not_permitted, top_level_for, top_level_if, load_not_at_top, load_not_permitted}
use Rattle.table.specs.Numbers.{ellipsis_not_permitted, lambda_not_permitted}
use Rattle.table.specs.Answer.{Answer, accepted, refused, passes, is_refused}
use Rattle.table.specs.Check.{most_nodes, node_fits, Handing, in_dialect, turned_away, given_of}
use Rattle.table.specs.declared.Wanted.TheVariants.{Call}
use Rattle.deflist.specs.Written.{Param, node_in, kind_in, params_in}
use Rattle.deflist.specs.Unpack.{modes}
use Rattle.deflist.specs.Limited.{limited}
use Rattle.deflist.specs.Told.{told}
use Rattle.deflist.specs.declared.Counts.{Counts}
use Rattle.parameters.specs.Indices.{counted_of}
use Rattle.parameters.specs.Params.{list_of, params_of}
use Rattle.parameters.proofs.Accepted.{accepted_passed}
use Rattle.arguments.specs.Job.{call_of}
use Rattle.errors.specs.declared.Finding.{Finding}
use Rattle.errors.specs.declared.Listing.TheVariants.{Own}
use Rattle.errors.specs.Errors.{unless, is_list_error, without_lists, kept}
use Rattle.validate.specs.Params.{not_permitted, permits, is_mark, every_mark, marks, unpack_error}
use Rattle.validate.specs.Params.{validate_params, with_params}
use Rattle.validate.specs.Module.{is_banned, told_if, is_if, at_top, in_def, arm_of, on_arm, f, visit_stmt}
use Rattle.validate.specs.Module.{expr_errors, expr, visit_expr, validate_module}
use Rattle.validate.specs.Job.{errors_in, errors_of}
use Rattle.validate.specs.declared.Mark.{Mark}
use Rattle.validate.specs.declared.Mark.TheVariants.{Star, Slash}
use Rattle.validate.specs.declared.Standing.{Standing}
use Rattle.validate.specs.declared.Arm.{Arm}
use Rattle.validate.proofs.Refusals.{list_left}
use Rattle.figures.specs.Counting.{one, occurrences, occurrences_from, total, nodes_of, mode_at, accepted_at}
use Rattle.figures.specs.Counting.{refused_at, over, numbers_of, error_counts}
use Rattle.figures.specs.Walking.{Ranged, range_counts}
use Rattle.figures.proofs.Lists.{mode_counts, modes_counted, ranged}
use Rattle.figured.specs.Said.{call_at, flat_in, flat_at, sum_of}

-- sums over nodes
pub total_both : (n : ℕ) (f g : ℕ → ℕ) → total n f + total n g ≡ total n (λ i. f i + g i)
unfolding total
total_both zero f g = refl
total_both (suc i) f g = omega (arith, total_both i f g)

pub total_same : (n : ℕ) (f g : ℕ → ℕ) → ((i : ℕ) → f i ≡ g i) → total n f ≡ total n g
unfolding total
total_same zero f g same = refl
total_same (suc i) f g same = ap₂ ◌+◌ (total_same i f g same) (same i)

module _ (t names : List ℕ) where
  -- a call is accepted or refused
  call_either : (i : ℕ) → accepted_at t names i + refused_at t names i ≡ call_at t i
  unfolding accepted_at refused_at call_at
  call_either i = go (node_fits t i Call) (call_of t names i)
    where
      go : (b : Bool) (a : Answer) → one (b && passes a) + one (b && is_refused a) ≡ one b
      go true (accepted vs) = refl
      go true (refused k vs) = refl
      go false a = refl

  -- THEOREM: calls accepted and refused together are all calls
  pub calls_all : over t (accepted_at t names) + over t (refused_at t names) ≡ over t (call_at t)
  calls_all =
      total_both (nodes_of t) (accepted_at t names) (refused_at t names)
      ∙ total_same (nodes_of t) (λ i. accepted_at t names i + refused_at t names i) (call_at t) call_either

  -- the modes of a list, from its ranges
  ranges_flat : (c : Counts) → Ranged c → sum_of (range_counts c) ≡ c.flat.0
  unfolding sum_of
  ranges_flat c r = omega (arith, r.before, r.behind)

  list_flat : (i : ℕ) {vs : List ℕ} → params_of t names i most_nodes ≡ accepted vs
      → sum_of (mode_counts (modes (list_of t names i))) ≡ get_or vs 10 0
  unfolding counted_of
  list_flat i e =
      let p = accepted_passed t names i most_nodes e in
      let l : List Param = list_of t names i in
      rw (p.values, ← modes_counted l p.outcome) (ranges_flat p.counts (ranged l p.outcome))

  -- LAW: the modes of a node are the flat parameters of its list, if that is accepted
  pub modes_flat : (i : ℕ) → mode_at 1 t names i + (mode_at 2 t names i + (mode_at 3 t names i + (mode_at 4 t names i
      + mode_at 5 t names i))) ≡ flat_at t names i
  unfolding mode_at flat_at sum_of
  modes_flat i = go (params_of t names i most_nodes) refl
    where
      ms : List ℕ
      ms = modes (list_of t names i)

      at : ℕ → Answer → ℕ
      at m a = if' (passes a) (λ _. occurrences m ms) (λ _. 0)

      go : (a : Answer) → params_of t names i most_nodes ≡ a
          → at 1 a + (at 2 a + (at 3 a + (at 4 a + at 5 a))) ≡ flat_in a
      go (accepted vs) e = let h = list_flat i e in omega (arith, h)
      go (refused k vs) e = refl

  -- THEOREM: the modes summed are the flat counts of the accepted lists
  pub modes_all : over t (mode_at 1 t names) + (over t (mode_at 2 t names) + (over t (mode_at 3 t names)
      + (over t (mode_at 4 t names) + over t (mode_at 5 t names)))) ≡ over t (flat_at t names)
  modes_all = go (nodes_of t)
    where
      m : ℕ → ℕ → ℕ
      m k = mode_at k t names

      go : (n : ℕ) → total n (m 1) + (total n (m 2) + (total n (m 3) + (total n (m 4) + total n (m 5))))
          ≡ total n (flat_at t names)
      go n =
          rw (
            total_both n (m 4) (m 5),
            total_both n (m 3) (λ i. m 4 i + m 5 i),
            total_both n (m 2) (λ i. m 3 i + (m 4 i + m 5 i)),
            total_both n (m 1) (λ i. m 2 i + (m 3 i + (m 4 i + m 5 i))),
          )
          (total_same n (λ i. m 1 i + (m 2 i + (m 3 i + (m 4 i + m 5 i)))) (flat_at t names) modes_flat)

-- a number that has a counter, and errors whose numbers all have one
abbrev pub Known : ℕ → Type 0
Known n = ((10 ≤ n) × (n ≤ 19)) ⊎ ((50 ≤ n) × (n ≤ 61))

abbrev EachKnown : List Finding → Type 0
EachKnown [] = Unit {0}
EachKnown (e ∷ es) = Known e.number × EachKnown es

pub record AllKnown (es : List Finding) : Type 0 where
  pub each : EachKnown es

known_none : AllKnown []
known_none = record { each = tt }

known_one : {e : Finding} → Known e.number → AllKnown (e ∷ [])
known_one k = record { each = (k, tt) }

known_both : {es fs : List Finding} → AllKnown es → AllKnown fs → AllKnown (es ++ fs)
known_both {es} {fs} p q = record { each = go es p.each }
  where
    go : (gs : List Finding) → EachKnown gs → EachKnown (gs ++ fs)
    go [] h = q.each
    go (g ∷ gs) h = (h.0, go gs h.1)

known_if : (b : Bool) (x y : Unit {0} → List Finding) → AllKnown (x tt) → AllKnown (y tt) → AllKnown (if' b x y)
known_if true x y p q = p
known_if false x y p q = q

known_unless : (b : Bool) (n : ℕ) (r : Node) → Known n → AllKnown (unless b n r)
known_unless true n r k = known_none
known_unless false n r k = known_one k

-- a parameter list: the marks of each sort, and its one error
mark_known : (m : Mark) → Known (not_permitted m)
mark_known Star = inr (omega arith, omega arith)
mark_known Slash = inr (omega arith, omega arith)

every_known : (m : Mark) (ps : List Param) → AllKnown (every_mark m ps)
unfolding every_mark
every_known m [] = known_none
every_known m (p ∷ ps) =
    known_both
    (known_unless (not (is_mark m (kind_in p))) (not_permitted m) (node_in p) (mark_known m)) (every_known m ps)

error_known : (owner : Node) (ps : List Param) → AllKnown (unpack_error (told (limited owner ps)))
unfolding without_lists
error_known owner ps = go (told (limited owner ps)) (list_left owner ps)
  where
    one_of : (n : ℕ) (b : Bool) (e : Finding) → is_list_error n ≡ b
        → if' {A = List Finding} b (λ _. []) (λ _. e ∷ []) ≡ [] → Known n
    one_of n true e is h =
        inl (leb-true 10 n (and_left (leb 10 n) (leb n 19) is), leb-true n 19 (and_right (leb 10 n) (leb n 19) is))
    one_of n false e is h = never (sym (ap length h))

    go : (j : Result Counts Fault) → kept Own (unpack_error j) ≡ [] → AllKnown (unpack_error j)
    go (Ok c) h = known_none
    go (Err x) h = known_one (one_of x.number (is_list_error x.number) _ refl h)

module _ (d : Dialect) (names : List ℕ) where
  known_marks : (m : Mark) (ps : List Param) → AllKnown (marks d m ps)
  known_marks m ps = known_if (permits d m) _ _ known_none (every_known m ps)

  known_with : (b : Bool) (n : ℕ) (r : Node) (ks : Forest) → Known n → AllKnown (with_params d names b n r ks)
  unfolding with_params validate_params
  known_with b n r ks k =
      let ps : List Param = params_in names ks in
      known_both (known_unless b n r k)
      (known_both (known_both (known_marks Star ps) (known_marks Slash ps)) (error_known r ps))

  known_expr : (r : Node) (ks : Forest) → AllKnown (expr_errors d names r ks)
  unfolding expr_errors
  known_expr r ks =
      known_if (eqb r.kind kind_ellipsis) _ _
      (known_unless (permits_types d.enable_types) ellipsis_not_permitted r (inr (omega arith, omega arith)))
      (known_if (eqb r.kind kind_lambda) _ _
      (known_with d.enable_lambda lambda_not_permitted r ks (inr (omega arith, omega arith))) known_none)

  -- a statement, if the errors below it have known numbers in every place
  module _ (s : Standing) (r : Node) (ks : Forest) (visit : Standing → List Finding)
      (below : (p : Standing) → AllKnown (visit p)) where
    abbrev Fine : Arm → Type 0
    Fine a = AllKnown (on_arm d names s r ks visit a)

    fine_if : (b : Bool) (x y : Unit {0} → Arm) → Fine (x tt) → Fine (y tt) → Fine (if' b x y)
    fine_if true x y p q = p
    fine_if false x y p q = q

    fine_told : (b : Bool) (n : ℕ) (p : Standing) → Known n → Fine (told_if b n p)
    fine_told true n p k = known_one k
    fine_told false n p k = below p

    fine_load : AllKnown (unless s.top_level load_not_at_top r ++ unless d.enable_load load_not_permitted r)
    fine_load =
        known_both (known_unless s.top_level load_not_at_top r (inr (omega arith, omega arith)))
        (known_unless d.enable_load load_not_permitted r (inr (omega arith, omega arith)))

    fine_arm : Fine (arm_of d s r.kind)
    unfolding arm_of
    fine_arm =
        let k : ℕ = r.kind in
        fine_if (eqb k kind_def) _ _
        (known_both (known_with d.enable_def def_not_permitted r ks (inr (omega arith, omega arith)))
        (below in_def))
        (fine_if (eqb k kind_for) _ _ (fine_told (is_banned d s) top_level_for _ (inr (omega arith, omega arith)))
        (fine_if (is_if k) _ _ (fine_told (is_banned d s) top_level_if _ (inr (omega arith, omega arith)))
        (fine_if (eqb k kind_break && not s.inside_for) _ _ (known_one (inr (omega arith, omega arith)))
        (fine_if (eqb k kind_continue && not s.inside_for) _ _ (known_one (inr (omega arith, omega arith)))
        (fine_if (eqb k kind_return && not s.inside_def) _ _ (known_one (inr (omega arith, omega arith)))
        (fine_if (eqb k kind_load) _ _ fine_load (below s)))))))

  known_stmt : (s : Standing) (r : Node) (ks : Forest) → ((p : Standing) → AllKnown (visit_stmt d names p ks))
      → AllKnown (f d names s (node r ks))
  unfolding f
  known_stmt s r ks below =
      known_if (eqb (class_of r.kind) statement) _ _
      (fine_arm s r ks (λ p. visit_stmt d names p ks) below) known_none

  -- the induction over statements and expressions
  mutual
    unfolding f expr

    known_tree : (t : Tree) → ((s : Standing) → AllKnown (f d names s t)) × AllKnown (expr d names t)
    known_tree (node r ks) =
        let below = known_forest ks in
        (λ s. known_stmt s r ks below.0, known_both (known_expr r ks) below.1)

    known_forest : (ts : Forest)
        → ((s : Standing) → AllKnown (visit_stmt d names s ts)) × AllKnown (visit_expr d names ts)
    known_forest none = (λ s. known_none, known_none)
    known_forest (t then ts) =
        let here = known_tree t in
        let rest = known_forest ts in
        (λ s. known_both (here.0 s) (rest.0 s), known_both here.1 rest.1)

  -- LAW: every number of the module pass has a counter
  pub module_known : (ts : Forest) → AllKnown (validate_module d names ts)
  module_known ts = let each = known_forest ts in known_both (each.0 at_top) each.1

pub errors_known : (t names bytes : List ℕ) → AllKnown (errors_of t names bytes)
unfolding errors_of
errors_known t names bytes = go (given_of t names bytes)
  where
    go : (h : Handing) → AllKnown (errors_in h names t)
    go (in_dialect d) = module_known d names (forest 0 t)
    go (turned_away n vs) = known_none

-- the number of counters, of k from b on, that count a number
module _ (n : ℕ) where
  abbrev hits : ℕ → ℕ → ℕ
  hits zero b = 0
  hits (suc k) b = one (eqb n b) + hits k (b + 1)

  hits_none : (k b : ℕ) → (n < b) ⊎ (b + k ≤ n) → hits k b ≡ 0
  hits_none zero b h = refl
  hits_none (suc k) b h = let rest = hits_none k (b + 1) (next h) in rw (ne_eqb n b (away h), rest) refl
    where
      away : (n < b) ⊎ (b + suc k ≤ n) → n ≡ b → ⊥
      away (inl g) e = absurd (omega arith)
      away (inr g) e = absurd (omega arith)

      next : (n < b) ⊎ (b + suc k ≤ n) → (n < b + 1) ⊎ (b + 1 + k ≤ n)
      next (inl g) = inl (omega arith)
      next (inr g) = inr (omega arith)

  hits_one : (k b : ℕ) → b ≤ n → n < b + k → hits k b ≡ 1
  hits_one zero b h g = absurd (omega arith)
  hits_one (suc k) b h g = go (le_or_lt n b) (λ x. hits_one k (b + 1) (omega (arith, x)) (omega (arith, g)))
    where
      go : (n ≤ b) ⊎ (b < n) → (b < n → hits k (b + 1) ≡ 1) → hits (suc k) b ≡ 1
      go (inl x) more =
          let rest = hits_none k (b + 1) (inl (omega arith)) in
          rw (eq-eqb n b (omega arith), rest) refl
      go (inr x) more = rw (ne_eqb n b (λ e. absurd (omega arith)), more x) refl

  counted_more : (k b : ℕ) (ns : List ℕ)
      → sum_of (occurrences_from k b (n ∷ ns)) ≡ hits k b + sum_of (occurrences_from k b ns)
  unfolding sum_of occurrences_from occurrences
  counted_more zero b ns = refl
  counted_more (suc k) b ns = omega (arith, counted_more k (b + 1) ns)

  counted_once : Known n → hits 10 10 + hits 12 50 ≡ 1
  counted_once (inl h) =
      let list = hits_one 10 10 h.0 (omega (arith, h.1)) in
      let rest = hits_none 12 50 (inl (omega (arith, h.1))) in
      rw (list, rest) refl
  counted_once (inr h) =
      let list = hits_none 10 10 (inr (omega (arith, h.0))) in
      let rest = hits_one 12 50 h.0 (omega (arith, h.1)) in
      rw (list, rest) refl

sum_append : (xs ys : List ℕ) → sum_of (xs ++ ys) ≡ sum_of xs + sum_of ys
unfolding sum_of
sum_append [] ys = omega arith
sum_append (x ∷ xs) ys = omega (arith, sum_append xs ys)

known_counted : (es : List Finding) → EachKnown es → sum_of (error_counts (numbers_of es)) ≡ length es
unfolding error_counts numbers_of occurrences_from occurrences sum_of
known_counted [] h = refl
known_counted (e ∷ es) h =
    let n : ℕ = e.number in
    let ns : List ℕ = numbers_of es in
    omega (
      arith,
      sum_append (occurrences_from 10 10 (n ∷ ns)) (occurrences_from 12 50 (n ∷ ns)),
      sum_append (occurrences_from 10 10 ns) (occurrences_from 12 50 ns),
      counted_more n 10 10 ns,
      counted_more n 12 50 ns,
      counted_once n h.0,
      known_counted es h.1,
    )

-- THEOREM: the errors by number, summed, are the total of the module pass
pub errors_all : (t names bytes : List ℕ)
    → sum_of (error_counts (numbers_of (errors_of t names bytes))) ≡ length (errors_of t names bytes)
errors_all t names bytes = known_counted (errors_of t names bytes) (errors_known t names bytes).each
