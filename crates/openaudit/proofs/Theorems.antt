-- W-209 about the audit, in each edition, for any bytes that mean two dialects of which the second permits all that the
-- first does. `errors 0` stays `errors 0` (`audit_zero_stays`): by the crate audited, 0 means that the module pass has
-- no error and every job accepts every node; the first stays by opening's `zero_stays`, and of the jobs only the type
-- job reads the dialect, which accepts no less if types are open (`type_stays`). If types are not newly opened, the
-- whole list is the first without the opened numbers (`audit_opened`); if they are, 45 gives way to 40 to 44 (Example).
-- The inductions are in Stays, Numbers and opening. Assumes nothing.
use Rattle.std.specs.Prelude.{None, Option, Some}
use mathlib.Core.Path.{◌≡◌, refl, sym, ◌∙◌}
use mathlib.Core.Bool.{Bool, true, false}
use mathlib.Core.List.{List, [], ◌∷◌}
use Prim.Native.Nat.{ℕ}
use lib.ListN.{length, take}
use Rattle.fields.specs.Choice.{if'}
use Rattle.fields.proofs.Basics.{never}
use Rattle.dialect.specs.declared.Dialect.{Dialect}
use Rattle.dialect.specs.declared.Edition.{Edition}
use Rattle.dialect.specs.Editions.{edition_of}
use Rattle.dialect.specs.declared.DialectTypes.{DialectTypes}
use Rattle.dialect.specs.Rows.{permits_types}
use Rattle.dialect.specs.Bytes.{from_bytes}
use Rattle.forest.specs.Forest.{Tree, node, Forest, forest, tree_of}
use Rattle.table.specs.Answer.{Answer, accepted, refused, and_then, refused_at}
use Rattle.table.specs.Check.{check_of, handing, given_of, ruling, rules_of, in_rules, node_check, stretch_of, most_bytes}
use Rattle.table.specs.declared.Wanted.TheVariants.{Expression}
use Rattle.table.specs.Numbers.{types_disabled}
use Rattle.types.specs.Types.{«unpack», dialect_check_type}
use Rattle.types.specs.Jobs.{room_check, type_at, type_shape_of}
use Rattle.errors.specs.declared.Finding.{Finding}
use Rattle.errors.specs.declared.Listing.TheVariants.{Own}
use Rattle.errors.specs.Errors.{kept}
use Rattle.validate.specs.Module.{validate_module}
use Rattle.validate.specs.Job.{pass_errors}
use Rattle.opening.specs.Opening.{at_least, permits_all, opened, without}
use Rattle.opening.proofs.Filters.{without_append}
use Rattle.opening.proofs.Fields.{permits}
use Rattle.opening.proofs.Theorems.{second_clause}
use Rattle.opening.proofs.OverTheJob.{zero_stays}
use Rattle.audit.specs.declared.Roles.TheVariants.{Nowhere}
use Rattle.audit.specs.Roles.{Placed, placed}
use Rattle.audit.specs.Refusals.{refusals}
use Rattle.audit.specs.Job.{audit_errors, audit_in, all_errors, audit_of}
use Rattle.deflist.specs.Written.{root_in}
use Rattle.audited.specs.Said.{is_accepted, Accepts}
use Rattle.audited.proofs.Everywhere.{all_map}
use Rattle.audited.proofs.Audited.{audit_known, zero_passes, passes_zero}
use Rattle.openaudit.proofs.Stays.{own_swaps, refusals_stay, refusals_same}

-- two steps: if the second stays accepted, so does the whole
then_stays : (x : Answer) (f g : Unit {0} → Answer) → (is_accepted (f tt) ≡ true → is_accepted (g tt) ≡ true)
    → is_accepted (and_then x f) ≡ true → is_accepted (and_then x g) ≡ true
then_stays (accepted vs) f g on h = on h
then_stays (refused n vs) f g on h = h

-- a type that is accepted stays accepted
tree_stays : (edition : Edition) (names : List ℕ) (x y : DialectTypes) (t : Tree)
    → at_least (permits_types x) (permits_types y) ≡ true
    → is_accepted (dialect_check_type edition names x t) ≡ true
    → is_accepted (dialect_check_type edition names y t) ≡ true
unfolding dialect_check_type
tree_stays edition names x y (node r ks) least h = go (permits_types x) (permits_types y) least h
  where
    asked : Bool → Answer
    asked b =
        and_then (if' b (λ _. accepted []) (λ _. refused_at types_disabled r)) (λ _. «unpack» edition names (node r ks))

    go : (a b : Bool) → at_least a b ≡ true → is_accepted (asked a) ≡ true → is_accepted (asked b) ≡ true
    go true true least h = h
    go true false least h = never (cc)
    go false b least h = never (cc)

module _ (t names first second : List ℕ) (n : ℕ) {d e : Dialect} (one : from_bytes first ≡ Some d)
    (two : from_bytes second ≡ Some e) (all : permits_all d e ≡ true) where
  type_stays : (i room : ℕ) → is_accepted (type_shape_of t names first n i room) ≡ true
      → is_accepted (type_shape_of t names second n i room) ≡ true
  unfolding type_shape_of rules_of given_of type_at
  type_stays i room h = rw two (go (check_of t names) (edition_of n) (rw one at h))
    where
      asked : Answer → Option Edition → Dialect → Answer
      asked a read x = in_rules (ruling (handing a (Some x)) read)
          (λ y edition. type_at edition t names y.enable_types i room)

      go : (a : Answer) (read : Option Edition) → is_accepted (asked a read d) ≡ true
          → is_accepted (asked a read e) ≡ true
      go (refused m vs) read h = never (cc)
      go (accepted vs) None h = never (cc)
      go (accepted vs) (Some edition) h =
          then_stays (node_check t i Expression) _ _ (then_stays (room_check room (stretch_of t i)) _ _
          (tree_stays edition names d.enable_types e.enable_types (tree_of i (stretch_of t i))
          (permits all).types)) h

  -- every job that accepts a node in the first dialect accepts it in the second
  accepts_stay : (p : Placed) → Accepts t names first n (root_in p.tree).at p.role
      → Accepts t names second n (root_in p.tree).at p.role
  accepts_stay p a = record {
    params = a.params;
    call = a.call;
    assignment = a.assignment;
    target = a.target;
    type = λ role room fits. type_stays (root_in p.tree).at room (a.type role room fits);
  }

  -- THEOREM: `errors 0` stays `errors 0`, even if types or top-level statements open
  pub audit_zero_stays : audit_of t names first n ≡ accepted (0 ∷ []) → audit_of t names second n ≡ accepted (0 ∷ [])
  audit_zero_stays h =
      let passed = zero_passes t names first n h in
      let known = audit_known t names first n h in
      passes_zero t names second n known.1 (zero_stays t names first second one two all passed.0)
      (all_map accepts_stay (placed Nowhere (forest 0 t)) passed.1)

  module _ (top : d.enable_top_level_stmt ≡ e.enable_top_level_stmt)
      (types : permits_types d.enable_types ≡ permits_types e.enable_types) where
    -- the two parts of the list
    parts_opened : (edition : Edition)
        → audit_errors e edition names t ≡ without (opened d e) (audit_errors d edition names t)
    unfolding audit_errors pass_errors
    parts_opened edition =
        let ts : Forest = forest 0 (take most_bytes t) in
        let told : List Finding = validate_module d names ts in
        let refused' : List Finding = refusals d edition names (placed Nowhere ts) in
        rw (
          second_clause d e all top names ts,
          own_swaps (opened d e) told,
          refusals_same d e types edition names (placed Nowhere ts),
        ) (sym (without_append (opened d e) (kept Own told) refused'
        ∙ rw (refusals_stay d e d edition names (placed Nowhere ts)) refl))

    -- the errors that are left
    abbrev pub left : List Finding
    left = without (opened d e) (all_errors t names first n)

    -- THEOREM: if types are not newly opened, the list of the audit is the first without the opened numbers
    pub audit_opened : all_errors t names second n ≡ left
    unfolding all_errors rules_of given_of without
    audit_opened = rw (one, two) (go (check_of t names) (edition_of n))
      where
        go : (a : Answer) (read : Option Edition) → audit_in (ruling (handing a (Some e)) read) names t
            ≡ without (opened d e) (audit_in (ruling (handing a (Some d)) read) names t)
        go (refused m vs) read = refl
        go (accepted vs) None = refl
        go (accepted vs) (Some edition) = parts_opened edition

    -- THEOREM: the answer is the number of these errors, or the same refusal
    pub audit_total_opened : audit_of t names second n
        ≡ in_rules (rules_of t names first (edition_of n)) (λ _ _. accepted (length left ∷ []))
    unfolding rules_of given_of
    audit_total_opened = rw (audit_opened, one, two) (go (check_of t names) (edition_of n))
      where
        go : (a : Answer) (read : Option Edition)
            → in_rules (ruling (handing a (Some e)) read) (λ _ _. accepted (length left ∷ []))
            ≡ in_rules (ruling (handing a (Some d)) read) (λ _ _. accepted (length left ∷ []))
        go (refused m vs) read = refl
        go (accepted vs) None = refl
        go (accepted vs) (Some edition) = refl
