-- The sentence "`errors 0` means that the whole checker passes": the list of the audit is empty exactly if the module
-- pass has no error and every job accepts every node that it fits, for every table, dialect and edition that pass 1 to
-- 5. The list has two parts (`parts`). The second part is empty exactly if no tree is refused, and by Jobs a tree is
-- not refused exactly if every job accepts its node. The first part leaves out 10 to 19, but these are among the
-- refusals of the second (Own). There is no induction here. Cite `zero_passes` and `passes_zero` for the answers of the
-- jobs. Assumes nothing.
use Rattle.std.specs.Prelude.{Some}
use mathlib.Core.Path.{◌≡◌, refl, sym, ap, ◌∙◌}
use mathlib.Core.List.{List, [], ◌∷◌, ◌++◌}
use Prim.Native.Nat.{ℕ, ◌/◌}
use lib.ListN.{length}
use Rattle.fields.proofs.Basics.{never, no_entries}
use Rattle.dialect.specs.declared.Dialect.{Dialect}
use Rattle.dialect.specs.declared.Edition.{Edition}
use Rattle.dialect.specs.Editions.{edition_of}
use Rattle.forest.specs.Forest.{forest}
use Rattle.forest.proofs.Stretch.{records, nodes_records}
use Rattle.table.specs.Answer.{accepted}
use Rattle.table.specs.Check.{Handing, in_dialect, turned_away, given_of, in_given}
use Rattle.table.specs.Check.{Ruling, by_rules, unruled, rules_of, in_rules}
use Rattle.table.proofs.Answers.{never_passed}
use Rattle.table.proofs.Heads.{all_within}
use Rattle.table.proofs.Checking.{Clean}
use Rattle.table.proofs.Entering.{given_known}
use Rattle.table.proofs.Ruling.{rules_known, known_rules}
use Rattle.errors.specs.declared.Listing.TheVariants.{Own}
use Rattle.errors.specs.Errors.{kept}
use Rattle.errors.proofs.Storing.{kept_none}
use Rattle.validate.specs.Module.{validate_module}
use Rattle.validate.specs.Job.{errors_of, module_of}
use Rattle.validate.proofs.Jobs.{pass_is}
use Rattle.validate.proofs.Own.{own_module}
use Rattle.audit.specs.declared.Roles.TheVariants.{Nowhere}
use Rattle.audit.specs.Roles.{Placed, placed}
use Rattle.audit.specs.Refusals.{refusals}
use Rattle.audit.specs.Job.{audit_errors, all_errors, audit_of}
use Rattle.audited.specs.Said.{All, roots_in, AllAccept}
use Rattle.audited.proofs.Everywhere.{all_map, all_join, none_both, both_none, none_refused, refused_none}
use Rattle.audited.proofs.Everywhere.{placed_roots}
use Rattle.audited.proofs.Own.{forest_passes}
use Rattle.audited.proofs.Nodes.{Here, all_here}
use Rattle.audited.proofs.Roled.{Roled, all_roled}
use Rattle.audited.proofs.Jobs.{refused_accepts, accepts_refused, kind_none}

-- THEOREM: the trees that the audit visits are those of all records of the table, each once and in order
pub every_node : (t : List ℕ) → roots_in (placed Nowhere (forest 0 t)) ≡ records (length t / 24) 0 t
every_node t = placed_roots Nowhere (forest 0 t) ∙ nodes_records 0 t

module _ (t names bytes : List ℕ) (n : ℕ) {d : Dialect} {edition : Edition}
    (g : rules_of t names bytes (edition_of n) ≡ by_rules d edition) where
  clean : Clean t names
  clean = (given_known t names bytes (rules_known t names bytes g).0).0

  abbrev trees : List Placed
  trees = placed Nowhere (forest 0 t)

  -- the list in its two parts
  parts : all_errors t names bytes n
      ≡ kept Own (validate_module d names (forest 0 t)) ++ refusals d edition names trees
  unfolding all_errors audit_errors
  parts = rw (g, pass_is d names t clean.most, ← all_within t clean.most) refl

  module_is : errors_of t names bytes ≡ validate_module d names (forest 0 t)
  unfolding errors_of
  module_is = rw (rules_known t names bytes g).0 refl

  both_empty : all_errors t names bytes n ≡ []
      → (kept Own (validate_module d names (forest 0 t)) ≡ []) × (refusals d edition names trees ≡ [])
  both_empty e =
      none_both (kept Own (validate_module d names (forest 0 t))) (refusals d edition names trees) (sym parts ∙ e)

  -- what is known about every tree: it is the tree of a node, and its class fits its role
  abbrev Seen : Placed → Type 0
  Seen p = Here t p × Roled p

  seen_all : All Seen trees
  seen_all =
      all_join {P = Here t} {Q = Roled} {R = Seen} (λ p here fit. (here, fit)) trees (all_here clean Nowhere)
      (all_roled clean)

  -- THEOREM: if the list is empty, the module pass has no error
  pub empty_module : all_errors t names bytes n ≡ [] → errors_of t names bytes ≡ []
  empty_module e =
      let two = both_empty e in
      let quiet = all_map (kind_none d edition names) trees (none_refused d edition names trees two.1) in
      module_is ∙ sym (own_module d names (forest 0 t) (forest_passes names Nowhere (forest 0 t) quiet)) ∙ two.0

  -- THEOREM: if the list is empty, every job accepts every node
  pub empty_accepts : all_errors t names bytes n ≡ [] → AllAccept t names bytes n
  empty_accepts e =
      let two = both_empty e in
      all_join (λ p both none. refused_accepts t names bytes n g p both.0 both.1 none) trees seen_all
      (none_refused d edition names trees two.1)

  -- THEOREM: if the module pass has no error and every job accepts every node, the list is empty
  pub accepts_empty : errors_of t names bytes ≡ [] → AllAccept t names bytes n → all_errors t names bytes n ≡ []
  accepts_empty none accepts =
      let quiet = all_join (λ p both a. accepts_refused t names bytes n g p both.0 both.1 a) trees seen_all
      accepts in
      let own : kept Own (validate_module d names (forest 0 t)) ≡ [] = ap (kept Own) (sym module_is ∙ none)
      ∙ kept_none Own in
      parts ∙ both_none own (refused_none d edition names trees quiet)

-- an audit that is not refused has a dialect and an edition
let_in : (t names bytes : List ℕ) (n : ℕ) {vs : List ℕ} → audit_of t names bytes n ≡ accepted vs
    → (d : Dialect) × (edition : Edition) × (rules_of t names bytes (edition_of n) ≡ by_rules d edition)
let_in t names bytes n {vs} e = go (rules_of t names bytes (edition_of n)) refl e
  where
    go : (r : Ruling) → rules_of t names bytes (edition_of n) ≡ r
        → in_rules r (λ _ _. accepted (length (all_errors t names bytes n) ∷ [])) ≡ accepted vs
        → (d : Dialect) × (edition : Edition) × (rules_of t names bytes (edition_of n) ≡ by_rules d edition)
    go (by_rules d edition) g e = (d, edition, g)
    go (unruled m ws) g e = never_passed e

-- LAW: the number of an audit that is not refused is that of an edition
pub audit_known : (t names bytes : List ℕ) (n : ℕ) {vs : List ℕ} → audit_of t names bytes n ≡ accepted vs
    → (edition : Edition) × (edition_of n ≡ Some edition)
audit_known t names bytes n e = let k = let_in t names bytes n e in
    (k.1, (rules_known t names bytes k.2).1)

-- the same about the answers of the two jobs
module _ (t names bytes : List ℕ) (n : ℕ) where
  -- THEOREM: if the audit returns 0 errors, so does the module job, and every job accepts every node
  pub zero_passes : audit_of t names bytes n ≡ accepted (0 ∷ [])
      → (module_of t names bytes ≡ accepted (0 ∷ [])) × AllAccept t names bytes n
  zero_passes e =
      let k = let_in t names bytes n e in
      let g : rules_of t names bytes (edition_of n) ≡ by_rules k.0 k.1 = k.2 in
      let total : accepted (length (all_errors t names bytes n) ∷ []) ≡ accepted (0 ∷ []) = rw g at e in
      let zero : length (all_errors t names bytes n) ≡ 0 = cc in
      let empty = no_entries (all_errors t names bytes n) zero in (
        rw ((rules_known t names bytes g).0, empty_module t names bytes n g empty) refl,
        empty_accepts t names bytes n g empty,
      )

  -- THEOREM: the converse, for a number that is an edition
  pub passes_zero : {edition : Edition} → edition_of n ≡ Some edition → module_of t names bytes ≡ accepted (0 ∷ [])
      → AllAccept t names bytes n → audit_of t names bytes n ≡ accepted (0 ∷ [])
  passes_zero {edition} known e accepts = go (given_of t names bytes) refl e
    where
      go : (h : Handing) → given_of t names bytes ≡ h
          → in_given h (λ _. accepted (length (errors_of t names bytes) ∷ [])) ≡ accepted (0 ∷ [])
          → audit_of t names bytes n ≡ accepted (0 ∷ [])
      go (in_dialect d) h e =
          let g : rules_of t names bytes (edition_of n) ≡ by_rules d edition =
          rw known (known_rules t names bytes edition h) in
          let zero : length (errors_of t names bytes) ≡ 0 = cc in
          let none = no_entries (errors_of t names bytes) zero in
          rw (g, accepts_empty t names bytes n g none accepts) refl
      go (turned_away m vs) h e = never (cc)
