-- What users of the audit rely on: a refusal changes no word (`refusal_keeps`); the total is at most four times the
-- number of nodes (`total_few`), because a record has at most two errors of the module pass and two refusals; and a
-- list with room for that many errors holds all of them (`list_holds_all`). A table has at most 2,100 nodes, so 42,000
-- words are enough for every table (`list_has_room`). There is no induction here; Bounds has it. The crate `audited`
-- says when the list is empty. Assumes nothing.
use Rattle.std.specs.Prelude.{Ok}
use mathlib.Core.Path.{◌≡◌, refl}
use mathlib.Core.List.{List, [], ◌∷◌, ◌++◌}
use Prim.Native.Nat.{ℕ, ◌*◌, ◌/◌, ◌≤◌}
use native.Mathlib.Omega.{arith}
use lib.ListN.{length, take, drop, length-take, length-append}
use Rattle.fields.proofs.Basics.{never}
use Rattle.dialect.specs.declared.Dialect.{Dialect}
use Rattle.dialect.specs.declared.Edition.{Edition}
use Rattle.dialect.specs.Editions.{edition_of}
use Rattle.forest.specs.Forest.{forest}
use Rattle.forest.proofs.Stretch.{count_forest}
use Rattle.table.specs.Answer.{accepted, refused}
use Rattle.table.specs.Check.{Ruling, by_rules, unruled, rules_of, in_rules}
use Rattle.table.proofs.Entering.{given_known}
use Rattle.table.proofs.Ruling.{rules_known}
use Rattle.errors.specs.declared.Listing.TheVariants.{Own, Audit}
use Rattle.errors.specs.Errors.{kept, width, stored}
use Rattle.errors.proofs.Storing.{all_words, stored_all, stored_none}
use Rattle.validate.specs.Job.{listed, pass_errors}
use Rattle.validate.proofs.Theorems.{pass_few}
use Rattle.audit.specs.declared.Roles.TheVariants.{Nowhere}
use Rattle.audit.specs.Roles.{placed}
use Rattle.audit.specs.Job.{refusals_in, audit_errors, audit_in, all_errors, audit_of, enough_words, audit_after}
use Rattle.audit.proofs.Bounds.{refusals_few, count_placed}

-- LAW: any bytes have at most four times as many errors as records: two of the module pass, and two refusals
pub audit_few : (d : Dialect) (edition : Edition) (names t : List ℕ)
    → length (audit_errors d edition names t) ≤ 4 * (length t / 24)
unfolding audit_errors
audit_few d edition names t =
    let w : List ℕ = take 50400 t in
    omega (
      arith,
      length-append (kept Own (pass_errors d names t)) (refusals_in d edition names (forest 0 w)),
      pass_few Own d names t,
      count_forest 0 w,
      refusals_few d edition names (placed Nowhere (forest 0 w)),
      count_placed Nowhere (forest 0 w),
      length-take 50400 t,
    )

module _ (t names bytes : List ℕ) (n : ℕ) where
  -- THEOREM: a refusal changes no word
  pub refusal_keeps : {m : ℕ} {vs : List ℕ} (xs : List ℕ) → audit_of t names bytes n ≡ refused m vs
      → audit_after t names bytes n xs ≡ xs
  unfolding all_errors
  refusal_keeps {m} {vs} xs e = go (rules_of t names bytes (edition_of n)) e
    where
      go : (h : Ruling) → in_rules h (λ _ _. accepted (length (audit_in h names t) ∷ [])) ≡ refused m vs
          → stored Audit (audit_in h names t) xs ≡ xs
      go (by_rules d edition) h = never (cc)
      go (unruled k ws) h = stored_none Audit xs

  -- THEOREM: there are at most four times as many errors as nodes
  pub errors_few : length (all_errors t names bytes n) ≤ 4 * (length t / 24)
  unfolding all_errors
  errors_few = go (rules_of t names bytes (edition_of n))
    where
      go : (h : Ruling) → length (audit_in h names t) ≤ 4 * (length t / 24)
      go (by_rules d edition) = audit_few d edition names t
      go (unruled m ws) = omega arith

  -- THEOREM: the total that the job answers is at most four times the node count
  pub total_few : (m : ℕ) → listed (Ok m) ≡ audit_of t names bytes n → m ≤ 4 * (length t / 24)
  total_few m e = go (rules_of t names bytes (edition_of n)) e
    where
      go : (h : Ruling) → listed (Ok m) ≡ in_rules h (λ _ _. accepted (length (all_errors t names bytes n) ∷ []))
          → m ≤ 4 * (length t / 24)
      go (by_rules d edition) h = let total : m ≡ length (all_errors t names bytes n) = cc in omega (arith, errors_few)
      go (unruled k vs) h = never (cc)

  -- THEOREM: a list of words with room for four errors for each node holds all errors, one after the other, and its
  -- other words are unchanged
  pub list_holds_all : (xs : List ℕ) → width Audit * (4 * (length t / 24)) ≤ length xs
      → audit_after t names bytes n xs ≡ all_words Audit (all_errors t names bytes n)
      ++ drop (width Audit * length (all_errors t names bytes n)) xs
  list_holds_all xs room = stored_all Audit (all_errors t names bytes n) xs (omega (arith, errors_few))

  -- a table that 1 to 5 refuse has no error, and any other has at most 2,100 nodes
  errors_fit : width Audit * length (all_errors t names bytes n) ≤ enough_words
  unfolding all_errors
  errors_fit = go (rules_of t names bytes (edition_of n)) refl
    where
      go : (h : Ruling) → rules_of t names bytes (edition_of n) ≡ h
          → width Audit * length (audit_in h names t) ≤ enough_words
      go (by_rules d edition) e = omega
          (arith, audit_few d edition names t, (given_known t names bytes (rules_known t names bytes e).0).0.most)
      go (unruled m ws) e = omega arith

  -- THEOREM: a list of `enough_words` words holds all errors of every table
  pub list_has_room : (xs : List ℕ) → length xs ≡ enough_words
      → audit_after t names bytes n xs ≡ all_words Audit (all_errors t names bytes n)
      ++ drop (width Audit * length (all_errors t names bytes n)) xs
  list_has_room xs long = stored_all Audit (all_errors t names bytes n) xs (omega (arith, errors_fit))
