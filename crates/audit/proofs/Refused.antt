-- The refusals at one record, one law for each `return` of records.rt. A refusal becomes an error with the node and
-- span that it carries (`error_bare`, `error_placed`, `error_spanned`), and is stored if there is room (`push_none`,
-- `push_one`). The kind of the record decides which job runs: a parameter list, a call or an assignment
-- (`kind_def_lem` .. `kind_other`). Its role decides whether the target or the type job runs (`role_target`,
-- `role_type`, `role_plain`). Each job reads the bytes as its own crate promises, and the record is part of a table,
-- so the tree is the same (table's `headed_all`). There is no induction. Both together are `there_both`. Assumes
-- nothing.
use Rattle.std.specs.Prelude.{Err, Ok, Option, Result, ℕ}
use Rattle.arguments.specs.declared.CallArgs.{CallArgs}
use mathlib.Core.Path.{◌≡◌, refl, sym, ap, ◌∙◌}
use mathlib.Core.Bool.{false}
use mathlib.Core.List.{List, [], ◌++◌}
use Prim.Native.Nat.{ℕ, ◌+◌}
use native.Mathlib.Omega.{arith}
use lib.Dec.{eqb}
use borrow.Author.Tests.{eq-eqb, ne_eqb}
use Rattle.dialect.specs.declared.Dialect.{Dialect}
use Rattle.dialect.specs.declared.Edition.{Edition}
use Rattle.forest.specs.Forest.{node_of, tree_of}
use Rattle.soundness.specs.KindNumbers.{kind_def, kind_lambda, kind_call, kind_assign, kind_assign_modify}
use Rattle.table.specs.Answer.{accepted, refusal, checked, number_of, carried}
use Rattle.table.specs.Check.{wants, Headed, headed_of}
use Rattle.table.specs.declared.Refusal.{Refusal}
use Rattle.table.specs.declared.Refusal.TheVariants.{Bare, Placed, Spanned}
use Rattle.table.specs.declared.Span.{Span}
use Rattle.table.proofs.Heads.{headed_all}
use Rattle.deflist.specs.Written.{written}
use Rattle.deflist.specs.Limited.{limited}
use Rattle.deflist.specs.Told.{told}
use Rattle.deflist.specs.declared.Counts.{Counts}
use Rattle.deflist.specs.declared.Fault.{Fault}
use Rattle.arguments.specs.Job.{called, call_answer}
use Rattle.targets.specs.Targets.{counted, check_assignment}
use Rattle.targets.specs.Jobs.{targeted}
use Rattle.types.specs.Types.{dialect_check_type}
use Rattle.types.specs.Jobs.{shaped}
use Rattle.errors.specs.declared.Finding.{Finding}
use Rattle.errors.specs.declared.Listing.TheVariants.{Audit}
use Rattle.errors.specs.Errors.{err, only, Stores}
use Rattle.errors.proofs.Storing.{free_at, after, back, stores_none, stores_both, stores_few}
use Rattle.validate.specs.Inner.{StoresFew}
use Rattle.validate.specs.Params.{unpack_error}
use Rattle.audit.specs.declared.Role.{Role}
use Rattle.audit.specs.declared.Role.TheVariants.{AsTarget, AsType, Plain}
use Rattle.audit.specs.Roles.{placed_as}
use Rattle.audit.specs.Refusals.{refused_err, answer_errors, kind_errors, role_errors, refused_there}
use Rattle.audit.proofs.Bounds.{there_few}

-- the span of a refusal that has none
abbrev no_span : Span
no_span = record { begin = 0; end = 0; file = 0 }

-- storing a refusal, if there is one
module _ {c : Result (Unit {0}) Refusal} (xs : List ℕ) where
  pub push_none : c ≡ Ok tt → StoresFew Audit 1 (answer_errors (checked c)) xs 0 xs
  push_none h = record { few = omega arith; stores = rw h (stores_none xs) }

  pub push_one : {why : Refusal} → c ≡ Err why → {e : Finding} → e ≡ refused_err (number_of why) (carried why)
      → {n : ℕ} {ys : List ℕ} → Stores Audit (only e) xs n ys → StoresFew Audit 1 (answer_errors (checked c)) xs n ys
  push_one h {e} e-is s = record { few = omega (arith, stores_few (only e) s); stores = rw (h, ← e-is) s }

-- a refusal as an error
module _ {why : Refusal} where
  pub error_bare : {n : ℕ} → why ≡ Bare n → err n 0 no_span ≡ refused_err (number_of why) (carried why)
  error_bare h = rw h refl

  pub error_placed : {n k : ℕ} → why ≡ Placed n k → err n k no_span ≡ refused_err (number_of why) (carried why)
  error_placed h = rw h refl

  pub error_spanned : {n k : ℕ} {s : Span} {e : Option ℕ} → why ≡ Spanned n k s e
      → err n k s ≡ refused_err (number_of why) (carried why)
  error_spanned h = rw h refl

-- the refusal in the answer of a job
module _ {why : Refusal} where
  pub call_refused : {a : Result CallArgs Refusal} → a ≡ Err why
      → answer_errors (refusal why) ≡ answer_errors (called a)
  call_refused h = rw h refl

  pub target_refused : {a : Result ℕ Refusal} → a ≡ Err why → answer_errors (refusal why) ≡ answer_errors (targeted a)
  target_refused h = rw h refl

  pub type_refused : {a : Result (Unit {0}) Refusal} → a ≡ Err why
      → answer_errors (refusal why) ≡ answer_errors (shaped a)
  type_refused h = rw h refl

-- the error of a parameter list
module _ {j k : Result Counts Fault} (j-is : j ≡ k) where
  pub list_none : {c : Counts} → j ≡ Ok c → answer_errors (accepted []) ≡ unpack_error k
  list_none h = rw (← j-is, h) refl

  pub list_one : {f : Fault} → j ≡ Err f → {es : List Finding} → es ≡ unpack_error (Err f) → es ≡ unpack_error k
  list_one h es-is = es-is ∙ rw (← j-is, h) refl

-- the job of a record's kind
module _ (names : List ℕ) (i : ℕ) (t : List ℕ) {k : ℕ} (k_is : k ≡ (node_of 0 t).kind) where
  pub kind_other : (k ≡ kind_def → ⊥) → (k ≡ kind_lambda → ⊥) → (k ≡ kind_call → ⊥) → (k ≡ kind_assign → ⊥)
      → (k ≡ kind_assign_modify → ⊥) → answer_errors (accepted []) ≡ kind_errors names (tree_of i t)
  unfolding kind_errors wants
  kind_other no-def no-lambda no_call no-assign no-modify = rw (
    ← k_is,
    ne_eqb k kind_def no-def,
    ne_eqb k kind_lambda no-lambda,
    ne_eqb k kind_call no_call,
    ne_eqb k kind_assign no-assign,
    ne_eqb k kind_assign_modify no-modify,
  ) refl

  module _ {es : List Finding} (list : es ≡ unpack_error (told (limited (node_of i t) (written names i t)))) where
    pub kind_def_lem : k ≡ kind_def → es ≡ kind_errors names (tree_of i t)
    unfolding kind_errors wants written
    kind_def_lem h = list ∙ rw (eq-eqb (node_of 0 t).kind kind_def (sym k_is ∙ h)) refl

    pub kind_lambda_lem : k ≡ kind_lambda → es ≡ kind_errors names (tree_of i t)
    unfolding kind_errors wants written
    kind_lambda_lem h =
        let is : (node_of 0 t).kind ≡ kind_lambda = sym k_is ∙ h in
        let other : eqb (node_of 0 t).kind kind_def ≡ false = rw is refl in
        list ∙ rw (other, eq-eqb (node_of 0 t).kind kind_lambda is) refl

  pub kind_call_lem : Headed i t → k ≡ kind_call → (c : Result CallArgs Refusal)
      → called c ≡ call_answer names (tree_of i (headed_of i t))
      → {es : List Finding} → es ≡ answer_errors (called c) → es ≡ kind_errors names (tree_of i t)
  unfolding kind_errors wants
  kind_call_lem here h c c-is es-is =
      es-is ∙ ap answer_errors (rw (headed_all i t here) at c-is) ∙ rw (← k_is, h) refl

  module _ (here : Headed i t) (c : Result ℕ Refusal) (c-is : targeted c ≡ check_assignment (tree_of i (headed_of i t)))
      {es : List Finding} (es-is : es ≡ answer_errors (targeted c)) where
    told_assign : es ≡ answer_errors (check_assignment (tree_of i t))
    told_assign = es-is ∙ ap answer_errors (rw (headed_all i t here) at c-is)

    pub kind_assign_lem : k ≡ kind_assign → es ≡ kind_errors names (tree_of i t)
    unfolding kind_errors wants
    kind_assign_lem h = told_assign ∙ rw (← k_is, h) refl

    pub kind_modify : k ≡ kind_assign_modify → es ≡ kind_errors names (tree_of i t)
    unfolding kind_errors wants
    kind_modify h = told_assign ∙ rw (← k_is, h) refl

-- the job of its role
module _ (d : Dialect) (edition : Edition) (names : List ℕ) (i : ℕ) (t : List ℕ) {role : Role} where
  pub role_plain : role ≡ Plain → answer_errors (accepted []) ≡ role_errors d edition names role (tree_of i t)
  unfolding role_errors
  role_plain h = rw h refl

  pub role_target : Headed i t → role ≡ AsTarget → (c : Result ℕ Refusal)
      → targeted c ≡ counted 0 (tree_of i (headed_of i t)) → {es : List Finding} → es ≡ answer_errors (targeted c)
      → es ≡ role_errors d edition names role (tree_of i t)
  unfolding role_errors
  role_target here h c c-is es-is = es-is ∙ ap answer_errors (rw (headed_all i t here) at c-is) ∙ rw h refl

  pub role_type : Headed i t → role ≡ AsType → (c : Result (Unit {0}) Refusal)
      → shaped c ≡ dialect_check_type edition names d.enable_types (tree_of i (headed_of i t)) → {es : List Finding}
      → es ≡ answer_errors (shaped c) → es ≡ role_errors d edition names role (tree_of i t)
  unfolding role_errors
  role_type here h c c-is es-is = es-is ∙ ap answer_errors (rw (headed_all i t here) at c-is) ∙ rw h refl

-- both jobs, in this order
pub there_both : (d : Dialect) (edition : Edition) (names : List ℕ) (role : Role) (i : ℕ) (t : List ℕ)
    {es fs : List Finding} → es ≡ kind_errors names (tree_of i t) → fs ≡ role_errors d edition names role (tree_of i t)
    → {xs ys zs : List ℕ} {m n at : ℕ} → Stores Audit es xs m ys → at ≡ free_at Audit m ys
    → Stores Audit fs (after at ys) n zs
    → StoresFew Audit 2 (refused_there d edition names (placed_as role (tree_of i t))) xs (m + n) (back at ys zs)
unfolding refused_there
there_both d edition names role i t {es} {fs} es-is fs-is {xs} {ys} {zs} {m} {n} {at} s at-is q =
    let both : Stores Audit (es ++ fs) xs (m + n) (back at ys zs) = stores_both es fs s at-is q in
    let few = there_few d edition names (placed_as role (tree_of i t)) in
    record {
      few = omega (arith, stores_few (es ++ fs) both, rw (← es-is, ← fs-is) at few);
      stores = rw (← es-is, ← fs-is) both;
    }
