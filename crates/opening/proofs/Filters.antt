-- Removing the errors of some numbers from the lists that the module pass builds (`without`): from two joined lists,
-- from a list of one number, and from the one error of a parameter list. A list of one number is removed whole or stays
-- whole (`without_one`, `without_every`). The error of a parameter list always stays: validate's `list_left` says that
-- its number is one of parameter lists, which are below 50 (`list_stays`), and the opened numbers are 50 and more. The
-- inductions are on the list of errors, or of parameters. Assumes nothing.
use Rattle.std.specs.Prelude.{Err, Ok, Result}
use Rattle.deflist.specs.declared.Fault.{Fault}
use Rattle.deflist.specs.declared.Counts.{Counts}
use mathlib.Core.Path.{◌≡◌, refl, ap, ◌∙◌}
use mathlib.Core.Bool.{Bool, true, false, not}
use mathlib.Core.List.{List, [], ◌∷◌, ◌++◌}
use Prim.Native.Nat.{ℕ, suc, ◌<◌, ◌≤◌}
use native.Mathlib.Omega.{arith}
use lib.Dec.{leb}
use lib.ListN.{length}
use borrow.Author.Tests.{leb-true, ne_eqb}
use Rattle.fields.specs.Choice.{if'}
use Rattle.fields.proofs.Basics.{never, and_right}
use Rattle.dialect.specs.declared.Dialect.{Dialect}
use Rattle.forest.specs.Forest.{Node}
use Rattle.deflist.specs.Written.{Param, node_in, kind_in}
use Rattle.deflist.specs.Limited.{limited}
use Rattle.deflist.specs.Told.{told}
use Rattle.errors.specs.declared.Finding.{Finding}
use Rattle.errors.specs.declared.Listing.TheVariants.{Own}
use Rattle.errors.specs.Errors.{err_at, unless, is_list_error, without_lists, kept}
use Rattle.validate.specs.Params.{is_mark, not_permitted, every_mark, unpack_error}
use Rattle.validate.specs.declared.Mark.{Mark}
use Rattle.validate.proofs.Refusals.{list_left}
use Rattle.opening.specs.Opening.{opened, without}

-- the errors es, or none if b holds
abbrev pub none_if : Bool → List Finding → List Finding
none_if b es = if' b (λ _. []) (λ _. es)

none_none : (b : Bool) → [] ≡ none_if b []
none_none true = refl
none_none false = refl

none_both : (b : Bool) (es fs : List Finding) → none_if b es ++ none_if b fs ≡ none_if b (es ++ fs)
none_both true es fs = refl
none_both false es fs = refl

module _ (out : ℕ → Bool) where
  -- LAW: from two joined lists, remove from each; the result is no longer than the list
  pub without_append : (es fs : List Finding) → without out (es ++ fs) ≡ without out es ++ without out fs
  unfolding without
  without_append [] fs = refl
  without_append (e ∷ es) fs = go (out e.number) (without_append es fs)
    where
      go : (b : Bool) → without out (es ++ fs) ≡ without out es ++ without out fs
          → if' b (λ _. without out (es ++ fs)) (λ _. e ∷ without out (es ++ fs))
          ≡ if' b (λ _. without out es) (λ _. e ∷ without out es) ++ without out fs
      go true h = h
      go false h = ap (λ (xs : List Finding). e ∷ xs) h

  pub without_few : (es : List Finding) → length (without out es) ≤ length es
  unfolding without
  without_few [] = omega arith
  without_few (e ∷ es) = go (out e.number) (without_few es)
    where
      go : (b : Bool) → length (without out es) ≤ length es
          → length (if' b (λ _. without out es) (λ _. e ∷ without out es)) ≤ suc (length es)
      go true h = omega (arith, h)
      go false h = omega (arith, h)

  -- LAW: errors of one number are all removed or all stay
  pub without_one : {gone : Bool} (e : Finding) → out e.number ≡ gone → without out (e ∷ []) ≡ none_if gone (e ∷ [])
  unfolding without
  without_one e h = rw h refl

  without_unless : (c : Bool) (n : ℕ) (r : Node) (gone : Bool) → out n ≡ gone
      → without out (unless c n r) ≡ none_if gone (unless c n r)
  unfolding without
  without_unless true n r gone h = none_none gone
  without_unless false n r gone h = without_one (err_at n r) h

  pub without_every : {gone : Bool} (m : Mark) (ps : List Param) → out (not_permitted m) ≡ gone
      → without out (every_mark m ps) ≡ none_if gone (every_mark m ps)
  unfolding without every_mark
  without_every {gone} m [] h = none_none gone
  without_every {gone} m (p ∷ ps) h =
      let here : List Finding = unless (not (is_mark m (kind_in p))) (not_permitted m) (node_in p) in
      without_append here (every_mark m ps)
      ∙ rw (without_unless (not (is_mark m (kind_in p))) (not_permitted m) (node_in p) gone h, without_every m ps h)
      (none_both gone here (every_mark m ps))

-- LAW: removing from an error of one number does not leave an error of another number
pub not_left : (out : ℕ → Bool) (x y : Finding) → (y.number ≡ x.number → ⊥) → y ∷ [] ≡ without out (x ∷ []) → ⊥
unfolding without
not_left out x y other h = go (out x.number) h
  where
    number_in : List Finding → ℕ
    number_in [] = x.number
    number_in (e ∷ es) = e.number

    go : (b : Bool) → y ∷ [] ≡ if' b (λ _. []) (λ _. x ∷ []) → ⊥
    go true h = other (ap number_in h)
    go false h = other (ap number_in h)

-- LAW: no switch opens a number below 50
pub small_stays : (d e : Dialect) (n : ℕ) → n < 50 → opened d e n ≡ false
unfolding opened
small_stays d e n h = rw (
  ne_eqb n 50 (omega arith),
  ne_eqb n 51 (omega arith),
  ne_eqb n 52 (omega arith),
  ne_eqb n 59 (omega arith),
  ne_eqb n 60 (omega arith),
  ne_eqb n 61 (omega arith),
) refl

-- LAW: no switch opens an error of a parameter list
pub list_stays : (d e : Dialect) (n : ℕ) → is_list_error n ≡ true → opened d e n ≡ false
list_stays d e n h = small_stays d e n (omega (arith, leb-true n _ (and_right (leb _ n) (leb n _) h)))

-- LAW: so the error of a parameter list stays
pub list_error_stays : (d e : Dialect) (owner : Node) (ps : List Param)
    → without (opened d e) (unpack_error (told (limited owner ps))) ≡ unpack_error (told (limited owner ps))
unfolding without without_lists
list_error_stays d e owner ps = go (told (limited owner ps)) (list_left owner ps)
  where
    go : (j : Result Counts Fault) → kept Own (unpack_error j) ≡ []
        → without (opened d e) (unpack_error j) ≡ unpack_error j
    go (Ok c) none = refl
    go (Err f) none = listed (is_list_error f.number) refl none
      where
        listed : (b : Bool) → is_list_error f.number ≡ b
            → if' b (λ _. []) (λ _. unpack_error (Err f)) ≡ []
            → without (opened d e) (unpack_error (Err f)) ≡ unpack_error (Err f)
        listed true is none = without_one (opened d e) _ (list_stays d e f.number is)
        listed false is none = never (cc)
