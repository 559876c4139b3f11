-- The code chooses by kind as the definitions of specs/Forms do: the form of a kind (`form_ellipsis` .. `form_other`),
-- how a form reads its children (`reads_told`), and the rule by which a child is read (`rule_unread` .. `rule_other`).
-- There is one law for each `return` of form_of, form, reads_of and rule_of. The code makes the tests of the definition
-- in the same order, so each law rewrites by the tests made so far and computes; there is no induction. The proofs of
-- the functions cite these laws. Assumes nothing.
use mathlib.Core.Path.{◌≡◌, refl, ◌∙◌}
use mathlib.Core.Bool.{true, false, ◌&&◌, ◌||◌}
use Prim.Native.Nat.{ℕ}
use lib.Dec.{eqb}
use borrow.Author.Tests.{ne_eqb}
use Rattle.fields.specs.Choice.{if'}
use Rattle.soundness.specs.KindNumbers.{kind_tuple, kind_dot, kind_index, kind_index2, kind_identifier}
use Rattle.soundness.specs.KindNumbers.{kind_ellipsis, kind_op, kind_list}
use Rattle.types.specs.Forms.{form_of, reads_of, rule_of}
use Rattle.types.specs.declared.Form.{Form}
use Rattle.types.specs.declared.How.{How}
use Rattle.types.specs.declared.How.TheVariants.{Unread, AsType, AsArgument}
use Rattle.types.specs.declared.Reads.{Reads}
use Rattle.types.specs.declared.Form.TheVariants.{Ellipsis, Path, Index, Index2, List, Union, Tuple}
use Rattle.types.specs.declared.Form.TheVariants.{Other}

module _ (k d : ℕ) where
  pub form_ellipsis : k ≡ kind_ellipsis → Ellipsis ≡ form_of k d
  unfolding form_of
  form_ellipsis h = rw h refl

  pub form_path : (k ≡ kind_ellipsis → ⊥) → (eqb k kind_identifier || eqb k kind_dot) ≡ true → Path ≡ form_of k d
  unfolding form_of
  form_path a h = rw (ne_eqb k kind_ellipsis a, h) refl

  pub form_index : k ≡ kind_index → Index ≡ form_of k d
  unfolding form_of
  form_index h = rw h refl

  pub form_index2 : k ≡ kind_index2 → Index2 ≡ form_of k d
  unfolding form_of
  form_index2 h = rw h refl

  pub form_list : k ≡ kind_list → List ≡ form_of k d
  unfolding form_of
  form_list h = rw h refl

  pub form_tuple : k ≡ kind_tuple → Tuple ≡ form_of k d
  unfolding form_of
  form_tuple h = rw h refl

  module _ (a : k ≡ kind_ellipsis → ⊥) (p : (eqb k kind_identifier || eqb k kind_dot) ≡ false) (i : k ≡ kind_index → ⊥)
      (i2 : k ≡ kind_index2 → ⊥) (l : k ≡ kind_list → ⊥) (t : k ≡ kind_tuple → ⊥) where
    last : form_of k d ≡ if' (eqb k kind_op && eqb d 1) (λ _. Union) (λ _. Other)
    unfolding form_of
    last = rw (
      ne_eqb k kind_ellipsis a,
      p,
      ne_eqb k kind_index i,
      ne_eqb k kind_index2 i2,
      ne_eqb k kind_list l,
      ne_eqb k kind_tuple t,
    ) refl

    pub form_union : (eqb k kind_op && eqb d 1) ≡ true → Union ≡ form_of k d
    form_union h = rw (last, h) refl

    pub form_other : (eqb k kind_op && eqb d 1) ≡ false → Other ≡ form_of k d
    form_other h = rw (last, h) refl

pub form_same : {k d k' d' : ℕ} {f : Form} → k ≡ k' → d ≡ d' → f ≡ form_of k d → f ≡ form_of k' d'
form_same p q f-is = f-is ∙ rw (p, q) refl

-- a form that is known to be g reads its children as g does
pub reads_told : (f g : Form) (r : Reads) → f ≡ g → r ≡ reads_of g → r ≡ reads_of f
reads_told f g r h r-is = rw h r-is

-- the rule for a child of the kind k
module _ {how : How} (k : ℕ) where
  pub rule_unread : how ≡ Unread → Unread ≡ rule_of how k
  unfolding rule_of
  rule_unread h = rw h refl

  pub rule_type : how ≡ AsType → AsType ≡ rule_of how k
  unfolding rule_of
  rule_type h = rw h refl

  pub rule_list : how ≡ AsArgument → k ≡ kind_list → AsArgument ≡ rule_of how k
  unfolding rule_of
  rule_list h list = rw (h, list) refl

  pub rule_other : how ≡ AsArgument → (k ≡ kind_list → ⊥) → AsType ≡ rule_of how k
  unfolding rule_of
  rule_other h other = rw (h, ne_eqb k kind_list other) refl
