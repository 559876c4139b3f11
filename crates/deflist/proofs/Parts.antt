-- One law for each return of the small functions that read a stretch: `children`, `kind_of`, `listed` and the test of a
-- name. Each return is behind tests of the record's kind or length, so with these tests known the definition computes.
-- Cited by the proofs of those functions; nothing here recurs. Assumes nothing.
use mathlib.Core.Path.{◌≡◌, refl, sym, ◌∙◌}
use mathlib.Core.Bool.{Bool, true, false, ◌&&◌}
use mathlib.Core.List.{List}
use Prim.Native.Nat.{ℕ, ◌-◌, ◌<◌}
use native.Mathlib.Omega.{arith}
use lib.ListN.{length, take, drop}
use lib.Dec.{eqb, leb}
use borrow.Author.Tests.{ne_eqb}
use Rattle.fields.proofs.Basics.{clash}
use Rattle.forest.specs.Forest.{node_of, span_of, kids_of}
use Rattle.forest.specs.Names.{name_of, same}
use Rattle.soundness.specs.KindNumbers.{kind_normal, kind_no_args, kind_slash, kind_args_param}
use Rattle.soundness.specs.Kinds.{class_of}
use Rattle.deflist.specs.Written.{has_default, kind_at, param, param_of}
use Rattle.deflist.specs.Unpack.{has_name}
use Rattle.deflist.specs.Reading.{is_listed, kind_here, is_named}
use Rattle.deflist.specs.declared.Kind.{Kind}
use Rattle.deflist.specs.declared.Kind.TheVariants.{Normal, NoArgs, Slash, Args, KwArgs}

-- the children of a stretch that has no record, and of one that has
module _ (t : List ℕ) {e : ℕ} (e-is : e ≡ span_of t) where
  pub children_none : e < 24 → take 0 t ≡ kids_of t
  unfolding kids_of
  children_none h = let zero_long : span_of t - 24 ≡ 0 = omega arith in rw zero_long refl

  pub children_some : take (e - 24) (drop 24 t) ≡ kids_of t
  unfolding kids_of
  children_some = rw e-is refl

-- the kind of the parameter that a stretch begins with
module _ (t : List ℕ) {k : ℕ} (k_is : k ≡ (node_of 0 t).kind) where
  pub kind_normal_lem : k ≡ kind_normal → {d : ℕ} {b : Bool} → d ≡ (node_of 0 t).detail → b ≡ has_default d
      → Normal b ≡ kind_here t
  unfolding kind_here kind_at
  kind_normal_lem h d-is b_is = rw (← k_is, h, ← d-is, ← b_is) refl

  pub kind_no_args_lem : k ≡ kind_no_args → NoArgs ≡ kind_here t
  unfolding kind_here kind_at
  kind_no_args_lem h = rw (← k_is, h) refl

  pub kind_slash_lem : k ≡ kind_slash → Slash ≡ kind_here t
  unfolding kind_here kind_at
  kind_slash_lem h = rw (← k_is, h) refl

  pub kind_args : k ≡ kind_args_param → Args ≡ kind_here t
  unfolding kind_here kind_at
  kind_args h = rw (← k_is, h) refl

  pub kind_kwargs : (k ≡ kind_normal → ⊥) → (k ≡ kind_no_args → ⊥) → (k ≡ kind_slash → ⊥) → (k ≡ kind_args_param → ⊥)
      → KwArgs ≡ kind_here t
  unfolding kind_here kind_at
  kind_kwargs a b c d = rw (
    ← k_is,
    ne_eqb k kind_normal a,
    ne_eqb k kind_no_args b,
    ne_eqb k kind_slash c,
    ne_eqb k kind_args_param d,
  ) refl

-- a stretch begins with a parameter
pub listed_is : (t : List ℕ) {k : ℕ} → k ≡ class_of (node_of 0 t).kind → (leb 24 (length t) && eqb k 3) ≡ is_listed t
unfolding is_listed
listed_is t k_is = rw k_is refl

-- the name of the parameter that a stretch begins with
module _ (ns x t : List ℕ) {k : Kind} (k_is : k ≡ kind_here t) {b : Bool} (b_is : b ≡ is_named k) where
  pub name_none : b ≡ false → (i : ℕ) → false ≡ has_name x (param_of ns (node_of i t))
  unfolding has_name param_of kind_here
  name_none h i = rw (← k_is) (go k (sym b_is ∙ h))
    where
      go : (k : Kind) → is_named k ≡ false → false ≡ has_name x (param k (node_of i t) (name_of ns (node_of i t)))
      go (Normal d) e = clash refl e
      go NoArgs e = refl
      go Slash e = refl
      go Args e = clash refl e
      go KwArgs e = clash refl e

  pub name_tested : b ≡ true → {n : List ℕ} {r : Bool} → n ≡ name_of ns (node_of 0 t) → r ≡ same n x → (i : ℕ)
      → r ≡ has_name x (param_of ns (node_of i t))
  unfolding has_name param_of kind_here name_of
  name_tested h {n} n_is r-is i = r-is ∙ rw (← k_is, n_is) (go k (sym b_is ∙ h))
    where
      go : (k : Kind) → is_named k ≡ true → same (name_of ns (node_of i t)) x
          ≡ has_name x (param k (node_of i t) (name_of ns (node_of i t)))
      go (Normal d) e = refl
      go NoArgs e = clash e refl
      go Slash e = clash e refl
      go Args e = refl
      go KwArgs e = refl
