-- The limit beside unpack: one test in `limited` decides. A list of at most 48 entries has unpack's outcome
-- (`limited_short`), a longer one is refused with 19 at the record that owns it (`limited_long`). So an accepted
-- outcome is unpack's and its list is short (`limited_accepted`), 11 is unpack's (`limited_repeated`, `limited_other`),
-- and no internal error arises (`limited_internal`). Since unpack's own numbers are at most 18 (Twice: `refused_low`),
-- 19 says that a list is long (`limited_nineteen`). Assumes nothing.
use Rattle.std.specs.Prelude.{Err, None, Result}
use mathlib.Core.Path.{◌≡◌, refl, sym, ◌∙◌}
use mathlib.Core.Bool.{Bool, true, false}
use mathlib.Core.List.{List}
use Prim.Native.Nat.{ℕ, ◌+◌, ◌/◌, ◌<◌, ◌≤◌}
use native.Mathlib.Omega.{arith}
use lib.ListN.{length}
use lib.Dec.{ltb}
use borrow.Author.Tests.{ltb-true, ltb-false, lt-ltb, le-ltb}
use Rattle.fields.proofs.Basics.{never}
use Rattle.forest.specs.Forest.{Node, node_of, kids_of}
use Rattle.table.specs.Numbers.{duplicated_parameter, too_many_parameters}
use Rattle.deflist.specs.Written.{Param, written}
use Rattle.deflist.specs.Unpack.{Internal, accepted, refused, repeated, internal, unpack}
use Rattle.deflist.specs.Limited.{most_parameters, limited}
use Rattle.deflist.specs.Told.{fault, told}
use Rattle.deflist.specs.Reading.{Inside, Says, Exceeds}
use Rattle.deflist.specs.declared.Counts.{Counts}
use Rattle.deflist.specs.declared.Fault.{Fault}
use Rattle.deflist.proofs.Theorems.{no_internal_error}
use Rattle.deflist.proofs.Twice.{refused_other, refused_low}

module _ (owner : Node) (l : List Param) where
  pub limited_short : length l ≤ most_parameters → limited owner l ≡ unpack l
  unfolding limited
  limited_short h = rw (le-ltb most_parameters (length l) h) refl

  pub limited_long : most_parameters < length l → limited owner l ≡ refused too_many_parameters owner
  unfolding limited
  limited_long h = rw (lt-ltb most_parameters (length l) h) refl

  pub limited_accepted : {c : Counts} → limited owner l ≡ accepted c
      → (length l ≤ most_parameters) × (unpack l ≡ accepted c)
  unfolding limited
  limited_accepted {c} h = go (ltb most_parameters (length l)) refl
    where
      go : (b : Bool) → ltb most_parameters (length l) ≡ b → (length l ≤ most_parameters) × (unpack l ≡ accepted c)
      go true e = let no : refused too_many_parameters owner ≡ accepted c = rw e at h in never (cc)
      go false e = (ltb-false most_parameters (length l) e, rw e at h)

  pub limited_repeated : {i : ℕ} {r : Node} → limited owner l ≡ repeated i r → unpack l ≡ repeated i r
  unfolding limited
  limited_repeated {i} {r} h = go (ltb most_parameters (length l)) refl
    where
      go : (b : Bool) → ltb most_parameters (length l) ≡ b → unpack l ≡ repeated i r
      go true e = let no : refused too_many_parameters owner ≡ repeated i r = rw e at h in never (cc)
      go false e = rw e at h

  pub limited_other : {n : ℕ} {r : Node} → limited owner l ≡ refused n r → n ≡ duplicated_parameter → ⊥
  unfolding limited
  limited_other {n} {r} h = go (ltb most_parameters (length l)) refl
    where
      go : (b : Bool) → ltb most_parameters (length l) ≡ b → n ≡ duplicated_parameter → ⊥
      go true e =
          let same : refused too_many_parameters owner ≡ refused n r = rw e at h in
          let nineteen : n ≡ too_many_parameters = cc in
          λ d. omega (arith, nineteen, d)
      go false e = refused_other l (rw e at h)

  pub limited_internal : {e : Internal} {r : Node} → limited owner l ≡ internal e r → ⊥
  unfolding limited
  limited_internal {e} {r} h = go (ltb most_parameters (length l)) refl
    where
      go : (b : Bool) → ltb most_parameters (length l) ≡ b → ⊥
      go true f = let no : refused too_many_parameters owner ≡ internal e r = rw f at h in never (cc)
      go false f = no_internal_error l (rw f at h)

  -- LAW: 19 says that the list has more than 48 entries
  pub limited_nineteen : {r : Node} → limited owner l ≡ refused too_many_parameters r → most_parameters < length l
  unfolding limited
  limited_nineteen {r} h = go (ltb most_parameters (length l)) refl
    where
      go : (b : Bool) → ltb most_parameters (length l) ≡ b → most_parameters < length l
      go true e = ltb-true most_parameters (length l) e
      go false e = absurd (omega (arith, refused_low l (rw e at h)))

-- what code says of the list of a node: b is whether its children have more than may be
module _ (ns t : List ℕ) (node : ℕ) {kids : List ℕ} (kids_are : kids ≡ kids_of t) {b : Bool}
    (b_is : Exceeds most_parameters kids b) where
  list_long : b ≡ ltb most_parameters (length (written ns node t))
  unfolding written
  list_long = rw kids_are at (b_is.says ns (node + 1))

  pub judge_long : b ≡ true → {f : Fault} → f ≡ fault too_many_parameters (node_of node t) None
      → Err f ≡ told (limited (node_of node t) (written ns node t))
  unfolding limited
  judge_long long f-is = rw (sym list_long ∙ long, f-is) refl

  pub judge_short : b ≡ false → {m : ℕ} {r : Result Counts Fault} → Says (unpack (written ns node t)) m r
      → r ≡ told (limited (node_of node t) (written ns node t))
  unfolding limited
  judge_short short says = rw (sym list_long ∙ short) says.same

pub fault_inside : (t : List ℕ) (node m : ℕ) {f : Fault} → f ≡ fault too_many_parameters (node_of node t) None
    → node ≤ m → Inside m (Err f)
fault_inside t node m f-is h = rw f-is (h, tt)

pub node_inside : (t : List ℕ) (node : ℕ) → node ≤ node + 1 + length t / 24
node_inside t node = omega arith
