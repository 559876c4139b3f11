-- Code searches for an earlier name among the records of the children (table's `first_named`); `unpack` searches among
-- the parameters read from them. Both find the same: a record has a name exactly if its parameter does, kind by kind
-- (`named_kind`, `has_entry`), so the first n parameters are searched as the first n entries (`list_entries`; the
-- induction is on the siblings). What is found is then an index of the table, within the children. `earlier` cites
-- `earlier_room`, `earlier_at` and `earlier_none`. Assumes nothing.
use Rattle.std.specs.Prelude.{None, Option, Some, ℕ}
use mathlib.Core.Path.{◌≡◌, refl, sym, ◌∙◌}
use mathlib.Core.Bool.{Bool, true, false, not, ◌&&◌, ◌||◌}
use mathlib.Core.List.{List, [], ◌∷◌}
use Prim.Native.Nat.{ℕ, zero, suc, ◌+◌, ◌*◌, ◌/◌, ◌<◌, ◌≤◌, ◌^◌}
use native.Mathlib.Nat.{add-zero}
use native.Mathlib.Omega.{arith}
use lib.ListN.{length, take}
use lib.Seq.{take-nil}
use lib.Dec.{eqb}
use borrow.Author.Tests.{eqb-true}
use Rattle.fields.specs.Choice.{if'}
use Rattle.forest.specs.Forest.{Node, Forest, none, node, ◌then◌, forest, roots}
use Rattle.forest.specs.Names.{name_of, same}
use Rattle.soundness.specs.KindNumbers.{kind_normal, kind_no_args, kind_slash, kind_args_param}
use Rattle.soundness.specs.Kinds.{parameter, class_of}
use Rattle.table.specs.Naming as entry
use Rattle.table.specs.Naming.{bears_name, first_named, counted_from}
use Rattle.table.specs.declared.Entries.TheVariants.{Parameters}
use Rattle.table.proofs.Naming.{first_shifted, first_within}
use Rattle.deflist.specs.Written.{kind_at, param, param_of, params_in}
use Rattle.deflist.specs.Unpack.{has_name, first_same}
use Rattle.deflist.specs.Reading.{is_named, Earlier}
use Rattle.deflist.specs.declared.Kind.{Kind}
use Rattle.deflist.specs.declared.Kind.TheVariants.{Normal, NoArgs, Slash, Args, KwArgs}
use Rattle.deflist.proofs.Reading.{node_in_lem}

-- the parameters that bear a name are those of the kinds that do
named_kind : (k d : ℕ) → is_named (kind_at k d) ≡ bears_name Parameters k
unfolding kind_at bears_name
named_kind k d = go (eqb k kind_normal) refl
  where
    star : (b : Bool) → is_named (if' b (λ _. Args) (λ _. KwArgs)) ≡ true
    star true = refl
    star false = refl

    marks : (a b c : Bool)
        → is_named (if' a (λ _. NoArgs) (λ _. if' b (λ _. Slash) (λ _. if' c (λ _. Args) (λ _. KwArgs)))) ≡ not (a || b)
    marks true b c = refl
    marks false true c = refl
    marks false false c = star c

    go : (b : Bool) → eqb k kind_normal ≡ b
        → is_named (if' b (λ _. Normal (eqb d 2 || eqb d 3)) (λ _.
        if' (eqb k kind_no_args) (λ _. NoArgs) (λ _.
        if' (eqb k kind_slash) (λ _. Slash) (λ _.
        if' (eqb k kind_args_param) (λ _. Args) (λ _. KwArgs))))) ≡ not (eqb k kind_no_args || eqb k kind_slash)
    go true e = let k_is : k ≡ kind_normal = eqb-true k kind_normal e in rw k_is refl
    go false e = marks (eqb k kind_no_args) (eqb k kind_slash) (eqb k kind_args_param)

has_entry : (ns x : List ℕ) (r : Node) → has_name x (param_of ns r) ≡ entry.has_name Parameters ns x r
unfolding has_name param_of entry.has_name
has_entry ns x r = go (kind_at r.kind r.detail) ∙ rw (named_kind r.kind r.detail) refl
  where
    go : (k : Kind) → has_name x (param k r (name_of ns r)) ≡ (is_named k && same (name_of ns r) x)
    go (Normal d) = refl
    go NoArgs = refl
    go Slash = refl
    go Args = refl
    go KwArgs = refl

-- LAW: so the first n parameters are searched as the first n entries
list_entries : (ns x : List ℕ) (f : Forest) (n : ℕ) → n ≤ length (params_in ns f)
    → first_same x (take n (params_in ns f)) ≡ first_named Parameters ns x (take n (roots f))
unfolding params_in roots first_same first_named
list_entries ns x none n h = rw (take-nil n, take-nil n) refl
list_entries ns x (node r ks then ts) zero h = refl
list_entries ns x (node r ks then ts) (suc n) h = go (eqb (class_of r.kind) parameter) h (list_entries ns x ts n)
  where
    go : (b : Bool) → suc n ≤ length (if' b (λ _. param_of ns r ∷ params_in ns ts) (λ _. []))
        → (n ≤ length (params_in ns ts)
        → first_same x (take n (params_in ns ts)) ≡ first_named Parameters ns x (take n (roots ts)))
        → first_same x (take (suc n) (if' b (λ _. param_of ns r ∷ params_in ns ts) (λ _. [])))
        ≡ if' (entry.has_name Parameters ns x r) (λ _. Some r.at)
        (λ _. first_named Parameters ns x (take n (roots ts)))
    go true h rest = rw (has_entry ns x r, node_in_lem ns r, rest (omega arith)) refl
    go false h rest = absurd (omega arith)

-- what is found among the children is an earlier parameter, within them
module _ (ns x kids : List ℕ) (first n : ℕ) (most : n ≤ length (params_in ns (forest first kids))) {f : Option ℕ}
    (f-is : f ≡ first_named Parameters ns x (take n (roots (forest 0 kids)))) where
  found_same : counted_from first f ≡ first_same x (take n (params_in ns (forest first kids)))
  found_same = rw f-is (sym (list_entries ns x (forest first kids) n most
      ∙ rw add-zero at (first_shifted Parameters ns x first 0 kids n)))

  found_within : {i : ℕ} → f ≡ Some i → 24 * i + 24 ≤ length kids
  found_within h = omega (arith, first_within Parameters ns x 0 kids n _ (sym f-is ∙ h))

  pub earlier_room : {i : ℕ} → 24 * first + length kids < 2 ^ 64 → f ≡ Some i → first + i < 2 ^ 64
  earlier_room small h = omega (arith, found_within h)

  pub earlier_at : {i : ℕ} → f ≡ Some i
      → Earlier x (take n (params_in ns (forest first kids))) (first + length kids / 24) (Some (first + i))
  earlier_at h = record { says = rw h at found_same; inside = omega (arith, found_within h) }

  pub earlier_none : f ≡ None
      → Earlier x (take n (params_in ns (forest first kids))) (first + length kids / 24) None
  earlier_none h = record { says = rw h at found_same; inside = tt }
