-- What the order of dialects says about each switch that the module pass reads. The order compares two rows of numbers
-- place by place (Order's `permits_at`), so each switch that is on in the first dialect is on in the second
-- (`bit_least`). For types the pass reads only whether there are any, which the number of the setting decides
-- (`types_least`). The result is a record with a field for each switch. Cite `permits`. Assumes nothing.
use mathlib.Core.Path.{◌≡◌, refl}
use mathlib.Core.Bool.{Bool, true, false}
use Prim.Native.Nat.{ℕ, ◌≤◌}
use native.Mathlib.Omega.{arith}
use lib.ListN.{get_or}
use Rattle.dialect.specs.declared.Dialect.{Dialect}
use Rattle.dialect.specs.declared.DialectTypes.{DialectTypes}
use Rattle.dialect.specs.declared.DialectTypes.TheVariants.{Disable, ParseOnly, Enable}
use Rattle.dialect.specs.Rows.{permits_types}
use Rattle.dialect.proofs.Laws.{bit_of, types_number, row_of}
use Rattle.opening.specs.Opening.{at_least, permits_all}
use Rattle.opening.proofs.Order.{permits_at}

-- the second dialect permits what the first does, switch by switch
pub record Permits (d e : Dialect) : Type 0 where
  pub def : at_least d.enable_def e.enable_def ≡ true
  pub lambda : at_least d.enable_lambda e.enable_lambda ≡ true
  pub load : at_least d.enable_load e.enable_load ≡ true
  pub keyword_only : at_least d.enable_keyword_only_arguments e.enable_keyword_only_arguments ≡ true
  pub positional_only : at_least d.enable_positional_only_arguments e.enable_positional_only_arguments ≡ true
  pub types : at_least (permits_types d.enable_types) (permits_types e.enable_types) ≡ true
  pub top_level : at_least d.enable_top_level_stmt e.enable_top_level_stmt ≡ true

bit_least : (b c : Bool) → bit_of b ≤ bit_of c → at_least b c ≡ true
bit_least true true h = refl
bit_least true false h = absurd (omega (arith, h))
bit_least false c h = refl

types_least : (x y : DialectTypes) → types_number x ≤ types_number y
    → at_least (permits_types x) (permits_types y) ≡ true
types_least Disable y h = refl
types_least ParseOnly Disable h = absurd (omega (arith, h))
types_least ParseOnly ParseOnly h = refl
types_least ParseOnly Enable h = refl
types_least Enable Disable h = absurd (omega (arith, h))
types_least Enable ParseOnly h = refl
types_least Enable Enable h = refl

-- LAW: the order gives the comparison of each switch
pub permits : {d e : Dialect} → permits_all d e ≡ true → Permits d e
unfolding row_of
permits {d} {e} h =
    let at : (i : ℕ) → get_or (row_of d) i 0 ≤ get_or (row_of e) i 0 = permits_at d e h in
    record {
      def = bit_least d.enable_def e.enable_def (at 0);
      lambda = bit_least d.enable_lambda e.enable_lambda (at 1);
      load = bit_least d.enable_load e.enable_load (at 2);
      keyword_only = bit_least d.enable_keyword_only_arguments e.enable_keyword_only_arguments (at 3);
      positional_only = bit_least d.enable_positional_only_arguments e.enable_positional_only_arguments (at 4);
      types = types_least d.enable_types e.enable_types (at 5);
      top_level = bit_least d.enable_top_level_stmt e.enable_top_level_stmt (at 7);
    }
