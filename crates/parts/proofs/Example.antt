-- A script of two statements whose errors come in another order in two tables than in one. The hypothesis of the
-- theorems holds for it (`kept`), and the two lists differ (`whole_reads`, `parts_read`), so "up to order" is needed.
-- Everything is computed from the definitions (`refl`). Assumes nothing.
use mathlib.Core.Path.{◌≡◌, refl}
use mathlib.Core.List.{List, [], ◌∷◌}
use Prim.Native.Nat.{ℕ}
use Rattle.dialect.specs.declared.Name.TheVariants.{Extended}
use Rattle.dialect.specs.declared.Dialect.{Dialect}
use Rattle.dialect.specs.Rows.{record_of, row_named}
use Rattle.forest.specs.Names.{name_of, same}
use Rattle.soundness.specs.KindNumbers.{kind_other_simple, kind_lambda, kind_normal, kind_int, kind_break}
use Rattle.soundness.specs.Kinds.{kind_in, kind_of}
use Rattle.deflist.specs.Written.{kind_at, param_of, params_in}
use Rattle.deflist.specs.Unpack.{has_name, first_same, repeats, advance, step, finish, run, slash_from, start, unpack}
use Rattle.deflist.specs.Limited.{limited}
use Rattle.validate.specs.Params.{every_mark, validate_params, with_params}
use Rattle.validate.specs.Module.{arm_of, f, expr_errors, expr, validate_module}
use Rattle.parts.specs.Parts.{◌beside◌, SameRecord, SameTree, SameTrees, joined, Kept, under, read, read_in_turn}
use Rattle.parts.specs.Example.{record_at, root_at, parameter_at, lambda_at, break_at, whole_names, in_two}
use Rattle.parts.specs.Example.{twice, misplaced}

-- a record at two indices in two tables says the same if its name is the same
same_record : {names others : List ℕ} (i j kind len start there begin stop size : ℕ)
    → name_of names (record_at i kind len start begin stop size)
    ≡ name_of others (record_at j kind len there begin stop size)
    → SameRecord names others (record_at i kind len start begin stop size) (record_at j kind len there begin stop size)
same_record i j kind len start there begin stop size h = record {
  kind = refl;
  detail = refl;
  begin = refl;
  stop = refl;
  file = refl;
  source = refl;
  name_len = refl;
  name = h;
}

-- the lambda, with the parameter `a` whose name is at 1 in `xa` and at 0 in `a`; and `break`, node 6, then node 1
parameter_same : (i begin stop : ℕ)
    → SameTree whole_names (97 ∷ []) (parameter_at i 1 begin stop) (parameter_at i 0 begin stop)
unfolding SameTree name_of
parameter_same i begin stop = (same_record i i kind_normal 1 1 0 begin stop 1 refl, tt)

lambda_same : SameTrees whole_names (97 ∷ []) (lambda_at 1) (lambda_at 0)
unfolding SameTree name_of
lambda_same =
    let statement = same_record 1 1 kind_other_simple 0 0 0 0 14 5 refl in
    let lambda = same_record 2 2 kind_lambda 0 0 0 0 14 4 refl in
    let body = same_record 5 5 kind_int 0 0 0 13 14 1 refl in
    ((statement, ((lambda, (parameter_same 3 7 8, (parameter_same 4 10 11, ((body, tt), tt)))), tt)), tt)

break_same : SameTrees whole_names [] (break_at 6) (break_at 1)
unfolding SameTree name_of
break_same = ((same_record 6 1 kind_break 0 0 0 15 20 1 refl, tt), tt)

-- EXAMPLE: the hypothesis holds
pub kept : Kept whole_names in_two
unfolding Kept
kept = (refl, (lambda_same, (refl, (break_same, tt))))

-- EXAMPLE: the words that are read of the whole, and of the parts in turn
abbrev extended : Dialect
extended = record_of (row_named Extended)

pub whole_reads : read (validate_module extended whole_names (under (root_at 0 20 7) (joined in_two)))
    ≡ misplaced ∷ twice ∷ []
unfolding joined ◌beside◌ read f arm_of expr expr_errors with_params validate_params every_mark limited unpack params_in
    param_of kind_at name_of has_name first_same repeats advance step finish run slash_from start same kind_in kind_of
    record_of
whole_reads = refl

pub parts_read : read_in_turn (validate_module extended) in_two ≡ twice ∷ misplaced ∷ []
unfolding read_in_turn read f arm_of expr expr_errors with_params validate_params every_mark limited unpack params_in
    param_of kind_at name_of has_name first_same repeats advance step finish run slash_from start same kind_in kind_of
    record_of
parts_read = refl
