-- `starlark_checks::put_ranges` meets its contract: each range is written after the one before it, and the flat
-- count last. Assumes nothing.
use mathlib.Core.Path.{refl}
use Rattle.starlark_checks.proofs.Told.{range_fit}
use borrow.Author.Rules.{rules}
use Rattle.starlark_checks.proofs.put_ranges.Goals as goal

pub put_range-requires : goal.put_range-requires
put_range-requires c = search (rules, range_fit)

pub put_range-requires-2 : goal.put_range-requires-2
put_range-requires-2 c = search (rules, range_fit)

pub put_range-requires-3 : goal.put_range-requires-3
put_range-requires-3 c = search (rules, range_fit)

pub put_range-requires-4 : goal.put_range-requires-4
put_range-requires-4 c = search (rules, range_fit, c.requires.1.1.1.1.1.1.0, c.requires.1.1.1.1.1.1.1.0)

pub put_range-requires-5 : goal.put_range-requires-5
put_range-requires-5 c = search (rules, range_fit, c.requires.1.1.1.1.1.1.1.1.0, c.requires.1.1.1.1.1.1.1.1.1.0)

pub returns : goal.returns
returns c =
    let kwargs-range = c.kwargs_range in
    let put-range4 = c.put_range-4 in
    let named-only = c.named_only in
    let put-range3 = c.put_range-3 in
    let args-range = c.args_range in
    let put-range2 = c.put_range-2 in
    let pos-or-named = c.pos_or_named in
    let put-range = c.put_range in
    let pos-only = c.pos_only in
    record {
      value = refl;
      out_after = rw (
        c.put_range-5.ensures,
        kwargs-range.ensures,
        put-range4.ensures,
        named-only.ensures,
        put-range3.ensures,
        args-range.ensures,
        put-range2.ensures,
        pos-or-named.ensures,
        put-range.ensures,
        pos-only.ensures,
      ) refl;
    }
