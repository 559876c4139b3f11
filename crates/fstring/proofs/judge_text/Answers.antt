-- `fstring::judge_text` meets its contract: the numbers counted are those of the parts read so far. Assumes nothing.
use native.Mathlib.Omega.{arith}
use Rattle.fstring.proofs.Tallying.{tally_start, tally_stray, left_in_lem, run_fits, add_parts, add_bytes}
use Rattle.fstring.proofs.Tallying.{tally_on, tally_short}
use Rattle.fstring.proofs.Tallying.{tally_fits}
use Rattle.fstring.proofs.Joining.{step_less, width_in}
use Rattle.fstring.proofs.judge_text.Goals as goal

pub loop-left-init : goal.loop-left-init
loop-left-init c = search tally_start

pub overflow_sub-result : goal.overflow_sub-result
overflow_sub-result c = search left_in_lem

pub returns-then-is_stray : goal.returns-then-is_stray
returns-then-is_stray c = search tally_stray

pub overflow_add-parts : goal.overflow_add-parts
overflow_add-parts c =
    let loop = c.loop-left in
    let test = c.loop-left-test in
    let form = c.first_form-form in
    let literal = c.is_literal-is_text in
    omega (arith, add_parts loop.invariant test.true form.ensures literal.ensures c.begun-parts.ensures)

pub overflow_add-bytes : goal.overflow_add-bytes
overflow_add-bytes c =
    let begun = c.begun-parts in
    let the-loop = c.loop-left in
    let loop = the-loop in
    let test = c.loop-left-test in
    let form = c.first_form-form in
    let literal = c.is_literal-is_text in
    omega (arith, add_bytes loop.invariant test.true form.ensures literal.ensures begun.ensures c.ones-bytes.ensures)

pub run_on-run-requires : goal.run_on-run-requires
run_on-run-requires c =
    let loop-test = c.loop-left-test in
    let loop = c.loop-left in
    omega (arith, run_fits loop.invariant loop-test.true)

pub slice_bounds-left-count : goal.slice_bounds-left-count
slice_bounds-left-count c =
    let first-form = c.first_form-form in
    let loop-test = c.loop-left-test in
    let the-loop = c.loop-left in
    let loop = the-loop in
    let test = loop-test in
    let form = first-form in
    width_in loop.invariant.at test.true form.ensures c.width.ensures

pub slice_bounds-left-start : goal.slice_bounds-left-start
slice_bounds-left-start c =
    let first-form = c.first_form-form in
    let loop-test = c.loop-left-test in
    let the-loop = c.loop-left in
    let loop = the-loop in
    let test = loop-test in
    let form = first-form in
    width_in loop.invariant.at test.true form.ensures c.width.ensures

pub loop-left-smaller : goal.loop-left-smaller
loop-left-smaller c = search step_less

pub loop-left-preserved : goal.loop-left-preserved
loop-left-preserved c =
    let loop = c.loop-left in
    let test = c.loop-left-test in
    let form = c.first_form-form in
    let literal = c.is_literal-is_text in
    let begun = c.begun-parts in
    let ones = c.ones-bytes in
    tally_on loop.invariant test.true form.ensures literal.ensures begun.ensures ones.ensures
    c.is_stray.ensures c.if-is_stray.false c.run_on-run.ensures
    c.width.ensures

pub returns-then-words-parts : goal.returns-then-words-parts
returns-then-words-parts c = search tally_short

pub returns : goal.returns
returns c = search tally_fits
