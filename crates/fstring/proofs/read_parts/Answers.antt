-- `fstring::read_parts` meets its contract: the buffers hold the parts read so far. Assumes nothing.
use native.Mathlib.Omega.{arith}
use Rattle.fstring.proofs.Joining.{step_less, width_in}
use Rattle.fstring.proofs.Storing.{store_start, store_small, words_keep, bytes_keep, store_room}
use Rattle.fstring.proofs.Storing.{store_count, store_run, store_byte}
use Rattle.fstring.proofs.Storing.{store_on, store_words, store_texts}
use Rattle.fstring.proofs.read_parts.Goals as goal

pub loop-left-init : goal.loop-left-init
loop-left-init c = search store_start

pub overflow_add-count : goal.overflow_add-count
overflow_add-count c =
    let loop = c.loop-left in
    let test = c.loop-left-test in
    let form = c.first_form-form in
    let literal = c.is_literal-is_text in
    let begun = c.begun-count in
    omega (
      arith,
      store_count loop.invariant test.true form.ensures literal.ensures begun.ensures,
      words_keep
          loop.invariant,
    )

pub run_on-run-requires : goal.run_on-run-requires
run_on-run-requires c =
    let loop = c.loop-left in
    omega (arith, store_small loop.invariant)

pub overflow_cast-run : goal.overflow_cast-run
overflow_cast-run c =
    let loop = c.loop-left in
    let test = c.loop-left-test in
    let form = c.first_form-form in
    let literal = c.is_literal-is_text in
    let begun = c.begun-count in
    let run_on = c.run_on-run in
    omega (arith, store_run loop.invariant test.true form.ensures literal.ensures begun.ensures run_on.ensures)

pub put_pair-requires : goal.put_pair-requires
put_pair-requires c =
    let loop = c.loop-left in
    let test = c.loop-left-test in
    let form = c.first_form-form in
    let literal = c.is_literal-is_text in
    let begun = c.begun-count in
    store_room loop.invariant test.true form.ensures literal.ensures begun.ensures

pub put_literal-bytes-requires : goal.put_literal-bytes-requires
put_literal-bytes-requires c =
    let loop = c.loop-left in
    let test = c.loop-left-test in
    let form = c.first_form-form in
    let literal = c.is_literal-is_text in
    let begun = c.begun-count in
    let run_on = c.run_on-run in
    let byte_of = c.byte_of in
    store_byte loop.invariant test.true form.ensures literal.ensures begun.ensures run_on.ensures byte_of.ensures

pub slice_bounds-left-count : goal.slice_bounds-left-count
slice_bounds-left-count c =
    let loop = c.loop-left in
    let test = c.loop-left-test in
    let form = c.first_form-form in
    let width = c.width in
    width_in loop.invariant.at test.true form.ensures width.ensures

pub slice_bounds-left-start : goal.slice_bounds-left-start
slice_bounds-left-start c =
    let loop = c.loop-left in
    let test = c.loop-left-test in
    let form = c.first_form-form in
    let width = c.width in
    width_in loop.invariant.at test.true form.ensures width.ensures

pub loop-left-smaller : goal.loop-left-smaller
loop-left-smaller c = search step_less

pub loop-left-preserved : goal.loop-left-preserved
loop-left-preserved c =
    let loop = c.loop-left in
    let test = c.loop-left-test in
    let form = c.first_form-form in
    let literal = c.is_literal-is_text in
    let begun = c.begun-count in
    let run_on = c.run_on-run in
    let form-kind = c.form_kind in
    let put-pair = c.put_pair in
    let byte_of = c.byte_of in
    let put-literal = c.put_literal-bytes in
    let width = c.width in
    store_on loop.invariant test.true form.ensures literal.ensures begun.ensures run_on.ensures byte_of.ensures
    form-kind.ensures put-pair.ensures put-literal.ensures.value put-literal.ensures.out_after width.ensures

pub shape_of-parts : goal.shape_of-parts
shape_of-parts c = search words_keep

pub shape_of-texts : goal.shape_of-texts
shape_of-texts c = search bytes_keep

pub returns : goal.returns
returns c = record {
  parts_after = store_words c.loop-left.invariant c.loop-left-test.false;
  texts_after =
      store_texts c.loop-left.invariant c.loop-left-test.false;
}
