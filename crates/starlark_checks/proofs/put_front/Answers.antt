-- `starlark_checks::put_front` meets its contract: six words are written one after the other. Assumes nothing.
use Rattle.starlark_checks.proofs.Told.{nodes_fit, names_fit, dialect_fits, front_laid}
use Rattle.starlark_checks.proofs.put_front.Goals as goal

pub overflow_cast-out : goal.overflow_cast-out
overflow_cast-out c = record { fits = nodes_fit _ c.header-h.ensures c.requires }

pub overflow_cast-out-2 : goal.overflow_cast-out-2
overflow_cast-out-2 c = record { fits = names_fit _ c.header-h.ensures c.requires }

pub overflow_cast-out-3 : goal.overflow_cast-out-3
overflow_cast-out-3 c = record { fits = dialect_fits _ c.header-h.ensures }

pub returns : goal.returns
returns c =
    let word = c.word in
    front_laid _ c.args.out.now c.header-h.ensures c.dialect_bytes-dialect.ensures word.ensures
    c.word-2.ensures c.word-3.ensures
