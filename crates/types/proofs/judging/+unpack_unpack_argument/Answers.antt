-- `types::judging::unpack` and `unpack_argument` meet their contracts: the test at a node, then its children, each by
-- its rule. The measure is the size of the first subtree, which is smaller at each call. Assumes nothing.
use Rattle.std.proofs.Common.{rules, sym}
use Rattle.std.proofs.lemmas.Result.{err_from_is_err_and}
use Rattle.types.proofs.Reading.{unpack_stop, unpack_start, argument_start, child_is_list, child_type}
use Rattle.types.proofs.Reading.{child_list, item_type, each_skip, each_stop, each_on, each_end, each_falls}
use Rattle.types.proofs.judging.+unpack_unpack_argument.Goals as goal

pub unpack-returns-in_err-at_node : goal.unpack-returns-in_err-at_node
unpack-returns-in_err-at_node t c =
    let told = err_from_is_err_and c.from_residual.result c.from_residual.ensures.1 in
    rw (told.1, told.2) (search (unpack_stop, c.in_err-at_node.was))

pub unpack-loop-place-init : goal.unpack-loop-place-init
unpack-loop-place-init t c = search (rules, unpack_start, c.in_ok-at_node.was)

pub unpack_argument-loop-place-init : goal.unpack_argument-loop-place-init
unpack_argument-loop-place-init t c = search (rules, argument_start)

pub unpack-returns : goal.unpack-returns
unpack-returns t c = let ended = c.in-None.ensures.steps in search (each_end, ended)

pub unpack_argument-returns : goal.unpack_argument-returns
unpack_argument-returns t c = let ended = c.in-None.ensures.steps in search (each_end, ended)

pub unpack-loop-place-preserved-in-Unread : goal.unpack-loop-place-preserved-in-Unread
unpack-loop-place-preserved-in-Unread t c = let given = c.in-Some.ensures.steps in
    let here = rw (sym given.index, sym given.stretch) at c.loop-place.invariant in
    search (each_skip, here, given)

pub unpack-returns-in_err-unpack-in-AsType : goal.unpack-returns-in_err-unpack-in-AsType
unpack-returns-in_err-unpack-in-AsType t c = let given = c.in-Some.ensures.steps in
    let here = rw (sym given.index, sym given.stretch) at c.loop-place.invariant in
    let exit = c.from_residual-in_err-unpack-in-AsType in
    let told = err_from_is_err_and exit.result exit.ensures.1 in
    rw (told.1, told.2) (search (each_stop, child_type, here, given, c.in_err-unpack-in-AsType.was))

pub unpack-loop-place-preserved-in-Continue-branch-2 : goal.unpack-loop-place-preserved-in-Continue-branch-2
unpack-loop-place-preserved-in-Continue-branch-2 t c = let given = c.in-Some.ensures.steps in
    let here = rw (sym given.index, sym given.stretch) at c.loop-place.invariant in
    search (each_on, child_type, here, given, c.in_ok-unpack-in-AsType.was)

pub unpack-unpack_argument-requires : goal.unpack-unpack_argument-requires
unpack-unpack_argument-requires t c = let given = c.in-Some.ensures.steps in
    let here = rw (sym given.index, sym given.stretch) at c.loop-place.invariant in
    search (rules, each_falls, child_is_list, here, given)

pub unpack-returns-in_err-unpack_argument-in-AsArgument : goal.unpack-returns-in_err-unpack_argument-in-AsArgument
unpack-returns-in_err-unpack_argument-in-AsArgument t c = let given = c.in-Some.ensures.steps in
    let here = rw (sym given.index, sym given.stretch) at c.loop-place.invariant in
    let exit = c.from_residual-in_err-unpack_argument-in-AsArgument in
    let told = err_from_is_err_and exit.result exit.ensures.1 in
    rw (told.1, told.2) (search (each_stop, child_list, here, given, c.in_err-unpack_argument-in-AsArgument.was))

pub unpack-loop-place-preserved : goal.unpack-loop-place-preserved
unpack-loop-place-preserved t c = let given = c.in-Some.ensures.steps in
    let here = rw (sym given.index, sym given.stretch) at c.loop-place.invariant in
    search (each_on, child_list, here, given, c.in_ok-unpack_argument-in-AsArgument.was)

pub unpack_argument-returns-in_err-unpack_argument : goal.unpack_argument-returns-in_err-unpack_argument
unpack_argument-returns-in_err-unpack_argument t c = let given = c.in-Some.ensures.steps in
    let here = rw (sym given.index, sym given.stretch) at c.loop-place.invariant in
    let exit = c.from_residual in
    let told = err_from_is_err_and exit.result exit.ensures.1 in
    rw (told.1, told.2) (search (each_stop, here, given, c.in_err-unpack_argument.was))

pub unpack_argument-loop-place-preserved-in-Continue-1 : goal.unpack_argument-loop-place-preserved-in-Continue-1
unpack_argument-loop-place-preserved-in-Continue-1 t c = let given = c.in-Some.ensures.steps in
    let here = rw (sym given.index, sym given.stretch) at c.loop-place.invariant in
    search (each_on, here, given, c.in_ok-unpack_argument.was)

pub unpack_argument-returns-in_err-unpack : goal.unpack_argument-returns-in_err-unpack
unpack_argument-returns-in_err-unpack t c = let given = c.in-Some.ensures.steps in
    let here = rw (sym given.index, sym given.stretch) at c.loop-place.invariant in
    let exit = c.from_residual-in_err-unpack in
    let told = err_from_is_err_and exit.result exit.ensures.1 in
    rw (told.1, told.2) (search (each_stop, item_type, here, given, c.in_err-unpack.was))

pub unpack_argument-loop-place-preserved : goal.unpack_argument-loop-place-preserved
unpack_argument-loop-place-preserved t c = let given = c.in-Some.ensures.steps in
    let here = rw (sym given.index, sym given.stretch) at c.loop-place.invariant in
    search (each_on, item_type, here, given, c.in_ok-unpack.was)
