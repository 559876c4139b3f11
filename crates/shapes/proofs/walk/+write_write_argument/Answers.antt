-- `shapes::walk::write` and `write_argument` meet their contracts: the node's own shape, then those of its children,
-- each by its rule. The measure is the size of the first subtree, which is smaller at each call. Assumes nothing.
use Rattle.std.proofs.Common.{rules, sym}
use Rattle.types.proofs.Reading.{child_is_list}
use Rattle.shapes.proofs.Writing.{kids_start, items_start, type_written, list_written}
use Rattle.shapes.proofs.Writing.{child_unread, child_type, child_list, item_type}
use Rattle.shapes.proofs.Writing.{each_on, each_end, each_falls, still_long}
use Rattle.shapes.proofs.walk.+write_write_argument.Goals as goal

pub write-loop-here-init : goal.write-loop-here-init
write-loop-here-init t c = search (rules, kids_start)

pub write-shape_of-shapes : goal.write-shape_of-shapes
write-shape_of-shapes t c = search still_long

pub write-returns : goal.write-returns
write-returns t c = let ended = c.in-None.ensures.steps in search (type_written, each_end, ended)

pub write_argument-loop-here-init : goal.write_argument-loop-here-init
write_argument-loop-here-init t c = search (rules, items_start)

pub write_argument-shape_of-shapes : goal.write_argument-shape_of-shapes
write_argument-shape_of-shapes t c = search still_long

pub write_argument-returns : goal.write_argument-returns
write_argument-returns t c = let ended = c.in-None.ensures.steps in search (list_written, each_end, ended)

pub write-loop-here-preserved-in-Unread : goal.write-loop-here-preserved-in-Unread
write-loop-here-preserved-in-Unread t c = let given = c.in-Some.ensures.steps in
    let here = rw (sym given.index, sym given.stretch) at c.loop-here.invariant in
    search (each_on, child_unread, here, given)

pub write-loop-here-preserved-in-AsType : goal.write-loop-here-preserved-in-AsType
write-loop-here-preserved-in-AsType t c = let given = c.in-Some.ensures.steps in
    let here = rw (sym given.index, sym given.stretch) at c.loop-here.invariant in
    search (each_on, child_type, here, given)

pub write-write_argument-requires : goal.write-write_argument-requires
write-write_argument-requires t c = let given = c.in-Some.ensures.steps in
    let here = rw (sym given.index, sym given.stretch) at c.loop-here.invariant in
    search (rules, each_falls, child_is_list, here, given)

pub write-loop-here-preserved : goal.write-loop-here-preserved
write-loop-here-preserved t c = let given = c.in-Some.ensures.steps in
    let here = rw (sym given.index, sym given.stretch) at c.loop-here.invariant in
    search (each_on, child_list, here, given)

pub write_argument-loop-here-preserved-then-kind-eq-LIST : goal.write_argument-loop-here-preserved-then-kind-eq-LIST
write_argument-loop-here-preserved-then-kind-eq-LIST t c = let given = c.in-Some.ensures.steps in
    let here = rw (sym given.index, sym given.stretch) at c.loop-here.invariant in
    search (each_on, here, given)

pub write_argument-loop-here-preserved : goal.write_argument-loop-here-preserved
write_argument-loop-here-preserved t c = let given = c.in-Some.ensures.steps in
    let here = rw (sym given.index, sym given.stretch) at c.loop-here.invariant in
    search (each_on, item_type, here, given)
