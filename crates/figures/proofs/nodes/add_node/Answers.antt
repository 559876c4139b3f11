-- `figures::nodes::add_node` meets its contract: each kind adds its figures. Assumes nothing.
use Rattle.figures.proofs.ByKind.{node_there, node_bytes, node_word}
use Rattle.figures.proofs.ByKind.{kind_list_lem, kind_lambda_lem, kind_call_lem, kind_other}
use Rattle.figures.proofs.nodes.add_node.Goals as goal

pub overflow_mul-a : goal.overflow_mul-a
overflow_mul-a c = search node_bytes

pub slice_bounds-kind-count : goal.slice_bounds-kind-count
slice_bounds-kind-count c = search node_there

pub slice_bounds-kind-start : goal.slice_bounds-kind-start
slice_bounds-kind-start c = search node_there

pub overflow_cast-i : goal.overflow_cast-i
overflow_cast-i c = search node_word

pub overflow_cast-i-in-27 : goal.overflow_cast-i-in-27
overflow_cast-i-in-27 c = search node_word

pub overflow_cast-i-in-22 : goal.overflow_cast-i-in-22
overflow_cast-i-in-22 c = search node_word

pub returns-in-2 : goal.returns-in-2
returns-in-2 c = search kind_list_lem

pub returns-in-27 : goal.returns-in-27
returns-in-27 c = search kind_lambda_lem

pub returns-in-22 : goal.returns-in-22
returns-in-22 c = search kind_call_lem

pub returns-in_default : goal.returns-in_default
returns-in_default c = search kind_other
