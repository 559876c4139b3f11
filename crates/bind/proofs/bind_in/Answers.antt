-- `bind::bind_in` meets its contract: the space is enough for the words. Assumes nothing.
use Rattle.bind.proofs.Whole.{kept_fits, kept_lent, kept_answer}
use Rattle.bind.proofs.bind_in.Goals as goal

pub slice_bounds-lay-end : goal.slice_bounds-lay-end
slice_bounds-lay-end c = search kept_fits

pub lay-found-requires : goal.lay-found-requires
lay-found-requires c =
    let many = c.argument_count-many.ensures in
    let all = kept_lent c.requires.kept _ many.by_index many.result_in_bounds _ c.requires.most_nodes_in_bounds _
    c.requires.roomy in
    record { kept = all.0; words_len = all.1.0; words_in_bounds = all.1.1 }

pub returns : goal.returns
returns c = record { result_value = search kept_answer; list_after = search }
