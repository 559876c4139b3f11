-- `deflist::walk::judge` meets its contract: the list is in the children. Assumes nothing.
use Rattle.deflist.proofs.Walking.{judge_room, judge_list}
use borrow.Author.Rules.{rules}
use Rattle.deflist.proofs.walk.judge.Goals as goal

pub unpack-requires : goal.unpack-requires
unpack-requires c = search (rules, judge_room)

pub returns : goal.returns
returns c = search judge_list
