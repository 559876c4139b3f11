-- `forest::Nodes::next` meets its contract: what code cuts off behind the first subtree is the rest. Assumes nothing.
use Rattle.std.proofs.Common.{rules, refl}
use Rattle.forest.proofs.Stretch.{rest_part}
use Rattle.forest.proofs.NodesIterator.next.Goals as goal

pub returns-clause-steps : goal.returns-clause-steps
returns-clause-steps c = record {
  index = refl;
  stretch = refl;
  there = search rules;
  next = cc;
  rest = rest_part _ _ c.span-e.ensures;
}
