-- `writer::write_block` meets its contract: head, content and sum over zeros are the block. Assumes nothing.
use borrow.Author.Rules.{rules}
use Rattle.blocks.specs.Block.{weighed}
use Rattle.writer.proofs.Building.{begun_four, zeros_over, block_laid}
use Rattle.writer.proofs.write_block.Goals as goal

pub lay-begun-requires : goal.lay-begun-requires
unfolding weighed
lay-begun-requires c = search rules

pub lay-sum-requires : goal.lay-sum-requires
unfolding weighed
lay-sum-requires c = search (rules, begun_four)

pub returns : goal.returns
unfolding weighed
returns c =
    let zeros = zeros_over 512 c.args.out.now c.requires.1 (c.fill.ensures.after (λ y e. e)) in
    search block_laid
