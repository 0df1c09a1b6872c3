use Rattle.sl_shape_blocks.specs.Blocks.{Satisfies, block}
use Rattle.sl_shape_blocks.proofs.BlockLemmas.{from_nothing}
use Rattle.sl_shape_blocks.proofs.blocks_of.Goals as goal

pub returns : goal.returns
returns c = from_nothing (Satisfies c.args.codes.now) (block 0 c.args.size) c.new-blocks.result.items c.put.new.blocks.items c.new-blocks.ensures.items c.in_ok-put.ensures
