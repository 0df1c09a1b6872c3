use Rattle.sl_shape_blocks.proofs.BlockLemmas.{all_inside, all_outside}
use Rattle.sl_shape_blocks.proofs.all_in.Goals as goal

pub returns-then-codes : goal.returns-then-codes
returns-then-codes c = all_inside c.args.codes.now c.args.index c.args.size c.is_full.result c.if-codes.true (rw (c.into-low.ensures, c.into-high.ensures) at c.is_full.ensures)

pub returns : goal.returns
returns c = all_outside c.args.codes.now c.args.index c.args.size c.is_empty.result c.if-codes.false (rw (c.into-low.ensures, c.into-high.ensures) at c.is_empty.ensures)
