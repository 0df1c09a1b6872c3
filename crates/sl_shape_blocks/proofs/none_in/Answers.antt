use Rattle.sl_shape_blocks.proofs.BlockLemmas.{none_inside, none_outside}
use Rattle.sl_shape_blocks.proofs.none_in.Goals as goal

pub returns-then-codes : goal.returns-then-codes
returns-then-codes c = λ t.
    let empty = rw (c.into-low.ensures, c.into-high.ensures) at c.is_empty.ensures in
    none_inside c.args.codes.now c.args.index c.args.size c.if-codes.true (empty.0 t)

pub returns : goal.returns
returns c = λ t.
    let full = rw (c.into-low.ensures, c.into-high.ensures) at c.is_full.ensures in
    none_outside c.args.codes.now c.args.index c.args.size c.if-codes.false (full.0 t)
