use Rattle.sl_asm_region.proofs.LeftLemmas.{grown_more}
use Rattle.sl_asm_region.proofs.left.grown.Goals as goal

pub loop-place-preserved : goal.loop-place-preserved
loop-place-preserved c = grown_more c.args.cubes.now c.args.others.now c.args.region.now c.loop-place.big c.in_ok-big.big c.loop-place.invariant c.in_ok-big.ensures

pub loop-place-2-preserved : goal.loop-place-2-preserved
loop-place-2-preserved c = grown_more c.args.cubes.now c.args.others.now c.args.region.now c.loop-place-2.big c.in_ok-big-2.big c.loop-place-2.invariant c.in_ok-big-2.ensures
