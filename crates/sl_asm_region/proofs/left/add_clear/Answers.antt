use Rattle.sl_asm_region.proofs.LeftLemmas.{adds_clear}
use Rattle.sl_asm_region.proofs.left.add_clear.Goals as goal

pub returns : goal.returns
returns c = adds_clear c.args.cubes.now c.args.others.now c.args.region.now c.in_ok-big.big c.args.out.now.items c.push.new.self.items c.requires c.in_ok-big.ensures c.in_ok-push.ensures.items
