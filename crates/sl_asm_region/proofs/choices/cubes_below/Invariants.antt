use Rattle.sl_asm_region.proofs.RegionLemmas.{BelowFirst}
use Rattle.sl_asm_region.proofs.choices.cubes_below.Given as goal

abbrev pub invariant-loop-lower : goal.invariant-loop-lower
invariant-loop-lower l = BelowFirst l.sets l.index l.lower l.cubes.items
