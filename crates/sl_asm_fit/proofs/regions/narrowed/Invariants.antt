use Rattle.sl_asm_fit.proofs.RegionLemmas.{NarrowsFirst}
use Rattle.sl_asm_fit.proofs.regions.narrowed.Given as goal

abbrev pub invariant-loop-index : goal.invariant-loop-index
invariant-loop-index l = NarrowsFirst l.region l.at l.cube l.index l.narrow.items
