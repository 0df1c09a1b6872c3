use Rattle.std.proofs.Common.{◌≡◌, map, take}
use Rattle.sl_section_exports.specs.Exports as spec
use Rattle.sl_section_exports.proofs.graphs.swapped.Given as goal

abbrev pub invariant-edges : goal.invariant-edges
invariant-edges l = l.out.items ≡ map spec.swapped (take l.index l.edges)
