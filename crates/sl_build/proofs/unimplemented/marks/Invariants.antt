use Rattle.std.proofs.Common.{◌≡◌, map, take}
use Rattle.sl_meaning_instruction.specs.Instructions.{is_unimpl}
use Rattle.sl_spec.specs.Unfolded.{placed}
use Rattle.sl_build.proofs.unimplemented.marks.Given as goal

abbrev pub invariant-constructors : goal.invariant-constructors
invariant-constructors l = l.marks.items ≡ map (λ u. is_unimpl (placed u).1.section) (take l.index l.constructors)
