use Rattle.std.proofs.Common.{◌≡◌, ◌≤◌, drop}
use Rattle.sl_decode_meaning.specs.Places.{slot_from}
use Rattle.sl_decode_leaves.proofs.patterns.slot_number.Given as goal

abbrev pub invariant-operands : goal.invariant-operands
invariant-operands l = (l.number ≤ l.index) × (slot_from l.number (drop l.index l.operands) l.name ≡ slot_from 0 l.operands l.name)
