use Rattle.std.proofs.Common.{◌≡◌, ◌+◌, ◌*◌, length}
use Rattle.sl_asm_bounds.specs.Bounds.{AreAsLong}
use Rattle.sl_asm_narrow.proofs.NodeLemmas.{FirstPlaces, FirstWays}
use Rattle.sl_asm_narrow.proofs.OperandLemmas.{ReachesAll}
use Rattle.sl_asm_narrow.proofs.reader.Reader.+reading.Given as goal

abbrev pub decreases-table : goal.decreases-table
decreases-table l = 6 * l.depth

abbrev pub decreases-constructor : goal.decreases-constructor
decreases-constructor l = 6 * l.depth + 5

abbrev pub decreases-displayed : goal.decreases-displayed
decreases-displayed l = 6 * l.depth + 4

abbrev pub decreases-inner : goal.decreases-inner
decreases-inner l = 6 * l.depth + 3

abbrev pub decreases-operands : goal.decreases-operands
decreases-operands l = 6 * l.depth + 2

abbrev pub decreases-operand : goal.decreases-operand
decreases-operand l = 6 * l.depth + 1

abbrev pub invariant-table-places : goal.invariant-table-places
invariant-table-places l = record {
  first : FirstPlaces l.self l.setting l.region l.kept l.goal l.place l.all;
  long : AreAsLong (length l.region) l.all;
}

abbrev pub invariant-displayed-ways : goal.invariant-displayed-ways
invariant-displayed-ways l = record {
  first : FirstWays l.self l.setting l.region l.plan l.parts l.goal l.ways.items l.index l.all;
  long : AreAsLong (length l.region) l.all;
}

abbrev pub invariant-operands-slots : goal.invariant-operands-slots
invariant-operands-slots l = record {
  reaches : ReachesAll l.self l.setting l.region l.node l.index l.known;
  long : length l.known.region.items ≡ length l.region;
}
