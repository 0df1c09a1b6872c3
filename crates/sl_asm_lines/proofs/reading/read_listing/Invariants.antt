use Rattle.std.proofs.Common.{◌-◌, drop, length}
use Rattle.sl_asm_lines.specs.Nexts.{IsReadTo}
use Rattle.sl_asm_lines.proofs.reading.read_listing.Given as goal

abbrev pub invariant-lines : goal.invariant-lines
invariant-lines l = IsReadTo l.size.bytes l.text (drop l.at l.text) l.listing

abbrev pub decreases-lines : goal.decreases-lines
decreases-lines l = length l.text - l.at
