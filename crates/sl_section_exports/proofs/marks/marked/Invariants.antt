use Rattle.std.proofs.Common.{take}
use Rattle.sl_section_exports.proofs.MarkLemmas.{AreMarked}
use Rattle.sl_section_exports.proofs.marks.marked.Given as goal

abbrev pub invariant-numbers : goal.invariant-numbers
invariant-numbers l = AreMarked l.marks.items (take l.index l.numbers)
