use Rattle.std.proofs.Common.{◌≡◌, length}
use Rattle.sl_asm_narrow.specs.Readers.{AreHeads}
use Rattle.sl_asm_narrow.proofs.reader.heads_of.Given as goal

abbrev pub invariant-templates : goal.invariant-templates
invariant-templates l = record {
  long : length l.heads.items ≡ l.number;
  are : AreHeads l.templates l.heads.items;
}
