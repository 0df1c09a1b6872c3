use Rattle.std.proofs.Common.{◌≡◌, length}
use Rattle.sl_asm_narrow.specs.Spots.{AreNamesTexts}
use Rattle.sl_asm_narrow.proofs.spots.names_texts.Given as goal

abbrev pub invariant-names : goal.invariant-names
invariant-names l = record {
  long : length l.out.items ≡ l.number;
  are : AreNamesTexts l.parts l.texts l.out.items;
}
