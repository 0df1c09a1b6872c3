use Rattle.std.proofs.Common.{refl}
use Rattle.sl_list_pcode.proofs.translator.Translator.new.Goals as goal

pub returns : goal.returns
returns c = record {
  compiled = refl;
  disassembles = c.in_ok-disassembly.ensures;
  builds = c.in_ok-sections.ensures;
  names = c.in_ok-names.ensures;
}
