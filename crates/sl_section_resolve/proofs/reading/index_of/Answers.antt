use Rattle.std.proofs.Common.{◌∙◌}
use Rattle.sl_section_resolve.proofs.MacroLemmas.{found_by_name}
use Rattle.sl_section_resolve.proofs.reading.index_of.Goals as goal

pub returns : goal.returns
returns c = c.index_of.ensures ∙ found_by_name c.args.name.now c.args.macros.now
