use Rattle.sl_faithful_sections.proofs.BoundLemmas as bound
use Rattle.sl_faithful_sections.proofs.build_laws.tables_export_alike.Goals as goal

pub returns : goal.returns
returns c = bound.tables_export_alike
