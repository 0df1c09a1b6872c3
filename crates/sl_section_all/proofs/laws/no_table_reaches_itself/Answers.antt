use Rattle.sl_section_all.proofs.ReachingLemmas.{none_reaches}
use Rattle.sl_section_all.proofs.laws.no_table_reaches_itself.Goals as goal

pub returns : goal.returns
returns c = none_reaches
