use Rattle.sl_section_sizes.proofs.LastLemmas.{of_the_whole}
use Rattle.sl_section_sizes.proofs.whole_laws.sizes_are_of_the_whole.Goals as goal

pub returns : goal.returns
returns c = of_the_whole
