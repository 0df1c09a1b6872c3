use Rattle.sl_list_instructions.proofs.ImageLawLemmas as lemmas
use Rattle.sl_list_instructions.proofs.image_laws.some_listing.Goals as goal

pub returns : goal.returns
returns c = lemmas.some_listing
