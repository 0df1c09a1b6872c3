use Rattle.sl_list_instructions.proofs.ImageLawLemmas as lemmas
use Rattle.sl_list_instructions.proofs.image_laws.listing_is_one.Goals as goal

pub returns : goal.returns
returns c = lemmas.listing_is_one
