use Rattle.sl_list_pcode.proofs.ListedLemmas as lemmas
use Rattle.sl_list_pcode.proofs.laws.listing_has_operations.Goals as goal

pub returns : goal.returns
returns c = lemmas.listing_has_operations
