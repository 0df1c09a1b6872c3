use Rattle.sl_list_pcode.proofs.WholeLemmas as lemmas
use Rattle.sl_list_pcode.proofs.whole_laws.some_pcode_listing.Goals as goal

pub returns : goal.returns
returns c = lemmas.some_pcode_listing
