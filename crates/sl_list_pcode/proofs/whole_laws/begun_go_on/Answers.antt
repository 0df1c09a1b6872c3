use Rattle.sl_list_pcode.proofs.WholeLemmas as lemmas
use Rattle.sl_list_pcode.proofs.whole_laws.begun_go_on.Goals as goal

pub returns : goal.returns
returns c = lemmas.begun_go_on
