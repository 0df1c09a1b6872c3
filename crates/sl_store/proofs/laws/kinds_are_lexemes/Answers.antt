use Rattle.sl_store.proofs.KindLaws as laws
use Rattle.sl_store.proofs.laws.kinds_are_lexemes.Goals as goal

pub returns : goal.returns
returns c = laws.kinds_are_lexemes
