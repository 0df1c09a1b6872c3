use Rattle.sl_lex.proofs.KindLemmas.{lexemes}
use Rattle.sl_lex.proofs.laws.tokens_are_lexemes.Goals as goal

pub returns : goal.returns
returns c = lexemes
