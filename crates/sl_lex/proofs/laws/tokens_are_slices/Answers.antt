use Rattle.sl_lex.proofs.SliceLemmas.{slices}
use Rattle.sl_lex.proofs.laws.tokens_are_slices.Goals as goal

pub returns : goal.returns
returns c = slices
