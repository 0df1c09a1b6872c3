use Rattle.sl_lex.proofs.OneReading.{one_end}
use Rattle.sl_lex.proofs.laws.one_reading.Goals as goal

pub returns : goal.returns
returns c = one_end
