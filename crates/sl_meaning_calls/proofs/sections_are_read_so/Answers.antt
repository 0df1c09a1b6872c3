use Rattle.sl_meaning_calls.proofs.LawLemmas.{sections_are_read_so}
use Rattle.sl_meaning_calls.proofs.sections_are_read_so.Goals as goal

pub returns : goal.returns
returns c = sections_are_read_so
