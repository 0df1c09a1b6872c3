use Rattle.sl_meaning_calls.proofs.LawLemmas.{calls_have_new_locals}
use Rattle.sl_meaning_calls.proofs.calls_have_new_locals.Goals as goal

pub returns : goal.returns
returns c = calls_have_new_locals
