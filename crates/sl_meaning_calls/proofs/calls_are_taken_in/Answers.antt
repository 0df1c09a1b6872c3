use Rattle.sl_meaning_calls.proofs.LawLemmas.{calls_are_taken_in}
use Rattle.sl_meaning_calls.proofs.calls_are_taken_in.Goals as goal

pub returns : goal.returns
returns c = calls_are_taken_in
