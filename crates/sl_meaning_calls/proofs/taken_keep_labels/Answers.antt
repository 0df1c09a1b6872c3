use Rattle.sl_meaning_calls.proofs.KeptLemmas.{taken_keep_labels}
use Rattle.sl_meaning_calls.proofs.taken_keep_labels.Goals as goal

pub returns : goal.returns
returns c = taken_keep_labels
