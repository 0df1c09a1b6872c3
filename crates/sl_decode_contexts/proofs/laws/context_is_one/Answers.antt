use Rattle.sl_decode_contexts.proofs.LawLemmas.{one_context}
use Rattle.sl_decode_contexts.proofs.laws.context_is_one.Goals as goal

pub returns : goal.returns
returns c = one_context
