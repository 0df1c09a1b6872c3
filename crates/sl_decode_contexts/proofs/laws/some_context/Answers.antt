use Rattle.sl_decode_contexts.proofs.LawLemmas.{some_context}
use Rattle.sl_decode_contexts.proofs.laws.some_context.Goals as goal

pub returns : goal.returns
returns c = some_context
