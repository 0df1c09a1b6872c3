use Rattle.sl_meaning_calls.proofs.LawLemmas.{calls_are_sections}
use Rattle.sl_meaning_calls.proofs.calls_are_sections.Goals as goal

pub returns : goal.returns
returns c = calls_are_sections
