use Rattle.sl_meaning_calls.proofs.LawLemmas.{jumps_go_to_text}
use Rattle.sl_meaning_calls.proofs.jumps_go_to_text.Goals as goal

pub returns : goal.returns
returns c = jumps_go_to_text
