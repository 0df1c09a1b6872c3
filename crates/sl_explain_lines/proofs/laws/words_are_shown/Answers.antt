use Rattle.sl_explain_lines.proofs.ShownLemmas.{words_shown}
use Rattle.sl_explain_lines.proofs.laws.words_are_shown.Goals as goal

pub returns : goal.returns
returns c = words_shown
