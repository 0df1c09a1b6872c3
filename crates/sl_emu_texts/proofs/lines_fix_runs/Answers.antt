use Rattle.sl_emu_texts.proofs.TextLemmas.{lines_fix_runs}
use Rattle.sl_emu_texts.proofs.lines_fix_runs.Goals as goal

pub returns : goal.returns
returns c = lines_fix_runs
