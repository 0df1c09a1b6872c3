use Rattle.sl_emu.proofs.TextLaws.{texts_fix}
use Rattle.sl_emu.proofs.laws.texts_fix_runs.Goals as goal

pub returns : goal.returns
returns c = texts_fix
