use Rattle.std.proofs.Common.{◌∙◌}
use Rattle.sl_word.proofs.TwosComplement.{residue-opposite}
use Rattle.sl_emu.proofs.narrow.opposite.Goals as goal

pub returns-clause-value : goal.returns-clause-value
returns-clause-value c = c.negative.ensures.value ∙ residue-opposite c.args.a.size.bytes c.args.a.bits c.args.a.in_range
