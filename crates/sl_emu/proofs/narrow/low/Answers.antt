use Rattle.sl_word.proofs.Powers.{low-mask, low-mask_below}
use Rattle.sl_emu.proofs.narrow.low.Goals as goal

pub returns-clause-value : goal.returns-clause-value
returns-clause-value c = low-mask c.args.value c.greatest.result c.args.size.bytes c.greatest.ensures

pub returns-clause-below : goal.returns-clause-below
returns-clause-below c = low-mask_below c.args.value c.greatest.result c.args.size.bytes c.greatest.ensures
