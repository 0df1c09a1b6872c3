use Rattle.std.proofs.Common.{refl}
use Rattle.sl_gap_holes.proofs.WindowLemmas.{are_tails}
use Rattle.sl_gap_holes.proofs.windows.tails_of.Goals as goal

pub returns : goal.returns
returns c = are_tails c.args.place c.high_bits.result 0 18446744073709551615 0 c.high_bits.ensures refl refl refl
