use Rattle.std.proofs.Common.{arith}
use Rattle.sl_list_instructions.proofs.ZeroLemmas.{whole_window}
use Rattle.sl_list_instructions.proofs.instructions.ListingLister.show.Goals as goal

pub show_from-requires-clause-bytes : goal.show_from-requires-clause-bytes
show_from-requires-clause-bytes g c = whole_window 272 c.args.self.now.image.now c.args.at (omega arith)
