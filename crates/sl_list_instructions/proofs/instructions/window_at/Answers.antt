use Rattle.sl_list_instructions.proofs.ZeroLemmas.{window_is}
use Rattle.sl_list_instructions.proofs.instructions.window_at.Goals as goal

pub returns : goal.returns
returns c = window_is 272 c.args.image.now c.args.at c.min-count.result c.copy_from_slice.new.self c.min-count.ensures c.copy_from_slice.ensures.after
