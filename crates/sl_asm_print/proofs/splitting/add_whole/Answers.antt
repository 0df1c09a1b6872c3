use Rattle.sl_asm_print.proofs.SplitLemmas.{cut_ended}
use Rattle.sl_asm_print.proofs.splitting.add_whole.Goals as goal

pub returns : goal.returns
returns c = rw c.in_ok-push.ensures.items (cut_ended c.args.text.now c.args.front.now c.args.out.now.items c.in_ok-whole.whole c.in_ok-whole.ensures)
