use Rattle.sl_lex.proofs.MarkLemmas.{next_mark}
use Rattle.sl_lex.proofs.marks.longest_of.Goals as goal

pub loop-mark-preserved : goal.loop-mark-preserved
loop-mark-preserved c =
    next_mark c.args.marks.now c.loop-mark.mark-index c.args.text.now c.loop-mark.longest c.length_at_front.result c.max-longest.result _ c.loop-mark-test.true
    c.loop-mark.invariant c.length_at_front.ensures c.max-longest.ensures
