use Rattle.sl_pcode.proofs.ListLemmas.{stay_more}
use Rattle.sl_pcode.proofs.list.stay_inside.Goals as goal

pub loop-at-preserved : goal.loop-at-preserved
loop-at-preserved c =
    stay_more c.args.ops.now c.loop-at.at c.index-ops-at.result c.loop-at-test.true c.index-ops-at.is (c.stays_inside.ensures.0 c.if-not-stays_inside.false) c.loop-at.invariant
