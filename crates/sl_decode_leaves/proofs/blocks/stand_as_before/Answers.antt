use Rattle.sl_decode_leaves.specs.Blocks.{StandAsBefore, StandsAsBefore}
use Rattle.sl_decode_leaves.proofs.TiedLemmas.{none_left, one_less}
use Rattle.sl_decode_leaves.proofs.blocks.stand_as_before.Goals as goal

pub tied-init : goal.tied-init
tied-init c = λ all. all

pub tied-preserved : goal.tied-preserved
tied-preserved c =
    let t = c.args.t.now in
    let os = c.args.operands.now in
    one_less (StandsAsBefore t os) c.args.tied.now (StandAsBefore t os c.args.tied.now) c.tied.index c.index-tied-index.result c.tied-test.true c.index-tied-index.is
    (c.in_ok-stands_as_before.ensures c.if-not-branch.false) c.tied.invariant

pub returns : goal.returns
returns c = λ may.
    let t = c.args.t.now in
    let os = c.args.operands.now in
    none_left (StandsAsBefore t os) c.args.tied.now (StandAsBefore t os c.args.tied.now) c.tied.index c.tied-test.false c.tied.invariant
