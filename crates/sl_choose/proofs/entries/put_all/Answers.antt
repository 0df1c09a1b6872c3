use Rattle.std.proofs.Common.{◌+◌, sym, subst}
use Rattle.sl_choose.proofs.EntryLemmas.{AddsFirst, adds_none, adds_more, adds_all}
use Rattle.sl_choose.specs.declared.Entry.{Entry}
use Rattle.std.proofs.Common.{List}
use Rattle.sl_choose.proofs.entries.put_all.Goals as goal

pub loop-cube-init : goal.loop-cube-init
loop-cube-init c = adds_none c.args.ctor c.args.set c.args.cubes.now c.args.entries.now.items

pub loop-cube-preserved : goal.loop-cube-preserved
loop-cube-preserved c =
    subst (λ (xs : List Entry). AddsFirst c.args.ctor c.args.set c.args.cubes.now c.args.entries.now.items xs (c.loop-cube.cube-index + 1)) (sym c.in_ok-push.ensures.items)
    (adds_more c.args.ctor c.args.set c.args.cubes.now c.args.entries.now.items c.loop-cube.entries.items c.loop-cube.cube-index c.cube-item.result
    c.loop-cube-test.true c.cube-item.is c.loop-cube.invariant)

pub returns : goal.returns
returns c = adds_all c.args.ctor c.args.set c.args.cubes.now c.args.entries.now.items c.loop-cube.entries.items c.loop-cube.cube-index c.loop-cube-test.false
    c.loop-cube.auto.cube-index-end c.loop-cube.invariant
