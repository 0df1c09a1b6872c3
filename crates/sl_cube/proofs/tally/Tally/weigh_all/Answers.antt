use Rattle.sl_cube.proofs.TallyLemmas.{weighed_begun, weighed_more, weighed_all}
use Rattle.sl_cube.proofs.tally.Tally.weigh_all.Goals as goal

pub loop-cube-init : goal.loop-cube-init
loop-cube-init c = weighed_begun c.args.region.now c.args.cubes.now c.args.self.now.shortest

pub loop-cube-preserved : goal.loop-cube-preserved
loop-cube-preserved c = weighed_more c.args.region.now c.args.cubes.now c.args.self.now.shortest c.loop-cube.cube-index c.cube-item.result c.loop-cube.self.shortest
    c.weigh.new.self.shortest c.loop-cube-test.true c.cube-item.is c.weigh.ensures c.loop-cube.invariant

pub returns : goal.returns
returns c = weighed_all c.args.region.now c.args.cubes.now c.args.self.now.shortest c.loop-cube.cube-index c.loop-cube.self.shortest c.loop-cube-test.false
    c.loop-cube.invariant
