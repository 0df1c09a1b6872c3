use Rattle.sl_cube.proofs.TallyLemmas.{WeighedFirst}
use Rattle.sl_cube.proofs.tally.Tally.weigh_all.Given as goal

abbrev pub invariant-loop-cube : goal.invariant-loop-cube
invariant-loop-cube l = WeighedFirst l.region l.cubes l.initial.self.shortest l.cube-index l.self.shortest
