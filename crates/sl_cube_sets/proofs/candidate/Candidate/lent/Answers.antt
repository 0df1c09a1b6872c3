use Rattle.std.proofs.Common.{List, sym, subst}
use Rattle.sl_cube.specs.declared.Cube.{Cube}
use Rattle.sl_cube_sets.specs.Unions.{AreInside}
use Rattle.sl_cube_sets.proofs.candidate.Candidate.lent.Goals as goal

pub invariant_of-result : goal.invariant_of-result
invariant_of-result c = record { in_hull = subst (λ (cs : List Cube). AreInside c.args.self.now.hull cs) (sym c.as_slice.ensures.value) c.args.self.now.in_hull }
