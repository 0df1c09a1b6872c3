use Rattle.std.proofs.Common.{sym}
use Rattle.sl_gap_holes.proofs.CoverLemmas.{first_inside, not_outside}
use Rattle.sl_gap_holes.proofs.covers.is_outside.Goals as goal

pub returns-in-Some : goal.returns-in-Some
returns-in-Some c = λ t h.
    not_outside c.contains.result (c.contains.ensures.1 (first_inside c.args.hull.now c.in-Some.cube.now c.args.cubes.now (sym c.in-Some.ensures.value) h)) t
